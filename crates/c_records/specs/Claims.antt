-- What is claimed of this crate's calls; proofs/Claims.antt proves it.
use Rattle.std.specs.Prelude.{◌≡◌, Bool, true, false, List, [], ◌∷◌, ◌++◌, ℕ, ◌<◌, length, take, Result}
use Rattle.numbers.specs.Numbers.{Answer, gives, refuses, answered, mapped, is_given}
use Rattle.numbers.specs.Bytes.{AllBytes}
use Rattle.numbers.specs.Firmness.{Firm}
use Rattle.numbers.specs.declared.Refusal.{Refusal}
use Rattle.framing.specs.Tlv.{read_tlv_lem, value_in_lem, write_size, tlv_bytes, leaves}
use Rattle.records.specs.declared.MacAddr.{MacAddr}
use Rattle.records.specs.declared.LinkMetricQuery.{LinkMetricQuery}
use Rattle.records.specs.declared.ClientAssociation.{ClientAssociation}
use Rattle.records.specs.declared.Profile2ApCapability.{Profile2ApCapability}
use Rattle.records.specs.declared.RecordRead.{RecordRead}
use Rattle.records.specs.declared.RecordKind.{RecordKind}
use Rattle.records.specs.declared.Record.{Record}
use Rattle.records.specs.Kinds.{code_of}
use Rattle.records.specs.Reading.{with_code, read_record_lem}
use Rattle.c_records.specs.declared.AshlarQuery.{AshlarQuery}
use Rattle.c_records.specs.declared.AshlarAssociation.{AshlarAssociation}
use Rattle.c_records.specs.declared.AshlarCapability.{AshlarCapability}
use Rattle.c_records.specs.declared.Shape.{Shape}
use Rattle.c_records.specs.Shapes.{crossed_query, crossed_association, crossed_capability, address_fields, byte_fields, query_fields, association_fields, capability_fields}
use Rattle.c_records.specs.Reading.{ShapeRead, read_in_shape, address_numbers_lem, byte_numbers_lem, query_numbers_lem, association_numbers_lem, capability_numbers_lem}
use Rattle.c_records.specs.Writing.{address_record_lem, byte_record_lem, query_record_lem, association_record_lem, capability_record_lem, meant_size, meant_bytes}

-- Rule A4: for each public call, by its name, and each conversion, by its two types, any two answers that its contract allows are one, with what the room
-- holds afterwards.
pub record Firmness : Type 0 where
  pub address_numbers : (answer : Result RecordRead Refusal) (length : ℕ)
      → Firm (λ r. r ≡ address_numbers_lem (read_in_shape address_fields length (answered answer)))
  pub byte_numbers : (answer : Result RecordRead Refusal) (length : ℕ)
      → Firm (λ r. r ≡ byte_numbers_lem (read_in_shape byte_fields length (answered answer)))
  pub query_numbers : (answer : Result RecordRead Refusal) (length : ℕ)
      → Firm (λ r. r ≡ query_numbers_lem (read_in_shape query_fields length (answered answer)))
  pub association_numbers : (answer : Result RecordRead Refusal) (length : ℕ)
      → Firm (λ r. r ≡ association_numbers_lem (read_in_shape association_fields length (answered answer)))
  pub capability_numbers : (answer : Result RecordRead Refusal) (length : ℕ)
      → Firm (λ r. r ≡ capability_numbers_lem (read_in_shape capability_fields length (answered answer)))
  pub address_record : (code : ℕ) (address : MacAddr) → Firm (λ r. answered r ≡ address_record_lem code address)
  pub byte_record : (code byte : ℕ) → Firm (λ r. answered r ≡ byte_record_lem code byte)
  pub query_record : (query : AshlarQuery) → Firm (λ r. answered r ≡ query_record_lem query)
  pub association_record : (association : AshlarAssociation) → Firm (λ r. answered r ≡ association_record_lem association)
  pub capability_record : (capability : AshlarCapability) → Firm (λ r. answered r ≡ capability_record_lem capability)
  pub write_meant : (meant : Result Record Refusal) (out : List ℕ) → Firm {A = Result ℕ Refusal × List ℕ} (λ o.
      (answered o.0 ≡ meant_size (answered meant) (length out))
      × (o.1 ≡ leaves (meant_size (answered meant) (length out)) (meant_bytes (answered meant)) out))
  pub ashlar_query_from_link_metric_query : (query : LinkMetricQuery) → Firm (λ r. r ≡ crossed_query query)
  pub ashlar_association_from_client_association : (association : ClientAssociation)
      → Firm (λ r. r ≡ crossed_association association)
  pub ashlar_capability_from_profile2_ap_capability : (capability : Profile2ApCapability)
      → Firm (λ r. r ≡ crossed_capability capability)

-- What a C caller means is written as the first bytes of the value s, under this code, unless 7 refuses it.
pub record WrittenOf (code : ℕ) (s : List ℕ) (consumed : ℕ) (meant : Answer Record) : Type 0 where
  pub answer : (room : ℕ) → meant_size meant room ≡ write_size consumed room
  pub bytes : meant_bytes meant ≡ tlv_bytes code (take consumed s)

-- Rule A6, for C: writing the fields that were read of a value gives the bytes that were consumed.
pub record FieldsWriteBack : Type 0 where
  pub address : (code : ℕ) (s : List ℕ) (x : ShapeRead MacAddr) → AllBytes s
      → read_in_shape address_fields (length s) (read_record_lem code s) ≡ gives x
      → WrittenOf code s x.consumed (address_record_lem code x.fields)
  pub byte : (code : ℕ) (s : List ℕ) (x : ShapeRead (ℕ × Bool)) → AllBytes s
      → read_in_shape byte_fields (length s) (read_record_lem code s) ≡ gives x
      → WrittenOf code s x.consumed (byte_record_lem code x.fields.0)
  pub query : (code : ℕ) (s : List ℕ) (x : ShapeRead AshlarQuery) → AllBytes s
      → read_in_shape query_fields (length s) (read_record_lem code s) ≡ gives x
      → WrittenOf code s x.consumed (query_record_lem x.fields)
  pub association : (code : ℕ) (s : List ℕ) (x : ShapeRead (AshlarAssociation × ℕ)) → AllBytes s
      → read_in_shape association_fields (length s) (read_record_lem code s) ≡ gives x
      → WrittenOf code s x.consumed (association_record_lem x.fields.0)
  pub capability : (code : ℕ) (s : List ℕ) (x : ShapeRead (AshlarCapability × ℕ)) → AllBytes s
      → read_in_shape capability_fields (length s) (read_record_lem code s) ≡ gives x
      → WrittenOf code s x.consumed (capability_record_lem x.fields.0)

-- The value of the TLV that is written of what is meant, whatever stands after the TLV.
abbrev pub value_meant : Answer Record → List ℕ → List ℕ
value_meant meant behind = let t = meant_bytes meant ++ behind in value_in_lem (read_tlv_lem t) t

-- Fields without the raw byte beside them.
abbrev pub fields_alone : {A B : Type 0} → (Shape → Answer (A × B)) → Shape → Answer A
fields_alone fieldsIn s = mapped (λ f. f.0) (fieldsIn s)

-- The whole of the value v reads as these fields.
abbrev pub ReadsAs : {A : Type 0} → (Shape → Answer A) → (code : ℕ) (v : List ℕ) → A → Type 0
ReadsAs fieldsIn code v f =
    read_in_shape fieldsIn (length v) (read_record_lem code v) ≡ gives (record { fields = f; consumed = length v; rest = 0 })

-- Rule A6, for C: reading what was written gives the fields that were written.
pub record FieldsReadBack : Type 0 where
  pub address : (code : ℕ) (address : MacAddr) (room n : ℕ) (behind : List ℕ)
      → meant_size (address_record_lem code address) room ≡ gives n
      → ReadsAs address_fields code (value_meant (address_record_lem code address) behind) address
  pub byte : (code byte : ℕ) (room n : ℕ) (behind : List ℕ) → byte < 256
      → meant_size (byte_record_lem code byte) room ≡ gives n
      → ReadsAs (fields_alone byte_fields) code (value_meant (byte_record_lem code byte) behind) byte
  pub query : (query : AshlarQuery) (room n : ℕ) (behind : List ℕ)
      → meant_size (query_record_lem query) room ≡ gives n
      → ReadsAs query_fields (code_of RecordKind.LinkMetricQuery) (value_meant (query_record_lem query) behind) query
  pub association : (association : AshlarAssociation) (room n : ℕ) (behind : List ℕ)
      → meant_size (association_record_lem association) room ≡ gives n
      → ReadsAs (fields_alone association_fields) (code_of RecordKind.ClientAssociation) (value_meant (association_record_lem association) behind) association
  pub capability : (capability : AshlarCapability) (room n : ℕ) (behind : List ℕ)
      → meant_size (capability_record_lem capability) room ≡ gives n
      → ReadsAs (fields_alone capability_fields) (code_of RecordKind.Profile2ApCapability) (value_meant (capability_record_lem capability) behind) capability

-- Rules K2 and C6: the kinds of one byte. Under the code of any other kind, or of none, a byte is refused by 16. Under
-- theirs it never is.
abbrev pub byte_kinds : List RecordKind
byte_kinds =
    RecordKind.LinkMetricResultCode
    ∷ RecordKind.SearchedRole
    ∷ RecordKind.SupportedRole
    ∷ RecordKind.SupportedFreqBand
    ∷ RecordKind.Ieee1905ProfileVersion
    ∷ RecordKind.MultiApProfile
    ∷ []

pub record BytesByCode : Type 0 where
  pub others : (code byte : ℕ) → is_given (with_code code byte_kinds) ≡ false → byte_record_lem code byte ≡ refuses 16 []
  pub theirs : (code byte : ℕ) → is_given (with_code code byte_kinds) ≡ true → byte_record_lem code byte ≡ refuses 16 [] → ⊥

-- everything that is claimed of this crate
pub record Claims : Type 0 where
  pub firmness : Firmness
  pub fields_write_back : FieldsWriteBack
  pub fields_read_back : FieldsReadBack
  pub bytes_by_code : BytesByCode
