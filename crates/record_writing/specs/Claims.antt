-- What is claimed of this crate's calls; proofs/Claims.antt proves it.
use Rattle.std.specs.Prelude.{◌≡◌, true, false, List, [], ◌++◌, ℕ, ◌<◌, length, take, get_or, Result}
use Rattle.numbers.specs.Numbers.{gives, answered}
use Rattle.numbers.specs.Firmness.{Firm}
use Rattle.numbers.specs.declared.Refusal.{Refusal}
use Rattle.numbers.specs.Bytes.{AllBytes}
use Rattle.framing.specs.Claims.{as_read_lem}
use Rattle.framing.specs.Tlv.{read_tlv_lem, value_in_lem, tlv_bytes, leaves}
use Rattle.records.specs.declared.ByteCounterUnits.{ByteCounterUnits}
use Rattle.records.specs.declared.Record.{Record}
use Rattle.records.specs.declared.RecordRead.{RecordRead}
use Rattle.records.specs.Values.{bytes_of, units_code}
use Rattle.records.specs.Kinds.{code_of, kind_of}
use Rattle.records.specs.Reading.{read_record_lem}
use Rattle.record_writing.specs.Writing.{readable, value_size, record_size_lem}

-- Rule A4, for each public call by its name: any two answers that its contract allows are one, together with what the
-- room holds afterwards.
pub record Firmness : Type 0 where
  pub size_of : (item : Record) → Firm (λ n. n ≡ length (bytes_of item))
  pub byte_at : (item : Record) (i : ℕ) → Firm (λ b. b ≡ get_or (bytes_of item) i 0)
  pub units_byte : (units : ByteCounterUnits) → Firm (λ n. (n ≡ units_code units) × (n < 4))
  pub write_value : (item : Record) (out : List ℕ) → Firm {A = Result ℕ Refusal × List ℕ} (λ o.
      (answered o.0 ≡ value_size item (length out))
      × (o.1 ≡ leaves (value_size item (length out)) (bytes_of item) out))
  pub write_record : (item : Record) (out : List ℕ) → Firm {A = Result ℕ Refusal × List ℕ} (λ o.
      (answered o.0 ≡ record_size_lem item (length out))
      × (o.1 ≡ leaves (record_size_lem item (length out)) (tlv_bytes (code_of (kind_of item)) (bytes_of item)) out))

-- what reading returns for a record's own bytes
abbrev pub itself : Record → RecordRead
itself item = record { value = item; consumed = length (bytes_of item) }

-- Rule A6: what was read can be written, under the same code, and is written as the bytes that were consumed. These
-- read the same without the rest.
pub record Rewritten (code : ℕ) (s : List ℕ) (x : RecordRead) : Type 0 where
  pub own : code_of (kind_of x.value) ≡ code
  pub bytes : bytes_of x.value ≡ take x.consumed s
  pub writable : readable x.value ≡ true
  pub alone : read_record_lem code (take x.consumed s) ≡ gives x

-- Rules A6 and O1, for every record kind. So exactly the records that no reading returns are refused by 9.
pub record RoundTrips : Type 0 where
  -- a record's bytes, whatever follows them, read as the record; nothing may follow those of the end marker (rule K4)
  pub read_back : (item : Record) (rest : List ℕ) → readable item ≡ true → (item ≡ Record.EndOfMessage → rest ≡ []) →
      read_record_lem (code_of (kind_of item)) (bytes_of item ++ rest) ≡ gives (itself item)
  -- the TLV of a record, whatever follows it, reads as a TLV, and its value as the record
  pub tlv_back : (item : Record) (rest : List ℕ) → readable item ≡ true → let t = tlv_bytes (code_of (kind_of item)) (bytes_of item) ++ rest in
      (read_tlv_lem t ≡ gives (as_read_lem (code_of (kind_of item)) (bytes_of item)))
      × (read_record_lem (code_of (kind_of item)) (value_in_lem (read_tlv_lem t) t) ≡ gives (itself item))
  pub write_back : (code : ℕ) (s : List ℕ) (x : RecordRead) → AllBytes s → read_record_lem code s ≡ gives x → Rewritten code s x
  -- no bytes read as a record that is refused by 9
  pub never_read : (item : Record) (code : ℕ) (s : List ℕ) (x : RecordRead) → readable item ≡ false → AllBytes s → read_record_lem code s ≡ gives x → x.value ≡ item → ⊥

-- everything that is claimed of this crate
pub record Claims : Type 0 where
  pub firmness : Firmness
  pub round_trips : RoundTrips
