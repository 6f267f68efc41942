-- Rule A6, for C: what crosses is written back and read back, by what `record_writing` proves of records.
use mathlib.Core.Path.{◌≡◌, refl, sym, ap, ◌∙◌}
use mathlib.Core.Bool.{Bool, true, false, cond}
use mathlib.Core.List.{List, [], ◌∷◌}
use Prim.Native.Nat.{ℕ, zero, suc, ◌-◌, ◌<◌, ◌≤◌}
use native.Mathlib.Omega.{arith}
use lib.ListN.{length, take, get_or, length-append, length-take}
use lib.Seq.{length-take-le, get_or-take}
use Rattle.numbers.specs.Numbers.{Answer, gives, refuses}
use Rattle.numbers.specs.Bytes.{AllBytes}
use Rattle.numbers.proofs.Firm.{never}
use Rattle.numbers.proofs.Answers.{given, gave, mapped_gave}
use Rattle.framing.specs.Tlv.{write_size}
use Rattle.framing.proofs.RoundTrip.{value_written}
use Rattle.records.specs.declared.RecordKind.{RecordKind}
use Rattle.records.specs.declared.Record.{Record}
use Rattle.records.specs.declared.RecordRead.{RecordRead}
use Rattle.records.specs.Values.{octets, neighbor_octets, bytes_of}
use Rattle.records.specs.Kinds.{code_of, kind_of}
use Rattle.records.specs.Reading.{read_record_lem}
use Rattle.records.proofs.Given.{consumed_within}
use Rattle.records.proofs.Ways.{by_kind, filled}
use Rattle.record_writing.specs.Writing.{readable, record_size_lem}
use Rattle.record_writing.proofs.Room.{framed, short_values}
use Rattle.record_writing.proofs.Claims.{round_trips}
use Rattle.c_records.specs.declared.Shape.{Shape}
use Rattle.c_records.specs.Shapes.{shape_of, address_fields, byte_fields, query_fields, association_fields, capability_fields}
use Rattle.c_records.specs.Reading.{ShapeRead, read_in_shape}
use Rattle.c_records.specs.Writing.{address_record_lem, byte_meant, byte_record_lem, query_record_lem, association_record_lem, capability_record_lem, meant_size}
use Rattle.c_records.specs.Claims.{WrittenOf, FieldsWriteBack, value_meant, fields_alone, ReadsAs, FieldsReadBack}
use Rattle.c_records.proofs.Meaning.{Seen, nothing, al_mac, mac, byte, query, association, capability, seen, address_means, byte_means, query_means, association_means, capability_means, address_meant, query_meant, association_meant, capability_meant}

-- the record that fields were read of
record Behind {A : Type 0} (fieldsIn : Shape → Answer A) (code : ℕ) (s : List ℕ) (y : ShapeRead A) : Type 0 where
  read : RecordRead
  is : read_record_lem code s ≡ gives read
  fields : fieldsIn (shape_of read.value) ≡ gives y.fields
  size : y.consumed ≡ read.consumed

behind : {A : Type 0} (fieldsIn : Shape → Answer A) (code : ℕ) (s : List ℕ) (y : ShapeRead A) → read_in_shape fieldsIn (length s) (read_record_lem code s) ≡ gives y → Behind fieldsIn code s y
behind {A} fieldsIn code s y e =
    let x = gave (read_record_lem code s) _ y e in
    let f = mapped_gave _ (fieldsIn (shape_of x.first.value)) y x.then in
    let z : record { fields = f.first; consumed = x.first.consumed; rest = length s - x.first.consumed } ≡ y = given _ y f.then in
    record { read = x.first; is = x.is; fields = f.is ∙ ap (λ (w : ShapeRead A). gives w.fields) z; size = sym (ap (λ (w : ShapeRead A). w.consumed) z) }

-- what means the record that was read is written as the bytes that were consumed
module _ (code : ℕ) (s : List ℕ) (b : AllBytes s) where
  written : (x : RecordRead) (n : ℕ) (meant : Answer Record) → read_record_lem code s ≡ gives x → n ≡ x.consumed → meant ≡ gives x.value → WrittenOf code s n meant
  written x n meant e size is =
      let w = round_trips.write_back code s x b e in
      let long : length (bytes_of x.value) ≡ x.consumed = ap length w.bytes ∙ length-take-le x.consumed s (consumed_within code s x e) in
      rw (is, size) (record {
        answer = λ room. sym (framed x.value room (write_size x.consumed room) w.writable (ap (λ (k : ℕ). write_size k room) (sym long)));
        bytes = rw (w.own, w.bytes);
      })

  own : (x : RecordRead) → read_record_lem code s ≡ gives x → code_of (kind_of x.value) ≡ code
  own x e = (round_trips.write_back code s x b e).own

  byte_read : (x : RecordRead) (f : ℕ × Bool) → read_record_lem code s ≡ gives x → byte_fields (shape_of x.value) ≡ gives f → byte_record_lem code f.0 ≡ gives x.value
  byte_read x f e h =
      let w = round_trips.write_back code s x b e in
      let one : take x.consumed s ≡ f.0 ∷ [] = sym w.bytes ∙ byte_means x.value f h in
      ap byte_meant (rw one at w.alone)

pub fields_write_back : FieldsWriteBack
fields_write_back = record {
  address = λ code s y b e. let x = behind address_fields code s y e in written code s b x.read y.consumed _ x.is x.size (rw (own code s b x.read x.is) at (address_means x.read.value y.fields x.fields));
  byte = λ code s y b e. let x = behind byte_fields code s y e in written code s b x.read y.consumed _ x.is x.size (byte_read code s b x.read y.fields x.is x.fields);
  query = λ code s y b e. let x = behind query_fields code s y e in written code s b x.read y.consumed _ x.is x.size (query_means x.read.value y.fields x.fields);
  association = λ code s y b e. let x = behind association_fields code s y e in written code s b x.read y.consumed _ x.is x.size (association_means x.read.value y.fields x.fields);
  capability = λ code s y b e. let x = behind capability_fields code s y e in written code s b x.read y.consumed _ x.is x.size (capability_means x.read.value y.fields x.fields);
}

-- a record that is written can be read
writable : (r : Record) (room n : ℕ) → record_size_lem r room ≡ gives n → readable r ≡ true
unfolding record_size_lem
writable r room n e = go (readable r) refl e
  where
    go : (x : Bool) → readable r ≡ x → cond x (write_size (length (bytes_of r)) room) (refuses 9 []) ≡ gives n → readable r ≡ true
    go true t e = t
    go false t e = never n 9 [] (sym e)

-- the record that is written, read back in its shape
back : {A : Type 0} (fieldsIn : Shape → Answer A) (code : ℕ) (meant : Answer Record) (f : A) (room n : ℕ) (after : List ℕ) → meant_size meant room ≡ gives n
    → ((r : Record) → meant ≡ gives r → (code_of (kind_of r) ≡ code) × (fieldsIn (shape_of r) ≡ gives f)) → ReadsAs fieldsIn code (value_meant meant after) f
back fieldsIn code meant f room n after e means =
    let x = gave meant (λ r. record_size_lem r room) n e in
    let r = x.first in
    let m = means r x.is in
    rw (x.is, ← m.0) (reads r (writable r room n x.then) m.1)
  where
    reads : (r : Record) → readable r ≡ true → fieldsIn (shape_of r) ≡ gives f → ReadsAs fieldsIn (code_of (kind_of r)) (value_meant (gives r) after) f
    reads r h g =
        let c = code_of (kind_of r) in
        let v : value_meant (gives r) after ≡ bytes_of r = value_written c (bytes_of r) after (omega (arith, short_values r)) in
        let e : read_record_lem c (bytes_of r) ≡ gives (record { value = r; consumed = length (bytes_of r) }) = rw v at (round_trips.tlv_back r after h).1 in
        let rest : length (bytes_of r) - length (bytes_of r) ≡ 0 = omega arith in
        rw (v, e, g, rest)

-- one byte that reads as a record is the record's only byte
byte_is : (code b : ℕ) (x : RecordRead) → read_record_lem code (b ∷ []) ≡ gives x → code_of (kind_of x.value) ≡ code → bytes_of x.value ≡ take x.consumed (b ∷ []) → Seen x.value → fields_alone byte_fields (shape_of x.value) ≡ gives b
byte_is code b x e own bytes see = go x.value see own bytes
  where
    short : (s : List ℕ) → s ≡ take x.consumed (b ∷ []) → length s ≤ 1
    short s t = omega (arith, ap length t ∙ length-take x.consumed (b ∷ []))

    go : (r : Record) → Seen r → code_of (kind_of r) ≡ code → bytes_of r ≡ take x.consumed (b ∷ []) → fields_alone byte_fields (shape_of r) ≡ gives b
    go r nothing own bytes = never x 4 [] (sym e ∙ rw (← own) (by_kind RecordKind.EndOfMessage (b ∷ []) ∙ sym (filled Record.EndOfMessage (b ∷ []) (omega arith))))
    go r (al_mac m) own bytes = absurd (omega (arith, short (octets m) bytes))
    go r (mac m) own bytes = absurd (omega (arith, short (octets m) bytes))
    go r (byte _ names b' s l) own bytes =
        let t = sym l ∙ bytes in
        let some : 0 < x.consumed = omega (arith, ap length t ∙ length-take x.consumed (b ∷ [])) in
        let same : b' ≡ b = ap (λ (k : List ℕ). get_or k 0 0) t ∙ get_or-take x.consumed (b ∷ []) 0 0 some in
        rw (s, same)
    go r (query q) own bytes = absurd (omega (arith, short _ bytes, length-append (neighbor_octets q.neighbor_mac) (q.requested_metrics ∷ [])))
    go r (association a) own bytes = absurd (omega (arith, short _ bytes))
    go r (capability c) own bytes = absurd (omega (arith, short _ bytes))

byte_meant_lem : (code b : ℕ) → b < 256 → (r : Record) → byte_record_lem code b ≡ gives r → (code_of (kind_of r) ≡ code) × (fields_alone byte_fields (shape_of r) ≡ gives b)
byte_meant_lem code b small r e = go (read_record_lem code (b ∷ [])) refl e
  where
    bytes : AllBytes (b ∷ [])
    bytes zero = small
    bytes (suc i) = omega arith

    go : (a : Answer RecordRead) → read_record_lem code (b ∷ []) ≡ a → byte_meant a ≡ gives r → (code_of (kind_of r) ≡ code) × (fields_alone byte_fields (shape_of r) ≡ gives b)
    go (gives x) t e =
        let w = round_trips.write_back code (b ∷ []) x bytes t in
        rw (← given x.value r e) (w.own, byte_is code b x t w.own w.bytes (seen x.value))
    go (refuses n vs) t e = never r _ [] (sym e)

pub fields_read_back : FieldsReadBack
fields_read_back = record {
  address = λ code m room n after e. back address_fields code (address_record_lem code m) m room n after e (address_meant code m);
  byte = λ code b room n after small e. back (fields_alone byte_fields) code (byte_record_lem code b) b room n after e (byte_meant_lem code b small);
  query = λ q room n after e. back query_fields _ (query_record_lem q) q room n after e (query_meant q);
  association = λ a room n after e. back (fields_alone association_fields) _ (association_record_lem a) a room n after e (association_meant a);
  capability = λ c room n after e. back (fields_alone capability_fields) _ (capability_record_lem c) c room n after e (capability_meant c);
}
