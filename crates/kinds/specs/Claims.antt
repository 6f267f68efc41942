-- What is claimed of the kinds, besides what the calls promise; proofs/Claims.antt proves it.
use Rattle.std.specs.Prelude.{◌≡◌, true, false, List, ◌++◌, ℕ, ◌+◌, ◌≤◌, length, take}
use Rattle.std.specs.Borrow.{Bor}
use Rattle.std.specs.Prelude.{Result}
use Rattle.numbers.specs.Numbers.{gives, mapped, answered}
use Rattle.numbers.specs.declared.Refusal.{Refusal}
use Rattle.numbers.specs.Firmness.{Firm}
use Rattle.numbers.specs.Parts.{behind}
use Rattle.framing.specs.declared.TlvRead.{TlvRead}
use Rattle.framing.specs.Tlv.{read_tlv_lem, value_in_lem, longest_value, write_size, tlv_bytes, leaves}
use Rattle.numbers.specs.Bytes.{AllBytes}
use Rattle.framing.specs.Claims.{as_read_lem}
use Rattle.records.specs.declared.Record.{Record}
use Rattle.records.specs.Kinds.{code_of, kind_of}
use Rattle.records.specs.Values.{bytes_of}
use Rattle.records.specs.Reading.{is_record_lem}
use Rattle.record_writing.specs.Writing.{readable, record_size_lem}
use Rattle.layouts.specs.Layouts.{is_list_lem}
use Rattle.layouts.specs.declared.Path.{Path}
use Rattle.layouts.specs.Access.{numbers_of, part_of, start_in}
use Rattle.texts.specs.Texts.{inventory_code, is_text_lem}
use Rattle.texts.specs.Access.{locate_radio_text_lem}
use Rattle.kinds.specs.declared.Typed.{Typed}
use Rattle.kinds.specs.declared.Contents.{Contents}
use Rattle.kinds.specs.Kinds.{is_kind_lem, read_kind_lem, without_record, locate_kind, count_kind, locate_text_in}
use Rattle.kinds.specs.Writing.{write_kind_lem, kind_bytes}

-- Rule A4: for each public call, by its name, any two answers that its contract allows are one, with what the lent room
-- holds afterwards. A part is its bytes and its place.
pub record Firmness : Type 0 where
  pub is_kind : (code : ℕ) → Firm (λ r. r ≡ is_kind_lem code)
  pub read_kind : (code : ℕ) (s : List ℕ) → Firm (λ r. answered r ≡ read_kind_lem code s)
  pub measure : (code : ℕ) (s : List ℕ) → Firm (λ r. answered r ≡ mapped without_record (read_kind_lem code s))
  pub locate : (code : ℕ) (path : Path) (s : List ℕ) → Firm (λ r. answered r ≡ locate_kind code (numbers_of path) s)
  pub entry : (code : ℕ) (path : Path) (s : Bor (List ℕ)) → Firm {A = List ℕ × (ℕ × ℕ)} (λ r.
      (r.0 ≡ part_of (locate_kind code (numbers_of path) s.now) s.now) × (r.1 ≡ behind (start_in (locate_kind code (numbers_of path) s.now)) s))
  pub count : (code : ℕ) (path : Path) (s : List ℕ) → Firm (λ r. answered r ≡ count_kind code (numbers_of path) s)
  pub locate_text : (code number : ℕ) (s : List ℕ) → Firm (λ r. answered r ≡ locate_text_in code number s)
  pub write_kind : (code : ℕ) (bytes out : List ℕ) → Firm {A = Result ℕ Refusal × List ℕ} (λ o.
      (answered o.0 ≡ write_kind_lem code bytes (length out)) × (o.1 ≡ leaves (write_kind_lem code bytes (length out)) (kind_bytes code bytes) out))

-- Rule K2: no code is in two families (records, lists, values that hold text).
abbrev pub Apart : Type 0
Apart = (code : ℕ) → (is_record_lem code ≡ true → (is_list_lem code ≡ false) × (is_text_lem code ≡ false)) × (is_text_lem code ≡ true → is_list_lem code ≡ false)

-- Rule K1: what was consumed lies in the value, and the rest is what is left of it.
abbrev pub AllOfIt : Type 0
AllOfIt = (code : ℕ) (s : List ℕ) (t : Typed Record) → read_kind_lem code s ≡ gives t → (t.consumed ≤ length s) × (t.consumed + t.rest ≡ length s)

-- Round trips, for all 25 kinds (rule A6). The value of the TLV at the start of s:
abbrev pub value_at : List ℕ → List ℕ
value_at s = value_in_lem (read_tlv_lem s) s

-- The value v reads as t did, with nothing after it. Its entries at every level, its texts and those of its radios are
-- those of the value s: each answer is the same, and each byte.
pub record SameValue (code : ℕ) (t : Typed Record) (s v : List ℕ) : Type 0 where
  pub reads : read_kind_lem code v ≡ gives (record { held = t.held; consumed = t.consumed; rest = 0 })
  pub counts : (numbers : List ℕ) → count_kind code numbers v ≡ count_kind code numbers s
  pub located : (numbers : List ℕ) → locate_kind code numbers v ≡ locate_kind code numbers s
  pub parts : (numbers : List ℕ) → part_of (locate_kind code numbers v) v ≡ part_of (locate_kind code numbers s) s
  pub texts : (i : ℕ) → locate_text_in code i v ≡ locate_text_in code i s
  pub text_parts : (i : ℕ) → part_of (locate_text_in code i v) v ≡ part_of (locate_text_in code i s) s
  pub radio_texts : code ≡ inventory_code → (i : ℕ) → locate_radio_text_lem i v ≡ locate_radio_text_lem i s
  pub radio_text_parts : code ≡ inventory_code → (i : ℕ) → part_of (locate_radio_text_lem i v) v ≡ part_of (locate_radio_text_lem i s) s

-- Rule A6: what is written from a value reads back, whatever stands after it.
abbrev pub ReadsBack : Type 0
ReadsBack = (code : ℕ) (s behind : List ℕ) (t : Typed Record) → AllBytes s → read_kind_lem code s ≡ gives t → t.consumed ≤ longest_value
    → (read_tlv_lem (kind_bytes code s ++ behind) ≡ gives (as_read_lem code (take t.consumed s)))
    × SameValue code t s (value_at (kind_bytes code s ++ behind))

-- Rule A6: what is written from a record reads back as that record. No reading gives a record that is not written so.
abbrev pub RecordReadsBack : Type 0
RecordReadsBack = (r : Record) (behind : List ℕ) → readable r ≡ true
    → read_kind_lem (code_of (kind_of r)) (value_at (tlv_bytes (code_of (kind_of r)) (bytes_of r) ++ behind)) ≡ gives (record { held = Contents.One r; consumed = length (bytes_of r); rest = 0 })

-- Rule A6: writing what was read as t from the value s gives these bytes. They are written from the bytes of the value,
-- unless 8 or 7 refuses them; and from the record, where it is one, by `write_record`.
pub record WritesBack (code : ℕ) (s : List ℕ) (t : Typed Record) (tlv : List ℕ) : Type 0 where
  pub answer : (room : ℕ) → write_kind_lem code s room ≡ write_size t.consumed room
  pub bytes : kind_bytes code s ≡ tlv
  pub record_answer : (r : Record) → t.held ≡ Contents.One r → (room : ℕ) → record_size_lem r room ≡ write_size t.consumed room
  pub record_bytes : (r : Record) → t.held ≡ Contents.One r → tlv_bytes (code_of (kind_of r)) (bytes_of r) ≡ tlv

-- Rule A6, for a value that was read: the TLV of the consumed bytes, and nothing of the rest.
abbrev pub ValueWritesBack : Type 0
ValueWritesBack = (code : ℕ) (s : List ℕ) (t : Typed Record) → AllBytes s → read_kind_lem code s ≡ gives t → WritesBack code s t (tlv_bytes code (take t.consumed s))

-- Rule A6, for a TLV that was read and whose value reads with no rest: the TLV's own bytes.
abbrev pub TlvWritesBack : Type 0
TlvWritesBack = (s : List ℕ) (t : TlvRead) (v : Typed Record) → AllBytes s → read_tlv_lem s ≡ gives t → read_kind_lem t.tlv_type (value_at s) ≡ gives v → v.rest ≡ 0
    → WritesBack t.tlv_type (value_at s) v (take t.consumed s)

-- everything that is claimed of this crate
pub record Claims : Type 0 where
  pub firmness : Firmness
  pub apart : Apart
  pub all_of_it : AllOfIt
  pub reads_back : ReadsBack
  pub record_reads_back : RecordReadsBack
  pub value_writes_back : ValueWritesBack
  pub tlv_writes_back : TlvWritesBack
