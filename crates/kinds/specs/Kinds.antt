-- Reading a kind by its code (rules K1 and K2). Ten kinds are lists, three hold text, and twelve are records. Any
-- other code: 16.
use Rattle.std.specs.Prelude.{Bool, true, cond, List, [], ℕ, ◌-◌, length}
use Rattle.numbers.specs.Numbers.{Answer, refuses, and_then, mapped}
use Rattle.records.specs.declared.Record.{Record}
use Rattle.records.specs.declared.RecordRead.{RecordRead}
use Rattle.records.specs.Reading as records
use Rattle.records.specs.Reading.{is_record_lem}
use Rattle.layouts.specs.declared.Consumed.{Consumed}
use Rattle.layouts.specs.declared.Span.{Span}
use Rattle.layouts.specs.Layouts.{is_list_lem}
use Rattle.layouts.specs.Reading as layouts
use Rattle.layouts.specs.Access as access
use Rattle.texts.specs.Texts.{is_text_lem}
use Rattle.texts.specs.Reading as texts
use Rattle.texts.specs.Access.{locate_radio, count_radios, locate_text_lem}
use Rattle.kinds.specs.declared.Family.{Family}
use Rattle.kinds.specs.declared.Contents.{Contents}
use Rattle.kinds.specs.declared.Typed.{Typed}

-- The family of a code. No code is of two families (`Apart`, in Claims). A code that is no list's and no text's is left
-- to the records, which have it or refuse it by 16.
abbrev pub family_of_lem : ℕ → Family
family_of_lem code = cond (is_list_lem code) Family.List (cond (is_text_lem code) Family.Text Family.Record)

-- Rule K2: a code that a kind has.
abbrev pub is_kind_by : Family → ℕ → Bool
is_kind_by Family.List code = true
is_kind_by Family.Text code = true
is_kind_by Family.Record code = is_record_lem code

abbrev pub is_kind_lem : ℕ → Bool
is_kind_lem code = is_kind_by (family_of_lem code) code

-- What was read of a value, a record or entries. For a record the length of the value says how long the rest is.
abbrev pub one_record : ℕ → RecordRead → Typed Record
one_record size r = record { held = Contents.One r.value; consumed = r.consumed; rest = size - r.consumed }

abbrev pub one_list : {R : Type 0} → Consumed → Typed R
one_list c = record { held = Contents.List c.entries; consumed = c.consumed; rest = c.rest }

-- How each family is read. A value that holds text is given as a list: its entries are its radios (rule E8).
abbrev pub read_by : Family → ℕ → List ℕ → Answer (Typed Record)
read_by Family.List code s = mapped one_list (layouts.read_value_lem code s)
read_by Family.Text code s = mapped one_list (texts.read_text code s)
read_by Family.Record code s = mapped (one_record (length s)) (records.read_record_lem code s)

-- Rule K1: the value s of the kind with this code.
unfoldable pub read_kind_lem : ℕ → List ℕ → Answer (Typed Record)
read_kind_lem code s = read_by (family_of_lem code) code s

-- Measuring: what reading gives, without the record itself (rules K1 and C1).
abbrev pub held_without : Contents Record → Contents Unit
held_without (Contents.One r) = Contents.One tt
held_without (Contents.List n) = Contents.List n

abbrev pub without_record : Typed Record → Typed Unit
without_record t = record { held = held_without t.held; consumed = t.consumed; rest = t.rest }

-- Rules E2 and E7: an entry of a record kind, or a text of a kind that holds none. It is refused by 6, once the value
-- has read.
abbrev pub no_entry_in_lem : {A : Type 0} → ℕ → List ℕ → Answer A
no_entry_in_lem code s = and_then (read_kind_lem code s) (λ t. refuses 6 [])

abbrev pub locate_by : Family → ℕ → List ℕ → List ℕ → Answer Span
locate_by Family.List code numbers s = access.locate_entry code numbers s
locate_by Family.Text code numbers s = locate_radio code numbers s
locate_by Family.Record code numbers s = no_entry_in_lem code s

-- Rules E1 and E2: where the entry with these numbers lies in the value s.
unfoldable pub locate_kind : ℕ → List ℕ → List ℕ → Answer Span
locate_kind code numbers s = locate_by (family_of_lem code) code numbers s

abbrev pub count_by : Family → ℕ → List ℕ → List ℕ → Answer ℕ
count_by Family.List code numbers s = access.count_entries code numbers s
count_by Family.Text code numbers s = count_radios code numbers s
count_by Family.Record code numbers s = no_entry_in_lem code s

-- Rule E3: the number of entries of the list that these numbers name.
unfoldable pub count_kind : ℕ → List ℕ → List ℕ → Answer ℕ
count_kind code numbers s = count_by (family_of_lem code) code numbers s

-- Rule E7: the value's own text with this number.
abbrev pub text_by : Family → ℕ → ℕ → List ℕ → Answer Span
text_by Family.List code number s = no_entry_in_lem code s
text_by Family.Text code number s = locate_text_lem code number s
text_by Family.Record code number s = no_entry_in_lem code s

unfoldable pub locate_text_in : ℕ → ℕ → List ℕ → Answer Span
locate_text_in code number s = text_by (family_of_lem code) code number s
