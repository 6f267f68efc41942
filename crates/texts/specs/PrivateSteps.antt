-- For private functions alone; no contract of a public call cites this file. It says what a row of the code's table
-- holds, and what the steps of reading answer.
use Rattle.std.specs.Prelude.{Bool, false, cond, List, [], ℕ, ◌≤◌, ltb, length}
use Rattle.numbers.specs.Numbers.{Answer, gives, refuses, and_then, mapped}
use Rattle.layouts.specs.Layouts.{Layout}
use Rattle.layouts.specs.Rows.{row_layout}
use Rattle.layouts.specs.Reading.{entries_end, end_of}
use Rattle.layouts.specs.declared.Span.{Span}
use Rattle.layouts.specs.Access.{Spans}
use Rattle.texts.specs.Texts.{TextKind}
use Rattle.texts.specs.Reading.{Laid, all_valid_lem}
use Rattle.texts.specs.declared.rows.TextRow.{TextRow}
use Rattle.texts.specs.declared.reading.Outline.{Outline}

abbrev pub row_kind : TextRow → TextKind
row_kind r = record { many = r.many; piece = row_layout r.piece; radios = r.radios }

-- whether the texts of entries that are there are valid
abbrev pub valid_in : Layout → List ℕ → Answer Spans → Bool
valid_in l s (gives r) = all_valid_lem l s r.each
valid_in l s (refuses n vs) = false

-- entry i of n, which has those before it in front
unfoldable pub nth_at : Layout → ℕ → ℕ → List ℕ → ℕ → Answer Span
nth_at l n i s p = cond (ltb i n) (and_then (entries_end (end_of l s) i p) (λ a. mapped (λ q. record { start = a; end = q }) (end_of l s a))) (refuses 6 [])

-- a value's radios, and where it ends
abbrev pub outline_of : Laid → Outline
outline_of v = record { list = v.list; end = v.radios.end }

-- a part that was located lies in the value
abbrev pub InValue : Answer Span → List ℕ → Type 0
InValue (gives r) s = (r.start ≤ r.end) × (r.end ≤ length s)
InValue (refuses n vs) s = Unit
