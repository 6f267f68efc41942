-- For private functions alone; no contract of a public call cites this file. Sizes and parts as the code has them: there
-- is no size for a code without a row.
use Rattle.std.specs.Prelude.{Bool, true, false, List, [], ℕ, ◌+◌, take, drop, Option, Some, None, Result, Ok, Err}
use Rattle.std.specs.Borrow.{Bor}
use Rattle.numbers.specs.Numbers.{Answer, gives, refuses, told, and_then, mapped}
use Rattle.numbers.specs.declared.Refusal.{Refusal}
use Rattle.layouts.specs.Layouts.{size_of}
use Rattle.layouts.specs.Reading.{reaching}
use Rattle.fields.specs.declared.parts.Entry.{Entry}
use Rattle.fields.specs.Fields.{WithText, nothing_there, text_at, Fielded}
use Rattle.fields.specs.Writing.{entry_of}

abbrev pub size_in_lem : Answer Fielded → Option ℕ
size_in_lem (gives f) = Some (size_of f.sizes)
size_in_lem (refuses n vs) = None

-- the bytes of a part that a call returns
abbrev pub part_told : Result (Bor (List ℕ)) Refusal → Answer (List ℕ)
part_told (Ok part) = gives part.now
part_told (Err r) = told r

-- the own fields of an entry, by their size
abbrev pub own_at_lem : Option ℕ → List ℕ → ℕ → Answer (List ℕ)
own_at_lem None s p = refuses 16 []
own_at_lem (Some n) s p = reaching (p + n) s (take n (drop p s))

-- an entry, by the size of its own fields and whether a text follows
abbrev pub entry_with : Bool → Option ℕ → List ℕ → ℕ → Answer WithText
entry_with text None s p = refuses 16 []
entry_with false (Some n) s p = mapped (λ own. record { own = own; text = nothing_there.text }) (own_at_lem (Some n) s p)
entry_with true (Some n) s p = and_then (own_at_lem (Some n) s p) (λ own. mapped (λ t. record { own = own; text = t }) (text_at s (p + n)))

-- an entry as the code has it
abbrev pub entry_is : Entry → WithText
entry_is e = record { own = e.own.now; text = e.text }

abbrev pub entry_told : Result Entry Refusal → Answer WithText
entry_told (Ok e) = gives (entry_is e)
entry_told (Err r) = told r

-- an entry to be written, by the size of its own fields
unfoldable pub made_with : Bool → Option ℕ → List ℕ → List ℕ → Answer (List ℕ)
made_with text None bytes t = refuses 16 []
made_with text (Some n) bytes t = entry_of text n bytes t
