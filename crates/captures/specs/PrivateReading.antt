-- What the steps of reading promise each other. No contract of a public call cites these.
use Rattle.std.specs.Prelude.{◌≡◌, Bool, List, [], ◌∷◌, ℕ, length, Option, Some, None}
use Rattle.numbers.specs.Numbers.{Answer, gives, refuses}
use Rattle.walking.specs.Steps.{walk_from}
use Rattle.captures.specs.Reading.{file_order, record_at_lem, frames_in}
use Rattle.captures.specs.declared.Frame.{Frame}
use Rattle.captures.specs.declared.Handed.{Handed}

-- the 1905 frames of the records from the offset `at` on, up to a fault; none where the file header is refused
abbrev pub frames_by : Answer Bool → List ℕ → ℕ → List Frame
frames_by (gives highFirst) s at = frames_in (walk_from (record_at_lem highFirst s) (length s) (length s) at).items
frames_by (refuses n vs) s at = []

abbrev pub frames_from : List ℕ → ℕ → List Frame
frames_from s at = frames_by (file_order s) s at

-- the first of them and where the others are, if there is one
abbrev pub Hands : List ℕ → ℕ → Option Handed → Type 0
Hands s at (Some h) = frames_from s at ≡ h.frame ∷ frames_from s h.next
Hands s at None = frames_from s at ≡ []
