-- The pieces of a line between separators.
use Rattle.std.specs.Prelude.{ℕ, zero, suc, cond, List, [], ◌∷◌, ◌==◌}

-- what stands before the first separator
unfoldable pub up_to : ℕ → List ℕ → List ℕ
up_to separator [] = []
up_to separator (b ∷ s) = cond (b == separator) [] (b ∷ up_to separator s)

-- what stands after it; nothing where there is none
unfoldable pub past_first : ℕ → List ℕ → List ℕ
past_first separator [] = []
past_first separator (b ∷ s) = cond (b == separator) s (past_first separator s)

-- piece number n, from 0
unfoldable pub field_in : ℕ → ℕ → List ℕ → List ℕ
field_in separator zero s = up_to separator s
field_in separator (suc n) s = field_in separator n (past_first separator s)
