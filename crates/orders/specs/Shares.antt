-- One key's share in the number that a sweep answers (rule D5), from what the key holds, and the sum over some keys.
use Rattle.std.specs.Prelude.{List, [], ◌∷◌, Bool, true, false, cond, not, ◌&&◌, ◌||◌, ℕ, ◌+◌, eqb}
use Rattle.pushing.specs.Joining.{due}
use Rattle.orders.specs.Runs.{Holding}

-- Rule S1: a key that is due counts.
unfoldable pub share : ℕ → Holding → ℕ
share time v = cond (due time v.first) 1 0

unfoldable pub total : {A : Type 0} → (A → ℕ) → List A → ℕ
total f [] = 0
total f (k ∷ ks) = total f ks + f k

-- whether a key is in a list, and whether a list has none twice
unfoldable pub is_in : ℕ → List ℕ → Bool
is_in k [] = false
is_in k (x ∷ xs) = eqb x k || is_in k xs

unfoldable pub distinct : List ℕ → Bool
distinct [] = true
distinct (x ∷ xs) = not (is_in x xs) && distinct xs
