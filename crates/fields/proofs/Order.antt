-- Fields in their order: cut after each size, joined again, and the bytes that a struct's fields say.
use mathlib.Core.Path.{◌≡◌, refl, sym, ap, ◌∙◌}
use mathlib.Core.List.{List, [], ◌∷◌, ◌++◌, flatten}
use Prim.Native.Nat.{ℕ, zero, suc, ◌+◌, ◌<◌, ◌≤◌}
use native.Mathlib.Nat.{zero-add, suc-add, le_of_suc-le-suc}
use native.Mathlib.Omega.{arith}
use lib.ListN.{length, take, drop, get_or}
use lib.Seq.{take-add, drop-drop}
use Rattle.layouts.specs.Layouts.{size_of, place}
use Rattle.fields.specs.Answers.{zero_filled}
use Rattle.fields.specs.Claims.{split}

pub joined : (ws p : List ℕ) → flatten (split ws p) ≡ take (size_of ws) p
unfolding flatten
joined [] p = refl
joined (w ∷ ws) p = ap (λ t. take w p ++ t) (joined ws (drop w p)) ∙ sym (take-add w (size_of ws) p)

pub placed : (ws p : List ℕ) (k : ℕ) → k < length ws → get_or (split ws p) k [] ≡ take (get_or ws k 0) (drop (place ws k) p)
placed [] p k h = absurd (omega (arith, h))
placed (w ∷ ws) p zero h = refl
placed (w ∷ ws) p (suc k) h = placed ws (drop w p) k (le_of_suc-le-suc h) ∙ ap (take (get_or ws k 0)) (drop-drop (place ws k) w p)

-- bytes with zeros after them: two parts of them, and the bytes themselves
pub padded_add : (n m : ℕ) (p : List ℕ) → zero_filled (n + m) p ≡ zero_filled n p ++ zero_filled m (drop n p)
padded_add zero m p = ap (λ k. zero_filled k p) (zero-add m)
padded_add (suc n) m [] = ap (λ k. zero_filled k []) (suc-add n m) ∙ ap (λ t. 0 ∷ t) (padded_add n m [] ∙ ap (λ t. zero_filled n [] ++ zero_filled m t) (drop_none n))
  where
    drop_none : (n : ℕ) → drop {A = ℕ} n [] ≡ []
    drop_none zero = refl
    drop_none (suc n) = refl
padded_add (suc n) m (b ∷ p) = ap (λ k. zero_filled k (b ∷ p)) (suc-add n m) ∙ ap (λ t. b ∷ t) (padded_add n m p)

pub padded_own : (w : ℕ) (p : List ℕ) → length p ≤ w → take (length p) (zero_filled w p) ≡ p
padded_own w [] h = refl
padded_own zero (b ∷ p) h = absurd (omega (arith, h))
padded_own (suc w) (b ∷ p) h = ap (λ t. b ∷ t) (padded_own w p (le_of_suc-le-suc h))

-- without zeros, where there are enough
pub padded_take : (w : ℕ) (p : List ℕ) → w ≤ length p → zero_filled w p ≡ take w p
padded_take zero p h = refl
padded_take (suc w) [] h = absurd (omega (arith, h))
padded_take (suc w) (b ∷ p) h = ap (λ t. b ∷ t) (padded_take w p (le_of_suc-le-suc h))
