-- Filling each fragment as far as it goes takes the fewest fragments (rule M6). With less room in the open fragment a
-- row of TLVs needs at least as many, and at most one more.
use mathlib.Core.Path.{◌≡◌, refl, ap, ◌∙◌}
use mathlib.Core.Bool.{Bool, true, false, cond}
use mathlib.Core.List.{List, [], ◌∷◌, ◌++◌, flatten}
use Prim.Native.Nat.{ℕ, suc, ◌+◌, ◌≤◌}
use native.Mathlib.Omega.{arith}
use lib.Dec.{leb}
use lib.ListN.{length}
use borrow.Author.Tests.{le-leb, leb-true, leb-false}
use Rattle.cutting.specs.Cuts.{longest_payload}
use Rattle.cutting.specs.Greedy.{ends_from, all_fit}

-- how many fragments TLVs of these lengths need, with so many bytes in the open one
pub needed : ℕ → List ℕ → ℕ
needed used [] = 1
needed used (x ∷ xs) = cond (leb (used + x) longest_payload) (needed (used + x) xs) (suc (needed x xs))

pub as_many : (used at : ℕ) (xs : List ℕ) → length (ends_from used at xs) ≡ needed used xs
unfolding ends_from needed
as_many used at [] = refl
as_many used at (x ∷ xs) = by_test (leb (used + x) longest_payload) _ _ (as_many (used + x) (at + x) xs) (as_many x (at + x) xs)
  where
    by_test : (b : Bool) {m n : ℕ} (es fs : List ℕ) → length es ≡ m → length fs ≡ n → length (cond b es (at ∷ fs)) ≡ cond b m (suc n)
    by_test true es fs e f = e
    by_test false es fs e f = ap suc f

-- more bytes in the open fragment: as many or one more
pub record Near (few many : ℕ) : Type 0 where
  pub least : few ≤ many
  pub most : many ≤ suc few

pub near : (xs : List ℕ) (u v : ℕ) → u ≤ v → Near (needed u xs) (needed v xs)
unfolding needed
near [] u v h = record { least = omega arith; most = omega arith }
near (x ∷ xs) u v h = by_tests (leb (u + x) longest_payload) (leb (v + x) longest_payload) refl refl (near xs)
  where
    by_tests : (a b : Bool) → leb (u + x) longest_payload ≡ a → leb (v + x) longest_payload ≡ b → ((u v : ℕ) → u ≤ v → Near (needed u xs) (needed v xs))
        → Near (cond a (needed (u + x) xs) (suc (needed x xs))) (cond b (needed (v + x) xs) (suc (needed x xs)))
    by_tests true true e f on = on (u + x) (v + x) (omega arith)
    by_tests true false e f on = let n = on x (u + x) (omega arith) in record { least = n.most; most = omega (arith, n.least) }
    by_tests false true e f on = absurd (omega (arith, leb-false (u + x) longest_payload e, leb-true (v + x) longest_payload f))
    by_tests false false e f on = record { least = omega arith; most = omega arith }

abbrev pub sum : List ℕ → ℕ
sum [] = 0
sum (x ∷ xs) = x + sum xs

-- a group of TLVs that the open fragment has room for
pub packed : (used : ℕ) (g rest : List ℕ) → used + sum g ≤ longest_payload → needed used (g ++ rest) ≡ needed (used + sum g) rest
unfolding needed
packed used [] rest h = let z : used ≡ used + 0 = omega arith in ap (λ (n : ℕ). needed n rest) z
packed used (x ∷ g) rest h =
    let z : used + x + sum g ≡ used + (x + sum g) = omega arith in
    rw (le-leb (used + x) longest_payload (omega arith)) (packed (used + x) g rest (omega arith) ∙ ap (λ (n : ℕ). needed n rest) z)

-- groups, each of which a fragment has room for
abbrev pub Within : List (List ℕ) → Type 0
Within [] = Unit
Within (g ∷ gs) = (sum g ≤ longest_payload) × Within gs

-- whatever the open fragment holds, one more is enough
after_any : (used : ℕ) (gs : List (List ℕ)) → Within gs → needed used (flatten gs) ≤ suc (length gs)
unfolding needed flatten
after_any used [] w = omega arith
after_any used (g ∷ gs) w =
    omega (arith, (near (g ++ flatten gs) 0 used (omega arith)).most, packed 0 g (flatten gs) (omega (arith, w.0)), after_any (0 + sum g) gs w.1)

pub fewest : (gs : List (List ℕ)) → 1 ≤ length gs → Within gs → needed 0 (flatten gs) ≤ length gs
unfolding flatten
fewest [] h w = absurd (omega arith)
fewest (g ∷ gs) h w = omega (arith, packed 0 g (flatten gs) (omega (arith, w.0)), after_any (0 + sum g) gs w.1)

pub all_fit_lem : (gs : List (List ℕ)) → Within gs → all_fit (flatten gs) ≡ true
unfolding flatten
all_fit_lem [] w = refl
all_fit_lem (g ∷ gs) w = in_group g (flatten gs) w.0 (all_fit_lem gs w.1)
  where
    in_group : (g rest : List ℕ) → sum g ≤ longest_payload → all_fit rest ≡ true → all_fit (g ++ rest) ≡ true
    in_group [] rest h e = e
    in_group (x ∷ g) rest h e = rw (le-leb x longest_payload (omega arith)) (in_group g rest (omega arith) e)
