-- Laws of `is_same_lem`: it goes part by part.
use mathlib.Core.Path.{◌≡◌, refl, ap}
use mathlib.Core.Bool.{Bool, true, false, ◌&&◌}
use mathlib.Core.List.{List, [], ◌∷◌, ◌++◌}
use Prim.Native.Nat.{ℕ, ◌+◌, ◌-◌, ◌≤◌}
use native.Mathlib.Omega.{arith}
use lib.Dec.{eqb, leb}
use lib.ListN.{length, take, drop, length-take, length-drop}
use borrow.Author.Tests.{eq-eqb, ne_eqb, le-leb}
use Rattle.numbers.specs.Bytes.{is_same_lem}
use Rattle.numbers.proofs.Bytes.{are_same}

-- first the one part, then the other
pub part_by_part : (p r t : List ℕ) → is_same_lem (p ++ r) t ≡ (is_same_lem p (take (length p) t) && is_same_lem r (drop (length p) t))
part_by_part [] r t = refl
part_by_part (a ∷ p) r [] = refl
part_by_part (a ∷ p) r (b ∷ t) = by_test (eqb a b) _ _ _ (part_by_part p r t)
  where
    by_test : (x y z w : Bool) → y ≡ (z && w) → (x && y) ≡ (x && z && w)
    by_test true y z w e = e
    by_test false y z w e = refl

-- nothing is left
pub at_end_lem : (at : ℕ) (m : List ℕ) → at ≤ length m → eqb at (length m) ≡ is_same_lem [] (drop at m)
at_end_lem at m h = by_rest (drop at m) (length-drop at m)
  where
    by_rest : (rest : List ℕ) → length rest ≡ length m - at → eqb at (length m) ≡ is_same_lem [] rest
    by_rest [] e = eq-eqb at (length m) (omega (arith, e))
    by_rest (b ∷ rest) e = ne_eqb at (length m) (λ f. omega (arith, e, f))

-- equal bytes are there
pub there : (at : ℕ) (m p : List ℕ) → at ≤ length m → (leb (at + length p) (length m) && is_same_lem p (take (length p) (drop at m))) ≡ is_same_lem p (take (length p) (drop at m))
there at m p h = by_test (is_same_lem p (take (length p) (drop at m))) refl
  where
    by_test : (b : Bool) → is_same_lem p (take (length p) (drop at m)) ≡ b → (leb (at + length p) (length m) && b) ≡ b
    by_test true e =
        let l : length p ≤ length m - at = omega (arith, ap length (are_same p (take (length p) (drop at m)) e), length-take (length p) (drop at m), length-drop at m) in
        rw (le-leb (at + length p) (length m) (omega arith))
    by_test false e = by_false (leb (at + length p) (length m))
      where
        by_false : (x : Bool) → (x && false) ≡ false
        by_false true = refl
        by_false false = refl
