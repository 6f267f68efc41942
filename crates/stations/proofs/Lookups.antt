-- A look-up and a count in the first elements of a list, by their number.
use mathlib.Core.Path.{◌≡◌, refl, ap, ◌∙◌}
use mathlib.Core.Bool.{Bool, true, false, cond}
use mathlib.Core.List.{List}
use Prim.Native.Nat.{ℕ, zero, suc, ◌+◌, ◌≤◌}
use native.Mathlib.Omega.{arith}
use lib.Dec.{ltb, eqb}
use lib.ListN.{length, take, get_or}
use Rattle.std.proofs.Math.Seq.{take-suc, length-take-le}
use borrow.Author.Tests.{ltb-true, ltb-false, eq-eqb, ne_eqb}
use Rattle.std.specs.List.{position, position_or_len, count_by}
use Rattle.std.specs.Prelude.{Some, None}
use Rattle.std.proofs.lemmas.List.Folds.{position_or_len_push}
use Rattle.std.proofs.lemmas.List.Sums.{sum_by_push}
use Rattle.searching.specs.Search.{lowest}
use Rattle.searching.specs.Count.{how_many}
use Rattle.searching.proofs.Search.{lowest_le}

module _ (test : ℕ → Bool) (xs : List ℕ) where
  abbrev at_row : ℕ → Bool
  at_row i = test (get_or xs i 0)

  one_more : (n found : ℕ) → found ≤ n → (here : Bool) → cond (eqb found n) (n + cond here 0 1) found ≡ cond (ltb found n) found (cond here n (suc n))
  one_more n found h here = by_order (ltb found n) refl here
    where
      by_order : (b : Bool) → ltb found n ≡ b → (here : Bool) → cond (eqb found n) (n + cond here 0 1) found ≡ cond b found (cond here n (suc n))
      by_order true e here = rw (ne_eqb found n (λ q. omega (arith, ltb-true found n e)))
      by_order false e true = let end : found ≡ n = omega (arith, ltb-false found n e) in rw (eq-eqb found n end) (omega arith)
      by_order false e false = let end : found ≡ n = omega (arith, ltb-false found n e) in rw (eq-eqb found n end) (omega arith)

  pub first_found : (n : ℕ) → n ≤ length xs → position_or_len test (take n xs) ≡ lowest at_row n
  unfolding lowest
  first_found zero h = refl
  first_found (suc n) h =
      let l = length-take-le n xs (omega arith) in
      ap (position_or_len test) (take-suc xs n 0 (omega arith))
      ∙ position_or_len_push test (take n xs) (get_or xs n 0)
      ∙ rw (l, first_found n (omega arith)) (one_more n (lowest at_row n) (lowest_le at_row n) (test (get_or xs n 0)))

  pub found_at : (n : ℕ) → n ≤ length xs → position test (take n xs) ≡ cond (ltb (lowest at_row n) n) (Some (lowest at_row n)) None
  found_at n h = rw (first_found n h, length-take-le n xs h)

  pub counted : (n : ℕ) → n ≤ length xs → count_by test (take n xs) ≡ how_many at_row n
  unfolding how_many
  counted zero h = refl
  counted (suc n) h =
      ap (count_by test) (take-suc xs n 0 (omega arith))
      ∙ sum_by_push (λ x. cond (test x) 1 0) (take n xs) (get_or xs n 0)
      ∙ rw (counted n (omega arith)) (by_test (test (get_or xs n 0)) (how_many at_row n))
    where
      by_test : (b : Bool) (many : ℕ) → many + cond b 1 0 ≡ cond b (many + 1) many
      by_test true many = refl
      by_test false many = omega arith
