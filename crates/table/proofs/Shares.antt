-- Where fewer than four other senders hold anything, one that is below its share finds a free row and a free place (rule D7).
use mathlib.Core.Path.{◌≡◌, refl, ◌∙◌}
use mathlib.Core.List.{List, [], ◌∷◌}
use mathlib.Core.Bool.{Bool, true, false}
use Prim.Native.Nat.{ℕ, ◌*◌, ◌≤◌, ◌<◌}
use native.Mathlib.Omega.{arith}
use native.Mathlib.Nat.{suc-mul}
use lib.Dec.{eqb, ltb}
use lib.ListN.{length, get_or}
use borrow.Author.Tests.{ltb-true, ltb-false, eqb-false, not-false}
use Rattle.searching.specs.Count.{how_many}
use Rattle.searching.proofs.Search.{lowest_before}
use Rattle.searching.proofs.Count.{count_none, count_all, count_at_most}
use Rattle.table.specs.declared.Table.{Table}
use Rattle.table.specs.Rows.{place_at, is_free, is_spare, spare_row, lowest_free, sender_at}
use Rattle.table.specs.InStep.{of_sender, kept_for, counted_for, WithinShares, one_of, OnlyOf}
use Rattle.table.proofs.Sound.{Sound}
use Rattle.table.proofs.InStep.{by_owner, kept_by}

-- what some senders have together
many_of : (has : ℕ → ℕ → Bool) (n most : ℕ) → ((x : ℕ) → how_many (has x) n ≤ most) → (xs : List ℕ) → how_many (λ i. one_of (λ x. has x i) xs) n ≤ length xs * most
many_of has n most few [] = omega (arith, count_none (λ i. false) n (λ i h. refl))
many_of has n most few (x ∷ xs) =
    omega (arith, count_at_most (has x) (λ i. one_of (λ y. has y i) xs) n, few x, many_of has n most few xs, suc-mul (length xs) most)

-- two tests that agree
one_same : (p q : ℕ → Bool) → ((x : ℕ) → p x ≡ q x) → (xs : List ℕ) → one_of p xs ≡ one_of q xs
one_same p q same [] = refl
one_same p q same (x ∷ xs) = rw (same x, one_same p q same xs)

module _ (t : Table) (s : Sound t) (within : WithinShares t) (own : ℕ) (others : List ℕ) (few : length others < 4) (only : OnlyOf t (own ∷ others)) where
  -- a row that a key has is one sender's, and so is a place that is not free
  row_of : (row : ℕ) → get_or t.used row false ≡ true → one_of (λ x. of_sender t x row) (own ∷ others) ≡ true
  row_of row used = one_same (λ x. of_sender t x row) (eqb (sender_at t row)) (λ x. rw used) (own ∷ others) ∙ only row used

  place_of : (i : ℕ) → is_free (place_at t i) ≡ false → one_of (λ x. kept_for t x i) (own ∷ others) ≡ true
  place_of i taken = by_owner (place_at t i).owner (one_of (λ x. kept_for t x i) (own ∷ others) ≡ true) (λ e. absurd (eqb-false _ _ taken e))
      (λ row e. one_same (λ x. kept_for t x i) (λ x. of_sender t x row) (λ x. kept_by t x i row e) (own ∷ others) ∙ row_of row (s.owned i row e))

  pub row_left : (counted_for t own).keys < 4 → spare_row t < 16
  row_left below = by_end (ltb (spare_row t) 16) refl
    where
      by_end : (b : Bool) → ltb (spare_row t) 16 ≡ b → spare_row t < 16
      by_end true e = ltb-true _ _ e
      by_end false e =
          let used : (row : ℕ) → row < 16 → get_or t.used row false ≡ true = λ row h. not-false _ (lowest_before (is_spare t) 16 row (omega (arith, ltb-false (spare_row t) 16 e))) in
          let all = count_all (λ row. one_of (λ x. of_sender t x row) (own ∷ others)) 16 (λ row h. row_of row (used row h)) in
          let sum = count_at_most (of_sender t own) (λ row. one_of (λ x. of_sender t x row) others) 16 in
          let rest = many_of (of_sender t) 16 4 (λ x. (within x).0) others in
          absurd (omega arith)

  pub place_left : (counted_for t own).places < 8 → lowest_free t < 32
  place_left below = by_end (ltb (lowest_free t) 32) refl
    where
      by_end : (b : Bool) → ltb (lowest_free t) 32 ≡ b → lowest_free t < 32
      by_end true e = ltb-true _ _ e
      by_end false e =
          let all = count_all (λ i. one_of (λ x. kept_for t x i) (own ∷ others)) 32 (λ i h. place_of i (lowest_before (λ j. is_free (place_at t j)) 32 i (omega (arith, ltb-false (lowest_free t) 32 e)))) in
          let sum = count_at_most (kept_for t own) (λ i. one_of (λ x. kept_for t x i) others) 32 in
          let rest = many_of (kept_for t) 32 8 (λ x. (within x).1) others in
          absurd (omega arith)
