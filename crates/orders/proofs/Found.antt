-- A row's fragments, found place by place: each place adds one number that was not there, so that the row has as many
-- places as its key holds fragments.
use mathlib.Core.Path.{◌≡◌, refl, sym, ap, ◌∙◌, subst}
use mathlib.Core.List.{List}
use mathlib.Core.Bool.{Bool, true, false, cond}
use Prim.Native.Nat.{ℕ, zero, suc, ◌+◌, ◌<◌}
use native.Mathlib.Omega.{arith}
use lib.Dec.{eqb}
use borrow.Author.Tests.{eqb-true, eqb-false, eq-eqb, ne_eqb}
use Rattle.table.specs.declared.Table.{Table}
use Rattle.table.specs.Rows.{places, owner_of, place_at, bytes_at}
use Rattle.pushing.specs.Joining.{Held, held_as, Kept, nothing, kept, Fragments, is_kept_lem, held_in_lem, and_new}
use Rattle.pushing.proofs.Pieces.{kept_in}
use Rattle.table.proofs.Sound.{Sound}
use Rattle.orders.proofs.Lookups.{held_cases}
use Rattle.searching.specs.Count.{how_many}
use Rattle.searching.proofs.Count.{one, count_next, count_none, count_more}

abbrev pub owns : Table → (row place : ℕ) → Bool
owns t row i = eqb (place_at t i).owner (owner_of row)

module _ (t : Table) (s : Sound t) (store : List ℕ) (row : ℕ) where
  abbrev pub fragment : ℕ → Held
  fragment i = held_as (place_at t i) (bytes_at store i (place_at t i).size)

  unfoldable found : ℕ → Fragments
  found zero = λ k. nothing
  found (suc m) = cond (owns t row m) (and_new (found m) (place_at t m).number (fragment m)) (found m)

  found_mine : (m : ℕ) → (place_at t m).owner ≡ owner_of row → found (suc m) ≡ and_new (found m) (place_at t m).number (fragment m)
  unfolding found
  found_mine m o = rw (eq-eqb (place_at t m).owner (owner_of row) o)

  found_other : (m : ℕ) → ((place_at t m).owner ≡ owner_of row → ⊥) → found (suc m) ≡ found m
  unfolding found
  found_other m o = rw (ne_eqb (place_at t m).owner (owner_of row) o)

  -- by whether the next place is the row's
  by_owner : (P : Fragments → Type 0) (m : ℕ) → ((place_at t m).owner ≡ owner_of row → P (and_new (found m) (place_at t m).number (fragment m))) → (((place_at t m).owner ≡ owner_of row → ⊥) → P (found m)) → P (found (suc m))
  by_owner P m f g = by_test (owns t row m) refl
    where
      by_test : (b : Bool) → owns t row m ≡ b → P (found (suc m))
      by_test true e = subst P (sym (found_mine m (eqb-true _ _ e))) (f (eqb-true _ _ e))
      by_test false e = subst P (sym (found_other m (eqb-false _ _ e))) (g (eqb-false _ _ e))

  found_none : (m k : ℕ) → ((i : ℕ) → i < m → (place_at t i).owner ≡ owner_of row → (place_at t i).number ≡ k → ⊥) → found m k ≡ nothing
  unfolding found
  found_none zero k none = refl
  found_none (suc m) k none =
      let below = found_none m k (λ i l. none i (omega arith)) in
      by_owner (λ (fs : Fragments). fs k ≡ nothing) m
      (λ o. let ne : k ≡ (place_at t m).number → ⊥ = λ e. none m (omega arith) o (sym e) in ap (λ (b : Bool). cond b (kept (fragment m)) (found m k)) (ne_eqb k (place_at t m).number ne) ∙ below)
      (λ o. below)

  found_is : (m k i : ℕ) → i < m → (place_at t i).owner ≡ owner_of row → (place_at t i).number ≡ k → found m k ≡ kept (fragment i)
  unfolding found
  found_is zero k i l o e = absurd (omega arith)
  found_is (suc m) k i l o e = by_last (eqb i m) refl (found_is m k i)
    where
      by_last : (b : Bool) → eqb i m ≡ b → (i < m → (place_at t i).owner ≡ owner_of row → (place_at t i).number ≡ k → found m k ≡ kept (fragment i)) → found (suc m) k ≡ kept (fragment i)
      by_last true q ih =
          let same : i ≡ m = eqb-true i m q in
          let here : k ≡ (place_at t m).number = sym e ∙ ap (λ (j : ℕ). (place_at t j).number) same in
          ap (λ (fs : Fragments). fs k) (found_mine m (ap (λ (j : ℕ). (place_at t j).owner) (sym same) ∙ o))
          ∙ ap (λ (b : Bool). cond b (kept (fragment m)) (found m k)) (eq-eqb k (place_at t m).number here)
          ∙ ap (λ (j : ℕ). kept (fragment j)) (sym same)
      by_last false q ih =
          let ne = eqb-false i m q in
          let below = ih (omega (arith, ne)) o e in
          by_owner (λ (fs : Fragments). fs k ≡ kept (fragment i)) m
          (λ o'. let off : k ≡ (place_at t m).number → ⊥ = λ c. ne (s.once i m row o o' (e ∙ c)) in ap (λ (b : Bool). cond b (kept (fragment m)) (found m k)) (ne_eqb k (place_at t m).number off) ∙ below)
          (λ o'. below)

  found_all : (k : ℕ) → found 32 k ≡ held_in_lem t store row k
  found_all k =
      held_cases t store row k s (λ (h : Kept). found 32 k ≡ h)
      (λ i l o e. found_is 32 k i l o e ∙ sym (kept_in t store i l))
      (λ none. found_none 32 k (λ i l. none i))

  -- what holds of no place and nothing held, and goes on place by place, holds of all the places and what the row holds
  module _ (P : ℕ → Fragments → Type 0) (start : P 0 (λ k. nothing))
      (mine : (m : ℕ) (fs : Fragments) → (place_at t m).owner ≡ owner_of row → fs (place_at t m).number ≡ nothing → P m fs → P (suc m) (and_new fs (place_at t m).number (fragment m)))
      (other : (m : ℕ) (fs : Fragments) → ((place_at t m).owner ≡ owner_of row → ⊥) → P m fs → P (suc m) fs) where
    by_place : (m : ℕ) → P m (found m)
    unfolding found
    by_place zero = start
    by_place (suc m) = by_owner (P (suc m)) m
        (λ o. mine m (found m) o (found_none m (place_at t m).number (λ i l o' q. let same : i ≡ m = s.once i m row o' o q in omega arith)) (by_place m))
        (λ o. other m (found m) o (by_place m))

    pub by_places : P places (held_in_lem t store row)
    by_places = subst (P places) (λ i k. found_all k i) (by_place places)

  pub count_held : how_many (owns t row) places ≡ how_many (λ k. is_kept_lem (held_in_lem t store row k)) 256
  count_held = by_places (λ (m : ℕ) (fs : Fragments). how_many (owns t row) m ≡ how_many (λ k. is_kept_lem (fs k)) 256)
      (count_none (owns t row) 0 (λ k l. absurd (omega arith)) ∙ sym (count_none (λ k. false) 256 (λ k l. refl)))
      (λ m fs o new e. count_next (owns t row) m ∙ ap (λ (b : Bool). how_many (owns t row) m + one b) (eq-eqb _ _ o) ∙ ap (λ (n : ℕ). n + 1) e
      ∙ sym (count_more (λ k. is_kept_lem (fs k)) (λ k. is_kept_lem (and_new fs (place_at t m).number (fragment m) k)) (place_at t m).number
      (λ k ne. sym (ap (λ (b : Bool). is_kept_lem (cond b (kept (fragment m)) (fs k))) (ne_eqb k (place_at t m).number ne))) 256 (s.byte m) (ap is_kept_lem new)
      (ap (λ (b : Bool). is_kept_lem (cond b (kept (fragment m)) (fs (place_at t m).number))) (eq-eqb (place_at t m).number (place_at t m).number refl))))
      (λ m fs o e. let not_one : one (owns t row m) ≡ 0 = ap one (ne_eqb _ _ o) in omega (arith, count_next (owns t row) m, not_one, e))
