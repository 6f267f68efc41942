-- Look-ups in a sound table: the row of a key and the place of a number are the ones that hold them.
use mathlib.Core.Path.{◌≡◌, refl, sym, ◌∙◌, subst}
use mathlib.Core.List.{List}
use mathlib.Core.Bool.{Bool, true, false, cond}
use Prim.Native.Nat.{ℕ, ◌<◌}
use native.Mathlib.Omega.{arith}
use lib.Dec.{ltb}
use borrow.Author.Tests.{eq-eqb, ltb-true, ltb-false}
use Rattle.table.specs.declared.Table.{Table}
use Rattle.table.specs.Rows.{owner_of, place_at, row_of, is_row_of, place_of, bytes_at}
use Rattle.pushing.specs.Joining.{Held, held_as, Kept, nothing, kept, kept_at, held_in_lem, is_kept_lem}
use Rattle.searching.proofs.Search.{lowest_is, lowest_none}
use Rattle.pushing.proofs.Pieces.{kept_out}
use Rattle.table.proofs.Sound.{Sound, used_row, row_both, place_holds, not_held}
use Rattle.orders.proofs.Rows.{is_used_lem, code_at}

pub never_true : (b : Bool) → (b ≡ true → ⊥) → b ≡ false
never_true true h = absurd (h refl)
never_true false h = refl

-- rows
module _ (t : Table) (c : ℕ) where
  pub row_none : ((row : ℕ) → is_used_lem t row ≡ true → code_at t row ≡ c → ⊥) → row_of t c ≡ 16
  row_none none = sym (lowest_none (is_row_of t c) 16 (λ row l. never_true (is_row_of t c row) (λ h. none row (row_both t c row h).0 (row_both t c row h).1)))

  pub row_is : Sound t → (row : ℕ) → is_used_lem t row ≡ true → code_at t row ≡ c → row_of t c ≡ row
  row_is s row u e =
      let there : is_row_of t c row ≡ true = rw (u, eq-eqb (code_at t row) c e) in
      sym (lowest_is (is_row_of t c) 16 row (used_row t s row u) there (λ j l. never_true (is_row_of t c j) (λ h.
      let same : j ≡ row = s.keyed j row (row_both t c j h).0 u ((row_both t c j h).1 ∙ sym e) in
      omega arith)))

-- what a row holds under a number
module _ (t : Table) (store : List ℕ) (row n : ℕ) where
  pub kept_there : (i : ℕ) → is_kept_lem (kept_at t store i) ≡ ltb i 32
  unfolding kept_at
  kept_there i = by_order (ltb i 32) (held_as (place_at t i) (bytes_at store i (place_at t i).size))
    where
      by_order : (b : Bool) (h : Held) → is_kept_lem (cond b (kept h) nothing) ≡ b
      by_order true h = refl
      by_order false h = refl

  pub held_cases : Sound t → (P : Kept → Type 0)
      → ((i : ℕ) → i < 32 → (place_at t i).owner ≡ owner_of row → (place_at t i).number ≡ n → P (kept_at t store i))
      → (((i : ℕ) → (place_at t i).owner ≡ owner_of row → (place_at t i).number ≡ n → ⊥) → P nothing)
      → P (held_in_lem t store row n)
  held_cases s P f g = by_order (ltb (place_of t row n) 32) refl
    where
      by_order : (b : Bool) → ltb (place_of t row n) 32 ≡ b → P (held_in_lem t store row n)
      by_order true e = let h = ltb-true (place_of t row n) 32 e in f (place_of t row n) h (place_holds t row n h).0 (place_holds t row n h).1
      by_order false e = let h = ltb-false (place_of t row n) 32 e in subst P (sym (kept_out t store (place_of t row n) h)) (g (not_held t s row n h))
