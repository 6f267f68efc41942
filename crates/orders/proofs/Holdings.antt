-- What a key holds, by its row and through the part of a store that is lent.
use mathlib.Core.Path.{◌≡◌, refl, sym, ◌∙◌}
use mathlib.Core.List.{List, ◌++◌}
use mathlib.Core.Bool.{Bool, true, false}
use Prim.Native.Nat.{ℕ, ◌*◌, ◌≤◌, ◌<◌}
use native.Mathlib.Omega.{arith}
use lib.Dec.{ltb}
use lib.ListN.{length}
use borrow.Author.Tests.{ltb-true, ltb-false, lt-ltb}
use Rattle.table.specs.declared.Table.{Table}
use Rattle.table.specs.Rows.{place_at, row_of, place_of}
use Rattle.pushing.specs.Joining.{kept_at, held_in_lem, since, first_time}
use Rattle.orders.specs.Runs.{State, holding, holds_nothing}
use Rattle.pushing.proofs.Pieces.{kept_out, kept_same}
use Rattle.pushing.proofs.Apart.{Untouched}
use Rattle.pushing.proofs.Own as O
use Rattle.table.proofs.Apart.{headed}
use Rattle.table.proofs.Sound.{Sound, used_row}
use Rattle.orders.proofs.Rows.{is_used_lem, code_at, first_at}
use Rattle.orders.proofs.Lookups.{row_is}

-- what the table promises of a key that a call does not touch
pub holding_same : (z z' : State) (c : ℕ) → Untouched c z.table z'.table z.store z'.store → holding c z' ≡ holding c z
holding_same z z' c same = λ i. record { first = same.1 i; fragments = λ n. same.0 n i }

-- bytes after the places make no difference
pub held_front : (t : Table) → Sound t → (front rest : List ℕ) → 47744 ≤ length front → (row n : ℕ) → held_in_lem t (front ++ rest) row n ≡ held_in_lem t front row n
held_front t s front rest long row n = by_place (place_of t row n) (ltb (place_of t row n) 32) refl
  where
    by_place : (i : ℕ) (b : Bool) → ltb i 32 ≡ b → kept_at t (front ++ rest) i ≡ kept_at t front i
    by_place i true e = kept_same t t front (front ++ rest) i refl (headed front rest (i * 1492) (place_at t i).size (omega (arith, s.small i, ltb-true i 32 e))) (ltb-true i 32 e)
    by_place i false e = kept_out t (front ++ rest) i (ltb-false i 32 e) ∙ sym (kept_out t front i (ltb-false i 32 e))

-- a key that the table does not hold, and one that it does
module _ (z : State) (s : Sound z.table) (c : ℕ) where
  pub absent : 16 ≤ row_of z.table c → holding c z ≡ holds_nothing
  absent h = λ i. record { first = O.absent_since z.table s c h i; fragments = λ n. O.absent z.table s c h z.store n i }

  present_first : (row : ℕ) → row_of z.table c ≡ row → row < 16 → first_time z.table c ≡ since (first_at z.table row)
  unfolding first_time
  present_first row e h = rw (e, lt-ltb row 16 h)

  pub present : (row : ℕ) → is_used_lem z.table row ≡ true → code_at z.table row ≡ c → holding c z ≡ record { first = since (first_at z.table row); fragments = held_in_lem z.table z.store row }
  present row u e =
      let at = row_is z.table c s row u e in
      λ i. record { first = present_first row at (used_row z.table s row u) i; fragments = held_in_lem z.table z.store (at i) }
