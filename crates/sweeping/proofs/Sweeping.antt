-- Laws of the sweep: what one row adds, and that the rows which it has not reached are as they were.
use mathlib.Core.Path.{◌≡◌, refl, ◌∙◌}
use mathlib.Core.Bool.{Bool, true, false, cond, and-eq-true_iff}
use Prim.Native.Nat.{ℕ, zero, suc, ◌+◌, ◌≤◌}
use native.Mathlib.Omega.{arith}
use native.Mathlib.Nat.{add-zero}
use native.Mathlib.Numerals.{add-one}
use lib.ListN.{get_or}
use Rattle.searching.specs.Count.{how_many}
use Rattle.table.specs.declared.Table.{Table}
use Rattle.sweeping.specs.declared.Swept.{Swept}
use Rattle.table.specs.Rows.{without}
use Rattle.sweeping.specs.Sweep.{is_old, expired, swept_rows, swept_as}
use Rattle.searching.proofs.Count.{count_before_all, count_next}
use Rattle.table.proofs.Sound.{dropped_other, dropped_time}

module _ (t : Table) (time : ℕ) where
  pub rows_none : t ≡ swept_rows t time 0
  unfolding swept_rows
  rows_none = refl

  pub rows_next : (n : ℕ) → swept_rows t time (suc n) ≡ cond (expired t time n) (without (swept_rows t time n) n) (swept_rows t time n)
  unfolding swept_rows
  rows_next n = refl

  -- later rows
  pub later : (n r : ℕ) → n ≤ r → (get_or (swept_rows t time n).used r false ≡ get_or t.used r false) × (get_or (swept_rows t time n).firsts r 0 ≡ get_or t.firsts r 0)
  later zero r l = rw (← rows_none) (refl, refl)
  later (suc n) r l = rw (rows_next n) (by_age (expired t time n) (later n r (omega arith)))
    where
      by_age : (b : Bool) → (get_or (swept_rows t time n).used r false ≡ get_or t.used r false) × (get_or (swept_rows t time n).firsts r 0 ≡ get_or t.firsts r 0)
          → (get_or (cond b (without (swept_rows t time n) n) (swept_rows t time n)).used r false ≡ get_or t.used r false) × (get_or (cond b (without (swept_rows t time n) n) (swept_rows t time n)).firsts r 0 ≡ get_or t.firsts r 0)
      by_age true was = (dropped_other (swept_rows t time n) n r (λ q. omega arith) ∙ was.0, dropped_time (swept_rows t time n) n r (λ q. omega arith) ∙ was.1)
      by_age false was = was

  pub expired_later : (n r : ℕ) → n ≤ r → expired (swept_rows t time n) time r ≡ expired t time r
  expired_later n r l = let was = later n r l in rw (was.0, was.1)

  -- a row that it comes to next, and drops, has its key still
  pub expired_used : (n : ℕ) → expired t time n ≡ true → get_or (swept_rows t time n).used n false ≡ true
  expired_used n e = (later n n (omega arith)).0 ∙ ((and-eq-true_iff (get_or t.used n false) (is_old time (get_or t.firsts n 0))).0 e).0

  -- what the loop has once it has swept the rows below n
  abbrev pub swept_to : ℕ → Swept
  swept_to n = swept_as (swept_rows t time n) (how_many (expired t time) n)

  pub swept_none : swept_as t 0 ≡ swept_to 0
  swept_none = rw (← rows_none, ← count_before_all (expired t time))

  pub swept_here : (n : ℕ) → expired t time n ≡ true → swept_as (without (swept_to n).table n) ((swept_to n).dropped + 1) ≡ swept_to (n + 1)
  swept_here n e = rw (add-one n, rows_next, count_next, e)

  pub swept_past : (n : ℕ) → expired t time n ≡ false → swept_to n ≡ swept_to (n + 1)
  swept_past n e = rw (add-one n, rows_next, count_next, e, add-zero)
