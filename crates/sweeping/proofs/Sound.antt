-- A sweep of a sound table leaves it sound, and leaves the totals in step and within the shares.
use mathlib.Core.Path.{◌≡◌, refl}
use mathlib.Core.Bool.{Bool, true, false, cond}
use Prim.Native.Nat.{ℕ, zero, suc, ◌≤◌}
use native.Mathlib.Omega.{arith}
use Rattle.table.specs.declared.Table.{Table}
use Rattle.table.specs.Rows.{keys, without}
use Rattle.sweeping.specs.Sweep.{swept_rows, expired}
use Rattle.table.proofs.Sound.{Sound, drop_sound}
use Rattle.table.proofs.InStep.{InStep, WithinShares, drop_in_step, drop_within}
use Rattle.sweeping.proofs.Sweeping.{rows_none, rows_next, expired_used}

pub sweep_sound : (t : Table) → Sound t → (time n : ℕ) → n ≤ keys → Sound (swept_rows t time n)
sweep_sound t s time zero h = rw (← rows_none t time) s
sweep_sound t s time (suc n) h = rw (rows_next t time n) (by_age (expired t time n) (sweep_sound t s time n (omega arith)))
  where
    by_age : (b : Bool) → Sound (swept_rows t time n) → Sound (cond b (without (swept_rows t time n) n) (swept_rows t time n))
    by_age true was = drop_sound (swept_rows t time n) was n (omega arith)
    by_age false was = was

module _ (t : Table) (s : Sound t) (step : InStep t) (within : WithinShares t) (time : ℕ) where
  abbrev to : ℕ → Table
  to n = swept_rows t time n

  pub sweep_in_step : (n : ℕ) → n ≤ keys → InStep (to n) × WithinShares (to n)
  sweep_in_step zero h = rw (← rows_none t time) (step, within)
  sweep_in_step (suc n) h = rw (rows_next t time n) (by_age (expired t time n) refl (sweep_in_step n (omega arith)))
    where
      by_age : (b : Bool) → expired t time n ≡ b → InStep (to n) × WithinShares (to n) → InStep (cond b (without (to n) n) (to n)) × WithinShares (cond b (without (to n) n) (to n))
      by_age true e was =
          let used = expired_used t time n e in
          let sound = sweep_sound t s time n (omega arith) in
          (drop_in_step (to n) sound was.0 n (omega arith) used, drop_within (to n) sound was.0 n (omega arith) used was.1)
      by_age false e was = was
