-- What a sweep does to each key's holding: it drops what is due.
use mathlib.Core.Path.{◌≡◌, refl, sym, ap, ◌∙◌}
use mathlib.Core.Bool.{Bool, true, false, cond}
use Prim.Native.Nat.{ℕ, ◌≤◌, ◌<◌}
use native.Mathlib.Omega.{arith}
use lib.ListN.{get_or}
use borrow.Author.Tests.{lt-ltb, le-ltb}
use Rattle.table.specs.declared.Table.{Table}
use Rattle.table.specs.Rows.{row_of}
use Rattle.pushing.specs.Joining.{nothing, never, held_by_lem, first_time, due}
use Rattle.sweeping.specs.Sweep.{expired, swept}
use Rattle.pushing.proofs.Aged.{sweep_told}
use Rattle.table.proofs.Sound.{Sound, row_holds}
use Rattle.orders.specs.Runs.{State, holding, holds_nothing}

-- a row's time has come exactly when its key's has
pub due_is : (t : Table) (time c row : ℕ) → row_of t c ≡ row → row < 16 → due time (first_time t c) ≡ expired t time row
unfolding first_time
due_is t time c row e h =
    let used : get_or t.used row false ≡ true = ap (λ (r : ℕ). get_or t.used r false) (sym e) ∙ (row_holds t c (omega arith)).0 in
    rw (e, lt-ltb row 16 h, used)

pub due_never : (t : Table) (time c : ℕ) → 16 ≤ row_of t c → due time (first_time t c) ≡ false
unfolding first_time
due_never t time c h = rw (le-ltb (row_of t c) 16 h)

pub sweep_holding : (z : State) → Sound z.table → (time c : ℕ) → holding c (record { table = (swept z.table time).table; store = z.store }) ≡ cond (due time (holding c z).first) holds_nothing (holding c z)
sweep_holding z s time c =
    let told = sweep_told z.table s z.store time c in
    (λ i. record { first = told.1 i; fragments = λ n. told.0 n i })
    ∙ as_one (due time (first_time z.table c))
  where
    as_one : (b : Bool) → record { first = cond b never (first_time z.table c); fragments = λ n. cond b nothing (held_by_lem z.table z.store c n) } ≡ cond b holds_nothing (holding c z)
    as_one true = refl
    as_one false = refl
