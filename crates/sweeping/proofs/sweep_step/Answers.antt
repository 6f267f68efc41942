-- A row whose key is too old is dropped; any other is passed.
use mathlib.Core.Path.{◌≡◌, sym, ap, ◌∙◌}
use mathlib.Core.Bool.{true, false}
use Prim.Native.Nat.{◌+◌}
use native.Mathlib.Omega.{arith}
use lib.ListN.{get_or}
use Rattle.table.specs.declared.Table.{Table}
use Rattle.table.specs.Rows.{without}
use Rattle.sweeping.specs.Sweep.{expired, swept_as}
use Rattle.sweeping.specs.declared.Swept.{Swept}
use Rattle.sweeping.proofs.Sweeping.{expired_used, expired_later, swept_none, swept_here, swept_past}
use Rattle.sweeping.proofs.sweep_step.Goals as goal
use Rattle.sweeping.proofs.sweep_step.Goals.{then-is_expired, else-is_expired}

pub loop-row-init : goal.loop-row-init
loop-row-init c = (swept_none c.args.t c.args.time, omega arith)

pub loop-row-preserved : goal.loop-row-preserved
loop-row-preserved c =
    let a = c.args in
    let row = c.loop-row.row in
    let so_far = c.loop-row.invariant.0 in
    let few = c.loop-row.invariant.1 in
    let same : c.is_expired.result ≡ expired a.t a.time row
    = c.is_expired.ensures ∙ ap (λ (z : Swept). expired z.table a.time row) so_far ∙ expired_later a.t a.time row row (omega arith) in
    elim c.if-is_expired.branch [
      | then-is_expired w ↦ (
          let old = sym same ∙ w.if-is_expired.true in
          let used : get_or c.loop-row.table.used row false ≡ true = ap (λ (z : Swept). get_or z.table.used row false) so_far ∙ expired_used a.t a.time row old in
          let dropped : w.drop_key.new.n ≡ without c.loop-row.table row = w.drop_key.ensures ∙ rw used in (
            (λ i. swept_as (w.table-is i) (w.dropped-is i))
                ∙ ap (λ (z : Table). swept_as z (c.loop-row.dropped + 1)) dropped
                ∙ ap (λ (z : Swept). swept_as (without z.table row) (z.dropped + 1)) so_far
                ∙ swept_here a.t a.time row old,
            omega (arith, w.dropped-is, few),
          ))
      | else-is_expired w ↦ (
        (λ i. swept_as (w.table-is i) (w.dropped-is i)) ∙ so_far ∙ swept_past a.t a.time row (sym same ∙ w.if-is_expired.false),
        omega (arith, w.dropped-is, few),
      )
    ]
