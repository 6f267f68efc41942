-- The loop has swept the rows below `row`, and has dropped no more keys than that.
use mathlib.Core.Path.{◌≡◌}
use Prim.Native.Nat.{◌≤◌}
use Rattle.sweeping.specs.Sweep.{swept_as}
use Rattle.sweeping.proofs.Sweeping.{swept_to}
use Rattle.sweeping.proofs.sweep_step.Given as goal

abbrev pub invariant-loop-row : goal.invariant-loop-row
invariant-loop-row l = (swept_as l.table l.dropped ≡ swept_to l.initial.table l.time l.row) × (l.dropped ≤ l.row)
