-- The levels that are left, under the row that was come to, lead to the same entry as all of them under the value's.
use mathlib.Core.Path.{◌≡◌}
use Prim.Native.Nat.{◌-◌}
use Rattle.layouts.specs.Access.{at_level}
use Rattle.layouts.specs.Rows.{row_layout}
use Rattle.layouts.proofs.passing.row_at.Given as goal

abbrev pub invariant-loop : goal.invariant-loop
invariant-loop l = at_level l.level (row_layout l.fn.value) ≡ at_level (l.level - l.counter) (row_layout l.row)
