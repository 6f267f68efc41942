-- The entry reader goes one level down, the list reader over its entries: measures twice the levels, and one more. The
-- entries that are left, from `end` on, end where all n do.
use Rattle.std.proofs.Common.{◌+◌}
use Rattle.layouts.specs.Rows.{row_layout}
use Rattle.layouts.proofs.Loop.{Left}
use Rattle.layouts.proofs.+read_entry_read_list.Given as goal

abbrev pub decreases-read_entry : goal.decreases-read_entry
decreases-read_entry l = l.row.levels + l.row.levels

abbrev pub decreases-read_list : goal.decreases-read_list
decreases-read_list l = l.row.levels + l.row.levels + 1

abbrev pub invariant-read_list-loop : goal.invariant-read_list-loop
invariant-read_list-loop l = Left (row_layout l.row) l.s l.n l.at l.counter l.end
