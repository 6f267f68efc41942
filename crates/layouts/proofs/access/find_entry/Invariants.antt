-- The numbers that are left, under the entry that was come to, lead to the same entry as all of them under the value.
use mathlib.Core.Path.{◌≡◌}
use lib.ListN.{drop}
use Rattle.layouts.specs.Access.{numbers_of, find_entry_lem}
use Rattle.layouts.specs.Rows.{row_layout}
use Rattle.layouts.proofs.access.find_entry.Given as goal

abbrev pub invariant-loop-level : goal.invariant-loop-level
invariant-loop-level l =
    find_entry_lem (row_layout l.fn.value) (numbers_of l.path) l.s 0 ≡ find_entry_lem (row_layout l.entry.row) (drop l.level (numbers_of l.path)) l.s l.entry.at
