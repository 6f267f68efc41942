-- The texts of the entries that are left decide over all n.
use Rattle.layouts.specs.Rows.{row_layout}
use Rattle.texts.proofs.Laws.{Left}
use Rattle.texts.proofs.pieces.all_valid.Given as goal

abbrev pub invariant-loop : goal.invariant-loop
invariant-loop l = Left (row_layout l.row) l.s l.n l.at l.counter l.start
