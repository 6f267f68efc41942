-- The table stays one that the table's calls made.
use Rattle.pushing.specs.Made.{Made}
use Rattle.drive.proofs.serve.Given as goal

abbrev pub invariant-loop : goal.invariant-loop
invariant-loop g l = Made l.desk.table
