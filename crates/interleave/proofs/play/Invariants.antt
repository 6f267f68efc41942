-- The table stays one that these calls made.
use Rattle.pushing.specs.Made.{Made}
use Rattle.interleave.proofs.play.Given as goal

abbrev pub invariant-loop-k : goal.invariant-loop-k
invariant-loop-k l = Made l.t
