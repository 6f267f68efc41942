-- The sum stays small.
use Rattle.std.proofs.Common.{◌<◌}
use Rattle.interleave.proofs.folded.Given as goal

abbrev pub invariant-loop-byte : goal.invariant-loop-byte
invariant-loop-byte l = l.sum < 16777216
