-- So many orders at most were played, and both buffers keep their lengths.
use Rattle.std.proofs.Common.{◌≤◌}
use Rattle.interleave.proofs.play_all.Given as goal

abbrev pub invariant-loop-order : goal.invariant-loop-order
invariant-loop-order l = (l.score.differed ≤ l.score.played) × (l.score.played ≤ l.order)
