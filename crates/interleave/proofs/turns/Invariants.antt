-- No more turns are found than were looked at.
use Rattle.std.proofs.Common.{◌≤◌}
use Rattle.interleave.proofs.turns.Given as goal

abbrev pub invariant-loop : goal.invariant-loop
invariant-loop l = l.found ≤ l.counter
