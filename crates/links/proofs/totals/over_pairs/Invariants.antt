-- `links::totals::over_pairs` meets its contract. The loop's invariant: the total is that of the pairs passed.
use Rattle.std.proofs.Common.{◌≡◌}
use Rattle.links.proofs.Loop.{so_far}
use Rattle.links.proofs.totals.over_pairs.Given as goal

abbrev pub invariant-loop-i : goal.invariant-loop-i
invariant-loop-i l = l.total ≡ so_far l.kind l.value l.i
