-- The records from `from` up to `place` are passed: what is found from there on is what is to be found.
use Rattle.finding.proofs.Passing.{Passed}
use Rattle.finding.proofs.find_place.Given as goal

abbrev pub invariant-loop-place : goal.invariant-loop-place
invariant-loop-place l = Passed l.code l.payload l.list l.from l.place
