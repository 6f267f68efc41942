-- `offset_of` meets its contract: after so many turns the walk's TLV of that number stands at `at`.
use Rattle.walking.proofs.Chained.{Stands}
use Rattle.walking.proofs.offset_of.Given as goal

abbrev pub invariant-loop : goal.invariant-loop
invariant-loop l = Stands l.payload l.counter l.at
