-- So many entries are written, and the walk's TLV of that number stands at `at`.
use Rattle.walking.proofs.Filled.{Filled}
use Rattle.walking.proofs.walk_into.Given as goal

abbrev pub invariant-loop-element : goal.invariant-loop-element
invariant-loop-element l = Filled l.payload l.element-index l.at l.element-items
