-- So many frames are listed, and the frames ahead of `at` are those that are to come.
use Rattle.captures.proofs.Handing.{Filled}
use Rattle.captures.proofs.frames_into.Given as goal

abbrev pub invariant-loop-element : goal.invariant-loop-element
invariant-loop-element l = Filled l.file l.element-index l.at l.element-items
