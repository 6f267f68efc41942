-- `next_frame` meets its contract: the frames ahead stay the same over others, and what is left of the file falls.
use mathlib.Core.Path.{◌≡◌}
use Prim.Native.Nat.{◌-◌}
use lib.ListN.{length}
use Rattle.captures.specs.PrivateReading.{frames_from}
use Rattle.captures.proofs.next_frame.Given as goal

abbrev pub invariant-loop-frame : goal.invariant-loop-frame
invariant-loop-frame l = frames_from l.file l.from ≡ frames_from l.file l.at

abbrev pub decreases-loop-frame : goal.decreases-loop-frame
decreases-loop-frame l = length l.file - l.at
