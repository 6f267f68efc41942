-- `check` meets its contract: what the loop keeps is `Counting`, and what is left of the file falls.
use Prim.Native.Nat.{◌-◌}
use lib.ListN.{length}
use Rattle.captures.proofs.Checking.{Counting}
use Rattle.captures.proofs.check.Given as goal

abbrev pub invariant-loop-found : goal.invariant-loop-found
invariant-loop-found l = Counting l.file l.at l.frames l.others

abbrev pub decreases-loop-found : goal.decreases-loop-found
decreases-loop-found l = length l.file - l.at
