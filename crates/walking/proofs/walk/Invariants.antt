-- `walk` meets its contract: what the loop keeps is `Walking`, and what is left of the payload falls.
use Prim.Native.Nat.{◌-◌}
use lib.ListN.{length}
use Rattle.walking.proofs.Walking.{Walking}
use Rattle.walking.proofs.walk.Given as goal

abbrev pub invariant-loop-found : goal.invariant-loop-found
invariant-loop-found l = Walking l.payload l.at l.count

abbrev pub decreases-loop-found : goal.decreases-loop-found
decreases-loop-found l = length l.payload - l.at
