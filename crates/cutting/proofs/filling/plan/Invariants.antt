-- `plan` meets its contract: what the loop keeps is `Planning`, and what is left of the message falls.
use Prim.Native.Nat.{◌-◌}
use lib.ListN.{length}
use Rattle.cutting.proofs.Planning.{Planning}
use Rattle.cutting.proofs.filling.plan.Given as goal

abbrev pub invariant-loop-found : goal.invariant-loop-found
invariant-loop-found l = Planning l.message l.at l.current l.ends

abbrev pub decreases-loop-found : goal.decreases-loop-found
decreases-loop-found l = length l.message - l.at
