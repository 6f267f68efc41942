-- `take_events` meets its contract: what the loop keeps is `Taking`, and what is left of the message falls.
use Prim.Native.Nat.{◌-◌}
use lib.ListN.{length}
use Rattle.house.proofs.Taking.{Taking}
use Rattle.house.proofs.take_events.Given as goal

abbrev pub invariant-loop-stepped : goal.invariant-loop-stepped
invariant-loop-stepped l = Taking l.message l.initial.held l.at l.held

abbrev pub decreases-loop-stepped : goal.decreases-loop-stepped
decreases-loop-stepped l = length l.message - l.at
