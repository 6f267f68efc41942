-- `looked_at` meets its contract: what the loop keeps is where the records stop.
use Rattle.std.proofs.Common.{◌≡◌, ◌-◌, length}
use Rattle.house.specs.Windows.{stop_of}
use Rattle.watch.proofs.hearing.looked_at.Given as goal

abbrev pub invariant-loop-next : goal.invariant-loop-next
invariant-loop-next l = stop_of l.window l.at ≡ stop_of l.window l.from

abbrev pub decreases-loop-next : goal.decreases-loop-next
decreases-loop-next l = length l.window - l.at
