-- What the loop keeps is that the records from `at` on are not heard yet.
use Rattle.std.proofs.Common.{◌≡◌, ◌-◌, length}
use Rattle.pushing.specs.Made.{Made}
use Rattle.house.proofs.Hearing.{Hearing}
use Rattle.watch.specs.Watching.{house_in}
use Rattle.watch.proofs.hearing.Watch.told_window.Given as goal

abbrev pub invariant-loop-next : goal.invariant-loop-next
invariant-loop-next g l =
    (Made l.self.table × (length l.self.out ≡ length l.initial.self.out)) × Hearing (length l.initial.self.out) l.window (house_in l.initial.self) l.from l.at (house_in l.self)

abbrev pub decreases-loop-next : goal.decreases-loop-next
decreases-loop-next g l = length l.window - l.at
