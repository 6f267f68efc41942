-- What the loop keeps is `Telling`.
use Rattle.std.proofs.Common.{◌≡◌, ◌≤◌, length}
use Rattle.pushing.specs.Made.{Made}
use Rattle.watch.specs.Watching.{house_in}
use Rattle.watch.proofs.Turning.{Telling}
use Rattle.watch.proofs.told_file.Given as goal

abbrev pub invariant-loop : goal.invariant-loop
invariant-loop g l =
    (Made l.watch.table × (24 ≤ length l.window))
    × ((length l.watch.out ≡ length l.initial.watch.out) × Telling (length l.initial.watch.out) (house_in l.initial.watch) (house_in l.watch) l.window)
