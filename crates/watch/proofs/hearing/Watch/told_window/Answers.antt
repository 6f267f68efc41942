-- What the loop keeps is that the records from `at` on are not heard yet.
use Rattle.std.proofs.Common.{sym, ◌∙◌, arith}
use Rattle.captures.proofs.Checking.{forward}
use Rattle.house.proofs.Hearing.{goes_on, ends}
use Rattle.watch.proofs.Nexts.{over, over_none}
use Rattle.watch.proofs.hearing.Watch.told_window.Goals as goal

pub returns-in_default : goal.returns-in_default
returns-in_default g c =
    let kept = c.loop-next.invariant in
    let told = c.told_record-reached.ensures in
    let done = ends _ _ _ _ _ _ _ kept.1 _ kept.0.1 _ told.reached told.house (over_none _ (sym c.next_in.ensures ∙ c.in_default.is)) in
    record { house = done.0; stopped = done.1; made = told.made; long = told.long ∙ kept.0.1 }

pub loop-next-smaller : goal.loop-next-smaller
loop-next-smaller g c =
    let o = over _ _ (sym c.next_in.ensures ∙ c.in-Some.is) in
    let goes = forward _ _ o.0 _ (o.1 ∙ c.told_record-reached.ensures.reached) in
    omega (arith, goes.0, goes.1)

pub loop-next-preserved : goal.loop-next-preserved
loop-next-preserved g c =
    let kept = c.loop-next.invariant in
    let told = c.told_record-reached.ensures in
    let o = over _ _ (sym c.next_in.ensures ∙ c.in-Some.is) in
    ((told.made, told.long ∙ kept.0.1), goes_on _ _ _ _ _ _ _ kept.1 _ kept.0.1 o.0 _ (o.1 ∙ told.reached) told.house)
