-- What the loop keeps is where the records stop.
use Rattle.std.proofs.Common.{sym, ◌∙◌, arith}
use Rattle.house.proofs.Stops.{stop_on, stopped}
use Rattle.captures.proofs.Checking.{forward}
use Rattle.watch.proofs.Nexts.{over, over_none}
use Rattle.watch.proofs.hearing.looked_at.Goals as goal

pub returns-in_default : goal.returns-in_default
returns-in_default c = stopped _ _ _ c.loop-next.invariant _ (over_none _ (sym c.next_in.ensures ∙ c.in_default.is)) c.step-reached.ensures

pub loop-next-smaller : goal.loop-next-smaller
loop-next-smaller c =
    let o = over _ _ (sym c.next_in.ensures ∙ c.in-Some.is) in
    let goes = forward _ _ o.0 _ (o.1 ∙ c.step-reached.ensures) in
    omega (arith, goes.0, goes.1)

pub loop-next-preserved : goal.loop-next-preserved
loop-next-preserved c =
    let o = over _ _ (sym c.next_in.ensures ∙ c.in-Some.is) in
    sym (stop_on _ _ o.0 _ (o.1 ∙ c.step-reached.ensures)) ∙ c.loop-next.invariant
