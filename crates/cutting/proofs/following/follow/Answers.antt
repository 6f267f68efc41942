-- `follow` meets its contract: a payload that the message goes on with ends inside it, so no sum wraps.
use mathlib.Core.Path.{sym}
use native.Mathlib.Omega.{arith}
use Rattle.cutting.proofs.Headed.{reaches}
use Rattle.cutting.proofs.following.follow.Goals as goal

pub overflow_add-result-2 : goal.overflow_add-result-2
overflow_add-result-2 c =
    let a = c.args in
    let l = reaches a.lent.message.now a.lent.payloads.now a.s a.f (sym c.if-not-is_carried.ensures) in
    record { fits = omega (arith, l, c.well_formed.1.1.0) }
