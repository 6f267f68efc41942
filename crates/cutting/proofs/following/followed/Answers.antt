-- `followed` meets its contract: each turn goes one fragment on, or ends where it isn't as asked.
use Rattle.std.specs.Prelude.{Some, None}
use mathlib.Core.Path.{sym, ◌∙◌}
use native.Mathlib.Omega.{arith}
use Rattle.cutting.proofs.Checking.{one_more, ends}
use Rattle.cutting.proofs.following.followed.Goals as goal

pub returns-in_err-reached-2 : goal.returns-in_err-reached-2
returns-in_err-reached-2 c =
    let a = c.args in
    c.from_residual-in_err-reached-2.ensures
    ∙ one_more a.lent.message.now a.fragments.now a.lent.payloads.now _ _ c.loop-fragment.invariant (omega arith) None (sym c.in_err-reached-2.was ∙ c.follow.ensures)

pub loop-fragment-preserved : goal.loop-fragment-preserved
loop-fragment-preserved c =
    let a = c.args in
    one_more a.lent.message.now a.fragments.now a.lent.payloads.now _ _ c.loop-fragment.invariant (omega arith) (Some c.in_ok-reached-2.reached) (sym c.in_ok-reached-2.was ∙ c.follow.ensures)

pub returns : goal.returns
returns c = let a = c.args in ends a.lent.message.now a.fragments.now a.lent.payloads.now _ _ c.loop-fragment.invariant c.loop-fragment-test.false
