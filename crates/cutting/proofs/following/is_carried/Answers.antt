-- `is_carried` meets its contract, case by case.
use mathlib.Core.Path.{◌∙◌}
use native.Mathlib.Omega.{arith}
use Rattle.cutting.proofs.Headed.{part, outside, too_long, no_run, by_bytes}
use Rattle.cutting.proofs.following.is_carried.Goals as goal

pub returns-then-payloads-length : goal.returns-then-payloads-length
returns-then-payloads-length c = let a = c.args in outside a.lent.message.now a.lent.payloads.now a.s a.f (omega arith)

pub returns-then-payloads-length-2 : goal.returns-then-payloads-length-2
returns-then-payloads-length-2 c = let a = c.args in outside a.lent.message.now a.lent.payloads.now a.s a.f (omega arith)

pub returns-then-length-gt-LONGEST_PAYLOAD : goal.returns-then-length-gt-LONGEST_PAYLOAD
returns-then-length-gt-LONGEST_PAYLOAD c = let a = c.args in too_long a.lent.message.now a.lent.payloads.now a.s a.f (omega arith) (omega arith)

pub returns-then-not-is_run : goal.returns-then-not-is_run
returns-then-not-is_run c =
    let a = c.args in
    no_run a.lent.message.now a.lent.payloads.now a.s a.f (omega arith) (omega arith) _ (part a.lent.payloads.now a.f) _ c.is_run.ensures c.if-not-is_run.true

pub returns : goal.returns
returns c =
    let a = c.args in
    c.goes_on.ensures ∙ by_bytes a.lent.message.now a.lent.payloads.now a.s a.f (omega arith) (omega arith) _ (part a.lent.payloads.now a.f) _ c.is_run.ensures c.if-not-is_run.false
