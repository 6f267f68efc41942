-- `check` meets its contract: the message's own refusal, or whether the fragments are a cutting of it.
use Rattle.std.proofs.lemmas.Result.{err_from_is_err_and}
use Rattle.cutting.proofs.Checking.{answers, refused}
use Rattle.cutting.proofs.check.Goals as goal

pub returns-in_err-whole : goal.returns-in_err-whole
returns-in_err-whole c =
    let a = c.args in
    let p = err_from_is_err_and c.from_residual.result c.from_residual.ensures.1 in
    rw (p.1, p.2) (refused a.message.now a.fragments.now a.payloads.now _ c.in_err-whole.ensures)

pub returns : goal.returns
returns c =
    let a = c.args in
    answers a.message.now a.fragments.now a.payloads.now c.in_ok-whole.ensures _ c.is_cutting.ensures
