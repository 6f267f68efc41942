-- `whole` meets its contract, by what the walk says.
use Rattle.std.proofs.lemmas.Result.{err_from_is_err_and}
use Rattle.cutting.proofs.Whole.{says_whole, says_padded, says_unwalked}
use Rattle.cutting.proofs.following.whole.Goals as goal

pub returns-in_err-walk : goal.returns-in_err-walk
returns-in_err-walk c =
    let p = err_from_is_err_and c.from_residual.result c.from_residual.ensures.1 in
    rw (p.1, p.2) (says_unwalked _ _ _ c.in_err-walk.ensures)

pub returns-then-branch-ne0 : goal.returns-then-branch-ne0
returns-then-branch-ne0 c = says_padded _ _ c.in_ok-walk.ensures c.if-branch-ne0.true

pub returns : goal.returns
returns c = says_whole _ _ c.in_ok-walk.ensures c.if-branch-ne0.false
