-- `is_cutting` meets its contract: following them one by one says what the definition says of all.
use Rattle.std.proofs.Common.{rules}
use Rattle.cutting.proofs.Followed.{by_end}
use Rattle.cutting.proofs.following.is_cutting.Goals as goal

pub returns : goal.returns
returns c = let a = c.args in by_end a.lent.message.now a.lent.payloads.now a.fragments.now _ c.followed.ensures _ _ (λ s w. search rules) c.is_some_and.ensures
