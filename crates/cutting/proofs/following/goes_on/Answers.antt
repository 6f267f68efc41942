-- `goes_on` meets its contract: the part that lies there is compared whole.
use native.Mathlib.Omega.{arith}
use Rattle.cutting.proofs.Headed.{too_short, by_part}
use Rattle.cutting.proofs.following.goes_on.Goals as goal

pub returns-then-message-part : goal.returns-then-message-part
returns-then-message-part c = let a = c.args in too_short a.message.now a.at a.part.now (omega arith)

pub returns-then-message-part-2 : goal.returns-then-message-part-2
returns-then-message-part-2 c = let a = c.args in too_short a.message.now a.at a.part.now (omega arith)

pub returns : goal.returns
returns c = let a = c.args in rw c.eq.ensures (by_part a.message.now a.at a.part.now (omega arith))
