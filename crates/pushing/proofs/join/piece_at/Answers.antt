-- The test is that of `fragment_at`.
use borrow.Author.Tests.{eq-eqb, ne_eqb}
use Rattle.pushing.specs.PrivateSteps.{fragment_at}
use Rattle.pushing.proofs.join.piece_at.Goals as goal

pub returns-then-k-number : goal.returns-then-k-number
unfolding fragment_at
returns-then-k-number c = rw (eq-eqb _ _ c.if-k-number.true)

pub returns : goal.returns
unfolding fragment_at
returns c = rw (ne_eqb _ _ c.if-k-number.false) c.find_numbered.ensures
