-- What is cut off at the end of the type still fits when it is negated.
use Rattle.command_lines.proofs.Signed.{negated}
use Rattle.command_lines.proofs.decimal.below_zero.Goals as goal

pub returns : goal.returns
returns c = negated _ _ c.min.ensures
