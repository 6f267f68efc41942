-- What does not fit in either step is the greatest number.
use Rattle.std.proofs.Common.{arith}
use Rattle.command_lines.specs.Decimal.{with_digit_lem}
use Rattle.command_lines.proofs.decimal.with_digit.Goals as goal

pub returns : goal.returns
unfolding with_digit_lem
returns c = omega arith
