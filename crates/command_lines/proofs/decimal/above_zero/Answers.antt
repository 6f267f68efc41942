-- A number of the lower half is that of its bits.
use Rattle.std.proofs.Common.{ap, ◌∙◌, arith, pos, w32}
use mir.Facts.{to_z_pos}
use Rattle.command_lines.specs.Decimal.{nearest}
use Rattle.command_lines.proofs.decimal.above_zero.Goals as goal

pub returns : goal.returns
unfolding nearest
returns c = to_z_pos w32 (omega arith) ∙ ap pos c.min.ensures
