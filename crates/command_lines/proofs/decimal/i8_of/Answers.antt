-- What lies between the ends of the type is read back from its bits.
use Rattle.std.proofs.Common.{ap, ◌∙◌, to_z-of_z, w32, pos, negsuc}
use Rattle.std.specs.Int.{int_max, int_min}
use Rattle.command_lines.proofs.Signed.{clamped, byte_back}
use Rattle.command_lines.proofs.decimal.i8_of.Goals as goal

pub returns : goal.returns
returns c =
    let n = c.args.n in
    byte_back _ n (c.clamp.ensures.value ∙ ap (λ z. int_max (negsuc 127) (int_min z (pos 127))) (to_z-of_z {w = w32} c.ranges.n) ∙ clamped n)
