-- What stands before the place of the first separator.
use Rattle.std.proofs.Common.{ℕ, take, sym, ap, ◌∙◌}
use Rattle.command_lines.proofs.Separators.{up_to_is}
use Rattle.command_lines.proofs.line.first_of.Goals as goal

pub returns : goal.returns
returns c = let s = c.args.s.now in ap (λ (n : ℕ). take n s) c.place_of.ensures.first ∙ sym (up_to_is c.args.separator s)
