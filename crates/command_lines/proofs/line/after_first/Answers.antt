-- What stands after the place of the first separator.
use Rattle.std.proofs.Common.{ℕ, ◌+◌, drop, take_all, sym, ap, ◌∙◌, arith, length-drop}
use Rattle.command_lines.proofs.Separators.{past_first_is}
use Rattle.command_lines.proofs.line.after_first.Goals as goal

pub returns : goal.returns
returns c =
    let s = c.args.s.now in
    let n = c.place_of-end.result + 1 in
    c.part.ensures ∙ take_all _ (drop n s) (omega (arith, length-drop n s)) ∙ ap (λ (n : ℕ). drop (n + 1) s) c.place_of-end.ensures.first ∙ sym (past_first_is c.args.separator s)
