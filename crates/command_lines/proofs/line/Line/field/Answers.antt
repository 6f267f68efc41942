-- As many separators are passed as its number says.
use Rattle.std.proofs.Common.{ℕ, ◌+◌, ◌-◌, List, ap, ◌∙◌}
use Rattle.command_lines.specs.Fields.{field_in}
use Rattle.command_lines.proofs.Separators.{field_next, field_last}
use Rattle.command_lines.proofs.line.Line.field.Goals as goal

pub loop-preserved : goal.loop-preserved
loop-preserved c =
    let k = c.args.self.now.separator in
    let n = c.args.n in
    let i = c.loop.counter in
    ap (λ (s : List ℕ). field_in k (n - (i + 1)) s) c.after_first-rest.ensures ∙ field_next k n i c.loop.rest.now c.loop-test.true ∙ c.loop.invariant

pub returns : goal.returns
returns c = c.first_of.ensures ∙ field_last c.args.self.now.separator c.args.n c.loop.counter c.loop.rest.now c.loop-test.false ∙ c.loop.invariant
