-- `read_cmdu_header` meets its contract: an exit for each case of `read_header`.
use mathlib.Core.Path.{◌∙◌}
use native.Mathlib.Omega.{arith}
use Rattle.numbers.proofs.Bytes.{number_at_lem}
use Rattle.framing.proofs.Heading.{short, whole}
use borrow.Author.Rules.{rules}
use Rattle.framing.proofs.read_cmdu_header.Goals as goal

pub returns-then-s-lt8 : goal.returns-then-s-lt8
returns-then-s-lt8 c = short _ c.if-s-lt8.true

pub returns : goal.returns
returns c =
    let s = c.args.s.now in
    whole s _ _ (search rules) (c.be16-message_type.ensures.0 ∙ number_at_lem 2 2 s (omega arith)) (c.be16-message_id.ensures.0 ∙ number_at_lem 2 4 s (omega arith))
