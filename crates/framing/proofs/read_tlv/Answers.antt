-- `read_tlv` meets its contract: an exit for each case of `read_tlv_lem`.
use mathlib.Core.Path.{◌∙◌}
use native.Mathlib.Omega.{arith}
use Rattle.numbers.proofs.Bytes.{number_at_lem}
use Rattle.framing.proofs.Reading.{short, past_end, whole}
use borrow.Author.Rules.{rules}
use Rattle.framing.proofs.read_tlv.Goals as goal

pub returns-then-s-lt3 : goal.returns-then-s-lt3
returns-then-s-lt3 c = short _ c.if-s-lt3.true

pub returns-then-s-consumed : goal.returns-then-s-consumed
returns-then-s-consumed c =
    let s = c.args.s.now in
    past_end s _ (c.be16-value_length.ensures.0 ∙ number_at_lem 2 1 s (omega arith)) (search rules) c.if-s-consumed.true

pub returns : goal.returns
returns c =
    let s = c.args.s.now in
    whole s _ (c.be16-value_length.ensures.0 ∙ number_at_lem 2 1 s (omega arith)) (search rules) (search rules)
