-- `record_at` meets its contract: an exit for each case of `record_at_lem`.
use mathlib.Core.Path.{refl, ap, ◌∙◌}
use Rattle.numbers.specs.Numbers.{gives}
use Rattle.captures.proofs.Records.{at_end_lem, headless, unlike, cut, seen}
use borrow.Author.Rules.{rules}
use Rattle.captures.proofs.reading.Ordered.record_at.Goals as goal

pub returns-then-file-at : goal.returns-then-file-at
returns-then-file-at c = at_end_lem _ _ _ (search rules)

pub returns-then-have-lt16 : goal.returns-then-have-lt16
returns-then-have-lt16 c = headless _ _ _ (search rules) (search rules)

pub returns-then-stored-four_at : goal.returns-then-stored-four_at
returns-then-stored-four_at c = unlike _ _ _ (search rules) (search rules) _ _ c.four_at-stored.ensures.0 c.four_at.ensures.0 c.if-stored-four_at.true

pub returns-then-left-stored : goal.returns-then-left-stored
returns-then-left-stored c = cut _ _ _ (search rules) (search rules) _ _ c.four_at-stored.ensures.0 c.four_at.ensures.0 c.if-stored-four_at.false c.if-left-stored.true

pub returns : goal.returns
returns c =
    ap gives c.captured.ensures ∙ seen _ _ _ (search rules) (search rules) _ _ c.four_at-stored.ensures.0 c.four_at.ensures.0 c.if-stored-four_at.false c.if-left-stored.false _ _ c.four_at-seconds.ensures.0 c.four_at-microseconds.ensures.0 _ refl
