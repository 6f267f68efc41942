-- `order_of` meets its contract: an exit for each case of `file_order`.
use mathlib.Core.Path.{sym, ◌∙◌}
use mathlib.Core.Bool.{true, false}
use Rattle.captures.proofs.Heads.{cut, high, low, neither}
use borrow.Author.Rules.{rules}
use Rattle.captures.proofs.reading.order_of.Goals as goal

pub returns-then-file-lt24 : goal.returns-then-file-lt24
returns-then-file-lt24 c = cut _ c.if-file-lt24.true

pub returns-then-is_ours : goal.returns-then-is_ours
returns-then-is_ours c = high _ (search rules) _ c.four_at.ensures.0 c.if-four_at-eq-MAGIC.true true (sym c.if-is_ours.true ∙ c.is_ours.ensures)

pub returns-then-four_at-eq-MAGIC : goal.returns-then-four_at-eq-MAGIC
returns-then-four_at-eq-MAGIC c = high _ (search rules) _ c.four_at.ensures.0 c.if-four_at-eq-MAGIC.true false (sym c.if-is_ours.false ∙ c.is_ours.ensures)

pub returns-then-is_ours-2 : goal.returns-then-is_ours-2
returns-then-is_ours-2 c = low _ (search rules) _ c.four_at.ensures.0 c.if-four_at-eq-MAGIC.false _ c.four_at-2.ensures.0 c.if-four_at-eq-MAGIC-2.true true (sym c.if-is_ours-2.true ∙ c.is_ours-then-four_at-eq-MAGIC-2.ensures)

pub returns-else-is_ours-2 : goal.returns-else-is_ours-2
returns-else-is_ours-2 c = low _ (search rules) _ c.four_at.ensures.0 c.if-four_at-eq-MAGIC.false _ c.four_at-2.ensures.0 c.if-four_at-eq-MAGIC-2.true false (sym c.if-is_ours-2.false ∙ c.is_ours-then-four_at-eq-MAGIC-2.ensures)

pub returns-else-four_at-eq-MAGIC-2 : goal.returns-else-four_at-eq-MAGIC-2
returns-else-four_at-eq-MAGIC-2 c = neither _ (search rules) _ c.four_at.ensures.0 c.if-four_at-eq-MAGIC.false _ c.four_at-2.ensures.0 c.if-four_at-eq-MAGIC-2.false
