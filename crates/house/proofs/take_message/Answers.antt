-- `take_message` meets its contract: the walk says whether the events are taken.
use mathlib.Core.Path.{sym, ◌∙◌}
use Rattle.house.proofs.Taking.{walked_ok, walked, not_walked}
use Rattle.house.proofs.take_message.Goals as goal

pub returns-then-is_ok : goal.returns-then-is_ok
returns-then-is_ok c = c.take_events.ensures ∙ walked _ _ (sym c.if-is_ok.true ∙ c.is_ok.ensures.value ∙ walked_ok _ _ c.walk.ensures)

pub returns-else-is_ok : goal.returns-else-is_ok
returns-else-is_ok c = not_walked _ _ (sym c.if-is_ok.false ∙ c.is_ok.ensures.value ∙ walked_ok _ _ c.walk.ensures)
