-- `find_onward` meets its contract: 16, then what the search found from there.
use Rattle.std.proofs.Common.{sym, ◌∙◌}
use Rattle.finding.proofs.Searching.{no_kind_onward, onward_from, least_is}
use Rattle.finding.proofs.find_onward.Goals as goal

pub returns : goal.returns
returns c = c.search_on.ensures ∙ onward_from _ _ _ _ _ (sym c.is_kind.ensures ∙ c.if-not-is_kind.false) (c.min.ensures ∙ least_is _ _)

pub returns-then-not-is_kind : goal.returns-then-not-is_kind
returns-then-not-is_kind c = no_kind_onward _ _ _ _ (sym c.is_kind.ensures ∙ c.if-not-is_kind.true)
