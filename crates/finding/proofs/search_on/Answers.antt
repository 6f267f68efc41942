-- `search_on` meets its contract: what the end of the search is answered by.
use Rattle.std.proofs.Common.{sym, ◌∙◌, ap, rules}
use Rattle.numbers.specs.Numbers.{mapped}
use Rattle.finding.specs.Private.{going_on_lem}
use Rattle.finding.proofs.search_on.Goals as goal

pub returns : goal.returns
returns c = ap (mapped (going_on_lem c.in_ok-spot.spot.next)) c.in_ok-hit.ensures ∙ c.in_ok-spot.ensures

pub returns-in_err-hit : goal.returns-in_err-hit
returns-in_err-hit c =
    rw (sym (ap (mapped (going_on_lem c.in_ok-spot.spot.next)) c.in_err-hit.ensures ∙ c.in_ok-spot.ensures)) (search rules)

pub returns-in_err-spot : goal.returns-in_err-spot
returns-in_err-spot c = rw (sym c.in_err-spot.ensures) (search rules)
