-- `find_in_payload` meets its contract: 16, then the walk's refusal, then what the search found.
use Rattle.std.proofs.Common.{sym, ◌∙◌, ◌∷◌}
use Rattle.numbers.specs.Numbers.{number, values}
use Rattle.finding.proofs.Searching.{no_kind, unwalked, walked}
use Rattle.finding.proofs.find_in_payload.Goals as goal

pub returns-in-Ok : goal.returns-in-Ok
returns-in-Ok c = c.search_on.ensures ∙ walked _ _ _ (sym c.is_kind.ensures ∙ c.if-not-is_kind.false) c.in-Ok.field-0 c.in-Ok.ensures

pub returns-in-Err : goal.returns-in-Err
returns-in-Err c =
    let u = c.in-Err.stopped in
    unwalked c.args.code c.args.payload.now c.args.from (sym c.is_kind.ensures ∙ c.if-not-is_kind.false) (number u.refusal) (u.at ∷ values u.refusal) c.in-Err.ensures

pub returns-then-not-is_kind : goal.returns-then-not-is_kind
returns-then-not-is_kind c = no_kind _ _ _ (sym c.is_kind.ensures ∙ c.if-not-is_kind.true)
