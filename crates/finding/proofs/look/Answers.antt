-- `look` meets its contract: a candidate reads as its value does, and no other record reads.
use mathlib.Core.Path.{sym, ◌∙◌, ap}
use mathlib.Core.Option.{Option}
use Rattle.records.specs.declared.Record.{Record}
use Rattle.kinds.specs.declared.Typed.{Typed}
use Rattle.finding.specs.Private.{looked_as}
use Rattle.finding.proofs.Looking.{inside, looked_at, no_candidate}
use Rattle.finding.proofs.look.Goals as goal

pub value_in-requires : goal.value_in-requires
value_in-requires c = let x = c.args in inside x.code x.payload.now x.t (sym c.is_candidate.ensures ∙ c.if-not-is_candidate.false)

pub returns-in-Ok : goal.returns-in-Ok
returns-in-Ok c = let x = c.args in looked_at x.code x.payload.now x.t x.looked _ _ c.in-Ok.ensures c.value_in.ensures (sym c.is_candidate.ensures ∙ c.if-not-is_candidate.false)

pub returns-in-Err : goal.returns-in-Err
returns-in-Err c = let x = c.args in looked_at x.code x.payload.now x.t x.looked _ _ c.in-Err.ensures c.value_in.ensures (sym c.is_candidate.ensures ∙ c.if-not-is_candidate.false)

pub returns-then-not-is_candidate : goal.returns-then-not-is_candidate
returns-then-not-is_candidate c =
    let x = c.args in
    ap (λ (y : Option (Typed Record)). looked_as y x.looked x.t) (no_candidate x.code x.payload.now x.t (sym c.is_candidate.ensures ∙ c.if-not-is_candidate.true))
