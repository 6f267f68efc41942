-- `reads` meets its contract: a candidate reads where its value measures, and no other record reads.
use mathlib.Core.Path.{sym, ◌∙◌, ap}
use Rattle.finding.specs.Finding.{is_there_lem}
use Rattle.finding.proofs.Looking.{inside, measured, no_candidate}
use Rattle.finding.proofs.reads.Goals as goal

pub value_in-requires : goal.value_in-requires
value_in-requires c = let x = c.args in inside x.code x.payload.now x.t (sym c.is_candidate.ensures ∙ c.if-not-is_candidate.false)

pub returns : goal.returns
returns c = let x = c.args in c.is_ok.ensures.value ∙ measured x.code x.payload.now x.t _ _ c.measure.ensures c.value_in.ensures (sym c.is_candidate.ensures ∙ c.if-not-is_candidate.false)

pub returns-then-not-is_candidate : goal.returns-then-not-is_candidate
returns-then-not-is_candidate c = let x = c.args in ap is_there_lem (no_candidate x.code x.payload.now x.t (sym c.is_candidate.ensures ∙ c.if-not-is_candidate.true))
