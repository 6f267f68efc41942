-- `search` meets its contract: what the loop keeps is `Searching`, and what is left of the payload falls.
use mathlib.Core.Path.{sym, ◌∙◌, ap}
use native.Mathlib.Omega.{arith}
use mathlib.Core.List.{◌∷◌}
use Rattle.numbers.specs.Numbers.{gives, number, values}
use Rattle.walking.specs.Walk.{ahead_of}
use Rattle.walking.proofs.Stepping.{passes, lasts}
use Rattle.finding.proofs.Searching.{begins, ends, stops, marker_found, marker_passed, goes_on, found}
use borrow.Author.Rules.{rules}
use Rattle.finding.proofs.search.Goals as goal

pub loop-tlv-init : goal.loop-tlv-init
loop-tlv-init c = begins _ _ _ _ _ (search rules)

pub returns-in-End : goal.returns-in-End
returns-in-End c = ends _ _ _ _ _ _ _ c.loop-tlv.invariant (ap (λ s. gives (ahead_of s)) (sym c.in-End.is) ∙ c.in_ok-step.ensures)

pub overflow_add-looked : goal.overflow_add-looked
overflow_add-looked c =
    let o = passes _ _ _ _ (ap (λ s. gives (ahead_of s)) (sym c.in-Tlv.is) ∙ c.in_ok-step.ensures) in
    omega (arith, o.behind, o.inside, c.loop-tlv.invariant.slow)

pub returns-then-sought : goal.returns-then-sought
returns-then-sought c = found _ _ _ _ _ _ _ c.loop-tlv.invariant _ _ (ap (λ s. gives (ahead_of s)) (sym c.in-Tlv.is) ∙ c.in_ok-step.ensures) (sym c.if-sought.true ∙ c.is_sought-sought.ensures)

pub loop-tlv-smaller : goal.loop-tlv-smaller
loop-tlv-smaller c =
    let o = passes _ _ _ _ (ap (λ s. gives (ahead_of s)) (sym c.in-Tlv.is) ∙ c.in_ok-step.ensures) in
    omega (arith, o.behind, o.inside)

pub loop-tlv-preserved : goal.loop-tlv-preserved
loop-tlv-preserved c = goes_on _ _ _ _ _ _ _ c.loop-tlv.invariant _ _ (ap (λ s. gives (ahead_of s)) (sym c.in-Tlv.is) ∙ c.in_ok-step.ensures) (sym c.if-sought.false ∙ c.is_sought-sought.ensures)

pub overflow_add-looked-in-Last : goal.overflow_add-looked-in-Last
overflow_add-looked-in-Last c =
    let o = lasts _ _ _ _ (ap (λ s. gives (ahead_of s)) (sym c.in-Last.is) ∙ c.in_ok-step.ensures) in
    omega (arith, o.behind, o.inside, c.loop-tlv.invariant.slow)

pub returns-then-sought-2 : goal.returns-then-sought-2
returns-then-sought-2 c = marker_found _ _ _ _ _ _ _ c.loop-tlv.invariant _ _ (ap (λ s. gives (ahead_of s)) (sym c.in-Last.is) ∙ c.in_ok-step.ensures) (sym c.if-sought-2.true ∙ c.is_sought-sought-in-Last.ensures)

pub returns-in-Last : goal.returns-in-Last
returns-in-Last c = marker_passed _ _ _ _ _ _ _ c.loop-tlv.invariant _ _ (ap (λ s. gives (ahead_of s)) (sym c.in-Last.is) ∙ c.in_ok-step.ensures) (sym c.if-sought-2.false ∙ c.is_sought-sought-in-Last.ensures)

pub returns-in_err-step : goal.returns-in_err-step
returns-in_err-step c =
    let u = c.in_err-step.field-0.0 in
    rw (sym (stops _ _ _ _ _ _ _ c.loop-tlv.invariant (number u.refusal) (u.at ∷ values u.refusal) c.in_err-step.ensures)) (search rules)
