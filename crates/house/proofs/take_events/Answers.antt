-- `take_events` meets its contract: what the loop keeps is `Taking`, and what is left of the message falls.
use mathlib.Core.Path.{sym, ap, ◌∙◌}
use native.Mathlib.Omega.{arith}
use Rattle.std.specs.Prelude.{Ok}
use Rattle.walking.specs.declared.Stepped.{Stepped}
use Rattle.walking.specs.Walk.{stepped_of}
use Rattle.walking.proofs.Stepping.{passes}
use Rattle.house.proofs.Taking.{begins, faulty, ended, goes_on}
use Rattle.house.proofs.take_events.Goals as goal

pub loop-stepped-init : goal.loop-stepped-init
loop-stepped-init c = begins _ _

pub take_tlv-requires : goal.take_tlv-requires
take_tlv-requires c =
    let o = passes _ _ _ _ (ap (λ (s : Stepped). stepped_of (Ok s)) (sym c.in-Tlv.is) ∙ c.in-Ok.ensures) in
    (omega (arith, o.starts, o.behind), o.inside)

pub loop-stepped-smaller : goal.loop-stepped-smaller
loop-stepped-smaller c =
    let o = passes _ _ _ _ (ap (λ (s : Stepped). stepped_of (Ok s)) (sym c.in-Tlv.is) ∙ c.in-Ok.ensures) in
    omega (arith, o.behind, o.inside)

pub loop-stepped-preserved : goal.loop-stepped-preserved
loop-stepped-preserved c = goes_on _ _ _ _ c.loop-stepped.invariant _ _ _ (ap (λ (s : Stepped). stepped_of (Ok s)) (sym c.in-Tlv.is) ∙ c.in-Ok.ensures) c.take_tlv.ensures

pub returns-in_default-stepped : goal.returns-in_default-stepped
returns-in_default-stepped c = ended _ _ _ _ c.loop-stepped.invariant c.in-Ok.stepped c.in_default-stepped.not-Tlv c.in-Ok.ensures

pub returns : goal.returns
returns c = faulty _ _ _ _ c.loop-stepped.invariant _ (ap stepped_of (sym c.in_default.is) ∙ c.step.ensures)
