-- `check` meets its contract: what the loop keeps is `Counting`, and what is left of the file falls.
use mathlib.Core.Path.{sym, ap, ◌∙◌}
use native.Mathlib.Omega.{arith}
use Rattle.numbers.specs.Numbers.{gives}
use Rattle.captures.specs.Reading.{found_of}
use Rattle.captures.specs.declared.Reached.{Reached}
use Rattle.captures.proofs.Checking.{begins, forward, ours_next, other_next, ends, refused}
use Rattle.captures.proofs.check.Goals as goal

pub loop-found-init : goal.loop-found-init
loop-found-init c = begins _

pub returns-in-Err : goal.returns-in-Err
returns-in-Err c = refused _ _ _ _ c.loop-found.invariant _ _ c.in-Err.ensures

pub returns-in-FileEnd : goal.returns-in-FileEnd
returns-in-FileEnd c = ends _ _ _ _ c.loop-found.invariant (ap (λ (r : Reached). gives (found_of r)) (sym c.in-FileEnd.is) ∙ c.in-Ok.ensures)

pub overflow_add-frames : goal.overflow_add-frames
overflow_add-frames c =
    let o = forward _ _ _ _ (ap (λ (r : Reached). gives (found_of r)) (sym c.in-Ours.is) ∙ c.in-Ok.ensures) in
    omega (arith, o.0, o.1, c.loop-found.invariant.slow)

pub loop-found-smaller-in-Ours : goal.loop-found-smaller-in-Ours
loop-found-smaller-in-Ours c =
    let o = forward _ _ _ _ (ap (λ (r : Reached). gives (found_of r)) (sym c.in-Ours.is) ∙ c.in-Ok.ensures) in
    omega (arith, o.0, o.1)

pub loop-found-preserved-in-Ours : goal.loop-found-preserved-in-Ours
loop-found-preserved-in-Ours c = ours_next _ _ _ _ c.loop-found.invariant _ _ (ap (λ (r : Reached). gives (found_of r)) (sym c.in-Ours.is) ∙ c.in-Ok.ensures)

pub overflow_add-others : goal.overflow_add-others
overflow_add-others c =
    let o = forward _ _ _ _ (ap (λ (r : Reached). gives (found_of r)) (sym c.in-Other.is) ∙ c.in-Ok.ensures) in
    omega (arith, o.0, o.1, c.loop-found.invariant.slow)

pub loop-found-smaller : goal.loop-found-smaller
loop-found-smaller c =
    let o = forward _ _ _ _ (ap (λ (r : Reached). gives (found_of r)) (sym c.in-Other.is) ∙ c.in-Ok.ensures) in
    omega (arith, o.0, o.1)

pub loop-found-preserved : goal.loop-found-preserved
loop-found-preserved c = other_next _ _ _ _ c.loop-found.invariant _ (ap (λ (r : Reached). gives (found_of r)) (sym c.in-Other.is) ∙ c.in-Ok.ensures)
