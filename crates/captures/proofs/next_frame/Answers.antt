-- `next_frame` meets its contract: the frames ahead stay the same over others, and what is left of the file falls.
use mathlib.Core.Path.{sym, ap, ◌∙◌}
use native.Mathlib.Omega.{arith}
use Rattle.numbers.specs.Numbers.{gives}
use Rattle.captures.specs.Reading.{found_of}
use Rattle.captures.specs.declared.Reached.{Reached}
use Rattle.captures.proofs.Checking.{forward}
use Rattle.captures.proofs.Handing.{ours_ahead, other_ahead, none_ahead, none_past}
use Rattle.captures.proofs.next_frame.Goals as goal

pub returns-in-Ok-Ours : goal.returns-in-Ok-Ours
returns-in-Ok-Ours c = c.loop-frame.invariant ∙ ours_ahead _ _ _ _ (ap (λ (r : Reached). gives (found_of r)) (sym c.in-Ok-Ours.field-0-is) ∙ c.in-Ok-Ours.ensures)

pub loop-frame-smaller : goal.loop-frame-smaller
loop-frame-smaller c =
    let o = forward _ _ _ _ (ap (λ (r : Reached). gives (found_of r)) (sym c.in-Ok-Other.field-0-is) ∙ c.in-Ok-Other.ensures) in
    omega (arith, o.0, o.1)

pub loop-frame-preserved : goal.loop-frame-preserved
loop-frame-preserved c = c.loop-frame.invariant ∙ other_ahead _ _ _ (ap (λ (r : Reached). gives (found_of r)) (sym c.in-Ok-Other.field-0-is) ∙ c.in-Ok-Other.ensures)

pub returns-in-Ok-FileEnd : goal.returns-in-Ok-FileEnd
returns-in-Ok-FileEnd c = c.loop-frame.invariant ∙ none_ahead _ _ (ap (λ (r : Reached). gives (found_of r)) (sym c.in-Ok-FileEnd.field-0-is) ∙ c.in-Ok-FileEnd.ensures)

pub returns-in-Err : goal.returns-in-Err
returns-in-Err c = c.loop-frame.invariant ∙ none_past _ _ _ _ c.in-Err.ensures
