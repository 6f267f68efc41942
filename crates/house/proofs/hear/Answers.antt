-- `hear` meets its contract: a 1905 frame is a fragment that comes in, and whatever else the step goes over does
-- nothing.
use mathlib.Core.Path.{sym, ap, ◌∙◌}
use native.Mathlib.Omega.{arith}
use Rattle.pushing.specs.declared.Arrival.{Arrival}
use Rattle.house.proofs.Arriving.{hears_frame, hears_nothing}
use Rattle.house.proofs.hear.Goals as goal

-- the fragment's number is a byte, as the frame says
pub take_fragment-answer-requires : goal.take_fragment-answer-requires
take_fragment-answer-requires c = (c.requires, omega (arith, ap (λ (a : Arrival). a.fragment.number) c.arrival_of-a.ensures))

pub returns-in-Some : goal.returns-in-Some
returns-in-Some c =
    let a = c.args in
    let heard = c.take_fragment-answer.ensures in
    let whole = hears_frame a.file.now a.at a.out.now (record { table = a.t.now; store = a.store.now; stations = a.held.now }) c.step-reached.result c.step-reached.ensures c.in-Some.frame (sym c.in-Some.is ∙ c.frame_in.ensures) _ _ c.take_fragment-answer.result _ _ _ _ c.arrival_of-a.ensures c.payload.ensures.bytes (heard.house, (heard.pushed, heard.made)) in
    record { reached = whole.0; house = whole.1.0; pushed = whole.1.1.0; made = whole.1.1.1 }

pub returns : goal.returns
returns c =
    let a = c.args in
    let whole = hears_nothing a.file.now a.at a.out.now (record { table = a.t.now; store = a.store.now; stations = a.held.now }) c.step-reached.result c.step-reached.ensures (sym c.in_default.is ∙ c.frame_in.ensures) c.requires in
    record { reached = whole.0; house = whole.1.0; pushed = whole.1.1.0; made = whole.1.1.1 }
