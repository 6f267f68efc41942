-- `take_fragment` meets its contract: the sweep, the push and the taking of events, one after the other.
use mathlib.Core.Path.{ap}
use Rattle.sweeping.specs.declared.Swept.{Swept}
use Rattle.pushing.proofs.Calls.{sweep_made}
use Rattle.house.proofs.Arriving.{arrived}
use Rattle.house.proofs.take_fragment.Goals as goal

pub push-answer-requires : goal.push-answer-requires
push-answer-requires c = sweep_made _ _ _ _ c.requires.0 c.sweep.ensures

pub returns : goal.returns
returns c = let whole = arrived _ _ _ _ _ _ _ _ (ap (λ (s : Swept). s.table) c.sweep.ensures) c.push-answer.ensures c.requires.0 c.requires.1 _ _ c.show.ensures.result_value c.take_message.ensures in record { house = whole.0; pushed = whole.1.0; made = whole.1.1 }
