-- `take_tlv` meets its contract: the value is what lies between the TLV's three bytes and its end.
use mathlib.Core.Path.{refl}
use Rattle.house.proofs.Taking.{event, no_event}
use Rattle.house.proofs.take_tlv.Goals as goal

pub returns-then-tlv-eq-EVENT : goal.returns-then-tlv-eq-EVENT
returns-then-tlv-eq-EVENT c = event _ _ _ _ _ _ c.if-tlv-eq-EVENT.true c.requires.0 refl c.event_from.ensures.1

pub returns-else-tlv-eq-EVENT : goal.returns-else-tlv-eq-EVENT
returns-else-tlv-eq-EVENT c = no_event _ _ _ c.if-tlv-eq-EVENT.false
