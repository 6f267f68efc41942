-- Where a station is (rules P2 to P4), in stations and access points alone: each is the number of its address.
use Rattle.std.specs.Prelude.{Bool, true, false, cond, ◌&&◌, [], ℕ, eqb}
use Rattle.numbers.specs.Numbers.{Answer, gives, refuses}
use Rattle.records.specs.declared.AssociationState.{AssociationState}
use Rattle.records.specs.declared.ClientAssociation.{ClientAssociation}
use Rattle.stations.specs.declared.Heard.{Heard}
use Rattle.stations.specs.Addresses.{address_number, address_of}

pub data Whereabouts : Type 0 where
  nowhere : Whereabouts
  at : ℕ → Whereabouts

-- Rule P6: an event says that a station joined an access point, or left it.
pub record Event : Type 0 where
  pub station : ℕ
  pub point : ℕ
  pub is_join : Bool

abbrev pub is_joined : AssociationState → Bool
is_joined AssociationState.JoinedBss = true
is_joined AssociationState.LeftBss = false

abbrev pub event_of : ClientAssociation → Event
event_of a = record { station = address_number a.sta_mac; point = address_number a.ap_mac; is_join = is_joined a.association_state }

abbrev pub is_at : ℕ → Whereabouts → Bool
is_at point nowhere = false
is_at point (at p) = eqb p point

abbrev pub is_nowhere : Whereabouts → Bool
is_nowhere nowhere = true
is_nowhere (at p) = false

-- Rules P2 and P3: where a station is after an accepted event of its own. A join puts it where the join names. A leave
-- from the access point where the station is takes it away. Any other leave changes nothing.
abbrev pub where_after : Event → Whereabouts → Whereabouts
where_after e was = cond e.is_join (at e.point) (cond (is_at e.point was) nowhere was)

-- Rules P2 and P3, the answers: a join says whether the station is new, has moved, or was there already. A leave says
-- whether it removed the station or was stale.
abbrev pub heard_of_join : ℕ → Whereabouts → Heard
heard_of_join point nowhere = Heard.New
heard_of_join point (at p) = cond (eqb p point) Heard.There (Heard.Moved (address_of p))

abbrev pub heard_of : Event → Whereabouts → Heard
heard_of e was = cond e.is_join (heard_of_join e.point was) (cond (is_at e.point was) Heard.Removed Heard.Stale)

-- Rule P4: 17 for a join of a station that is nowhere while the table is full. No other event is refused.
abbrev pub answer_at : (full : Bool) → Event → Whereabouts → Answer Heard
answer_at full e was = cond (e.is_join && (is_nowhere was && full)) (refuses 17 []) (gives (heard_of e was))
