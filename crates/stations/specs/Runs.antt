-- Calls of `event` and `event_from` that happened, and the events that they brought.
use Rattle.std.specs.Prelude.{◌≡◌, Bool, true, false, not, List, [], ◌∷◌, ◌++◌, ℕ, eqb, Result}
use Rattle.machines.specs.Machine.{those}
use Rattle.machines.specs.Happened.{Outcome, Asks, asks_for, asks_nothing, steps_of}
use Rattle.numbers.specs.Numbers.{Answer, gives, refuses, answered, mapped, is_given}
use Rattle.numbers.specs.declared.Refusal.{Refusal}
use Rattle.records.specs.declared.ClientAssociation.{ClientAssociation}
use Rattle.stations.specs.declared.Heard.{Heard}
use Rattle.stations.specs.declared.Taken.{Taken}
use Rattle.stations.specs.declared.reading.AssociationRead.{AssociationRead}
use Rattle.stations.specs.Whereabouts.{Event, event_of}
use Rattle.stations.specs.Rows.{Stations, answer_to, table_after}
use Rattle.stations.specs.Events.{association_read, answer_from, table_from}

-- Rule P6: an event comes as a record or in a value. And what its caller got.
pub data EventAsked : Type 0 where
  of_record : ClientAssociation → EventAsked
  of_value : List ℕ → EventAsked

pub data EventGot : Type 0 where
  from_event : Result Heard Refusal → EventGot
  from_value : Result Taken Refusal → EventGot

abbrev pub StationCall : Type 0
StationCall = Outcome Stations EventAsked EventGot

-- the contracts of the two calls, as src/lib.rt has them
abbrev pub event_meets : Stations → EventAsked → EventGot → Stations → Type 0
event_meets t (of_record e) (from_event r) t' = (answered r ≡ answer_to t (event_of e)) × (t' ≡ table_after t (event_of e))
event_meets t (of_value value) (from_value r) t' = (answered r ≡ answer_from t value) × (t' ≡ table_from t value)
event_meets t (of_record e) (from_value r) t' = ⊥
event_meets t (of_value value) (from_event r) t' = ⊥

abbrev pub station_contract : StationCall → Type 0
station_contract o = event_meets o.was o.asked o.got o.became

-- the event that a call brings: none, where its value doesn't read
abbrev pub event_read_lem : Answer AssociationRead → Asks Event
event_read_lem (gives x) = asks_for (event_of x.client)
event_read_lem (refuses n vs) = asks_nothing

abbrev pub event_by : EventAsked → Asks Event
event_by (of_record e) = asks_for (event_of e)
event_by (of_value value) = event_read_lem (association_read value)

abbrev pub events_of : List StationCall → List Event
events_of = steps_of event_by

-- what the caller heard, whichever call it was; and whether that is no refusal
abbrev pub heard_in : EventGot → Answer Heard
heard_in (from_event r) = answered r
heard_in (from_value r) = mapped (λ x. x.heard) (answered r)

abbrev pub heard_by : StationCall → Answer Heard
heard_by o = heard_in o.got

abbrev pub was_heard : StationCall → Bool
was_heard o = is_given (heard_by o)

abbrev pub NoneRefused : List StationCall → Type 0
NoneRefused calls = those (λ o. not (was_heard o)) calls ≡ []

-- an event is a station's own, and so is the call that brings it
abbrev pub is_of_station : ℕ → Event → Bool
is_of_station station e = eqb e.station station

abbrev pub asks_of_station : ℕ → Asks Event → Bool
asks_of_station station (asks_for e) = is_of_station station e
asks_of_station station asks_nothing = false

abbrev pub brought_for : ℕ → StationCall → Bool
brought_for station o = asks_of_station station (event_by o.asked)

-- a table accepts an event
abbrev pub takes_event : Stations → Event → Bool
takes_event t e = is_given (answer_to t e)

-- Rule P5, for one station's accepted events: the latest join named this access point, and no leave after it did.
pub record LatestJoin (point : ℕ) (events : List Event) : Type 0 where
  pub before : List Event
  pub join : Event
  pub later : List Event
  pub are : events ≡ before ++ (join ∷ later)
  pub joins : join.is_join ≡ true
  pub named : join.point ≡ point
  pub latest : those (λ e. e.is_join) later ≡ []
  pub not_left : those (λ e. eqb e.point point) later ≡ []
