-- What is claimed about this crate's calls, and about calls that happened: the records Firmness and Claims, which
-- proofs/Claims.antt proves.
use Rattle.std.specs.Prelude.{◌≡◌, true, false, List, [], ◌∷◌, ◌++◌, map, ℕ, ◌<◌, ◌≤◌, get_or, Option, Result}
use Rattle.numbers.specs.Numbers.{gives, refuses, answered, is_given}
use Rattle.numbers.specs.declared.Refusal.{Refusal}
use Rattle.numbers.specs.Firmness.{Firm}
use Rattle.machines.specs.Machine.{those, run}
use Rattle.machines.specs.Happened.{Happened, and_steps}
use Rattle.records.specs.declared.MacAddr.{MacAddr}
use Rattle.records.specs.declared.ClientAssociation.{ClientAssociation}
use Rattle.records.specs.declared.Record.{Record}
use Rattle.records.specs.declared.RecordRead.{RecordRead}
use Rattle.records.specs.Reading.{read_record_lem}
use Rattle.records.specs.Values.{octets, association_in_lem}
use Rattle.stations.specs.declared.Heard.{Heard}
use Rattle.stations.specs.declared.Taken.{Taken}
use Rattle.stations.specs.declared.Seat.{Seat}
use Rattle.stations.specs.Addresses.{address_number, address_of}
use Rattle.stations.specs.Whereabouts.{Whereabouts, nowhere, at, Event, event_of, where_after}
use Rattle.stations.specs.Rows.{Stations, fresh_stations, rows, point_at, where_of, all_held, answer_to, table_after, free_row, held_row, row_at, count_of, where_shown, row_shown}
use Rattle.stations.specs.Events.{association_code, answer_from, table_from}
use Rattle.stations.specs.Runs.{StationCall, station_contract, of_value, event_by, events_of, heard_by, was_heard, NoneRefused, is_of_station, brought_for, takes_event, LatestJoin}

-- Rule A4, for each public call by its name: any two answers, with the table that was lent, that its contract allows
-- are one.
pub record Firmness : Type 0 where
  pub fresh : Firm {A = Stations} (λ r. r ≡ fresh_stations)
  pub event : (t : Stations) (e : ClientAssociation) → Firm {A = Result Heard Refusal × Stations} (λ o. (answered o.0 ≡ answer_to t (event_of e)) × (o.1 ≡ table_after t (event_of e)))
  pub event_from : (t : Stations) (value : List ℕ) → Firm {A = Result Taken Refusal × Stations} (λ o. (answered o.0 ≡ answer_from t value) × (o.1 ≡ table_from t value))
  pub where_is : (t : Stations) (station : MacAddr) → Firm {A = Option MacAddr} (λ r. r ≡ where_shown (where_of t (address_number station)))
  pub count : (t : Stations) → Firm (λ r. r ≡ count_of t)
  pub row : (t : Stations) (n : ℕ) → Firm {A = Option Seat} (λ r. r ≡ row_shown (row_at t n))

-- a table that calls made from a fresh one
pub record StationsMade (t : Stations) : Type 0 where
  pub calls : List StationCall
  pub happened : Happened station_contract fresh_stations calls t

-- Rules P2 and P3: an event's own station goes where the event says. Every other one stays where it was.
pub record Moves (t : Stations) (e : Event) : Type 0 where
  pub own : takes_event t e ≡ true → where_of (table_after t e) e.station ≡ where_after e (where_of t e.station)
  pub others : (station : ℕ) → (station ≡ e.station → ⊥) → where_of (table_after t e) station ≡ where_of t station

-- Rule P4: the one refusal is 17, for a join of a station that is not held while 128 are. It changes nothing (rule A3).
pub record WhyRefused (t : Stations) (e : Event) : Type 0 where
  pub number : answer_to t e ≡ refuses 17 []
  pub join : e.is_join ≡ true
  pub unknown : where_of t e.station ≡ nowhere
  pub full : count_of t ≡ 128
  pub unaltered : table_after t e ≡ t

-- Rules P2 and P3: when each answer is given, by where the event's station was. A join says whether the station is new,
-- has moved and from where, or was there already. A leave removes the station if it names the access point where the
-- station is. Every other leave is stale.
pub record MovedFrom (from : MacAddr) (point : ℕ) (was : Whereabouts) : Type 0 where
  pub came_from : ℕ
  pub there : was ≡ at came_from
  pub elsewhere : came_from ≡ point → ⊥
  pub shown_as : from ≡ address_of came_from

abbrev pub HeardWhen : Event → Whereabouts → Heard → Type 0
HeardWhen e was Heard.New = (e.is_join ≡ true) × (was ≡ nowhere)
HeardWhen e was (Heard.Moved from) = (e.is_join ≡ true) × MovedFrom from e.point was
HeardWhen e was Heard.There = (e.is_join ≡ true) × (was ≡ at e.point)
HeardWhen e was Heard.Removed = (e.is_join ≡ false) × (was ≡ at e.point)
HeardWhen e was Heard.Stale = (e.is_join ≡ false) × (was ≡ at e.point → ⊥)

pub record AnsweredWhen (t : Stations) (e : Event) (h : Heard) : Type 0 where
  pub only : answer_to t e ≡ gives h → HeardWhen e (where_of t e.station) h
  pub if : takes_event t e ≡ true → HeardWhen e (where_of t e.station) h → answer_to t e ≡ gives h

-- Rule P4: a table is full where 128 stations are held.
pub record FullIs128 (t : Stations) : Type 0 where
  pub only : all_held t ≡ true → count_of t ≡ 128
  pub if : count_of t ≡ 128 → all_held t ≡ true

-- a row holds a station with its access point
pub record InRow (t : Stations) (station point : ℕ) : Type 0 where
  pub row : ℕ
  pub is : row_at t row ≡ held_row station point

-- Rules P1 and P7, for a table that calls made. It holds at most 128 stations, none of them twice. A free row is as a
-- fresh one. The rows list the stations where they are.
pub record SoundStations (t : Stations) : Type 0 where
  pub at_most : count_of t ≤ 128
  pub once : (station i p j q : ℕ) → row_at t i ≡ held_row station p → row_at t j ≡ held_row station q → i ≡ j
  pub free_is_fresh : (i : ℕ) → i < rows → row_at t i ≡ free_row → (get_or t i 0 ≡ 0) × (point_at t i ≡ 0)
  pub rows_list : (station point i : ℕ) → row_at t i ≡ held_row station point → where_of t station ≡ at point
  pub in_a_row : (station point : ℕ) → where_of t station ≡ at point → InRow t station point

-- Rule P5, both ways: a station is at an access point if its accepted events say so, and only then. Any calls may have
-- led from a fresh table to the table t, and room for all is not asked for.
pub record ExactlyWhen (station point : ℕ) (calls : List StationCall) (t : Stations) : Type 0 where
  pub only : where_of t station ≡ at point → LatestJoin point (those (is_of_station station) (events_of (those was_heard calls)))
  pub if : LatestJoin point (those (is_of_station station) (events_of (those was_heard calls))) → where_of t station ≡ at point

-- Rule D4: events of different stations may change places. For each station, its own events are the same list in both.
abbrev pub EventsReordered : List Event → List Event → Type 0
EventsReordered events events' = (station : ℕ) → those (is_of_station station) events ≡ those (is_of_station station) events'

-- Rule D4: each call gets the same answer, and afterwards every station is at the same access point in both tables.
pub record SameStations (calls calls' : List StationCall) (t t' : Stations) : Type 0 where
  pub heard : (station : ℕ) → map heard_by (those (brought_for station) calls) ≡ map heard_by (those (brought_for station) calls')
  pub whereabouts : (station : ℕ) → where_of t station ≡ where_of t' station

pub record Claims : Type 0 where
  pub firmness : Firmness
  pub moves : (t : Stations) → StationsMade t → (e : Event) → Moves t e
  pub why_refused : (t : Stations) (e : Event) → takes_event t e ≡ false → WhyRefused t e
  pub answered_when : (t : Stations) (e : Event) (h : Heard) → AnsweredWhen t e h
  -- rule P3: a stale leave changes nothing
  pub stale_unaltered : (t : Stations) (e : Event) → answer_to t e ≡ gives Heard.Stale → table_after t e ≡ t
  pub full_is_128 : (t : Stations) → FullIs128 t
  pub sound : (t : Stations) → StationsMade t → SoundStations t
  pub exactly_when : (calls : List StationCall) (t : Stations) → Happened station_contract fresh_stations calls t → (station point : ℕ) → ExactlyWhen station point calls t
  -- rule D4; two neighbouring events of different stations that change places are such an order
  pub order_across_stations : (calls : List StationCall) (t : Stations) → Happened station_contract fresh_stations calls t → (calls' : List StationCall) (t' : Stations) → Happened station_contract fresh_stations calls' t'
      → EventsReordered (events_of calls) (events_of calls') → NoneRefused calls → NoneRefused calls' → SameStations calls calls' t t'
  pub swapped : (before behind : List Event) (e f : Event) → (e.station ≡ f.station → ⊥) → EventsReordered (before ++ e ∷ f ∷ behind) (before ++ f ∷ e ∷ behind)
  -- Rule P6: a value of kind 0x92 that reads gives an association, and the event in it is that event. A value that
  -- doesn't read has none. Whatever the number, a refusal changes nothing.
  pub reads_association : (value : List ℕ) (x : RecordRead) → read_record_lem association_code value ≡ gives x → x.value ≡ Record.ClientAssociation (association_in_lem value)
  pub value_refused : (t : Stations) (value : List ℕ) → is_given (answer_from t value) ≡ false → table_from t value ≡ t
  pub event_in_value : (t : Stations) (value : List ℕ) → table_from t value ≡ run table_after t (and_steps (event_by (of_value value)) [])
  -- an address of six octets is what its number is shown as
  pub address_kept : (m : MacAddr) → ((i : ℕ) → get_or (octets m) i 0 < 256) → address_of (address_number m) ≡ m
