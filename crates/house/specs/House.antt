-- The house (rules H1 to H4): what the records of a capture do, one after the other, to a fragment table with its store
-- and to a station table.
use Rattle.std.specs.Prelude.{Bool, List, [], map, ℕ, ◌+◌, eqb, length, take, drop, Option, Some, None, Result, Ok, Err}
use Rattle.numbers.specs.Numbers.{Answer, gives, refuses}
use Rattle.numbers.specs.declared.Refusal.{Refusal}
use Rattle.walking.specs.Steps.{Ahead, ended, passed, last}
use Rattle.walking.specs.declared.Tlv.{Tlv}
use Rattle.walking.specs.Walk.{walk_of}
use Rattle.machines.specs.Machine.{those, run}
use Rattle.machines.specs.Happened.{Asks, asks_for, asks_nothing}
use Rattle.table.specs.declared.Table.{Table}
use Rattle.table.specs.Rows.{fresh_table}
use Rattle.sweeping.specs.Sweep.{swept}
use Rattle.pushing.specs.Push.{PushAnswer, waiting, Way, way, table_by, store_by, output_by, answer_by}
use Rattle.orders.specs.Runs.{finished_by}
use Rattle.stations.specs.Rows.{Stations, fresh_stations}
use Rattle.stations.specs.Events.{association_code, table_from}
use Rattle.captures.specs.declared.Frame.{Frame}
use Rattle.captures.specs.declared.Reached.{Reached}
use Rattle.captures.specs.Reading.{Captured, ours, other}
use Rattle.captures.specs.HandedBack.{Arrived, arrived_in}

-- Rule H1: the tables of a house.
pub record House : Type 0 where
  pub table : Table
  pub store : List ℕ
  pub stations : Stations

-- the house that some tables are
abbrev pub house_of : Table → List ℕ → Stations → House
house_of table store stations = record { table = table; store = store; stations = stations }

-- Rule H1: before its first frame both tables are fresh. The store holds anything.
abbrev pub fresh_house : List ℕ → House
fresh_house store = house_of fresh_table store fresh_stations

-- Rule H3: a TLV that brings an event, and its value in a message.
abbrev pub is_event : Tlv → Bool
is_event v = eqb v.tlv_type association_code

abbrev pub event_value : List ℕ → Tlv → List ℕ
event_value m v = take v.length (drop (v.offset + 3) m)

unfoldable pub event_values : List ℕ → List Tlv → List (List ℕ)
event_values m vs = map (event_value m) (those is_event vs)

-- Rule H3: the events of a message, by their values and in their order. A message that doesn't walk to its end has none.
abbrev pub events_by : Answer ℕ → List (List ℕ) → List (List ℕ)
events_by (gives padding) values = values
events_by (refuses n vs) values = []

unfoldable pub events_in : List ℕ → List (List ℕ)
events_in m = events_by (walk_of m).end (event_values m (walk_of m).items)

-- Rule H3: the stations after a message.
abbrev pub after_message : Stations → List ℕ → Stations
after_message t m = run table_from t (events_in m)

-- Rule H2: the table once it is swept at the fragment's time, and the way that the push then goes, with an output of
-- `room` bytes.
abbrev pub swept_for : House → Arrived → Table
swept_for z x = (swept z.table x.arrival.time).table

abbrev pub way_in : ℕ → House → Arrived → Way
way_in room z x = way (swept_for z x) z.store x.arrival x.payload room

-- Rules H2 and T10: the message that it makes whole. There are no bytes where it makes none whole.
abbrev pub message_of_lem : ℕ → House → Arrived → List ℕ
message_of_lem room z x = finished_by (way_in room z x) x.payload

-- Rules H2 and H3: the sweep, the push, and the events of a message that is whole.
abbrev pub after_arrival : ℕ → House → Arrived → House
after_arrival room z x = record {
  table = table_by (way_in room z x) (swept_for z x) x.arrival (length x.payload);
  store = store_by (way_in room z x) z.store x.payload;
  stations = after_message z.stations (message_of_lem room z x);
}

-- Rule H4: what a record of the file s brings. A frame that is passed over brings nothing, and so does a step that goes
-- over no record.
abbrev pub brought_of : List ℕ → Captured → Asks Arrived
brought_of s (ours f) = asks_for (arrived_in s f)
brought_of s other = asks_nothing

abbrev pub brought_by : List ℕ → Answer (Ahead Captured) → Asks Arrived
brought_by s (gives (passed c next)) = brought_of s c
brought_by s (gives (last c end)) = asks_nothing
brought_by s (gives ended) = asks_nothing
brought_by s (refuses n vs) = asks_nothing

-- Rule H4: the 1905 frame that a step went over, if it did.
abbrev pub frame_in_lem : Result Reached Refusal → Option Frame
frame_in_lem (Ok Reached.FileEnd) = None
frame_in_lem (Ok (Reached.Ours f next)) = Some f
frame_in_lem (Ok (Reached.Other next)) = None
frame_in_lem (Err r) = None

-- Rules H2 and H4: the house afterwards, what push answered, and what the output holds. Where nothing is brought, nothing
-- happens; "waiting" then stands for no answer.
abbrev pub after_brought : ℕ → House → Asks Arrived → House
after_brought room z (asks_for x) = after_arrival room z x
after_brought room z asks_nothing = z

abbrev pub answer_to_brought : ℕ → House → Asks Arrived → Answer PushAnswer
answer_to_brought room z (asks_for x) = answer_by (way_in room z x)
answer_to_brought room z asks_nothing = gives waiting

abbrev pub output_after : ℕ → House → Asks Arrived → List ℕ → List ℕ
output_after room z (asks_for x) out = output_by (way_in room z x) out
output_after room z asks_nothing out = out
