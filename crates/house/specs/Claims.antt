-- What is claimed of this crate's call, and of frames one after the other; proofs/Claims.antt proves it.
use Rattle.std.specs.Prelude.{◌≡◌, Bool, true, List, [], ◌++◌, map, ℕ, ◌+◌, ◌<◌, ◌≤◌, length}
use Rattle.numbers.specs.Numbers.{gives, refuses}
use Rattle.numbers.specs.Bytes.{AllBytes}
use Rattle.numbers.specs.Firmness.{Firm}
use Rattle.walking.specs.Steps.{passed}
use Rattle.machines.specs.Machine.{those, run, remaining, gathered}
use Rattle.machines.specs.Happened.{Asks, asks_for}
use Rattle.table.specs.declared.Table.{Table}
use Rattle.table.specs.Rows.{place_size, store_size}
use Rattle.pushing.specs.Push.{pushed_of, answer_by}
use Rattle.pushing.specs.Made.{Made}
use Rattle.stations.specs.Rows.{Stations, fresh_stations, where_of, table_after}
use Rattle.stations.specs.Whereabouts.{at, Event}
use Rattle.stations.specs.Runs.{is_of_station, takes_event, LatestJoin}
use Rattle.orders.specs.Runs.{Push, start, holding, ends, mine, crossed, replies_to}
use Rattle.orders.specs.Claims.{CoversRoom}
use Rattle.captures.specs.Claims.{Each}
use Rattle.captures.specs.Reading.{Captured, file_step, reached_of, frames_in}
use Rattle.captures.specs.HandedBack.{Arrived, arrived_in}
use Rattle.house.specs.declared.AfterRecord.{AfterRecord}
use Rattle.house.specs.House.{House, house_of, fresh_house, swept_for, way_in, after_arrival, brought_of, brought_by, after_brought, answer_to_brought, output_after}
use Rattle.house.specs.Story.{after_all, after_one, after_records, is_heard, messages_in, events_of_all, calls_for, arrived_as, replies_left}
use Rattle.house.specs.Windows.{window_of, file_around, onwards, after_file, Coming, bytes_coming, after_windows, SkipsLong}

-- Rule A4: any two outcomes that the contract allows are one, in the answers, the tables, and every byte of the store and
-- of the output.
pub record Firmness : Type 0 where
  pub hear : (t : Table) (store out : List ℕ) (held : Stations) (file : List ℕ) (at : ℕ)
      → Firm {A = AfterRecord × Table × List ℕ × List ℕ × Stations} (λ o. (reached_of o.0.reached ≡ file_step file at)
      × (house_of o.1 o.2 o.4 ≡ after_brought (length out) (house_of t store held) (brought_by file (file_step file at)))
      × ((pushed_of o.0.answer ≡ answer_to_brought (length out) (house_of t store held) (brought_by file (file_step file at)))
      × (o.3 ≡ output_after (length out) (house_of t store held) (brought_by file (file_step file at)) out))
      × Made o.1)

-- Rule H5: a station is at an access point exactly when its own latest accepted join among these events named that one, and
-- no leave of it after that join did.
pub record ExactlyAt (station point : ℕ) (events : List Event) (t : Stations) : Type 0 where
  pub only : where_of t station ≡ at point → LatestJoin point (those (is_of_station station) (remaining table_after takes_event fresh_stations events))
  pub if : LatestJoin point (those (is_of_station station) (remaining table_after takes_event fresh_stations events)) → where_of t station ≡ at point

-- Rule H5, the story: whatever frames come to fresh tables, the stations are where the events of the messages, in the order
-- in which these became whole, put them.
pub record TheStory (room : ℕ) (store : List ℕ) (xs : List Arrived) : Type 0 where
  pub put_there : (after_all room (fresh_house store) xs).stations ≡ run table_after fresh_stations (events_of_all (messages_in room (fresh_house store) xs))
  pub exactly : (station point : ℕ) → ExactlyAt station point (events_of_all (messages_in room (fresh_house store) xs)) (after_all room (fresh_house store) xs).stations

-- Rule H6: with the frames that are passed over taken out, the tables and the stations are the same, and so is whatever is
-- said of a frame from the house that it finds.
pub record Filtered (room : ℕ) (s : List ℕ) (z : House) (cs : List Captured) : Type 1 where
  pub same_house : after_records room s z cs ≡ after_all room z (map (arrived_in s) (frames_in cs))
  pub same_said : {A : Type 0} (says : House → Asks Arrived → A)
      → gathered (after_one room s) (λ w c. is_heard c) (λ w c. says w (brought_of s c)) z cs ≡ gathered (after_arrival room) (λ w x. true) (λ w x. says w (asks_for x)) z (map (arrived_in s) (frames_in cs))

-- a push that lends the whole store, and an output of this length
pub record LendsAll (store : List ℕ) (output : ℕ) (p : Push) : Type 0 where
  pub whole_store : p.lent ≡ length store
  pub whole_output : p.room ≡ output

-- Rules H6 and D5: cross out the frames that were refused by some numbers, 10 and 20 among these. The replies to one key's
-- frames that are left are those that a second fresh table gives to them alone, with all the sweeps of the house; and in the
-- end that table holds the same under the key.
pub record OwnFrames (out : ℕ → Bool) (room key : ℕ) (store store' : List ℕ) (ps : List Push) : Type 0 where
  pub replies : replies_left out room key (fresh_house store) (map arrived_as ps) ≡ replies_to key (start store') (mine key (crossed out (start store) (calls_for ps)))
  pub holds : holding key (record { table = (after_all room (fresh_house store) (map arrived_as ps)).table; store = (after_all room (fresh_house store) (map arrived_as ps)).store })
      ≡ holding key (ends (start store') (mine key (crossed out (start store) (calls_for ps))))

-- Rule H10: what a step finds in a window, it finds in the file, so many bytes further on, and it brings the same.
pub record InWindow (header before part later : List ℕ) (at : ℕ) (c : Captured) (next : ℕ) : Type 0 where
  pub same_step : file_step (file_around header before part later) (length before + at) ≡ gives (passed (onwards (length before) c) (length before + next))
  pub same_brought : brought_of (file_around header before part later) (onwards (length before) c) ≡ brought_of (window_of header part) c

-- Rule H10: a fragment whose payload is longer than 1,492 bytes only sweeps, whatever bytes these are; and push refuses it
-- by 12, if the store isn't too short (rule T4).
pub record OnlySweeps (room : ℕ) (z : House) (x : Arrived) : Type 0 where
  pub swept_house : after_arrival room z x ≡ house_of (swept_for z x) z.store z.stations
  pub refused : store_size ≤ length z.store → answer_by (way_in room z x) ≡ refuses 12 []

-- Rule H10: the windows of a file, one after the other, do what the file does whole: however its bytes come in, and with
-- frames in it that are longer than a window.
abbrev pub SameByWindows : (room : ℕ) → House → (header : List ℕ) → List Coming → Type 0
SameByWindows room z header cs = after_windows room header z [] cs ≡ after_file room z (header ++ bytes_coming cs)

-- everything that is claimed of this crate
pub record Claims : Type 1 where
  pub firmness : Firmness
  pub the_story : (room : ℕ) (store : List ℕ) (xs : List Arrived) → TheStory room store xs
  pub filtered : (room : ℕ) (s : List ℕ) (z : House) (cs : List Captured) → Filtered room s z cs
  pub own_frames : (out : ℕ → Bool) → CoversRoom out → (room key : ℕ) (store store' : List ℕ) → length store' ≡ length store → (ps : List Push) → Each (LendsAll store room) ps → OwnFrames out room key store store' ps
  pub in_window : (header before part later : List ℕ) → length header ≡ 24 → (at : ℕ) → 24 ≤ at → (c : Captured) (next : ℕ) → file_step (window_of header part) at ≡ gives (passed c next) → InWindow header before part later at c next
  pub too_long : (room : ℕ) (z : House) (x : Arrived) → place_size < length x.payload → OnlySweeps room z x
  pub windows : (room : ℕ) (z : House) (header : List ℕ) → length header ≡ 24 → AllBytes header → (cs : List Coming) → SkipsLong header [] cs → SameByWindows room z header cs
