-- Laws of the rows: what a look-up that is done says of the definitions, one law for each way through a call.
use mathlib.Core.Path.{◌≡◌, sym}
use mathlib.Core.Bool.{true, false}
use mathlib.Core.List.{[]}
use Prim.Native.Nat.{ℕ, ◌+◌, ◌≤◌, ◌<◌}
use lib.Dec.{eqb}
use lib.ListN.{set}
use borrow.Author.Tests.{lt-ltb, le-ltb}
use Rattle.numbers.specs.Numbers.{Answer, gives, refuses}
use Rattle.stations.specs.declared.Heard.{Heard}
use Rattle.stations.specs.Whereabouts.{nowhere, at, Event, heard_of_join}
use Rattle.stations.specs.Rows.{Stations, row_with_lem, point_at, where_of, all_held, answer_to, after_join, after_leave, with_row}

module _ (t : Stations) (station : ℕ) where
  abbrev row : ℕ
  row = row_with_lem t (station + 1)

  pub known_place : (n : ℕ) → n ≡ row → n < 128 → where_of t station ≡ at (point_at t n)
  unfolding where_of
  known_place n e h = rw (sym e, lt-ltb n 128 h)

  pub unknown_place : (n : ℕ) → n ≡ row → 128 ≤ n → where_of t station ≡ nowhere
  unfolding where_of
  unknown_place n e h = rw (sym e, le-ltb n 128 h)

pub full_is : (t : Stations) (n : ℕ) → n ≡ row_with_lem t 0 → 128 ≤ n → all_held t ≡ true
unfolding all_held
full_is t n e h = rw (sym e, le-ltb n 128 h)

pub room_is : (t : Stations) (n : ℕ) → n ≡ row_with_lem t 0 → n < 128 → all_held t ≡ false
unfolding all_held
room_is t n e h = rw (sym e, lt-ltb n 128 h)

-- a join and a leave, by their ways
module _ (t : Stations) (station point : ℕ) where
  abbrev join : Event
  join = record { station = station; point = point; is_join = true }

  abbrev leave : Event
  leave = record { station = station; point = point; is_join = false }

  abbrev pub Joined : Answer Heard → Stations → Type 0
  Joined answer after = (answer ≡ answer_to t join) × (after ≡ after_join t station point)

  abbrev pub Left : Answer Heard → Stations → Type 0
  Left answer after = (answer ≡ answer_to t leave) × (after ≡ after_leave t station point)

  pub known : (n : ℕ) → n ≡ row_with_lem t (station + 1) → n < 128 → Joined (gives (heard_of_join point (at (point_at t n)))) (set t (128 + n) point)
  unfolding after_join
  known n e h = (rw (known_place t station n e h), rw (sym e, lt-ltb n 128 h))

  pub new : (none n : ℕ) → none ≡ row_with_lem t (station + 1) → 128 ≤ none → n ≡ row_with_lem t 0 → n < 128 → Joined (gives Heard.New) (with_row t n (station + 1) point)
  unfolding after_join
  new none n d g e h = (rw (unknown_place t station none d g, room_is t n e h), rw (sym d, le-ltb none 128 g, room_is t n e h, sym e))

  pub full : (none n : ℕ) → none ≡ row_with_lem t (station + 1) → 128 ≤ none → n ≡ row_with_lem t 0 → 128 ≤ n → Joined (refuses 17 []) t
  unfolding after_join
  full none n d g e h = (rw (unknown_place t station none d g, full_is t n e h), rw (sym d, le-ltb none 128 g, full_is t n e h))

  pub removed : (n : ℕ) → n ≡ row_with_lem t (station + 1) → n < 128 → eqb (point_at t n) point ≡ true → Left (gives Heard.Removed) (with_row t n 0 0)
  unfolding after_leave
  removed n e h q = (rw (known_place t station n e h, q), rw (known_place t station n e h, q, sym e))

  pub late : (n : ℕ) → n ≡ row_with_lem t (station + 1) → n < 128 → eqb (point_at t n) point ≡ false → Left (gives Heard.Stale) t
  unfolding after_leave
  late n e h q = (rw (known_place t station n e h, q), rw (known_place t station n e h, q))

  pub not_held : (n : ℕ) → n ≡ row_with_lem t (station + 1) → 128 ≤ n → Left (gives Heard.Stale) t
  unfolding after_leave
  not_held n e h = (rw (unknown_place t station n e h), rw (unknown_place t station n e h))
