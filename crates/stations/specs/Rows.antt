-- The rows of the station table (rules P1 and P7). Row n has a station in element n of the array, and its access point
-- in element 128 + n.
use Rattle.std.specs.Prelude.{Bool, cond, not, List, ℕ, zero, suc, ◌+◌, eqb, ltb, get_or, set, replicate, Option, Some, None}
use Rattle.numbers.specs.Numbers.{Answer}
use Rattle.records.specs.declared.MacAddr.{MacAddr}
use Rattle.searching.specs.Search.{lowest}
use Rattle.searching.specs.Count.{how_many}
use Rattle.stations.specs.declared.Heard.{Heard}
use Rattle.stations.specs.declared.Seat.{Seat}
use Rattle.stations.specs.Addresses.{address_of}
use Rattle.stations.specs.Whereabouts.{Whereabouts, nowhere, at, Event, is_at, answer_at}

-- Rule P1: how many stations a table holds, at most.
abbrev pub rows : ℕ
rows = 128

abbrev pub Stations : Type 0
Stations = List ℕ

-- Rule P1: a fresh table holds no station, and is zero throughout.
abbrev pub fresh_stations : Stations
fresh_stations = replicate (rows + rows) 0

-- what stands for a station in its row; a free row has 0 there, and 0 for an access point
abbrev pub mark_of : ℕ → ℕ
mark_of station = station + 1

abbrev pub point_at : Stations → ℕ → ℕ
point_at t row = get_or t (rows + row) 0

-- the lowest row that has a mark, the number of rows where none has
abbrev pub row_with_lem : Stations → ℕ → ℕ
row_with_lem t mark = lowest (λ row. eqb (get_or t row 0) mark) rows

-- Rule P7: where the table says that a station is.
abbrev pub where_in : Stations → ℕ → Whereabouts
where_in t row = cond (ltb row rows) (at (point_at t row)) nowhere

unfoldable pub where_of : Stations → ℕ → Whereabouts
where_of t station = where_in t (row_with_lem t (mark_of station))

-- Rule P4: where 128 are held, no row is free.
unfoldable pub all_held : Stations → Bool
all_held t = not (ltb (row_with_lem t 0) rows)

-- Rules P2 to P4: what an event is answered.
abbrev pub answer_to : Stations → Event → Answer Heard
answer_to t e = answer_at (all_held t) e (where_of t e.station)

-- the table with a row written
abbrev pub with_row : Stations → (row mark point : ℕ) → Stations
with_row t row mark point = set (set t row mark) (rows + row) point

-- The table after a join (rule P2). A station that is held changes its access point. Another one takes the lowest free
-- row (rule P7); where none is free, nothing changes (rule P4).
unfoldable pub after_join : Stations → (station point : ℕ) → Stations
after_join t station point =
    cond (ltb (row_with_lem t (mark_of station)) rows) (set t (rows + row_with_lem t (mark_of station)) point)
    (cond (all_held t) t
    (with_row t (row_with_lem t 0) (mark_of station) point))

-- The table after a leave (rule P3). One that is not stale frees the row, which is then as a fresh one (rule P7).
unfoldable pub after_leave : Stations → (station point : ℕ) → Stations
after_leave t station point = cond (is_at point (where_of t station)) (with_row t (row_with_lem t (mark_of station)) 0 0) t

abbrev pub table_after : Stations → Event → Stations
table_after t e = cond e.is_join (after_join t e.station e.point) (after_leave t e.station e.point)

-- Rule P7: what a row holds. One numbered 128 or above is free.
pub data StationRow : Type 0 where
  free_row : StationRow
  held_row : (station point : ℕ) → StationRow

abbrev pub row_from : (mark point : ℕ) → StationRow
row_from zero point = free_row
row_from (suc station) point = held_row station point

abbrev pub row_at : Stations → ℕ → StationRow
row_at t n = cond (ltb n rows) (row_from (get_or t n 0) (point_at t n)) free_row

-- Rule P7: how many stations are held, one for each row that isn't free.
abbrev pub is_held : Stations → ℕ → Bool
is_held t row = not (eqb (get_or t row 0) 0)

abbrev pub count_of : Stations → ℕ
count_of t = how_many (is_held t) rows

-- what a call says about a place and about a row
abbrev pub where_shown : Whereabouts → Option MacAddr
where_shown nowhere = None
where_shown (at point) = Some (address_of point)

abbrev pub row_shown : StationRow → Option Seat
row_shown free_row = None
row_shown (held_row station point) = Some (record { station = address_of station; point = address_of point })
