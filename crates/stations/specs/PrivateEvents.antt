-- What the private functions answer. No contract of a public call cites this file.
use Rattle.std.specs.Prelude.{cond, ℕ, ltb, Option, Some, None}
use Rattle.stations.specs.Rows.{Stations, rows, row_with_lem}

-- the lowest row that has a mark, if one has
abbrev pub row_found : Stations → (mark : ℕ) → Option ℕ
row_found t mark = cond (ltb (row_with_lem t mark) rows) (Some (row_with_lem t mark)) None
