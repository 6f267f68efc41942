-- A layout as a row of numbers: what the calls that read a list of any layout take (rule K3).
use Rattle.std.specs.Prelude.{Bool, true, false, ℕ, zero, suc, ◌-◌}
use Rattle.layouts.specs.declared.LayoutRow.{LayoutRow}
use Rattle.layouts.specs.Layouts.{Counting, c1, to_end, Layout, bytes, entry}

-- whether a list has a count
abbrev pub counting : Bool → Counting
counting true = c1
counting false = to_end

-- the row of the entries in its list, whose own lists have counts
abbrev pub row_below_lem : LayoutRow → LayoutRow
row_below_lem row = record { levels = row.levels - 1; has_count = true; h0 = row.h1; h1 = row.h2; h2 = row.h3; h3 = 0 }

-- the layout of an entry of this row
unfoldable pub layout_in : ℕ → LayoutRow → Layout
layout_in zero row = bytes row.h0
layout_in (suc k) row = entry row.h0 (counting row.has_count) (layout_in k (row_below_lem row))

abbrev pub row_layout : LayoutRow → Layout
row_layout row = layout_in row.levels row
