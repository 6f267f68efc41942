-- One row of a table.
use mathlib.Core.Bool.{Bool, false}
use Prim.Native.Nat.{ℕ}
use lib.ListN.{get_or}
use Rattle.table.specs.declared.Table.{Table}

abbrev pub is_used_lem : Table → ℕ → Bool
is_used_lem t row = get_or t.used row false

abbrev pub code_at : Table → ℕ → ℕ
code_at t row = get_or t.row_keys row 0

abbrev pub first_at : Table → ℕ → ℕ
first_at t row = get_or t.firsts row 0
