-- Rule A1: the tables that push takes. `fresh` makes the first, and `push` and `sweep` make one from another.
use Rattle.std.specs.Prelude.{List, ℕ, ◌<◌, length}
use Rattle.table.specs.declared.Table.{Table}
use Rattle.pushing.specs.declared.Arrival.{Arrival}
use Rattle.table.specs.Rows.{fresh_table}
use Rattle.pushing.specs.Push.{way, table_by}
use Rattle.sweeping.specs.Sweep.{swept}

pub data Made : Table → Type 0 where
  by_fresh : Made fresh_table
  -- a fragment's number is one byte
  by_push : {t : Table} → Made t → (store : List ℕ) (a : Arrival) (payload : List ℕ) (room : ℕ) → a.fragment.number < 256 → Made (table_by (way t store a payload room) t a (length payload))
  by_sweep : {t : Table} → Made t → (now-ms : ℕ) → Made (swept t now-ms).table
