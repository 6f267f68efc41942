-- The sweep (rules S1 and S2): which keys it drops, and how many.
use Rattle.std.specs.Prelude.{Bool, false, cond, ◌&&◌, ℕ, zero, suc, ◌-◌, leb, get_or}
use Rattle.table.specs.declared.Table.{Table}
use Rattle.sweeping.specs.declared.Swept.{Swept}
use Rattle.searching.specs.Count.{how_many}
use Rattle.table.specs.Rows.{keys, without}

-- Rule S1: after how many milliseconds a key is dropped.
abbrev pub lifetime : ℕ
lifetime = 3000

-- Rule S1: how many milliseconds have passed since a first time. The difference stops at 0, so it is 0 for a clock that
-- went back.
abbrev pub elapsed : ℕ → ℕ → ℕ
elapsed now-ms first = now-ms - first

-- Rule S1: a first time is 3,000 milliseconds or more ago.
abbrev pub is_old : (now-ms first : ℕ) → Bool
is_old now-ms first = leb lifetime (elapsed now-ms first)

-- Rule S1: a row has a key, and the sweep drops it.
abbrev pub expired : Table → ℕ → ℕ → Bool
expired t now-ms row = get_or t.used row false && is_old now-ms (get_or t.firsts row 0)

-- Rule S1: the table without those keys of the rows below n that the sweep drops. Every other key stays.
unfoldable pub swept_rows : Table → ℕ → ℕ → Table
swept_rows t now-ms zero = t
swept_rows t now-ms (suc n) = cond (expired t now-ms n) (without (swept_rows t now-ms n) n) (swept_rows t now-ms n)

-- the table that a call left, and the number that it answered
abbrev pub swept_as : Table → ℕ → Swept
swept_as t dropped = record { table = t; dropped = dropped }

-- Rules S1 and S2: what a sweep of any table leaves, and how many keys it dropped.
abbrev pub swept : Table → ℕ → Swept
swept t now-ms = swept_as (swept_rows t now-ms keys) (how_many (expired t now-ms) keys)
