-- Rule C1: entries in order and how many a list has (rules E3 and E9), in the numbers that cross to C. `refusal` is the
-- refusal's number of part N, and 0 where nothing is refused. No refusal of these calls carries a value. A cursor
-- crosses as it is.
use Rattle.std.specs.Prelude.{Option, Some, None, ℕ}
use Rattle.numbers.specs.Numbers.{Answer, gives, refuses}
use Rattle.entries.specs.declared.Cursor.{Cursor}
use Rattle.entries.specs.declared.Start.{Start}
use Rattle.entries.specs.declared.Gone.{Gone}
use Rattle.c_entries.specs.declared.AshlarBegun.{AshlarBegun}
use Rattle.c_entries.specs.declared.AshlarEntry.{AshlarEntry}
use Rattle.c_entries.specs.declared.AfterStep.{AfterStep}
use Rattle.c_entries.specs.declared.AshlarCount.{AshlarCount}

-- Rule E9: the beginning. Where it is refused, nothing is left to the cursor.
abbrev pub no_cursor_lem : Cursor
no_cursor_lem = record { at = 0; left1 = 0; left2 = 0; left3 = 0; code = 0; depth = 0 }

abbrev pub begun_numbers_lem : Answer Start → AshlarBegun
begun_numbers_lem (gives b) =
    record { cursor = b.cursor; entries = b.entries; consumed = b.consumed; rest = b.rest; refusal = 0 }
begun_numbers_lem (refuses n vs) = record { cursor = no_cursor_lem; entries = 0; consumed = 0; rest = 0; refusal = n }

-- Rule E9: a step. The end is 1, an entry 2, and a refusal 0.
abbrev pub without_entry_lem : (answer refusal : ℕ) → AshlarEntry
without_entry_lem answer refusal = record { start = 0; entries = 0; level = 0; answer = answer; refusal = refusal }

abbrev pub entry_numbers_lem : Answer (Option Gone) → AshlarEntry
entry_numbers_lem (gives (Some g)) =
    record { start = g.entry.start; entries = g.entry.entries; level = g.entry.level; answer = 2; refusal = 0 }
entry_numbers_lem (gives None) = without_entry_lem 1 0
entry_numbers_lem (refuses n vs) = without_entry_lem 0 n

-- Rule E9: the cursor is altered only where an entry is given.
abbrev pub cursor_after_lem : Cursor → Answer (Option Gone) → Cursor
cursor_after_lem c (gives (Some g)) = g.cursor
cursor_after_lem c (gives None) = c
cursor_after_lem c (refuses n vs) = c

-- a step, with where the cursor then stands
abbrev pub after_step : Cursor → Answer (Option Gone) → AfterStep
after_step c x = record { cursor = cursor_after_lem c x; entry = entry_numbers_lem x }

-- Rule E3: how many entries a list has.
abbrev pub count_numbers_lem : Answer ℕ → AshlarCount
count_numbers_lem (gives n) = record { entries = n; refusal = 0 }
count_numbers_lem (refuses n vs) = record { entries = 0; refusal = n }
