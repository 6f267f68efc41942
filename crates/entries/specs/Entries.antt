-- The entries of a value in order, one at a time (rule E9).
use Rattle.std.specs.Prelude.{Option, Some, None, Bool, true, false, cond, List, [], ℕ, zero, suc, ◌-◌, eqb, ltb}
use Rattle.numbers.specs.Numbers.{Answer, gives, refuses, and_then, mapped}
use Rattle.records.specs.declared.Record.{Record}
use Rattle.layouts.specs.declared.ListAt.{ListAt}
use Rattle.layouts.specs.Reading.{end_of}
use Rattle.layouts.specs.Access.{pass_entry}
use Rattle.texts.specs.Texts.{inventory_code, is_text_lem, radio}
use Rattle.texts.specs.Access.{radios_of}
use Rattle.kinds.specs.declared.Contents.{Contents}
use Rattle.kinds.specs.Kinds.{read_kind_lem}
use Rattle.entries.specs.declared.Cursor.{Cursor}
use Rattle.entries.specs.declared.EntryAt.{EntryAt}
use Rattle.entries.specs.declared.Start.{Start}
use Rattle.entries.specs.declared.Gone.{Gone}

-- Rule E9: the cursor at the first entry of a list. Without a level to go into, no entry is to come.
abbrev pub first_left : ℕ → ℕ → ℕ
first_left zero n = 0
first_left (suc depth) n = n

abbrev pub first_cursor_lem : ℕ → ℕ → ListAt → Cursor
first_cursor_lem code depth m = record { at = m.first; left1 = first_left depth m.many; left2 = 0; left3 = 0; code = code; depth = depth }

-- Rule E9: the outermost list of a value. That of a value that holds text is the list of its radios.
unfoldable pub entries_in_lem : ℕ → List ℕ → Answer ListAt
entries_in_lem code s = cond (is_text_lem code) (radios_of code s) (pass_entry code 0 true s 0)

-- Rules E3 and E9: a record has no entries: 6.
abbrev pub list_in : Contents Record → ℕ → List ℕ → Answer ListAt
list_in (Contents.One r) code s = refuses 6 []
list_in (Contents.List n) code s = entries_in_lem code s

-- Rule E9: the value s has to read first.
unfoldable pub beginning : ℕ → ℕ → List ℕ → Answer Start
beginning code depth s =
    and_then (read_kind_lem code s) (λ t.
    mapped (λ m. record { cursor = first_cursor_lem code depth m; entries = m.many; consumed = t.consumed; rest = t.rest }) (list_in t.held code s))

-- Rules E8 and E9: going over the radio at p. It has no entries, and is the only level of entries that there is.
unfoldable pub pass_radio_lem : ℕ → List ℕ → ℕ → Answer ListAt
pass_radio_lem k s p = cond (eqb k 1) (mapped (λ q. record { many = 0; first = q }) (end_of radio s p)) (refuses 6 [])

-- Rule E9: going over the entry of level k at p. A code that no list kind has, and that is not DeviceInventory's: 16.
unfoldable pub pass_in_lem : ℕ → ℕ → Bool → List ℕ → ℕ → Answer ListAt
pass_in_lem code k enter s p = cond (eqb code inventory_code) (pass_radio_lem k s p) (pass_entry code k enter s p)

-- Rule E9: the level of the next entry. The deepest list with entries left goes first. 0 where none is left.
unfoldable pub next_level_lem : Cursor → ℕ
next_level_lem c = cond (ltb 0 c.left3) 3 (cond (ltb 0 c.left2) 2 (cond (ltb 0 c.left1) 1 0))

-- how many entries of its list are gone over, where it has n
abbrev pub entered : Bool → ℕ → ℕ
entered true n = n
entered false n = 0

-- Rule E9: the cursor after the next entry: one less is left in its list, and n in the list below it.
unfoldable pub moved : Cursor → ℕ → ℕ → Cursor
moved c n p =
    cond (ltb 0 c.left3) (record { at = p; left1 = c.left1; left2 = c.left2; left3 = c.left3 - 1; code = c.code; depth = c.depth })
    (cond (ltb 0 c.left2) (record { at = p; left1 = c.left1; left2 = c.left2 - 1; left3 = n; code = c.code; depth = c.depth })
    (record { at = p; left1 = c.left1 - 1; left2 = n; left3 = 0; code = c.code; depth = c.depth }))

-- what going on gives: an entry and the cursor after it, or the end
abbrev pub next_is : EntryAt → Cursor → Option Gone
next_is e c = Some (record { entry = e; cursor = c })

abbrev pub none_left_lem : Option Gone
none_left_lem = None

-- Rule E9: an entry's list is entered if its level is below the depth; otherwise it is passed.
abbrev pub stepped : Cursor → ℕ → ListAt → Option Gone
stepped c k m = next_is (record { start = c.at; entries = m.many; level = k }) (moved c (entered (ltb k c.depth) m.many) m.first)

abbrev pub gone_from : ℕ → Cursor → List ℕ → Answer (Option Gone)
gone_from zero c s = gives none_left_lem
gone_from (suc k) c s = mapped (stepped c (suc k)) (pass_in_lem c.code (suc k) (ltb (suc k) c.depth) s c.at)

-- Rule E9: the next entry.
unfoldable pub gone_on_lem : Cursor → List ℕ → Answer (Option Gone)
gone_on_lem c s = gone_from (next_level_lem c) c s
