-- What each sender holds, counted. The totals are in step with it (rule T15), and no sender holds more than its share
-- (rule T6).
use Rattle.std.specs.Prelude.{◌≡◌, List, [], ◌∷◌, Bool, true, false, not, ◌&&◌, ◌||◌, ℕ, ◌-◌, ◌≤◌, eqb, get_or}
use Rattle.searching.specs.Count.{how_many}
use Rattle.table.specs.declared.Table.{Table}
use Rattle.table.specs.declared.Totals.{Totals}
use Rattle.table.specs.Rows.{keys, places, most_keys, most_places, place_at, is_free, is_senders_lem, first_row_lem, no_totals, totals_in, totals_of, sender_at}

-- Rule T15, counted: how many rows have a key of the sender, and how many places have a fragment of such a row.
abbrev pub of_sender : Table → ℕ → ℕ → Bool
of_sender t sender row = is_senders_lem t.used t.row_keys sender row

abbrev pub kept_for : Table → ℕ → ℕ → Bool
kept_for t sender i = not (is_free (place_at t i)) && of_sender t sender ((place_at t i).owner - 1)

abbrev pub counted_for : Table → ℕ → Totals
counted_for t sender = record { keys = how_many (of_sender t sender) keys; places = how_many (kept_for t sender) places }

-- Rule T15: the totals of every sender are those numbers, and a row that is no sender's lowest has none.
pub record InStep (t : Table) : Type 0 where
  pub as_counted : (sender : ℕ) → totals_of t sender ≡ counted_for t sender
  pub no_others : (row : ℕ) → ((sender : ℕ) → first_row_lem t sender ≡ row → ⊥) → totals_in t.sender_keys t.sender_places row ≡ no_totals

-- Rule T6: no more than its share.
abbrev pub WithinShares : Table → Type 0
WithinShares t = (sender : ℕ) → ((counted_for t sender).keys ≤ most_keys) × ((counted_for t sender).places ≤ most_places)

-- Rule D7: each key in the table is of one of these senders.
abbrev pub one_of : (ℕ → Bool) → List ℕ → Bool
one_of test [] = false
one_of test (x ∷ xs) = test x || one_of test xs

abbrev pub OnlyOf : Table → List ℕ → Type 0
OnlyOf t senders = (row : ℕ) → get_or t.used row false ≡ true → one_of (eqb (sender_at t row)) senders ≡ true
