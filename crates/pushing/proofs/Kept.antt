-- The table that the code makes of a fragment that is kept, and the one that its way says.
use mathlib.Core.Path.{◌≡◌, refl, sym, ap, ◌∙◌}
use mathlib.Core.List.{List}
use mathlib.Core.Bool.{Bool, true, false, cond, false≢true}
use Prim.Native.Nat.{ℕ, ◌+◌, ◌≤◌, ◌<◌}
use native.Mathlib.Omega.{arith}
use lib.Dec.{ltb, leb}
use lib.ListN.{set}
use lib.Seq.{get_or-set_same, get_or-set_other}
use borrow.Author.Tests.{eq-eqb, ltb-true, ltb-false, lt-ltb, le-ltb, lt-leb, le-leb}
use Rattle.keys.specs.Keys.{sender_of_lem}
use Rattle.table.specs.declared.Table.{Table}
use Rattle.table.specs.declared.Totals.{Totals}
use Rattle.pushing.specs.declared.Arrival.{Arrival}
use Rattle.pushing.specs.declared.look.LookedUp.{LookedUp}
use Rattle.table.specs.Rows.{row_of, with_key, with_place, first_row_lem, lower_row_lem, no_totals, put_totals_lem, with_totals}
use Rattle.table.specs.InStep.{of_sender}
use Rattle.pushing.specs.Push.{looked_up, own_totals, place_for, kept_under, opened_for}
use Rattle.pushing.specs.PrivateSteps.{under_row_lem, opened, kept_by_lem}
use Rattle.searching.proofs.Search.{lowest_before, lowest_with}
use Rattle.table.proofs.Sound.{Sound, row_holds}
use Rattle.table.proofs.Freed.{retold}

-- what the code does, step by step
module _ (t : Table) (found : LookedUp) (held : Totals) (a : Arrival) (size row : ℕ) (under : row ≡ under_row_lem found) where
  -- the row gets its key
  pub opened_by : (first-keys first-places : List ℕ) → first-keys ≡ set t.sender_keys found.first 0 → first-places ≡ set t.sender_places found.first 0
      → with_key (retold t first-keys first-places) row a.key a.time ≡ opened true t found.first row a
  opened_by first-keys first-places k p = λ i. with_key (retold t (k i) (p i)) row a.key a.time

  pub kept_by : (opens : Bool) → leb 16 found.row ≡ opens → (n : Table) → n ≡ opened opens t found.first row a → (many : ℕ) → many ≡ cond opens (held.keys + 1) held.keys → (low : ℕ) → low ≡ lower_row_lem row found.first
      → put_totals_lem (with_place n found.free (place_for row a.fragment size)) low (record { keys = many; places = held.places + 1 }) ≡ kept_by_lem found held t a size
  kept_by opens e n is many counts low lowest =
      (λ i. put_totals_lem (with_place (is i) found.free (place_for row a.fragment size)) (lowest i) (record { keys = counts i; places = held.places + 1 }))
      ∙ (λ i. put_totals_lem (with_place (opened (sym e i) t found.first (under i) a) found.free (place_for (under i) a.fragment size)) (lower_row_lem (under i) found.first) (record { keys = cond (sym e i) (held.keys + 1) held.keys; places = held.places + 1 }))

-- the sender's lowest row is at or before that of one of its keys
module _ (t : Table) (key : ℕ) where
  abbrev its : ℕ
  its = sender_of_lem key

  pub first_before : row_of t key < 16 → first_row_lem t its ≤ row_of t key
  first_before h = by_order (ltb (row_of t key) (first_row_lem t its)) refl
    where
      by_order : (b : Bool) → ltb (row_of t key) (first_row_lem t its) ≡ b → first_row_lem t its ≤ row_of t key
      by_order false e = ltb-false _ _ e
      by_order true e =
          let own = row_holds t key h in
          let is-its : of_sender t its (row_of t key) ≡ true = rw (own.0, own.1, eq-eqb its its refl) in
          absurd (false≢true (sym (lowest_before (of_sender t its) 16 (row_of t key) (ltb-true _ _ e)) ∙ is-its))

-- and a row that gets a key of it may be lower than the others
module _ (t : Table) (s : Sound t) (key row time : ℕ) (in-16 : row < 16) where
  abbrev first : ℕ
  first = first_row_lem t (sender_of_lem key)

  abbrev after : ℕ → Bool
  after = of_sender (with_key t row key time) (sender_of_lem key)

  new_row : after row ≡ true
  new_row = rw (get_or-set_same t.used row true false (omega (arith, s.used_long)), get_or-set_same t.row_keys row key 0 (omega (arith, s.row_keys_long)), eq-eqb (sender_of_lem key) (sender_of_lem key) refl)

  other_row : (r : ℕ) → (r ≡ row → ⊥) → after r ≡ of_sender t (sender_of_lem key) r
  other_row r ne = rw (get_or-set_other t.used row r true false ne, get_or-set_other t.row_keys row r key 0 ne)

  pub opened_first : lower_row_lem row first ≡ first_row_lem (with_key t row key time) (sender_of_lem key)
  opened_first = sym (lowest_with after (of_sender t (sender_of_lem key)) 16 row in-16 new_row other_row)

-- what is kept is what the way says
module _ (t : Table) (s : Sound t) (a : Arrival) (size : ℕ) where
  abbrev found : LookedUp
  found = looked_up t a

  abbrev held : Totals
  held = own_totals t a

  pub keeps_there : found.row < 16 → kept_by_lem found held t a size ≡ kept_under t found.free a size
  keeps_there h = rw (lt-leb 16 found.row h, lt-ltb found.row 16 h, le-ltb found.row found.first (first_before t a.key h))

  pub opens_new : 16 ≤ found.row → found.spare < 16 → kept_by_lem found held t a size ≡ opened_for t found.free found.spare a size
  opens_new h l =
      rw (le-leb 16 found.row h, le-ltb found.row 16 h)
      (ap (λ (r : ℕ). put_totals_lem (with_place (with_key (with_totals t (sender_of_lem a.key) no_totals) found.spare a.key a.time) found.free (place_for found.spare a.fragment size)) r (record { keys = held.keys + 1; places = held.places + 1 }))
      (opened_first t s a.key found.spare a.time l))
