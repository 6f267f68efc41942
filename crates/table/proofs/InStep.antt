-- The totals of every sender stay in step with what the table holds: the laws for each change of the table.
use mathlib.Core.Path.{◌≡◌, refl, sym, ap, ◌∙◌, subst}
use mathlib.Core.List.{List}
use mathlib.Core.Bool.{Bool, true, false, cond, not, ◌&&◌, ◌||◌, and-false, or-false, and-eq-true_iff, false≢true}
use Prim.Native.Nat.{ℕ, zero, suc, ◌+◌, ◌-◌, ◌≤◌, ◌<◌}
use native.Mathlib.Omega.{arith}
use lib.Dec.{eqb, ltb}
use lib.ListN.{length, get_or, set, length-set, get_or-eq_default}
use lib.Seq.{get_or-set_same, get_or-set_other}
use borrow.Author.Tests.{eqb-true, eqb-false, eq-eqb, ne_eqb, ltb-true, ltb-false, lt-ltb, le-ltb}
use Rattle.keys.specs.Keys.{sender_of_lem}
use Rattle.searching.specs.Count.{how_many}
use Rattle.searching.proofs.Search.{lowest_holds, lowest_before, lowest_none, lowest_is, lowest_same}
use Rattle.searching.proofs.Count.{count_none, count_same, count_more, count_sum}
use Rattle.table.specs.declared.Table.{Table}
use Rattle.table.specs.declared.Totals.{Totals}
use Rattle.table.specs.Rows.{Place, owner_of, free_place, fresh_table, place_at, is_free, with_key, with_place, first_row_lem, no_totals, totals_in, totals_of, with_totals, cleared, sender_at, places_in, less_key, without}
use Rattle.table.specs.Sound.{Long}
pub use Rattle.table.specs.InStep.{of_sender, kept_for, counted_for, InStep, WithinShares}
use Rattle.table.proofs.Places.{all_same, put_here, put_elsewhere, freed, freed_at}
use Rattle.table.proofs.Sound.{Sound, fresh_sound}

-- a row with a key of the sender
of_sender_lem : (t : Table) (sender row : ℕ) → of_sender t sender row ≡ true → (get_or t.used row false ≡ true) × (sender_at t row ≡ sender)
of_sender_lem t sender row e = let both = (and-eq-true_iff (get_or t.used row false) (eqb (sender_at t row) sender)).0 e in (both.0, eqb-true _ _ both.1)

-- and a place of such a row, or a free one
pub kept_by : (t : Table) (sender i row : ℕ) → (place_at t i).owner ≡ owner_of row → kept_for t sender i ≡ of_sender t sender row
kept_by t sender i row e =
    let taken : eqb (place_at t i).owner 0 ≡ false = ne_eqb _ _ (λ (q : (place_at t i).owner ≡ 0). omega arith) in
    let same : (place_at t i).owner - 1 ≡ row = omega arith in
    rw taken (ap (of_sender t sender) same)

kept_free : (t : Table) (sender i : ℕ) → (place_at t i).owner ≡ 0 → kept_for t sender i ≡ false
kept_free t sender i e = rw (eq-eqb _ _ e)

-- a place is free or a row's
pub by_owner : (o : ℕ) (P : Type 0) → (o ≡ 0 → P) → ((row : ℕ) → o ≡ owner_of row → P) → P
by_owner zero P free own = free refl
by_owner (suc row) P free own = own row (omega arith)

-- a sender that has no row holds nothing
module _ (t : Table) (long : length t.used ≡ 16) (sender : ℕ) (out : 16 ≤ first_row_lem t sender) where
  no_row_of : (row : ℕ) → of_sender t sender row ≡ false
  no_row_of row = by_end (ltb row 16) refl
    where
      by_end : (b : Bool) → ltb row 16 ≡ b → of_sender t sender row ≡ false
      by_end true q = lowest_before (of_sender t sender) 16 row (omega (arith, ltb-true row 16 q))
      by_end false q = let free : get_or t.used row false ≡ false = get_or-eq_default t.used false (omega (arith, ltb-false row 16 q)) in rw free

  none_kept : (i : ℕ) → kept_for t sender i ≡ false
  none_kept i = by_owner (place_at t i).owner (kept_for t sender i ≡ false) (kept_free t sender i) (λ row e. kept_by t sender i row e ∙ no_row_of row)

  nothing_counted : counted_for t sender ≡ no_totals
  nothing_counted = λ j. record { keys = count_none (of_sender t sender) 16 (λ row h. no_row_of row) j; places = count_none (kept_for t sender) 32 (λ i h. none_kept i) j }

-- what a row says
abbrev row_totals : Table → ℕ → Totals
row_totals t row = record { keys = get_or t.sender_keys row 0; places = get_or t.sender_places row 0 }

told_by_row : (t : Table) (sender : ℕ) → first_row_lem t sender < 16 → totals_of t sender ≡ row_totals t (first_row_lem t sender)
told_by_row t sender l = rw (lt-ltb _ _ l)

-- another sender has other rows, and what these say stays
rows_apart : (t : Table) (x sender row : ℕ) → (x ≡ sender → ⊥) → of_sender t sender row ≡ true → first_row_lem t x < 16 → first_row_lem t x ≡ row → ⊥
rows_apart t x sender row ne its l e =
    ne (sym (of_sender_lem t x (first_row_lem t x) (lowest_holds (of_sender t x) 16 l)).1 ∙ ap (sender_at t) e ∙ (of_sender_lem t sender row its).1)

-- a total that is put into another row, or 0 into this one
put_apart : (sender-keys sender-places : List ℕ) (row at : ℕ) (held : Totals) → (row ≡ at → ⊥) → totals_in (set sender-keys at held.keys) (set sender-places at held.places) row ≡ totals_in sender-keys sender-places row
put_apart sender-keys sender-places row at held apart = λ j.
    cond (ltb row 16) (record { keys = get_or-set_other sender-keys at row held.keys 0 apart j; places = get_or-set_other sender-places at row held.places 0 apart j }) no_totals

put_none : (sender-keys sender-places : List ℕ) (row at : ℕ) → length sender-keys ≡ 16 → length sender-places ≡ 16 → row ≡ at → totals_in (set sender-keys at 0) (set sender-places at 0) row ≡ no_totals
put_none sender-keys sender-places row at long long' here = ap (totals_in (set sender-keys at 0) (set sender-places at 0)) here ∙ by_row (ltb at 16) refl
  where
    by_row : (b : Bool) → ltb at 16 ≡ b → cond b (record { keys = get_or (set sender-keys at 0) at 0; places = get_or (set sender-places at 0) at 0 }) no_totals ≡ no_totals
    by_row true q =
        let l = ltb-true at 16 q in
        λ j. record { keys = get_or-set_same sender-keys at 0 0 (omega arith) j; places = get_or-set_same sender-places at 0 0 (omega arith) j }
    by_row false q = refl

first_apart : (t : Table) (x sender : ℕ) → (x ≡ sender → ⊥) → first_row_lem t x < 16 → first_row_lem t x ≡ first_row_lem t sender → ⊥
first_apart t x sender ne l e = rows_apart t x sender (first_row_lem t sender) ne (lowest_holds (of_sender t sender) 16 (omega arith)) l e

-- a row that is no sender's lowest, and a table in which such a row has no totals
abbrev Behind : Table → ℕ → Type 0
Behind t row = (x : ℕ) → first_row_lem t x ≡ row → ⊥

abbrev Lone : Table → Type 0
Lone t = (row : ℕ) → Behind t row → totals_in t.sender_keys t.sender_places row ≡ no_totals

-- A change that concerns one sender: the totals of it are put anew, and what the others hold, and what is said of them, stays.
pub record Changed (t u : Table) (sender : ℕ) (held : Totals) : Type 0 where
  pub used_long : length u.used ≡ 16
  pub keys_long : length u.sender_keys ≡ 16
  pub places_long : length u.sender_places ≡ 16
  pub as_counted : counted_for u sender ≡ held
  pub others : (x : ℕ) → (x ≡ sender → ⊥) → counted_for u x ≡ counted_for t x
  pub told : (x : ℕ) → (x ≡ sender → ⊥) → first_row_lem u x < 16 → totals_of u x ≡ totals_of t x
  pub lone : Lone t → Lone u

module _ (t u : Table) (sender : ℕ) (held : Totals) (change : Changed t u sender held) where
  put_own : first_row_lem u sender < 16 → totals_of (with_totals u sender held) sender ≡ counted_for u sender
  put_own l =
      told_by_row (with_totals u sender held) sender l
      ∙ (λ j. record {
        keys = get_or-set_same u.sender_keys (first_row_lem u sender) held.keys 0 (omega (arith, change.keys_long)) j;
        places = get_or-set_same u.sender_places (first_row_lem u sender) held.places 0 (omega (arith, change.places_long)) j;
      })
      ∙ sym change.as_counted

  pub stays_in_step : InStep t → InStep (with_totals u sender held)
  stays_in_step step = record {
    as_counted = λ x. by_row x (ltb (first_row_lem u x) 16) refl (eqb x sender) refl;
    no_others = λ row behind. put_apart u.sender_keys u.sender_places row (first_row_lem u sender) held (λ e. behind sender (sym e)) ∙ change.lone step.no_others row behind;
  }
    where
      by_row : (x : ℕ) (b : Bool) → ltb (first_row_lem u x) 16 ≡ b → (c : Bool) → eqb x sender ≡ c → totals_of (with_totals u sender held) x ≡ counted_for u x
      by_row x true q true e = let same : x ≡ sender = eqb-true _ _ e in subst (λ (y : ℕ). totals_of (with_totals u sender held) y ≡ counted_for u y) (sym same) (put_own (subst (λ (y : ℕ). first_row_lem u y < 16) same (ltb-true _ _ q)))
      by_row x true q false e =
          let l = ltb-true (first_row_lem u x) 16 q in
          let ne = eqb-false x sender e in
          put_apart u.sender_keys u.sender_places (first_row_lem u x) (first_row_lem u sender) held (first_apart u x sender ne l) ∙ change.told x ne l ∙ step.as_counted x ∙ sym (change.others x ne)
      by_row x false q c e = rw q (sym (nothing_counted u change.used_long x (ltb-false _ _ q)))

  pub stays_within : WithinShares t → held.keys ≤ 4 → held.places ≤ 8 → WithinShares (with_totals u sender held)
  stays_within within h₁ h₂ x = by_sender (eqb x sender) refl
    where
      by_sender : (c : Bool) → eqb x sender ≡ c → ((counted_for u x).keys ≤ 4) × ((counted_for u x).places ≤ 8)
      by_sender true e = subst (λ (z : Totals). (z.keys ≤ 4) × (z.places ≤ 8)) (sym (ap (counted_for u) (eqb-true _ _ e) ∙ change.as_counted)) (h₁, h₂)
      by_sender false e = subst (λ (z : Totals). (z.keys ≤ 4) × (z.places ≤ 8)) (sym (change.others x (eqb-false _ _ e))) (within x)

-- a fragment is kept in a free place, for a row of the sender
module _ (t : Table) (s : Sound t) (step : InStep t) (sender row i : ℕ) (in-32 : i < 32) (p : Place) (own : p.owner ≡ owner_of row) (free : (place_at t i).owner ≡ 0) (its : of_sender t sender row ≡ true) where
  abbrev put : Table
  put = with_place t i p

  kept_here : (x : ℕ) → kept_for put x i ≡ of_sender t x row
  kept_here x = kept_by put x i row (ap (λ (q : Place). q.owner) (put_here t i p s.places_long in-32) ∙ own)

  kept_elsewhere : (x j : ℕ) → (j ≡ i → ⊥) → kept_for put x j ≡ kept_for t x j
  kept_elsewhere x j ne = ap (λ (q : Place). not (is_free q) && of_sender t x (q.owner - 1)) (put_elsewhere t i p j ne)

  not_others : (x : ℕ) → (x ≡ sender → ⊥) → of_sender t x row ≡ false
  not_others x ne = rw ((of_sender_lem t sender row its).0, ne_eqb _ _ (λ (e : sender_at t row ≡ x). ne (sym e ∙ (of_sender_lem t sender row its).1)))

  pub kept_changes : Changed t put sender (record { keys = (totals_of t sender).keys; places = (totals_of t sender).places + 1 })
  kept_changes = record {
    used_long = s.used_long;
    keys_long = s.sender_keys_long;
    places_long = s.sender_places_long;
    as_counted = λ j. record {
      keys = sym (ap (λ (z : Totals). z.keys) (step.as_counted sender)) j;
      places = (count_more (kept_for t sender) (kept_for put sender) i (λ k ne. sym (kept_elsewhere sender k ne)) 32 in-32 (kept_free t sender i free) (kept_here sender ∙ its) ∙ ap (λ (z : Totals). z.places + 1) (sym (step.as_counted sender))) j;
    };
    others = λ x ne j. record { keys = (counted_for t x).keys; places = count_same (kept_for put x) (kept_for t x) 32 (λ k h. by_place x ne k (eqb k i) refl) j };
    told = λ x ne l. refl;
    lone = λ lone. lone;
  }
    where
      by_place : (x : ℕ) → (x ≡ sender → ⊥) → (k : ℕ) (b : Bool) → eqb k i ≡ b → kept_for put x k ≡ kept_for t x k
      by_place x ne k true e = ap (kept_for put x) (eqb-true _ _ e) ∙ kept_here x ∙ not_others x ne ∙ sym (kept_free t x i free) ∙ ap (kept_for t x) (sym (eqb-true _ _ e))
      by_place x ne k false e = kept_elsewhere x k (eqb-false _ _ e)

-- the rows and places of any sender, where one row's key was set or dropped
module _ (t u : Table) (row : ℕ) (same_used : (r : ℕ) → (r ≡ row → ⊥) → get_or u.used r false ≡ get_or t.used r false) (same_key : (r : ℕ) → (r ≡ row → ⊥) → get_or u.row_keys r 0 ≡ get_or t.row_keys r 0) where
  row_elsewhere : (x r : ℕ) → (r ≡ row → ⊥) → of_sender u x r ≡ of_sender t x r
  row_elsewhere x r ne = rw (same_used r ne, same_key r ne)

  row_everywhere : (x : ℕ) → of_sender u x row ≡ of_sender t x row → (r : ℕ) → of_sender u x r ≡ of_sender t x r
  row_everywhere x here r = by_row (eqb r row) refl
    where
      by_row : (b : Bool) → eqb r row ≡ b → of_sender u x r ≡ of_sender t x r
      by_row true e = ap (of_sender u x) (eqb-true _ _ e) ∙ here ∙ ap (of_sender t x) (sym (eqb-true _ _ e))
      by_row false e = row_elsewhere x r (eqb-false _ _ e)

-- a row that was free gets a key of the sender, and a free place its fragment
module _ (t : Table) (s : Sound t) (step : InStep t) (row key time i : ℕ) (in-16 : row < 16) (in-32 : i < 32) (p : Place) (own : p.owner ≡ owner_of row) (free : (place_at t i).owner ≡ 0) (spare : get_or t.used row false ≡ false) where
  abbrev opener : ℕ
  opener = sender_of_lem key

  abbrev opened : Table
  opened = with_key (with_totals t opener no_totals) row key time

  abbrev filled : Table
  filled = with_place opened i p

  same_used : (r : ℕ) → (r ≡ row → ⊥) → get_or opened.used r false ≡ get_or t.used r false
  same_used r ne = get_or-set_other t.used row r true false ne

  same_key : (r : ℕ) → (r ≡ row → ⊥) → get_or opened.row_keys r 0 ≡ get_or t.row_keys r 0
  same_key r ne = get_or-set_other t.row_keys row r key 0 ne

  row_here : (x : ℕ) → of_sender opened x row ≡ eqb opener x
  row_here x = rw (get_or-set_same t.used row true false (omega (arith, s.used_long)), get_or-set_same t.row_keys row key 0 (omega (arith, s.row_keys_long)))

  row_before : (x : ℕ) → of_sender t x row ≡ false
  row_before x = rw spare

  same_row : (x : ℕ) → (x ≡ opener → ⊥) → (r : ℕ) → of_sender opened x r ≡ of_sender t x r
  same_row x ne = row_everywhere t opened row same_used same_key x (row_here x ∙ ne_eqb _ _ (λ (e : opener ≡ x). ne (sym e)) ∙ sym (row_before x))

  -- no place was the row's
  kept_as_was : (x j : ℕ) → (j ≡ i → ⊥) → kept_for filled x j ≡ kept_for t x j
  kept_as_was x j ne =
      ap (λ (q : Place). not (is_free q) && of_sender opened x (q.owner - 1)) (put_elsewhere opened i p j ne)
      ∙ by_owner (place_at t j).owner (kept_for opened x j ≡ kept_for t x j) (λ e. kept_free opened x j e ∙ sym (kept_free t x j e))
      (λ r e. kept_by opened x j r e ∙ row_elsewhere t opened row same_used same_key x r (λ same. false≢true (sym spare ∙ ap (λ (k : ℕ). get_or t.used k false) (sym same) ∙ s.owned j r e)) ∙ sym (kept_by t x j r e))

  filled_here : (x : ℕ) → kept_for filled x i ≡ eqb opener x
  filled_here x =
      let long : Long opened = record { types = s.places_long.types; sizes = s.places_long.sizes; owners = s.places_long.owners; numbers = s.places_long.numbers; versions = s.places_long.versions } in
      kept_by filled x i row (ap (λ (q : Place). q.owner) (put_here opened i p long in-32) ∙ own) ∙ row_here x

  pub opened_changes : Changed t filled opener (record { keys = (totals_of t opener).keys + 1; places = (totals_of t opener).places + 1 })
  opened_changes = record {
    used_long = length-set t.used row true ∙ s.used_long;
    keys_long = length-set t.sender_keys (first_row_lem t opener) 0 ∙ s.sender_keys_long;
    places_long = length-set t.sender_places (first_row_lem t opener) 0 ∙ s.sender_places_long;
    as_counted = λ j. record {
      keys = (count_more (of_sender t opener) (of_sender opened opener) row (λ k ne. sym (row_elsewhere t opened row same_used same_key opener k ne)) 16 in-16 (row_before opener) (row_here opener ∙ eq-eqb opener opener refl)
          ∙ ap (λ (z : Totals). z.keys + 1) (sym (step.as_counted opener))) j;
      places = (count_more (kept_for t opener) (kept_for filled opener) i (λ k ne. sym (kept_as_was opener k ne)) 32 in-32 (kept_free t opener i free) (filled_here opener ∙ eq-eqb opener opener refl)
          ∙ ap (λ (z : Totals). z.places + 1) (sym (step.as_counted opener))) j;
    };
    others = λ x ne j. record {
      keys = count_same (of_sender opened x) (of_sender t x) 16 (λ r h. same_row x ne r) j;
      places = count_same (kept_for filled x) (kept_for t x) 32 (λ k h. by_place x ne k (eqb k i) refl) j;
    };
    told = told_as_was;
    lone = λ lone row behind. by_first lone row behind (eqb row (first_row_lem t opener)) refl;
  }
    where
      first_same : (x : ℕ) → (x ≡ opener → ⊥) → first_row_lem opened x ≡ first_row_lem t x
      first_same x ne = lowest_same (of_sender opened x) (of_sender t x) 16 (λ r h. same_row x ne r)

      by_first : Lone t → (r : ℕ) → Behind opened r → (b : Bool) → eqb r (first_row_lem t opener) ≡ b → totals_in opened.sender_keys opened.sender_places r ≡ no_totals
      by_first lone r behind true e = put_none t.sender_keys t.sender_places r (first_row_lem t opener) s.sender_keys_long s.sender_places_long (eqb-true _ _ e)
      by_first lone r behind false e = put_apart t.sender_keys t.sender_places r (first_row_lem t opener) no_totals (eqb-false _ _ e) ∙ lone r (λ x q. by_sender x q (eqb x opener) refl)
        where
          by_sender : (x : ℕ) → first_row_lem t x ≡ r → (c : Bool) → eqb x opener ≡ c → ⊥
          by_sender x q true f = eqb-false r (first_row_lem t opener) e (sym q ∙ ap (first_row_lem t) (eqb-true x opener f))
          by_sender x q false f = behind x (first_same x (eqb-false _ _ f) ∙ q)

      by_place : (x : ℕ) → (x ≡ opener → ⊥) → (k : ℕ) (b : Bool) → eqb k i ≡ b → kept_for filled x k ≡ kept_for t x k
      by_place x ne k true e = ap (kept_for filled x) (eqb-true _ _ e) ∙ filled_here x ∙ ne_eqb _ _ (λ (q : opener ≡ x). ne (sym q)) ∙ sym (kept_free t x i free) ∙ ap (kept_for t x) (sym (eqb-true _ _ e))
      by_place x ne k false e = kept_as_was x k (eqb-false _ _ e)

      told_as_was : (x : ℕ) → (x ≡ opener → ⊥) → first_row_lem opened x < 16 → totals_of opened x ≡ totals_of t x
      told_as_was x ne l =
          let first = first_same x ne in
          ap (totals_in opened.sender_keys opened.sender_places) first ∙ put_apart t.sender_keys t.sender_places (first_row_lem t x) (first_row_lem t opener) no_totals (first_apart t x opener ne (omega arith))

-- a row's key is dropped
module _ (t : Table) (s : Sound t) (step : InStep t) (row : ℕ) (in-16 : row < 16) (used : get_or t.used row false ≡ true) where
  abbrev loser : ℕ
  loser = sender_at t row

  abbrev left : Table
  left = cleared t row

  its_row : of_sender t loser row ≡ true
  its_row = rw (used, eq-eqb (sender_at t row) (sender_at t row) refl)

  gone : (x : ℕ) → of_sender left x row ≡ false
  gone x = rw (get_or-set_same t.used row false false (omega (arith, s.used_long)))

  left_elsewhere : (x r : ℕ) → (r ≡ row → ⊥) → of_sender left x r ≡ of_sender t x r
  left_elsewhere = row_elsewhere t left row (λ r ne. get_or-set_other t.used row r false false ne) (λ r ne. get_or-set_other t.row_keys row r 0 0 ne)

  left_place : (j : ℕ) → place_at left j ≡ freed row (place_at t j)
  unfolding without
  left_place j = freed_at t row j

  abbrev owns : ℕ → Bool
  owns j = eqb (place_at t j).owner (owner_of row)

  -- a place of another row, or of this one
  kept_other : (x j r : ℕ) → (place_at t j).owner ≡ owner_of r → (r ≡ row → ⊥) → kept_for left x j ≡ of_sender t x r
  kept_other x j r e ne =
      let stays : place_at left j ≡ place_at t j = left_place j ∙ rw (ne_eqb (place_at t j).owner (owner_of row) (λ q. ne (omega arith))) in
      kept_by left x j r (ap (λ (q : Place). q.owner) stays ∙ e) ∙ left_elsewhere x r ne

  kept_gone : (x j : ℕ) → owns j ≡ true → kept_for left x j ≡ false
  kept_gone x j e = let now-free : place_at left j ≡ free_place = left_place j ∙ rw e in kept_free left x j (ap (λ (q : Place). q.owner) now-free)

  kept_none : (x j : ℕ) → (place_at t j).owner ≡ 0 → kept_for left x j ≡ false
  kept_none x j e =
      let stays : place_at left j ≡ place_at t j = left_place j ∙ rw (ne_eqb (place_at t j).owner (owner_of row) (λ q. omega arith)) in
      kept_free left x j (ap (λ (q : Place). q.owner) stays ∙ e)

  split : (j : ℕ) → kept_for t loser j ≡ (kept_for left loser j || owns j)
  split j = by_owner (place_at t j).owner (kept_for t loser j ≡ (kept_for left loser j || owns j)) free_one (λ r e. by_row r e (eqb r row) refl)
    where
      free_one : (place_at t j).owner ≡ 0 → kept_for t loser j ≡ (kept_for left loser j || owns j)
      free_one e = kept_free t loser j e ∙ sym (rw (kept_none loser j e, ne_eqb (place_at t j).owner (owner_of row) (λ q. omega arith)))

      by_row : (r : ℕ) → (place_at t j).owner ≡ owner_of r → (b : Bool) → eqb r row ≡ b → kept_for t loser j ≡ (kept_for left loser j || owns j)
      by_row r e true q = let mine : owns j ≡ true = eq-eqb _ _ (e ∙ ap owner_of (eqb-true r row q)) in kept_by t loser j row (e ∙ ap owner_of (eqb-true _ _ q)) ∙ its_row ∙ sym (rw (kept_gone loser j mine, mine))
      by_row r e false q = kept_by t loser j r e ∙ sym (rw (kept_other loser j r e (eqb-false _ _ q), ne_eqb (place_at t j).owner (owner_of row) (λ z. eqb-false r row q (omega arith))) (or-false (of_sender t loser r)))

  -- never both
  apart : (j : ℕ) → kept_for left loser j ≡ true → owns j ≡ false
  apart j e = by_test (owns j) refl
    where
      by_test : (b : Bool) → owns j ≡ b → owns j ≡ false
      by_test true q = absurd (false≢true (sym (kept_gone loser j q) ∙ e))
      by_test false q = q

  -- what stays as it was for another sender
  same_left : (x : ℕ) → (x ≡ loser → ⊥) → (r : ℕ) → of_sender left x r ≡ of_sender t x r
  same_left x ne r = by_row (eqb r row) refl
    where
      by_row : (b : Bool) → eqb r row ≡ b → of_sender left x r ≡ of_sender t x r
      by_row true e = ap (of_sender left x) (eqb-true _ _ e) ∙ gone x ∙ sym (rw (ne_eqb (sender_at t row) x (λ q. ne (sym q))) (and-false (get_or t.used row false))) ∙ ap (of_sender t x) (sym (eqb-true _ _ e))
      by_row false e = left_elsewhere x r (eqb-false _ _ e)

  same_kept : (x : ℕ) → (x ≡ loser → ⊥) → (j : ℕ) → kept_for left x j ≡ kept_for t x j
  same_kept x ne j = by_owner (place_at t j).owner (kept_for left x j ≡ kept_for t x j) (λ e. kept_none x j e ∙ sym (kept_free t x j e)) (λ r e. by_row r e (eqb r row) refl)
    where
      by_row : (r : ℕ) → (place_at t j).owner ≡ owner_of r → (b : Bool) → eqb r row ≡ b → kept_for left x j ≡ kept_for t x j
      by_row r e true q =
          let mine : (place_at t j).owner ≡ owner_of row = e ∙ ap owner_of (eqb-true r row q) in
          kept_gone x j (eq-eqb _ _ mine) ∙ sym (gone x) ∙ same_left x ne row ∙ sym (kept_by t x j row mine)
      by_row r e false q = kept_other x j r e (eqb-false _ _ q) ∙ sym (kept_by t x j r e)

  pub dropped_changes : Changed t left loser (less_key (totals_of t loser) (places_in t row))
  dropped_changes = record {
    used_long = length-set t.used row false ∙ s.used_long;
    keys_long = length-set t.sender_keys row 0 ∙ s.sender_keys_long;
    places_long = length-set t.sender_places row 0 ∙ s.sender_places_long;
    as_counted = λ j. record { keys = keys_less j; places = places_less j };
    others = λ x ne j. record { keys = count_same (of_sender left x) (of_sender t x) 16 (λ r h. same_left x ne r) j; places = count_same (kept_for left x) (kept_for t x) 32 (λ k h. same_kept x ne k) j };
    told = told_as_was;
    lone = λ lone r behind. by_dropped lone r behind (eqb r row) refl;
  }
    where
      first_same : (x : ℕ) → (x ≡ loser → ⊥) → first_row_lem left x ≡ first_row_lem t x
      first_same x ne = lowest_same (of_sender left x) (of_sender t x) 16 (λ r h. same_left x ne r)

      -- the sender's lowest row stays, if it is another one
      first_stays : (first_row_lem t loser ≡ row → ⊥) → first_row_lem t loser ≡ first_row_lem left loser
      first_stays ne = lowest_is (of_sender left loser) 16 (first_row_lem t loser) inside (left_elsewhere loser (first_row_lem t loser) ne ∙ lowest_holds (of_sender t loser) 16 inside) (λ j h. by_row j h (eqb j row) refl)
        where
          inside : first_row_lem t loser < 16
          inside = by_end (ltb (first_row_lem t loser) 16) refl
            where
              by_end : (b : Bool) → ltb (first_row_lem t loser) 16 ≡ b → first_row_lem t loser < 16
              by_end true q = ltb-true _ _ q
              by_end false q = absurd (false≢true (sym (lowest_before (of_sender t loser) 16 row (omega (arith, ltb-false (first_row_lem t loser) 16 q))) ∙ its_row))

          by_row : (j : ℕ) → j < first_row_lem t loser → (b : Bool) → eqb j row ≡ b → of_sender left loser j ≡ false
          by_row j h true q = ap (of_sender left loser) (eqb-true _ _ q) ∙ gone loser
          by_row j h false q = left_elsewhere loser j (eqb-false _ _ q) ∙ lowest_before (of_sender t loser) 16 j h

      by_dropped : Lone t → (r : ℕ) → Behind left r → (b : Bool) → eqb r row ≡ b → totals_in left.sender_keys left.sender_places r ≡ no_totals
      by_dropped lone r behind true e = put_none t.sender_keys t.sender_places r row s.sender_keys_long s.sender_places_long (eqb-true _ _ e)
      by_dropped lone r behind false e = put_apart t.sender_keys t.sender_places r row no_totals (eqb-false _ _ e) ∙ lone r (λ x q. by_sender x q (eqb x loser) refl)
        where
          by_sender : (x : ℕ) → first_row_lem t x ≡ r → (c : Bool) → eqb x loser ≡ c → ⊥
          by_sender x q true f =
              let its = sym (ap (first_row_lem t) (eqb-true x loser f)) ∙ q in
              behind loser (sym (first_stays (λ z. eqb-false r row e (sym its ∙ z))) ∙ its)
          by_sender x q false f = behind x (first_same x (eqb-false _ _ f) ∙ q)

      keys_less : how_many (of_sender left loser) 16 ≡ (totals_of t loser).keys - 1
      keys_less =
          let more = count_more (of_sender left loser) (of_sender t loser) row (left_elsewhere loser) 16 in-16 (gone loser) its_row in
          let said = ap (λ (z : Totals). z.keys) (step.as_counted loser) in
          omega arith

      places_less : how_many (kept_for left loser) 32 ≡ (totals_of t loser).places - places_in t row
      places_less =
          let sum = count_same (kept_for t loser) (λ j. kept_for left loser j || owns j) 32 (λ j h. split j) ∙ count_sum (kept_for left loser) owns 32 (λ j h. apart j) in
          let said = ap (λ (z : Totals). z.places) (step.as_counted loser) in
          omega arith

      told_as_was : (x : ℕ) → (x ≡ loser → ⊥) → first_row_lem left x < 16 → totals_of left x ≡ totals_of t x
      told_as_was x ne l =
          let first = first_same x ne in
          ap (totals_in left.sender_keys left.sender_places) first ∙ put_apart t.sender_keys t.sender_places (first_row_lem t x) row no_totals (rows_apart t x loser row ne its_row (omega arith))

  pub drop_in_step : InStep (without t row)
  unfolding without
  drop_in_step = stays_in_step t left loser (less_key (totals_of t loser) (places_in t row)) dropped_changes step

  pub drop_within : WithinShares t → WithinShares (without t row)
  unfolding without
  drop_within within =
      let said = step.as_counted loser in
      let had = within loser in
      stays_within t left loser (less_key (totals_of t loser) (places_in t row)) dropped_changes within
      (omega (arith, ap (λ (z : Totals). z.keys) said)) (omega (arith, ap (λ (z : Totals). z.places) said))

-- a fresh table
module _ (sender : ℕ) where
  fresh_none : 16 ≤ first_row_lem fresh_table sender
  fresh_none = omega (arith, lowest_none (of_sender fresh_table sender) 16 (λ row h. rw (all_same 16 row false)))

  fresh_counted : counted_for fresh_table sender ≡ no_totals
  fresh_counted = nothing_counted fresh_table fresh_sound.used_long sender fresh_none

  pub fresh_within : ((counted_for fresh_table sender).keys ≤ 4) × ((counted_for fresh_table sender).places ≤ 8)
  fresh_within = subst (λ (z : Totals). (z.keys ≤ 4) × (z.places ≤ 8)) (sym fresh_counted) (omega arith, omega arith)

pub fresh_in_step : InStep fresh_table
fresh_in_step = record {
  as_counted = λ sender. rw (le-ltb _ _ (fresh_none sender)) (sym (fresh_counted sender));
  no_others = λ row behind. (λ j. cond (ltb row 16) (record { keys = all_same {A = ℕ} 16 row 0 j; places = all_same {A = ℕ} 16 row 0 j }) no_totals) ∙ either (ltb row 16);
}
  where
    either : (b : Bool) → cond b no_totals no_totals ≡ no_totals
    either true = refl
    either false = refl
