-- What holds of a fresh table stays so with each change, and what a search says of such a table.
use mathlib.Core.Path.{◌≡◌, refl, sym, ap, ◌∙◌, subst}
use mathlib.Core.Bool.{Bool, true, false, cond, ◌&&◌, false≢true}
use Prim.Native.Nat.{ℕ, ◌≤◌, ◌<◌}
use native.Mathlib.Omega.{arith}
use lib.Dec.{eqb, ltb}
use lib.ListN.{length, get_or, length-set, length-replicate, get_or-eq_default}
use lib.Seq.{get_or-set_same, get_or-set_other}
use borrow.Author.Tests.{eqb-true, eq-eqb, ltb-true, ltb-false}
use Rattle.table.specs.declared.Table.{Table}
use Rattle.table.specs.declared.Totals.{Totals}
pub use Rattle.table.specs.Sound.{Sound}
use Rattle.table.specs.Sound.{Long}
use Rattle.table.specs.Rows.{Place, owner_of, free_place, fresh_table, place_at, is_row_of, row_of, is_numbered_lem, place_of, with_key, with_place, put_totals_lem, cleared, without, dropped_key_lem}
use Rattle.searching.proofs.Search.{lowest_holds, lowest_before}
use Rattle.table.proofs.Places.{fresh_long, put_long, drop_long, all_same, after_set, fresh_place, after_put, after_drop}

-- a row that a key has is one of the table's
pub used_row : (t : Table) → Sound t → (row : ℕ) → get_or t.used row false ≡ true → row < 16
used_row t s row e = by_end (ltb row 16) refl
  where
    by_end : (b : Bool) → ltb row 16 ≡ b → row < 16
    by_end true q = ltb-true _ _ q
    by_end false q =
        let long : length t.used ≤ row = omega (arith, s.used_long, ltb-false row 16 q) in
        absurd (false≢true (sym (get_or-eq_default t.used false long) ∙ e))

-- a place that belongs to a row is one of the table's
pub owned_place : (t : Table) → Sound t → (i row : ℕ) → (place_at t i).owner ≡ owner_of row → i < 32
owned_place t s i row e = by_end (ltb i 32) refl
  where
    by_end : (b : Bool) → ltb i 32 ≡ b → i < 32
    by_end true q = ltb-true _ _ q
    by_end false q =
        let long : length t.owners ≤ i = omega (arith, s.places_long.owners, ltb-false i 32 q) in
        let none : (place_at t i).owner ≡ 0 = get_or-eq_default t.owners 0 long in
        absurd (omega arith)

-- what a search for a number or a key says
pub numbered_both : (owner number : ℕ) (p : Place) → is_numbered_lem owner number p ≡ true → (p.owner ≡ owner) × (p.number ≡ number)
numbered_both owner number p e = by_tests (eqb p.owner owner) refl (eqb p.number number) refl e
  where
    by_tests : (b : Bool) → eqb p.owner owner ≡ b → (c : Bool) → eqb p.number number ≡ c → (b && c) ≡ true → (p.owner ≡ owner) × (p.number ≡ number)
    by_tests true f true g q = (eqb-true _ _ f, eqb-true _ _ g)
    by_tests true f false g q = absurd (false≢true q)
    by_tests false f c g q = absurd (false≢true q)

pub is_numbered_law : (owner number : ℕ) (p : Place) → p.owner ≡ owner → p.number ≡ number → is_numbered_lem owner number p ≡ true
is_numbered_law owner number p e f = rw (eq-eqb _ _ e, eq-eqb _ _ f)

pub place_holds : (t : Table) (row number : ℕ) → place_of t row number < 32 → ((place_at t (place_of t row number)).owner ≡ owner_of row) × ((place_at t (place_of t row number)).number ≡ number)
place_holds t row number h = numbered_both (owner_of row) number (place_at t (place_of t row number)) (lowest_holds (λ i. is_numbered_lem (owner_of row) number (place_at t i)) 32 h)

-- a number that a row does not hold is in none of its places
pub not_held : (t : Table) → Sound t → (row number : ℕ) → 32 ≤ place_of t row number → (i : ℕ) → (place_at t i).owner ≡ owner_of row → (place_at t i).number ≡ number → ⊥
not_held t s row number h i e f =
    false≢true (sym (lowest_before (λ j. is_numbered_lem (owner_of row) number (place_at t j)) 32 i (omega (arith, owned_place t s i row e))) ∙ is_numbered_law (owner_of row) number (place_at t i) e f)

-- and one that it holds is in that place alone
pub held_at : (t : Table) → Sound t → (i row : ℕ) → (place_at t i).owner ≡ owner_of row → i ≡ place_of t row (place_at t i).number
held_at t s i row e = by_found (ltb (place_of t row (place_at t i).number) 32) refl
  where
    by_found : (b : Bool) → ltb (place_of t row (place_at t i).number) 32 ≡ b → i ≡ place_of t row (place_at t i).number
    by_found true q =
        let h = place_holds t row (place_at t i).number (ltb-true _ _ q) in
        s.once i (place_of t row (place_at t i).number) row e h.0 (sym h.1)
    by_found false q = absurd (not_held t s row (place_at t i).number (ltb-false _ _ q) i e refl)

-- a row beyond the table's holds nothing
pub no_place : (t : Table) → Sound t → (row number : ℕ) → 16 ≤ row → 32 ≤ place_of t row number
no_place t s row number out = by_found (ltb (place_of t row number) 32) refl
  where
    by_found : (b : Bool) → ltb (place_of t row number) 32 ≡ b → 32 ≤ place_of t row number
    by_found false e = ltb-false _ _ e
    by_found true e =
        let own = (place_holds t row number (ltb-true _ _ e)).0 in
        absurd (omega (arith, used_row t s row (s.owned (place_of t row number) row own)))

pub row_both : (t : Table) (key row : ℕ) → is_row_of t key row ≡ true → (get_or t.used row false ≡ true) × (get_or t.row_keys row 0 ≡ key)
row_both t key row e = by_tests (get_or t.used row false) refl (eqb (get_or t.row_keys row 0) key) refl e
  where
    by_tests : (b : Bool) → get_or t.used row false ≡ b → (c : Bool) → eqb (get_or t.row_keys row 0) key ≡ c → (b && c) ≡ true → (get_or t.used row false ≡ true) × (get_or t.row_keys row 0 ≡ key)
    by_tests true f true g q = (f, eqb-true _ _ g)
    by_tests true f false g q = absurd (false≢true q)
    by_tests false f c g q = absurd (false≢true q)

pub row_holds : (t : Table) (key : ℕ) → row_of t key < 16 → (get_or t.used (row_of t key) false ≡ true) × (get_or t.row_keys (row_of t key) 0 ≡ key)
row_holds t key h = row_both t key (row_of t key) (lowest_holds (is_row_of t key) 16 h)

-- the row of a key has one exactly if it is one of the table's
pub own_used : (t : Table) → Sound t → (key : ℕ) → get_or t.used (row_of t key) false ≡ ltb (row_of t key) 16
own_used t s key = by_end (ltb (row_of t key) 16) refl
  where
    by_end : (b : Bool) → ltb (row_of t key) 16 ≡ b → get_or t.used (row_of t key) false ≡ b
    by_end true q = (row_holds t key (ltb-true _ _ q)).0
    by_end false q = let long : length t.used ≤ row_of t key = omega (arith, s.used_long, ltb-false (row_of t key) 16 q) in get_or-eq_default t.used false long

pub no_row : (t : Table) → Sound t → (key : ℕ) → 16 ≤ row_of t key → (row : ℕ) → get_or t.used row false ≡ true → get_or t.row_keys row 0 ≡ key → ⊥
no_row t s key h row e f =
    let is : is_row_of t key row ≡ true = rw (e, eq-eqb _ _ f) in
    false≢true (sym (lowest_before (is_row_of t key) 16 row (omega (arith, used_row t s row e))) ∙ is)

-- what each change keeps
pub fresh_sound : Sound fresh_table
fresh_sound = record {
  row_keys_long = length-replicate {A = ℕ} 16 0;
  firsts_long = length-replicate {A = ℕ} 16 0;
  places_long = fresh_long;
  used_long = length-replicate 16 false;
  sender_keys_long = length-replicate {A = ℕ} 16 0;
  sender_places_long = length-replicate {A = ℕ} 16 0;
  small = λ i. subst (λ (p : Place). p.size ≤ 1492) (sym (fresh_place i)) (omega arith);
  byte = λ i. subst (λ (p : Place). p.number < 256) (sym (fresh_place i)) (omega arith);
  owned = λ i row e. absurd (unowned i row e);
  once = λ i j row e f g. absurd (unowned i row e);
  keyed = λ r s e f g. absurd (false≢true (sym (all_same 16 r false) ∙ e));
}
  where
    unowned : (i row : ℕ) → (place_at fresh_table i).owner ≡ owner_of row → ⊥
    unowned i row e = let none : (place_at fresh_table i).owner ≡ 0 = ap (λ (p : Place). p.owner) (fresh_place i) in omega arith

module _ (t : Table) (s : Sound t) (at row : ℕ) (in-32 : at < 32) (p : Place) (e : p.owner ≡ owner_of row) (small : p.size ≤ 1492) (byte : p.number < 256) (used : get_or t.used row false ≡ true)
    (new : (j : ℕ) → (place_at t j).owner ≡ owner_of row → (place_at t j).number ≡ p.number → ⊥) where
  at_place : (P : Place → Type 0) (i : ℕ) → (i ≡ at → P p) → ((i ≡ at → ⊥) → P (place_at t i)) → P (place_at (with_place t at p) i)
  at_place = after_put t at p s.places_long in-32

  owner_at : (i r : ℕ) → (place_at (with_place t at p) i).owner ≡ owner_of r → get_or t.used r false ≡ true
  owner_at i r = at_place (λ (q : Place). q.owner ≡ owner_of r → get_or t.used r false ≡ true) i
      (λ here own. subst (λ (k : ℕ). get_or t.used k false ≡ true) (the_row own) used) (λ other own. s.owned i r own)
    where
      the_row : p.owner ≡ owner_of r → row ≡ r
      the_row own = omega (arith, e)

  -- the place that was set, beside another
  apart : (j r : ℕ) → (place_at t j).owner ≡ owner_of r → p.owner ≡ owner_of r → p.number ≡ (place_at t j).number → ⊥
  apart j r f own g =
      let same : r ≡ row = omega (arith, e) in
      new j (f ∙ ap owner_of same) (sym g)

  once_at : (i j r : ℕ) → (place_at (with_place t at p) i).owner ≡ owner_of r → (place_at (with_place t at p) j).owner ≡ owner_of r → (place_at (with_place t at p) i).number ≡ (place_at (with_place t at p) j).number → i ≡ j
  once_at i j r =
      at_place (λ (q : Place). q.owner ≡ owner_of r → (place_at (with_place t at p) j).owner ≡ owner_of r → q.number ≡ (place_at (with_place t at p) j).number → i ≡ j) i
      (λ here own. at_place (λ (z : Place). z.owner ≡ owner_of r → p.number ≡ z.number → i ≡ j) j (λ here₂ f g. here ∙ sym here₂) (λ other f g. absurd (apart j r f own g)))
      (λ other own. at_place (λ (z : Place). z.owner ≡ owner_of r → (place_at t i).number ≡ z.number → i ≡ j) j (λ here f g. absurd (apart i r own f (sym g))) (λ other₂ f g. s.once i j r own f g))

  pub put_sound : Sound (with_place t at p)
  put_sound = record {
    row_keys_long = s.row_keys_long;
    firsts_long = s.firsts_long;
    places_long = put_long t s.places_long at p;
    used_long = s.used_long;
    sender_keys_long = s.sender_keys_long;
    sender_places_long = s.sender_places_long;
    small = λ i. at_place (λ (q : Place). q.size ≤ 1492) i (λ here. small) (λ other. s.small i);
    byte = λ i. at_place (λ (q : Place). q.number < 256) i (λ here. byte) (λ other. s.byte i);
    owned = owner_at;
    once = once_at;
    keyed = s.keyed;
  }

module _ (t : Table) (s : Sound t) (row key time : ℕ) (in-16 : row < 16) (new : 16 ≤ row_of t key) where
  still_used : (r : ℕ) → get_or t.used r false ≡ true → get_or (with_key t row key time).used r false ≡ true
  still_used r e = after_set (λ (b : Bool). b ≡ true) t.used row r true false (omega (arith, s.used_long)) (λ here. refl) (λ other. e)

  was_used : (r : ℕ) → (r ≡ row → ⊥) → get_or (with_key t row key time).used r false ≡ true → get_or t.used r false ≡ true
  was_used r other e = sym (get_or-set_other t.used row r true false other) ∙ e

  keyed_at : (r q : ℕ) → get_or (with_key t row key time).used r false ≡ true → get_or (with_key t row key time).used q false ≡ true → get_or (with_key t row key time).row_keys r 0 ≡ get_or (with_key t row key time).row_keys q 0 → r ≡ q
  keyed_at r q e f =
      after_set (λ (k : ℕ). k ≡ get_or (with_key t row key time).row_keys q 0 → r ≡ q) t.row_keys row r key 0 (omega (arith, s.row_keys_long))
      (λ here. after_set (λ (k : ℕ). key ≡ k → r ≡ q) t.row_keys row q key 0 (omega (arith, s.row_keys_long)) (λ here₂ g. here ∙ sym here₂) (λ other g. absurd (no_row t s key new q (was_used q other f) (sym g))))
      (λ other. after_set (λ (k : ℕ). get_or t.row_keys r 0 ≡ k → r ≡ q) t.row_keys row q key 0 (omega (arith, s.row_keys_long))
      (λ here g. absurd (no_row t s key new r (was_used r other e) g)) (λ other₂ g. s.keyed r q (was_used r other e) (was_used q other₂ f) g))

  -- the lists of places stay
  opened_long : Long t → Long (with_key t row key time)
  opened_long l = record { types = l.types; sizes = l.sizes; owners = l.owners; numbers = l.numbers; versions = l.versions }

  pub open_sound : Sound (with_key t row key time)
  open_sound = record {
    row_keys_long = length-set t.row_keys row key ∙ s.row_keys_long;
    firsts_long = length-set t.firsts row time ∙ s.firsts_long;
    places_long = opened_long s.places_long;
    used_long = length-set t.used row true ∙ s.used_long;
    sender_keys_long = s.sender_keys_long;
    sender_places_long = s.sender_places_long;
    small = s.small;
    byte = s.byte;
    owned = λ i r e. still_used r (s.owned i r e);
    once = s.once;
    keyed = keyed_at;
  }

-- the totals of a sender are put
pub totals_sound : (t : Table) → Sound t → (row : ℕ) (held : Totals) → Sound (put_totals_lem t row held)
totals_sound t s row held = record {
  row_keys_long = s.row_keys_long;
  firsts_long = s.firsts_long;
  places_long = record { types = s.places_long.types; sizes = s.places_long.sizes; owners = s.places_long.owners; numbers = s.places_long.numbers; versions = s.places_long.versions };
  used_long = s.used_long;
  sender_keys_long = length-set t.sender_keys row held.keys ∙ s.sender_keys_long;
  sender_places_long = length-set t.sender_places row held.places ∙ s.sender_places_long;
  small = s.small;
  byte = s.byte;
  owned = s.owned;
  once = s.once;
  keyed = s.keyed;
}

-- the other rows after a drop
module _ (t : Table) (row r : ℕ) (other : r ≡ row → ⊥) where
  pub dropped_other : get_or (without t row).used r false ≡ get_or t.used r false
  unfolding without
  dropped_other = get_or-set_other t.used row r false false other

  pub dropped_key : get_or (without t row).row_keys r 0 ≡ get_or t.row_keys r 0
  unfolding without
  dropped_key = get_or-set_other t.row_keys row r 0 0 other

  pub dropped_time : get_or (without t row).firsts r 0 ≡ get_or t.firsts r 0
  unfolding without
  dropped_time = get_or-set_other t.firsts row r 0 0 other

module _ (t : Table) (s : Sound t) (row : ℕ) (in-16 : row < 16) where
  -- a place after the drop is free, or as it was and another row's
  at_freed : (P : Place → Type 0) (i : ℕ) → P free_place → (((place_at t i).owner ≡ owner_of row → ⊥) → P (place_at t i)) → P (place_at (without t row) i)
  at_freed P i free other = after_drop t row P i (λ own. free) other

  pub dropped_unused : get_or (without t row).used row false ≡ false
  unfolding without
  dropped_unused = get_or-set_same t.used row false false (omega (arith, s.used_long))

  not_dropped : (r : ℕ) → get_or (without t row).used r false ≡ true → r ≡ row → ⊥
  not_dropped r e same = false≢true (sym dropped_unused ∙ ap (λ (k : ℕ). get_or (without t row).used k false) (sym same) ∙ e)

  pub drop_sound : Sound (without t row)
  unfolding without
  drop_sound = record {
    row_keys_long = length-set t.row_keys row 0 ∙ s.row_keys_long;
    firsts_long = length-set t.firsts row 0 ∙ s.firsts_long;
    places_long = drop_long t s.places_long row;
    used_long = length-set t.used row false ∙ s.used_long;
    sender_keys_long = length-set (cleared t row).sender_keys _ _ ∙ length-set t.sender_keys row 0 ∙ s.sender_keys_long;
    sender_places_long = length-set (cleared t row).sender_places _ _ ∙ length-set t.sender_places row 0 ∙ s.sender_places_long;
    small = λ i. at_freed (λ (q : Place). q.size ≤ 1492) i (omega arith) (λ other. s.small i);
    byte = λ i. at_freed (λ (q : Place). q.number < 256) i (omega arith) (λ other. s.byte i);
    owned = λ i r. at_freed (λ (q : Place). q.owner ≡ owner_of r → get_or (without t row).used r false ≡ true) i (λ own. absurd (omega arith))
        (λ other own. dropped_other t row r (λ same. other (own ∙ ap owner_of same)) ∙ s.owned i r own);
    once = λ i j r. at_freed (λ (q : Place). q.owner ≡ owner_of r → (place_at (without t row) j).owner ≡ owner_of r → q.number ≡ (place_at (without t row) j).number → i ≡ j) i (λ own f g. absurd (omega arith))
        (λ other own. at_freed (λ (z : Place). z.owner ≡ owner_of r → (place_at t i).number ≡ z.number → i ≡ j) j (λ f g. absurd (omega arith)) (λ other₂ f g. s.once i j r own f g));
    keyed = λ r q e f g.
        let a = not_dropped r e in
        let b = not_dropped q f in
        s.keyed r q (sym (dropped_other t row r a) ∙ e) (sym (dropped_other t row q b) ∙ f) (sym (dropped_key t row r a) ∙ g ∙ dropped_key t row q b);
  }

pub end_sound : (t : Table) → Sound t → (row : ℕ) → Sound (dropped_key_lem t row)
end_sound t s row = by_used (get_or t.used row false) refl
  where
    by_used : (b : Bool) → get_or t.used row false ≡ b → Sound (cond b (without t row) t)
    by_used true e = drop_sound t s row (used_row t s row e)
    by_used false e = s
