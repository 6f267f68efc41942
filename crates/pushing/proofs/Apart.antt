-- What one key holds, by fragment number, and its first time are untouched by every call under another key, and by the drop of another key's row.
use mathlib.Core.Path.{◌≡◌, refl, sym, ap, ◌∙◌}
use mathlib.Core.List.{List}
use mathlib.Core.Bool.{Bool, true, false, cond, false≢true}
use Prim.Native.Nat.{ℕ, ◌*◌, ◌≤◌, ◌<◌}
use native.Mathlib.Omega.{arith}
use lib.Dec.{ltb}
use lib.ListN.{length, get_or}
use lib.Seq.{paste, get_or-set_other}
use borrow.Author.Tests.{eqb-true, ltb-true, ltb-false, not-true}
use Rattle.table.specs.declared.Table.{Table}
use Rattle.pushing.specs.declared.Arrival.{Arrival}
use Rattle.table.specs.Rows.{place_at, row_of, is_spare, place_of, is_free, lowest_free, with_key, with_place, without}
use Rattle.pushing.specs.Joining.{kept_at, held_in_lem, since, first_time}
pub use Rattle.pushing.specs.Claims.{Untouched}
use Rattle.pushing.specs.Push.{Way, way, table_by, store_by, place_for}
use Rattle.searching.proofs.Search.{lowest_holds}
use Rattle.table.proofs.Apart.{Same, same_place, put_same, row_after_drop, drop_same, row_after_open}
use Rattle.table.proofs.Sound.{dropped_time, Sound, place_holds, row_holds, own_used}
use Rattle.pushing.proofs.Pieces.{kept_out, kept_same}
use Rattle.pushing.proofs.Ways.{Went, went, went_refuse, went_duplicate, went_keep, went_open, went_end}

-- what a row that stays as it was holds
module _ (t t' : Table) (store store' : List ℕ) (row : ℕ) (same : Same t t' store store' row) where
  pub same_held : (number : ℕ) → held_in_lem t' store' row number ≡ held_in_lem t store row number
  same_held number = by_found (ltb (place_of t row number) 32) refl
    where
      by_found : (b : Bool) → ltb (place_of t row number) 32 ≡ b → held_in_lem t' store' row number ≡ held_in_lem t store row number
      by_found true e =
          let i = place_of t row number in
          let h = ltb-true i 32 e in
          let own = (place_holds t row number h).0 in
          ap (kept_at t' store') (same_place t t' store store' row same number) ∙ kept_same t t' store store' i (same.stays i own) (same.bytes i own) h
      by_found false e =
          let out : 32 ≤ place_of t' row number = omega (arith, same_place t t' store store' row same number, ltb-false (place_of t row number) 32 e) in
          kept_out t' store' (place_of t' row number) out ∙ sym (kept_out t store (place_of t row number) (ltb-false _ _ e))

untouched_by : (key : ℕ) (t t' : Table) (store store' : List ℕ) → row_of t' key ≡ row_of t key → (row_of t key < 16 → get_or t'.firsts (row_of t key) 0 ≡ get_or t.firsts (row_of t key) 0)
    → Same t t' store store' (row_of t key) → Untouched key t t' store store'
unfolding first_time
untouched_by key t t' store store' row time same =
    (λ number. ap (λ (r : ℕ). held_in_lem t' store' r number) row ∙ same_held t t' store store' (row_of t key) same number, since_same (ltb (row_of t key) 16) refl)
  where
    since_same : (b : Bool) → ltb (row_of t key) 16 ≡ b → first_time t' key ≡ first_time t key
    since_same true e = rw row (rw e (ap since (time (ltb-true _ _ e))))
    since_same false e = rw row (rw e)

-- the drop of a key's row leaves every other key alone
module _ (t : Table) (s : Sound t) (dropped : ℕ) (in-16 : dropped < 16) where
  pub drop_untouched : (store : List ℕ) (key : ℕ) → (get_or t.row_keys dropped 0 ≡ key → ⊥) → Untouched key t (without t dropped) store store
  drop_untouched store key ne =
      untouched_by key t (without t dropped) store store (row_after_drop t s dropped in-16 key ne) (λ h. dropped_time t dropped (row_of t key) other) (drop_same t s store (row_of t key) dropped other)
    where
      other : row_of t key ≡ dropped → ⊥
      other e = ne (ap (λ (r : ℕ). get_or t.row_keys r 0) (sym e) ∙ (row_holds t key (omega arith)).1)

-- a push under another key
module _ (t : Table) (s : Sound t) (store : List ℕ) (a : Arrival) (payload : List ℕ) (room : ℕ) (key : ℕ) (other : a.key ≡ key → ⊥) where
  abbrev own : ℕ
  own = row_of t a.key

  -- the two keys' rows differ, where the pushed key has one
  apart : own < 16 → row_of t key ≡ own → ⊥
  apart h e = other (sym (row_holds t a.key h).1 ∙ ap (λ (r : ℕ). get_or t.row_keys r 0) (sym e) ∙ (row_holds t key (omega arith)).1)

  free_owner : (i : ℕ) → i ≡ lowest_free t → i < 32 → (place_at t i).owner ≡ 0
  free_owner i e h = eqb-true _ _ (ap (λ (k : ℕ). is_free (place_at t k)) e ∙ lowest_holds (λ k. is_free (place_at t k)) 32 (omega arith))

  push_apart : {w : Way} → Went t store a payload room w → Untouched key t (table_by w t a (length payload)) store (store_by w store payload)
  unfolding kept_at first_time
  push_apart (went_refuse n values why) = ((λ number. refl), refl)
  push_apart went_duplicate = ((λ number. refl), refl)
  push_apart (went_keep i h₁ h₂ h₃ l e h k share) =
      let free = free_owner i e h in
      let p = place_for own a.fragment (length payload) in
      untouched_by key t (with_place t i p) store (paste store (i * 1492) payload (length payload)) refl (λ q. refl)
      (put_same t s store payload (row_of t key) i p h h₁ h₂ (λ f. omega arith) (λ f. apart k (omega arith)))
  push_apart (went_open i row h₁ h₂ h₃ l e h k e₂ h₄ share share₂) =
      let free = free_owner i e h in
      let spare : get_or t.used row false ≡ false = ap (λ (r : ℕ). get_or t.used r false) e₂ ∙ not-true _ (lowest_holds (is_spare t) 16 (omega arith)) in
      let ne : row_of t key ≡ row → ⊥ = λ same. false≢true (sym spare ∙ ap (λ (r : ℕ). get_or t.used r false) (sym same) ∙ (row_holds t key (omega arith)).0) in
      let p = place_for row a.fragment (length payload) in
      let same = put_same t s store payload (row_of t key) i p h h₁ h₂ (λ f. omega arith) (λ f. ne (omega arith)) in
      untouched_by key t (with_place (with_key t row a.key a.time) i p) store (paste store (i * 1492) payload (length payload)) (row_after_open t s row a.key a.time key other h₄ spare)
      (λ q. get_or-set_other t.firsts row (row_of t key) a.time 0 ne) (record { stays = same.stays; bytes = same.bytes; none = same.none })
  push_apart (went_end heard bytes h₁ h₂ h₃ l e) = rw (own_used t s a.key) (by_row (ltb own 16) refl)
    where
      by_row : (b : Bool) → ltb own 16 ≡ b → Untouched key t (cond b (without t own) t) store store
      by_row true q = drop_untouched t s own (ltb-true _ _ q) store key (λ same. other (sym (row_holds t a.key (ltb-true _ _ q)).1 ∙ same))
      by_row false q = ((λ number. refl), refl)

  -- refused or not, it leaves what the key holds, and its first time, as they were
  pub push_untouched : Untouched key t (table_by (way t store a payload room) t a (length payload)) store (store_by (way t store a payload room) store payload)
  push_untouched = push_apart (went t store a payload room)
