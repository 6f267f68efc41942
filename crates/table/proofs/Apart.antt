-- What one row owns, and which row a key has, while a fragment is put for another row or another row's key is dropped.
use mathlib.Core.Path.{◌≡◌, refl, sym, ap, ◌∙◌}
use mathlib.Core.List.{List, ◌++◌, append_assoc}
use mathlib.Core.Bool.{Bool, true, false, ◌&&◌, false≢true}
use Prim.Native.Nat.{ℕ, ◌+◌, ◌*◌, ◌-◌, ◌≤◌, ◌<◌}
use native.Mathlib.Omega.{arith}
use lib.Dec.{eqb, ltb}
use lib.ListN.{length, get_or, take, drop, length-drop, take-append-drop}
use lib.Seq.{paste, drop-paste, drop-drop, take-append-le, drop-append-le, length-take-le, get_or-set_other, get_or-set_same}
use borrow.Author.Tests.{eqb-true, eqb-false, ne_eqb, ltb-true, ltb-false}
use Rattle.table.specs.declared.Table.{Table}
use Rattle.table.specs.Rows.{Place, owner_of, free_place, place_at, is_row_of, row_of, is_numbered_lem, place_of, with_key, with_place, without, bytes_at}
use Rattle.searching.proofs.Search.{lowest_same}
use Rattle.table.proofs.Places.{put_here, put_elsewhere, freed_at}
use Rattle.table.proofs.Sound.{Sound, row_holds, dropped_unused, dropped_other, dropped_key}

-- bytes of one place while another is written
pub headed : (xs zs : List ℕ) (m k : ℕ) → m + k ≤ length xs → take k (drop m (xs ++ zs)) ≡ take k (drop m xs)
headed xs zs m k h =
    ap (take k) (drop-append-le m xs zs (omega arith)) ∙ take-append-le k (drop m xs) zs (simp length-drop (omega arith))

part_before : (d s : List ℕ) (at n m k : ℕ) → m + k ≤ at → at ≤ length d → take k (drop m (paste d at s n)) ≡ take k (drop m d)
part_before d s at n m k h₁ h₂ =
    let long : m + k ≤ length (take at d) = omega (arith, length-take-le at d h₂) in
    ap (λ (l : List ℕ). take k (drop m l)) (append_assoc (take at d) (take n s) (drop (at + n) d))
    ∙ headed (take at d) (take n s ++ drop (at + n) d) m k long
    ∙ sym (headed (take at d) (drop at d) m k long)
    ∙ ap (λ (l : List ℕ). take k (drop m l)) (take-append-drop at d)

part_after : (d s : List ℕ) (at n m : ℕ) → at + n ≤ m → at ≤ length d → n ≤ length s → drop m (paste d at s n) ≡ drop m d
part_after d s at n m h₁ h₂ h₃ =
    let e : at + n + (m - (at + n)) ≡ m = omega arith in
    ap (λ (j : ℕ). drop j (paste d at s n)) (sym e) ∙ sym (drop-drop (m - (at + n)) (at + n) (paste d at s n)) ∙ ap (drop (m - (at + n))) (drop-paste d at s n h₂ h₃)
    ∙ drop-drop (m - (at + n)) (at + n) d ∙ ap (λ (j : ℕ). drop j d) e

pub bytes_apart : (store payload : List ℕ) (p i size : ℕ) → (i ≡ p → ⊥) → size ≤ 1492 → length payload ≤ 1492 → p < 32 → 47744 ≤ length store
    → bytes_at (paste store (p * 1492) payload (length payload)) i size ≡ bytes_at store i size
bytes_apart store payload p i size ne h₁ h₂ h₃ h₄ = by_order (ltb i p) refl (ltb p i) refl
  where
    by_order : (b : Bool) → ltb i p ≡ b → (c : Bool) → ltb p i ≡ c → bytes_at (paste store (p * 1492) payload (length payload)) i size ≡ bytes_at store i size
    by_order true e c f = part_before store payload (p * 1492) (length payload) (i * 1492) size (omega (arith, ltb-true i p e)) (omega arith)
    by_order false e true f = ap (take size) (part_after store payload (p * 1492) (length payload) (i * 1492) (omega (arith, ltb-true p i f)) (omega arith) (omega arith))
    by_order false e false f = absurd (ne (omega (arith, ltb-false i p e, ltb-false p i f)))

-- what a row owned stays as it was, bytes and all, and it owns nothing new
pub record Same (t t' : Table) (store store' : List ℕ) (row : ℕ) : Type 0 where
  pub stays : (i : ℕ) → (place_at t i).owner ≡ owner_of row → place_at t' i ≡ place_at t i
  pub bytes : (i : ℕ) → (place_at t i).owner ≡ owner_of row → bytes_at store' i (place_at t i).size ≡ bytes_at store i (place_at t i).size
  pub none : (i : ℕ) → (place_at t' i).owner ≡ owner_of row → (place_at t i).owner ≡ owner_of row

module _ (t t' : Table) (store store' : List ℕ) (row : ℕ) (same : Same t t' store store' row) where
  same_test : (number i : ℕ) → is_numbered_lem (owner_of row) number (place_at t' i) ≡ is_numbered_lem (owner_of row) number (place_at t i)
  same_test number i = by_owner (eqb (place_at t i).owner (owner_of row)) refl
    where
      by_owner : (b : Bool) → eqb (place_at t i).owner (owner_of row) ≡ b → is_numbered_lem (owner_of row) number (place_at t' i) ≡ is_numbered_lem (owner_of row) number (place_at t i)
      by_owner true e = ap (is_numbered_lem (owner_of row) number) (same.stays i (eqb-true _ _ e))
      by_owner false e =
          let new : eqb (place_at t' i).owner (owner_of row) ≡ false = ne_eqb _ _ (λ f. eqb-false _ _ e (same.none i f)) in
          rw (e, new)

  pub same_place : (number : ℕ) → place_of t' row number ≡ place_of t row number
  same_place number = lowest_same (λ i. is_numbered_lem (owner_of row) number (place_at t' i)) (λ i. is_numbered_lem (owner_of row) number (place_at t i)) 32 (λ i h. same_test number i)

-- a fragment is put into a place that the row does not own, for another row
module _ (t : Table) (s : Sound t) (store payload : List ℕ) (row i : ℕ) (p : Place) (h : i < 32) (long : 47744 ≤ length store) (small : length payload ≤ 1492)
    (was : (place_at t i).owner ≡ owner_of row → ⊥) (new : p.owner ≡ owner_of row → ⊥) where
  pub put_same : Same t (with_place t i p) store (paste store (i * 1492) payload (length payload)) row
  put_same = record {
    stays = λ j own. put_elsewhere t i p j (elsewhere j own);
    bytes = λ j own. bytes_apart store payload i j (place_at t j).size (elsewhere j own) (s.small j) small h long;
    none = λ j own. by_index j own (eqb j i) refl;
  }
    where
      elsewhere : (j : ℕ) → (place_at t j).owner ≡ owner_of row → j ≡ i → ⊥
      elsewhere j own e = was (ap (λ (k : ℕ). (place_at t k).owner) (sym e) ∙ own)

      by_index : (j : ℕ) → (place_at (with_place t i p) j).owner ≡ owner_of row → (b : Bool) → eqb j i ≡ b → (place_at t j).owner ≡ owner_of row
      by_index j own true e =
          let same : j ≡ i = eqb-true _ _ e in
          absurd (new (ap (λ (q : Place). q.owner) (sym (put_here t i p s.places_long h)) ∙ ap (λ (k : ℕ). (place_at (with_place t i p) k).owner) (sym same) ∙ own))
      by_index j own false e = ap (λ (q : Place). q.owner) (sym (put_elsewhere t i p j (eqb-false _ _ e))) ∙ own

-- another row's key is dropped
module _ (t : Table) (s : Sound t) (store : List ℕ) (row dropped : ℕ) (other : row ≡ dropped → ⊥) where
  as_was : (i : ℕ) → ((place_at t i).owner ≡ owner_of dropped → ⊥) → place_at (without t dropped) i ≡ place_at t i
  as_was i ne = freed_at t dropped i ∙ rw (ne_eqb _ _ ne)

  differ : (i : ℕ) → (place_at t i).owner ≡ owner_of row → (place_at t i).owner ≡ owner_of dropped → ⊥
  differ i own e = other (omega arith)

  pub drop_same : Same t (without t dropped) store store row
  drop_same = record {
    stays = λ i own. as_was i (differ i own);
    bytes = λ i own. refl;
    none = λ i own. by_owner i own (eqb (place_at t i).owner (owner_of dropped)) refl;
  }
    where
      by_owner : (i : ℕ) → (place_at (without t dropped) i).owner ≡ owner_of row → (b : Bool) → eqb (place_at t i).owner (owner_of dropped) ≡ b → (place_at t i).owner ≡ owner_of row
      by_owner i own true e =
          let free : place_at (without t dropped) i ≡ free_place = freed_at t dropped i ∙ rw e in
          let none : (place_at (without t dropped) i).owner ≡ 0 = ap (λ (q : Place). q.owner) free in
          absurd (omega arith)
      by_owner i own false e = ap (λ (q : Place). q.owner) (sym (as_was i (eqb-false _ _ e))) ∙ own

-- the rows of keys after a drop
module _ (t : Table) (s : Sound t) (dropped : ℕ) (in-16 : dropped < 16) where
  pub row_after_drop : (key : ℕ) → (get_or t.row_keys dropped 0 ≡ key → ⊥) → row_of (without t dropped) key ≡ row_of t key
  row_after_drop key ne = lowest_same (is_row_of (without t dropped) key) (is_row_of t key) 16 (λ r h. by_row r (eqb r dropped) refl)
    where
      by_row : (r : ℕ) (b : Bool) → eqb r dropped ≡ b → is_row_of (without t dropped) key r ≡ is_row_of t key r
      by_row r false e = rw (dropped_other t dropped r (eqb-false _ _ e), dropped_key t dropped r (eqb-false _ _ e))
      by_row r true e =
          let same : r ≡ dropped = eqb-true _ _ e in
          let no_code : eqb (get_or t.row_keys dropped 0) key ≡ false = ne_eqb _ _ ne in
          ap (is_row_of (without t dropped) key) same ∙ rw (dropped_unused t s dropped in-16) (sym (ap (is_row_of t key) same ∙ rw no_code (never_both (get_or t.used dropped false))))
        where
          never_both : (u : Bool) → (u && false) ≡ false
          never_both true = refl
          never_both false = refl

  -- and its own key is gone
  pub drop_gone : (key : ℕ) → row_of t key ≡ dropped → 16 ≤ row_of (without t dropped) key
  drop_gone key e = by_end (ltb (row_of (without t dropped) key) 16) refl
    where
      by_end : (b : Bool) → ltb (row_of (without t dropped) key) 16 ≡ b → 16 ≤ row_of (without t dropped) key
      by_end false q = ltb-false _ _ q
      by_end true q =
          let r = row_of (without t dropped) key in
          let holds = row_holds (without t dropped) key (ltb-true _ _ q) in
          let ne : r ≡ dropped → ⊥ = λ same. false≢true (sym (dropped_unused t s dropped in-16) ∙ ap (λ (k : ℕ). get_or (without t dropped).used k false) (sym same) ∙ holds.0) in
          let was_used = sym (dropped_other t dropped r ne) ∙ holds.0 in
          let was-key = sym (dropped_key t dropped r ne) ∙ holds.1 in
          let own = row_holds t key (omega arith) in
          absurd (ne (s.keyed r (row_of t key) was_used own.0 (was-key ∙ sym own.1) ∙ e))

-- the rows of keys after a spare row was opened for another key
module _ (t : Table) (s : Sound t) (row opened time key : ℕ) (other : opened ≡ key → ⊥) where
  pub row_after_open : row < 16 → get_or t.used row false ≡ false → row_of (with_key t row opened time) key ≡ row_of t key
  row_after_open h spare = lowest_same (is_row_of (with_key t row opened time) key) (is_row_of t key) 16 (λ r q. by_row r (eqb r row) refl)
    where
      by_row : (r : ℕ) (b : Bool) → eqb r row ≡ b → is_row_of (with_key t row opened time) key r ≡ is_row_of t key r
      by_row r false e = rw (get_or-set_other t.used row r true false (eqb-false _ _ e), get_or-set_other t.row_keys row r opened 0 (eqb-false _ _ e))
      by_row r true e =
          let same : r ≡ row = eqb-true _ _ e in
          let not_key : eqb opened key ≡ false = ne_eqb _ _ other in
          ap (is_row_of (with_key t row opened time) key) same
          ∙ rw (get_or-set_same t.used row true false (omega (arith, s.used_long)), get_or-set_same t.row_keys row opened 0 (omega (arith, s.row_keys_long)), not_key) (sym (ap (is_row_of t key) same ∙ rw spare))
