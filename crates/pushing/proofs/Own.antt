-- What a push does to what its own key holds: the new fragment is there under its number and the others stay, or the key is gone.
use mathlib.Core.Path.{◌≡◌, refl, sym, ap, ◌∙◌}
use mathlib.Core.List.{List, ◌++◌, append_assoc}
use mathlib.Core.Bool.{Bool, true, false, cond, false≢true}
use Prim.Native.Nat.{ℕ, ◌+◌, ◌*◌, ◌≤◌, ◌<◌}
use native.Mathlib.Omega.{arith}
use lib.Dec.{eqb, ltb}
use lib.ListN.{length, get_or, take, drop}
use lib.Seq.{paste, drop_at, take_at, take-length, length-take-le, get_or-set_other, get_or-set_same}
use borrow.Author.Tests.{eqb-true, eqb-false, eq-eqb, ne_eqb, ltb-true, ltb-false, lt-ltb, le-ltb, not-true}
use Rattle.table.specs.declared.Table.{Table}
use Rattle.pushing.specs.declared.Fragment.{Fragment}
use Rattle.pushing.specs.declared.Arrival.{Arrival}
use Rattle.table.specs.Rows.{Place, owner_of, place_at, is_row_of, row_of, is_spare, is_numbered_lem, place_of, is_free, with_key, with_place, without, bytes_at}
use Rattle.pushing.specs.Joining.{Fragments, Held, Kept, nothing, kept, held_of, held_as, kept_at, held_in_lem, held_by_lem, and_new, Since, never, since, first_time}
use Rattle.pushing.specs.Push.{Way, refuse, duplicate, keep_at, open_at, end, way, table_by, store_by, place_for}
use Rattle.searching.proofs.Search.{lowest_is, lowest_holds, lowest_before, lowest_same}
use Rattle.table.proofs.Places.{put_here, put_elsewhere}
use Rattle.table.proofs.Sound.{Sound, own_used, place_holds, no_place, not_held, numbered_both, open_sound, drop_sound}
use Rattle.pushing.proofs.Pieces.{kept_in, kept_out, kept_same}
use Rattle.table.proofs.Apart.{bytes_apart, drop_gone}
use Rattle.pushing.proofs.Ways.{Went, went, went_refuse, went_duplicate, went_keep, went_open, went_end}

-- the bytes that were just written
pub bytes_here : (d s : List ℕ) (at : ℕ) → at ≤ length d → take (length s) (drop at (paste d at s (length s))) ≡ s
bytes_here d s at h =
    let long : length (take at d) ≡ at = length-take-le at d h in
    ap (λ (l : List ℕ). take (length s) (drop at l)) (append_assoc (take at d) (take (length s) s) (drop (at + length s) d))
    ∙ ap (take (length s)) (drop_at (take at d) (take (length s) s ++ drop (at + length s) d) at long)
    ∙ ap (λ (l : List ℕ). take (length s) (l ++ drop (at + length s) d)) (take-length s)
    ∙ take_at s (drop (at + length s) d) (length s) refl

-- a key that the table holds, and one that it does not
pub present_since : (t : Table) (key : ℕ) → row_of t key < 16 → first_time t key ≡ since (get_or t.firsts (row_of t key) 0)
unfolding first_time
present_since t key h = rw (lt-ltb _ _ h)

module _ (t : Table) (s : Sound t) (key : ℕ) (out : 16 ≤ row_of t key) where
  pub absent : (store : List ℕ) (number : ℕ) → held_by_lem t store key number ≡ nothing
  absent store number = kept_out t store (place_of t (row_of t key) number) (no_place t s (row_of t key) number out)

  pub absent_since : first_time t key ≡ never
  unfolding first_time
  absent_since = rw (le-ltb _ _ out)

-- a fragment is put into place i, which is not the row's, for a row that does not hold its number
module _ (t : Table) (s : Sound t) (store payload : List ℕ) (row i : ℕ) (f : Fragment) (h : i < 32) (long : 47744 ≤ length store) (small : length payload ≤ 1492)
    (l : f.last ≡ false) (once : (j : ℕ) → (place_at t j).owner ≡ owner_of row → (place_at t j).number ≡ f.number → ⊥) (free : (place_at t i).owner ≡ owner_of row → ⊥) where
  abbrev p : Place
  p = place_for row f (length payload)

  abbrev t' : Table
  t' = with_place t i p

  abbrev store' : List ℕ
  store' = paste store (i * 1492) payload (length payload)

  here : place_at t' i ≡ p
  here = put_here t i p s.places_long h

  elsewhere : (j : ℕ) → (j ≡ i → ⊥) → place_at t' j ≡ place_at t j
  elsewhere j ne = put_elsewhere t i p j ne

  new_place : i ≡ place_of t' row f.number
  new_place = lowest_is (λ j. is_numbered_lem (owner_of row) f.number (place_at t' j)) 32 i h (ap (is_numbered_lem (owner_of row) f.number) here ∙ rw (eq-eqb (owner_of row) (owner_of row) refl, eq-eqb f.number f.number refl)) (λ j l. before j l (is_numbered_lem (owner_of row) f.number (place_at t j)) refl)
    where
      before : (j : ℕ) → j < i → (b : Bool) → is_numbered_lem (owner_of row) f.number (place_at t j) ≡ b → is_numbered_lem (owner_of row) f.number (place_at t' j) ≡ false
      before j l b e = ap (is_numbered_lem (owner_of row) f.number) (elsewhere j (λ same. omega arith)) ∙ by_test b e
        where
          by_test : (c : Bool) → is_numbered_lem (owner_of row) f.number (place_at t j) ≡ c → is_numbered_lem (owner_of row) f.number (place_at t j) ≡ false
          by_test false q = q
          by_test true q = let both = numbered_both (owner_of row) f.number (place_at t j) q in absurd (once j both.0 both.1)

  other_place : (k : ℕ) → (k ≡ f.number → ⊥) → place_of t' row k ≡ place_of t row k
  other_place k ne = lowest_same (λ j. is_numbered_lem (owner_of row) k (place_at t' j)) (λ j. is_numbered_lem (owner_of row) k (place_at t j)) 32 (λ j l. by_index j (eqb j i) refl)
    where
      by_test : (c : Bool) → is_numbered_lem (owner_of row) k (place_at t i) ≡ c → is_numbered_lem (owner_of row) k (place_at t i) ≡ false
      by_test false q = q
      by_test true q = let both = numbered_both (owner_of row) k (place_at t i) q in absurd (free both.0)

      by_index : (j : ℕ) (b : Bool) → eqb j i ≡ b → is_numbered_lem (owner_of row) k (place_at t' j) ≡ is_numbered_lem (owner_of row) k (place_at t j)
      by_index j false e = ap (is_numbered_lem (owner_of row) k) (elsewhere j (eqb-false _ _ e))
      by_index j true e =
          let same : j ≡ i = eqb-true _ _ e in
          let not-k : eqb f.number k ≡ false = ne_eqb _ _ (λ q. ne (sym q)) in
          ap (λ (m : ℕ). is_numbered_lem (owner_of row) k (place_at t' m)) same ∙ ap (is_numbered_lem (owner_of row) k) here ∙ rw (eq-eqb (owner_of row) (owner_of row) refl, not-k) (sym (ap (λ (m : ℕ). is_numbered_lem (owner_of row) k (place_at t m)) same ∙ by_test (is_numbered_lem (owner_of row) k (place_at t i)) refl))

  new_held : (k : ℕ) → k ≡ f.number → held_in_lem t' store' row k ≡ kept (held_of f payload)
  new_held k e =
      ap (held_in_lem t' store' row) e ∙ ap (kept_at t' store') (sym new_place) ∙ kept_in t' store' i h
      ∙ ap (λ (q : Place). kept (held_as q (bytes_at store' i q.size))) here ∙ ap (λ (bytes : List ℕ). kept (held_as p bytes)) (bytes_here store payload (i * 1492) (omega arith))
      ∙ ap (λ (b : Bool). kept (record { version = f.version; message_type = f.message_type; last = b; payload = payload })) (sym l)

  other_held : (k : ℕ) → (k ≡ f.number → ⊥) → held_in_lem t' store' row k ≡ held_in_lem t store row k
  other_held k ne = ap (kept_at t' store') (other_place k ne) ∙ by_found (ltb (place_of t row k) 32) refl
    where
      by_found : (b : Bool) → ltb (place_of t row k) 32 ≡ b → kept_at t' store' (place_of t row k) ≡ kept_at t store (place_of t row k)
      by_found false e = kept_out t' store' (place_of t row k) (ltb-false _ _ e) ∙ sym (kept_out t store (place_of t row k) (ltb-false _ _ e))
      by_found true e =
          let j = place_of t row k in
          let l = ltb-true j 32 e in
          let holds = place_holds t row k l in
          let j≢i : j ≡ i → ⊥ = λ same. free (ap (λ (m : ℕ). (place_at t m).owner) (sym same) ∙ holds.0) in
          kept_same t t' store store' j (elsewhere j j≢i) (bytes_apart store payload i j (place_at t j).size j≢i (s.small j) small h long) l

  pub put_held : (k : ℕ) → held_in_lem t' store' row k ≡ and_new (held_in_lem t store row) f.number (held_of f payload) k
  put_held k = by_number (eqb k f.number) refl
    where
      by_number : (b : Bool) → eqb k f.number ≡ b → held_in_lem t' store' row k ≡ cond b (kept (held_of f payload)) (held_in_lem t store row k)
      by_number true e = new_held k (eqb-true _ _ e)
      by_number false e = other_held k (eqb-false _ _ e)

-- a row that was spare is the key's, once it is opened for it
module _ (t : Table) (s : Sound t) (row key time : ℕ) (in-16 : row < 16) (new : 16 ≤ row_of t key) where
  pub opened_row : row ≡ row_of (with_key t row key time) key
  opened_row = lowest_is (is_row_of (with_key t row key time) key) 16 row in-16
      (rw (get_or-set_same t.used row true false (omega (arith, s.used_long)), get_or-set_same t.row_keys row key 0 (omega (arith, s.row_keys_long)), eq-eqb key key refl))
      (λ r l. rw (get_or-set_other t.used row r true false (λ e. omega arith), get_or-set_other t.row_keys row r key 0 (λ e. omega arith)) (lowest_before (is_row_of t key) 16 r (omega arith)))

  pub opened_since : first_time (with_key t row key time) key ≡ since time
  unfolding first_time
  opened_since = rw (← opened_row, lt-ltb _ _ in-16, get_or-set_same t.firsts row time 0 (omega (arith, s.firsts_long)))

  -- it owns no place yet
  pub opened_empty : get_or t.used row false ≡ false → (store : List ℕ) (number : ℕ) → held_in_lem (with_key t row key time) store row number ≡ nothing
  opened_empty spare store number = kept_out (with_key t row key time) store (place_of t row number) (by_found (ltb (place_of t row number) 32) refl)
    where
      by_found : (b : Bool) → ltb (place_of t row number) 32 ≡ b → 32 ≤ place_of t row number
      by_found false e = ltb-false _ _ e
      by_found true e = absurd (false≢true (sym spare ∙ s.owned (place_of t row number) row (place_holds t row number (ltb-true _ _ e)).0))

-- what a way leaves of what its key held, and of its first time
abbrev pub held_after : Way → Fragments → ℕ → Held → Fragments
held_after (refuse n values) fs number new = fs
held_after duplicate fs number new = fs
held_after (keep_at i) fs number new = and_new fs number new
held_after (open_at i row) fs number new = and_new fs number new
held_after (end h bytes) fs number new = λ k. nothing

abbrev pub since_after : Way → Since → ℕ → Since
since_after (refuse n values) first time = first
since_after duplicate first time = first
since_after (keep_at i) first time = first
since_after (open_at i row) first time = since time
since_after (end h bytes) first time = never

module _ (t : Table) (s : Sound t) (store : List ℕ) (a : Arrival) (payload : List ℕ) (room : ℕ) where
  abbrev own : ℕ
  own = row_of t a.key

  abbrev number : ℕ
  number = a.fragment.number

  abbrev new : Held
  new = held_of a.fragment payload

  abbrev Told : Way → Type 0
  Told w =
      ((k : ℕ) → held_by_lem (table_by w t a (length payload)) (store_by w store payload) a.key k ≡ held_after w (held_by_lem t store a.key) number new k)
      × (first_time (table_by w t a (length payload)) a.key ≡ since_after w (first_time t a.key) a.time)

  told_by : {w : Way} → Went t store a payload room w → Told w
  unfolding first_time kept_at
  told_by (went_refuse n values why) = ((λ k. refl), refl)
  told_by went_duplicate = ((λ k. refl), refl)
  told_by (went_keep i h₁ h₂ h₃ l e h k share) =
      let free : (place_at t i).owner ≡ 0 = eqb-true _ _ (ap (λ (j : ℕ). is_free (place_at t j)) e ∙ lowest_holds (λ j. is_free (place_at t j)) 32 (omega arith)) in
      (put_held t s store payload own i a.fragment h h₁ h₂ l (not_held t s own number h₃) (λ f. omega arith), refl)
  told_by (went_open i row h₁ h₂ h₃ l e h k e₂ h₄ share share₂) =
      let free : (place_at t i).owner ≡ 0 = eqb-true _ _ (ap (λ (j : ℕ). is_free (place_at t j)) e ∙ lowest_holds (λ j. is_free (place_at t j)) 32 (omega arith)) in
      let spare : get_or t.used row false ≡ false = ap (λ (r : ℕ). get_or t.used r false) e₂ ∙ not-true _ (lowest_holds (is_spare t) 16 (omega arith)) in
      let t₁ = with_key t row a.key a.time in
      let s₁ = open_sound t s row a.key a.time h₄ k in
      let is_row = opened_row t s row a.key a.time h₄ k in
      let put = put_held t₁ s₁ store payload row i a.fragment h h₁ h₂ l (λ j f g. false≢true (sym spare ∙ s.owned j row f)) (λ f. omega arith) in (
        (λ n. ap (λ (r : ℕ). held_in_lem (with_place t₁ i (place_for row a.fragment (length payload))) (paste store (i * 1492) payload (length payload)) r n) (sym is_row) ∙ put n
            ∙ ap (λ (x : Kept). cond (eqb n number) (kept new) x) (opened_empty t s row a.key a.time h₄ k spare store n ∙ sym (absent t s a.key k store n))),
        opened_since t s row a.key a.time h₄ k,
      )
  told_by (went_end heard bytes h₁ h₂ h₃ l e) = rw (own_used t s a.key) (by_row (ltb own 16) refl)
    where
      by_row : (b : Bool) → ltb own 16 ≡ b → ((k : ℕ) → held_by_lem (cond b (without t own) t) store a.key k ≡ nothing) × (first_time (cond b (without t own) t) a.key ≡ never)
      by_row false q = (absent t s a.key (ltb-false _ _ q) store, absent_since t s a.key (ltb-false _ _ q))
      by_row true q =
          let in-16 = ltb-true own 16 q in
          let gone = drop_gone t s own in-16 a.key refl in
          (absent (without t own) (drop_sound t s own in-16) a.key gone store, absent_since (without t own) (drop_sound t s own in-16) a.key gone)

  -- what a push's own key holds after it, and its first time
  pub push_told : Told (way t store a payload room)
  push_told = told_by (went t store a payload room)
