-- The pieces of a message, as the code finds them in the lists of places, are the fragments that rules T8 and T9 join,
-- by their numbers.
use mathlib.Core.Path.{◌≡◌, refl, sym, ap, ◌∙◌}
use mathlib.Core.List.{List, [], ◌++◌}
use mathlib.Core.Bool.{Bool, true, false, cond, not, ◌&&◌, ◌||◌, false≢true}
use Prim.Native.Nat.{ℕ, zero, suc, ◌+◌, ◌*◌, ◌-◌, ◌≤◌, ◌<◌}
use native.Mathlib.Omega.{arith}
use native.Mathlib.Nat.{add-zero, add-suc}
use native.Mathlib.Numerals.{add-one}
use lib.Dec.{eqb, ltb}
use lib.ListN.{length, get_or, take, drop, length-append, length-drop}
use lib.Seq.{paste, length-take-le, take-length, take_at, drop-append-add, drop-drop}
use borrow.Author.Tests.{eqb-true, eqb-false, eq-eqb, ne_eqb, ltb-true, ltb-false, lt-ltb, le-ltb}
use Rattle.table.specs.declared.Table.{Table}
use Rattle.pushing.specs.declared.Fragment.{Fragment}
use Rattle.searching.specs.Search.{lowest, some}
use Rattle.table.specs.Rows.{Place, owner_of, place_at, place_of, bytes_at}
use Rattle.pushing.specs.Joining.{Held, Kept, nothing, kept, Fragments, is_kept_lem, held_of, held_as, held_in_lem, and_new, kept_at, unlike, inconsistent_with, reach, gapped, is_last_lem, payload_of, in_order_lem, payloads}
use Rattle.pushing.specs.Push.{join_by, join_way, joined_with, over}
use Rattle.pushing.specs.PrivateSteps.{numbered_in, unlike_in, beyond_in, fragment_at, size_at, piece_bytes, size_to, pieces_to, is_gap, count_for, gap_in, compared_in, join_in}
use Rattle.searching.proofs.Search.{lowest_le, lowest_holds, lowest_before, lowest_same}
use Rattle.table.proofs.Sound.{Sound, owned_place, place_holds, not_held, held_at}

-- a number that passes is there to be found
pub some_at : (p : ℕ → Bool) (n k : ℕ) → k < n → p k ≡ true → lowest p n < n
some_at p n k h e = by_end (ltb (lowest p n) n) refl
  where
    by_end : (b : Bool) → ltb (lowest p n) n ≡ b → lowest p n < n
    by_end true q = ltb-true _ _ q
    by_end false q = absurd (false≢true (sym (lowest_before p n k (omega (arith, ltb-false (lowest p n) n q))) ∙ e))

-- two searches of which each finds where the other does
pub some_same : (p q : ℕ → Bool) (n m : ℕ) → ((k : ℕ) → k < n → p k ≡ true → lowest q m < m) → ((i : ℕ) → i < m → q i ≡ true → lowest p n < n) → some p n ≡ some q m
some_same p q n m there back = by_ends (ltb (lowest p n) n) refl (ltb (lowest q m) m) refl
  where
    by_ends : (b : Bool) → ltb (lowest p n) n ≡ b → (c : Bool) → ltb (lowest q m) m ≡ c → ltb (lowest p n) n ≡ ltb (lowest q m) m
    by_ends true e true f = e ∙ sym f
    by_ends true e false f = absurd (omega (arith, ltb-false (lowest q m) m f, there (lowest p n) (ltb-true _ _ e) (lowest_holds p n (ltb-true _ _ e))))
    by_ends false e true f = absurd (omega (arith, ltb-false (lowest p n) n e, back (lowest q m) (ltb-true _ _ f) (lowest_holds q m (ltb-true _ _ f))))
    by_ends false e false f = e ∙ sym f

-- pieces that are the same
pub in_order_same : (p q : ℕ → List ℕ) (n : ℕ) → ((k : ℕ) → k < n → p k ≡ q k) → in_order_lem p n ≡ in_order_lem q n
unfolding in_order_lem
in_order_same p q zero same = refl
in_order_same p q (suc n) same = rw (in_order_same p q n (λ k h. same k (omega arith)), same n (omega arith))

-- one piece more at the output's start
pub grown : (a b out : List ℕ) → paste (over a out) (length a) b (length b) ≡ over (a ++ b) out
grown a b out =
    ap (λ (l : List ℕ). l ++ take (length b) b ++ drop (length a + length b) (over a out)) (take_at a (drop (length a) out) (length a) refl)
    ∙ ap (λ (l : List ℕ). (a ++ l) ++ drop (length a + length b) (over a out)) (take-length b)
    ∙ ap (λ (l : List ℕ). (a ++ b) ++ l) (drop-append-add a (drop (length a) out) (length b) ∙ drop-drop (length b) (length a) out ∙ ap (λ (n : ℕ). drop n out) (sym (length-append a b)))

-- where a piece lies
pub numbered_le : (owners numbers : List ℕ) (owner number : ℕ) → numbered_in owners numbers owner number ≤ 32
numbered_le owners numbers owner number = lowest_le (λ i. eqb (get_or owners i 0) owner && eqb (get_or numbers i 0) number) 32

module _ (owners numbers : List ℕ) (row number : ℕ) where
  abbrev count : ℕ
  count = count_for owners numbers row number

  pub piece_new : (k : ℕ) → k ≡ number → fragment_at owners numbers row number k ≡ 33
  unfolding fragment_at
  piece_new k e = rw (eq-eqb _ _ e)

  pub piece_old : (k : ℕ) → (k ≡ number → ⊥) → fragment_at owners numbers row number k ≡ numbered_in owners numbers (owner_of row) k
  unfolding fragment_at
  piece_old k e = rw (ne_eqb _ _ e)

  pub no_gap : (k : ℕ) → k < count → fragment_at owners numbers row number k ≡ 32 → ⊥
  no_gap k h e = eqb-false _ _ (lowest_before (is_gap owners numbers row number) 256 k h) e

  -- number 0 is there, if the new one is not beyond a gap
  pub count_some : number ≤ count → 1 ≤ count
  count_some h = by_zero (ltb 0 count) refl
    where
      by_zero : (b : Bool) → ltb 0 count ≡ b → 1 ≤ count
      by_zero true e = omega (arith, ltb-true 0 count e)
      by_zero false e =
          let z : count ≡ 0 = omega (arith, ltb-false 0 count e) in
          let first : number ≡ 0 = omega arith in
          let gap : is_gap owners numbers row number 0 ≡ true = ap (is_gap owners numbers row number) (sym z) ∙ lowest_holds (is_gap owners numbers row number) 256 (omega arith) in
          let never : ◌≡◌ {A = ℕ} 33 32 = sym (piece_new 0 (sym first)) ∙ eqb-true _ _ gap in
          omega arith

-- how many bytes the pieces have
module _ (sizes owners numbers : List ℕ) (row number size : ℕ) where
  pub size_none : 0 ≡ size_to sizes owners numbers row number size 0
  unfolding size_to
  size_none = refl

  pub size_next : (k : ℕ) → size_to sizes owners numbers row number size k + size_at sizes size (fragment_at owners numbers row number k) ≡ size_to sizes owners numbers row number size (k + 1)
  unfolding size_to
  size_next k = sym (ap (size_to sizes owners numbers row number size) (add-one k))

pub at_most : (sizes : List ℕ) (size : ℕ) → ((i : ℕ) → get_or sizes i 0 ≤ 1492) → size ≤ 1492 → (piece : ℕ) → size_at sizes size piece ≤ 1492
at_most sizes size small h piece = by_place (ltb piece 32)
  where
    by_place : (b : Bool) → cond b (get_or sizes piece 0) size ≤ 1492
    by_place true = small piece
    by_place false = h

-- the bytes of a piece, with a store that has room for the places
module _ (sizes store payload : List ℕ) where
  pub piece_in : (piece : ℕ) → piece < 32 → piece_bytes sizes store payload piece ≡ bytes_at store piece (get_or sizes piece 0)
  unfolding piece_bytes
  piece_in piece h = rw (lt-ltb _ _ h)

  pub piece_out : (piece : ℕ) → 32 ≤ piece → piece_bytes sizes store payload piece ≡ payload
  unfolding piece_bytes
  piece_out piece h = rw (le-ltb _ _ h)

  module _ (small : (i : ℕ) → get_or sizes i 0 ≤ 1492) (long : 47744 ≤ length store) where
    pub size_in : (piece : ℕ) → piece < 32 → length (piece_bytes sizes store payload piece) ≡ get_or sizes piece 0
    size_in piece h = ap length (piece_in piece h) ∙ length-take-le (get_or sizes piece 0) (drop (piece * 1492) store) (omega (arith, length-drop (piece * 1492) store, small piece))

    pub size_is : (piece : ℕ) → length (piece_bytes sizes store payload piece) ≡ size_at sizes (length payload) piece
    size_is piece = by_place (ltb piece 32) refl
      where
        by_place : (b : Bool) → ltb piece 32 ≡ b → length (piece_bytes sizes store payload piece) ≡ cond b (get_or sizes piece 0) (length payload)
        by_place true e = size_in piece (ltb-true _ _ e)
        by_place false e = ap length (piece_out piece (ltb-false _ _ e))

-- the pieces, one after the other
module _ (sizes owners numbers store : List ℕ) (row number : ℕ) (payload : List ℕ) where
  abbrev upto : ℕ → List ℕ
  upto = pieces_to sizes owners numbers store row number payload

  abbrev nth : ℕ → List ℕ
  nth k = piece_bytes sizes store payload (fragment_at owners numbers row number k)

  pub pieces_none : [] ≡ upto 0
  unfolding in_order_lem
  pieces_none = refl

  pub pieces_next : (k : ℕ) → upto k ++ nth k ≡ upto (k + 1)
  unfolding in_order_lem
  pieces_next k = sym (ap upto (add-one k))

  longer : (k d : ℕ) → length (upto k) ≤ length (upto (k + d))
  unfolding in_order_lem
  longer k zero = omega (arith, ap (λ (m : ℕ). length (upto m)) (add-zero k))
  longer k (suc d) = omega (arith, longer k d, ap (λ (m : ℕ). length (upto m)) (add-suc k d), length-append (upto (k + d)) (nth (k + d)))

  -- the next piece has room where all have
  pub next_fits : (k n : ℕ) → k < n → length (upto k) + length (nth k) ≤ length (upto n)
  next_fits k n h =
      let e : k + 1 + (n - (k + 1)) ≡ n = omega arith in
      omega (arith, ap length (pieces_next k), length-append (upto k) (nth k), longer (k + 1) (n - (k + 1)), ap (λ (m : ℕ). length (upto m)) e)

  pub pieces_size : ((i : ℕ) → get_or sizes i 0 ≤ 1492) → 47744 ≤ length store → (n : ℕ) → length (upto n) ≡ size_to sizes owners numbers row number (length payload) n
  unfolding in_order_lem size_to
  pieces_size small long zero = refl
  pieces_size small long (suc n) = length-append (upto n) (nth n) ∙ rw (pieces_size small long n, size_is sizes store payload small long (fragment_at owners numbers row number n))

-- what a place holds
module _ (t : Table) (store : List ℕ) (i : ℕ) where
  abbrev pub fragment : Held
  fragment = held_as (place_at t i) (bytes_at store i (place_at t i).size)

  pub kept_in : i < 32 → kept_at t store i ≡ kept fragment
  unfolding kept_at
  kept_in h = rw (lt-ltb _ _ h)

  pub kept_out : 32 ≤ i → kept_at t store i ≡ nothing
  unfolding kept_at
  kept_out h = rw (le-ltb _ _ h)

-- the place as it was, and its bytes
pub kept_same : (t t' : Table) (store store' : List ℕ) (i : ℕ) → place_at t' i ≡ place_at t i → bytes_at store' i (place_at t i).size ≡ bytes_at store i (place_at t i).size → i < 32 → kept_at t' store' i ≡ kept_at t store i
kept_same t t' store store' i e b h =
    kept_in t' store' i h
    ∙ ap (λ (p : Place). kept (held_as p (bytes_at store' i p.size))) e
    ∙ ap (λ (l : List ℕ). kept (held_as (place_at t i) l)) b
    ∙ sym (kept_in t store i h)

-- the fragments that a last one is joined with, itself among them
abbrev pub among : Table → List ℕ → ℕ → Fragment → List ℕ → Fragments
among t store row f payload = and_new (held_in_lem t store row) f.number (held_of f payload)

pub place_le : (t : Table) (row k : ℕ) → place_of t row k ≤ 32
place_le t row k = numbered_le t.owners t.numbers (owner_of row) k

module _ (t : Table) (store : List ℕ) (row : ℕ) (f : Fragment) (payload : List ℕ) where
  abbrev fs : Fragments
  fs = among t store row f payload

  abbrev new : Held
  new = held_of f payload

  abbrev n : ℕ
  n = count_for t.owners t.numbers row f.number

  -- the fragment with a number: the new one, one in a place, or none
  pub at_new : (k : ℕ) → k ≡ f.number → fs k ≡ kept new
  at_new k e = rw (eq-eqb _ _ e)

  pub at_place : (k : ℕ) → (k ≡ f.number → ⊥) → place_of t row k < 32 → fs k ≡ kept (fragment t store (place_of t row k))
  at_place k e h = rw (ne_eqb _ _ e) (kept_in t store (place_of t row k) h)

  pub at_none : (k : ℕ) → (k ≡ f.number → ⊥) → 32 ≤ place_of t row k → fs k ≡ nothing
  at_none k e h = rw (ne_eqb _ _ e) (kept_out t store (place_of t row k) h)

  -- a property of a number from those three
  by_piece : (P : Kept → ℕ → Type 0) (k : ℕ) → (k ≡ f.number → P (kept new) 33)
      → ((k ≡ f.number → ⊥) → place_of t row k < 32 → P (kept (fragment t store (place_of t row k))) (place_of t row k))
      → ((k ≡ f.number → ⊥) → place_of t row k ≡ 32 → P nothing 32) → P (fs k) (fragment_at t.owners t.numbers row f.number k)
  by_piece P k a b c = by_tests (eqb k f.number) refl (ltb (place_of t row k) 32) refl
    where
      by_tests : (x : Bool) → eqb k f.number ≡ x → (y : Bool) → ltb (place_of t row k) 32 ≡ y → P (fs k) (fragment_at t.owners t.numbers row f.number k)
      by_tests true e y g = let n = eqb-true _ _ e in rw (at_new k n, piece_new t.owners t.numbers row f.number k n) (a n)
      by_tests false e true g = let n = eqb-false _ _ e in rw (at_place k n (ltb-true _ _ g), piece_old t.owners t.numbers row f.number k n) (b n (ltb-true _ _ g))
      by_tests false e false g =
          let n = eqb-false _ _ e in
          let end : place_of t row k ≡ 32 = omega (arith, ltb-false (place_of t row k) 32 g, place_le t row k) in
          rw (at_none k n (ltb-false _ _ g), piece_old t.owners t.numbers row f.number k n ∙ end) (c n end)

  gap_is : (k : ℕ) → not (is_kept_lem (fs k)) ≡ is_gap t.owners t.numbers row f.number k
  gap_is k = by_piece (λ (x : Kept) (i : ℕ). not (is_kept_lem x) ≡ eqb i 32) k (λ n. refl) (λ n h. sym (ne_eqb (place_of t row k) 32 (λ e. omega arith))) (λ n h. refl)

  pub reach_is : reach fs ≡ count_for t.owners t.numbers row f.number
  unfolding reach
  reach_is = lowest_same (λ k. not (is_kept_lem (fs k))) (is_gap t.owners t.numbers row f.number) 256 (λ k h. gap_is k)

  -- the highest is marked if it is the new one, which is
  pub marked_is : f.last ≡ true → is_last_lem (fs (n - 1)) ≡ eqb n (f.number + 1)
  marked_is last = by_piece (λ (x : Kept) (i : ℕ). is_last_lem x ≡ eqb n (f.number + 1)) (n - 1)
      (λ e. last ∙ sym (eq-eqb n (f.number + 1) (omega (arith, count_some t.owners t.numbers row f.number (omega arith)))))
      (λ ne h. sym (ne_eqb n (f.number + 1) (λ e. ne (omega arith))))
      (λ ne h. sym (ne_eqb n (f.number + 1) (λ e. ne (omega arith))))

  pub bytes_are : (k : ℕ) → (fragment_at t.owners t.numbers row f.number k ≡ 32 → ⊥) → payload_of (fs k) ≡ piece_bytes t.sizes store payload (fragment_at t.owners t.numbers row f.number k)
  unfolding piece_bytes
  bytes_are k = by_piece (λ (x : Kept) (i : ℕ). (i ≡ 32 → ⊥) → payload_of x ≡ cond (ltb i 32) (bytes_at store i (place_at t i).size) payload) k (λ n g. refl) (λ n h g. rw (lt-ltb _ _ h)) (λ n h g. absurd (g refl))

  pub payloads_are : (n : ℕ) → n ≤ count_for t.owners t.numbers row f.number → payloads fs n ≡ pieces_to t.sizes t.owners t.numbers store row f.number payload n
  payloads_are n h = in_order_same (λ k. payload_of (fs k)) (λ k. piece_bytes t.sizes store payload (fragment_at t.owners t.numbers row f.number k)) n (λ k l. bytes_are k (no_gap t.owners t.numbers row f.number k (omega arith)))

  module _ (s : Sound t) (byte : f.number < 256) (once : 32 ≤ place_of t row f.number) where
    -- a place of the row has a number of its own, and stands for that number
    not_new : (i : ℕ) → (place_at t i).owner ≡ owner_of row → (place_at t i).number ≡ f.number → ⊥
    not_new i e g = not_held t s row f.number once i e g

    at_number : (i : ℕ) → (place_at t i).owner ≡ owner_of row → fs (place_at t i).number ≡ kept (fragment t store i)
    at_number i e =
        let same = held_at t s i row e in
        let found : place_of t row (place_at t i).number < 32 = omega (arith, owned_place t s i row e) in
        at_place (place_at t i).number (not_new i e) found ∙ ap (λ (j : ℕ). kept (fragment t store j)) (sym same)

    owner_and : (i : ℕ) (b : Bool) → (eqb (place_at t i).owner (owner_of row) && b) ≡ true → ((place_at t i).owner ≡ owner_of row) × (b ≡ true)
    owner_and i b e = by_owner (eqb (place_at t i).owner (owner_of row)) refl e
      where
        by_owner : (c : Bool) → eqb (place_at t i).owner (owner_of row) ≡ c → (c && b) ≡ true → ((place_at t i).owner ≡ owner_of row) × (b ≡ true)
        by_owner true q z = (eqb-true _ _ q, z)
        by_owner false q z = absurd (false≢true z)

    and_owner : (i : ℕ) (b : Bool) → (place_at t i).owner ≡ owner_of row → b ≡ true → (eqb (place_at t i).owner (owner_of row) && b) ≡ true
    and_owner i b e g = rw (eq-eqb _ _ e, g)

    -- a test of all fragments, and the same test of the row's places
    module _ (of-kept : Kept → ℕ → Bool) (of-place : Place → Bool) (none : (k : ℕ) → of-kept nothing k ≡ false) (not-of-new : of-kept (kept new) f.number ≡ false)
        (same : (i : ℕ) → of-kept (kept (fragment t store i)) (place_at t i).number ≡ of-place (place_at t i)) where
      there : (k : ℕ) → k < 256 → of-kept (fs k) k ≡ true → some (λ i. eqb (place_at t i).owner (owner_of row) && of-place (place_at t i)) 32 ≡ true
      there k h = by_piece (λ (x : Kept) (i : ℕ). of-kept x k ≡ true → some (λ j. eqb (place_at t j).owner (owner_of row) && of-place (place_at t j)) 32 ≡ true) k
          (λ n e. absurd (false≢true (sym not-of-new ∙ ap (of-kept (kept new)) (sym n) ∙ e)))
          (λ n l e.
          let i = place_of t row k in
          let holds = place_holds t row k l in
          lt-ltb _ _ (some_at (λ j. eqb (place_at t j).owner (owner_of row) && of-place (place_at t j)) 32 i l
          (and_owner i (of-place (place_at t i)) holds.0 (sym (same i) ∙ ap (of-kept (kept (fragment t store i))) holds.1 ∙ e))))
          (λ n l e. absurd (false≢true (sym (none k) ∙ e)))

      back : (i : ℕ) → i < 32 → (eqb (place_at t i).owner (owner_of row) && of-place (place_at t i)) ≡ true → lowest (λ k. of-kept (fs k) k) 256 < 256
      back i h e =
          let both = owner_and i (of-place (place_at t i)) e in
          some_at (λ k. of-kept (fs k) k) 256 (place_at t i).number (s.byte i) (ap (λ (x : Kept). of-kept x (place_at t i).number) (at_number i both.0) ∙ same i ∙ both.1)

      pub tests_same : some (λ k. of-kept (fs k) k) 256 ≡ some (λ i. eqb (place_at t i).owner (owner_of row) && of-place (place_at t i)) 32
      tests_same = some_same (λ k. of-kept (fs k) k) (λ i. eqb (place_at t i).owner (owner_of row) && of-place (place_at t i)) 256 32 (λ k h e. ltb-true _ _ (there k h e)) back

    pub unlike_is : inconsistent_with new fs ≡ ltb (unlike_in t.owners t.versions t.message_types (owner_of row) f.version f.message_type) 32
    unfolding inconsistent_with
    unlike_is = tests_same (λ (x : Kept) (k : ℕ). unlike new x) (λ (p : Place). not (eqb p.version f.version && eqb p.message_type f.message_type)) (λ k. refl)
        (rw (eq-eqb f.version f.version refl, eq-eqb f.message_type f.message_type refl)) (λ i. refl)

    beyond_new : n < f.number → gapped fs ≡ true
    unfolding gapped
    beyond_new h = lt-ltb _ _ (some_at (λ k. is_kept_lem (fs k) && ltb (reach fs) k) 256 f.number byte (rw (at_new f.number refl, reach_is) (lt-ltb _ _ h)))

    beyond_is : f.number ≤ n → gapped fs ≡ ltb (beyond_in t.owners t.numbers (owner_of row) n) 32
    unfolding gapped
    beyond_is h = rw reach_is (tests_same (λ (x : Kept) (k : ℕ). is_kept_lem x && ltb n k) (λ (p : Place). ltb n p.number) (λ k. refl) (le-ltb _ _ h) (λ i. refl))

    gapped_is : gapped fs ≡ gap_in t.owners t.numbers (owner_of row) f.number n
    gapped_is = by_new (ltb n f.number) refl
      where
        by_new : (b : Bool) → ltb n f.number ≡ b → gapped fs ≡ (b || ltb (beyond_in t.owners t.numbers (owner_of row) n) 32)
        by_new true e = beyond_new (ltb-true _ _ e)
        by_new false e = beyond_is (ltb-false _ _ e)

    -- what rules T8 and T9 say of them, in the code's words
    pub judged : f.last ≡ true → (room : ℕ) → join_in t.sizes t.owners t.numbers store payload (compared_in t.owners t.versions t.message_types row f) room ≡ joined_with t store row f payload room
    unfolding join_way
    judged last room =
        let mark : is_last_lem (fs (reach fs - 1)) ≡ eqb n (f.number + 1) = ap (λ (k : ℕ). is_last_lem (fs (k - 1))) reach_is ∙ marked_is last in
        let bytes : payloads fs (reach fs) ≡ pieces_to t.sizes t.owners t.numbers store row f.number payload n = ap (payloads fs) reach_is ∙ payloads_are n (omega arith) in
        sym (λ i. join_by (unlike_is i) (gapped_is i) (mark i) (reach_is i) (bytes i) room)
