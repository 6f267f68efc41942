-- The way of a push, from the tests that led there: one law for each way out of the code.
use mathlib.Core.Path.{◌≡◌, refl, sym, ap, ◌∙◌, subst}
use mathlib.Core.List.{List, [], ◌∷◌}
use mathlib.Core.Bool.{Bool, true, false, cond, not, ◌&&◌, ◌||◌, false≢true}
use mathlib.Core.Logic.{◌⊎◌, inl, inr}
use Prim.Native.Nat.{ℕ, ◌-◌, ◌≤◌, ◌<◌}
use native.Mathlib.Omega.{arith}
use lib.Dec.{ltb, leb}
use lib.ListN.{length, drop, length-append}
use lib.Seq.{take_at}
use borrow.Author.Tests.{le-ltb, lt-ltb, le-leb, lt-leb, ltb-true, ltb-false, leb-true, leb-false}
use Rattle.numbers.specs.Numbers.{Answer, gives, refuses}
use Rattle.table.specs.declared.Table.{Table}
use Rattle.table.specs.declared.Totals.{Totals}
use Rattle.pushing.specs.declared.Arrival.{Arrival}
use Rattle.pushing.specs.declared.look.LookedUp.{LookedUp}
use Rattle.table.specs.Rows.{row_of, spare_row, place_of, lowest_free}
use Rattle.pushing.specs.Joining.{Held, Fragments, held_of, held_in_lem, and_new, inconsistent_with, gapped, is_last_lem, reach, payloads}
use Rattle.pushing.specs.Push.{PushAnswer, waiting, duplicated, inconsistent, missing, missing_last, single, joined, Way, refuse, duplicate, keep_at, open_at, end, looked_up, own_totals, has_share_lem, keep_way, message_way, join_way, joined_with, way_by, way, over, output_by, answer_by}
use Rattle.pushing.specs.Show.{start_of, shown}

-- a sender that holds less than its share
module _ (found : LookedUp) (held : Totals) where
  pub below_share : has_share_lem found held ≡ false → (held.places < 8) × (16 ≤ found.row → held.keys < 4)
  below_share e = by_tests (leb 8 held.places) refl (leb 16 found.row) refl (leb 4 held.keys) refl e
    where
      by_tests : (a : Bool) → leb 8 held.places ≡ a → (b : Bool) → leb 16 found.row ≡ b → (c : Bool) → leb 4 held.keys ≡ c → (a || (b && c)) ≡ false → (held.places < 8) × (16 ≤ found.row → held.keys < 4)
      by_tests true p b q c r x = absurd (false≢true (sym x))
      by_tests false p true q true r x = absurd (false≢true (sym x))
      by_tests false p true q false r x = (leb-false _ _ p, λ h. leb-false _ _ r)
      by_tests false p false q c r x = (leb-false _ _ p, λ h. absurd (omega (arith, leb-false 16 found.row q)))

-- step 3 (rule T6)
module _ (found : LookedUp) (held : Totals) where
  pub keep_share : has_share_lem found held ≡ true → keep_way found held ≡ refuse 20 []
  unfolding keep_way
  keep_share h = rw h

  module _ (below : has_share_lem found held ≡ false) where
    pub keep_full : 32 ≤ found.free → keep_way found held ≡ refuse 10 []
    unfolding keep_way
    keep_full h = rw (below, le-leb _ _ h)

    module _ (h₁ : found.free < 32) where
      pub keep_there : found.row < 16 → keep_way found held ≡ keep_at found.free
      unfolding keep_way
      keep_there h = rw (below, lt-leb _ _ h₁, lt-ltb _ _ h)

      module _ (h₂ : 16 ≤ found.row) where
        pub keep_keys : 16 ≤ found.spare → keep_way found held ≡ refuse 10 []
        unfolding keep_way
        keep_keys h = rw (below, lt-leb _ _ h₁, le-ltb _ _ h₂, le-leb _ _ h)

        pub keep_new : found.spare < 16 → keep_way found held ≡ open_at found.free found.spare
        unfolding keep_way
        keep_new h = rw (below, lt-leb _ _ h₁, le-ltb _ _ h₂, lt-leb _ _ h)

-- step 4 (rules T7 to T9)
module _ (n : ℕ) (bytes : List ℕ) (room : ℕ) where
  pub last_single : n ≤ 1 → message_way n bytes room ≡ end (single (length bytes)) []
  unfolding message_way
  last_single h = rw (le-leb _ _ h)

  module _ (h₁ : 1 < n) where
    pub last_13 : room < length bytes → message_way n bytes room ≡ refuse 13 (length bytes ∷ [])
    unfolding message_way
    last_13 h = rw (lt-leb _ _ h₁, lt-ltb _ _ h)

    pub last_joined : length bytes ≤ room → message_way n bytes room ≡ end (joined (length bytes)) bytes
    unfolding message_way
    last_joined h = rw (lt-leb _ _ h₁, le-ltb _ _ h)

-- a message stands at the output's start
pub start_over : (bytes out : List ℕ) → start_of (length bytes) (over bytes out) ≡ bytes
start_over bytes out =
    let fits : length bytes ≤ length (over bytes out) = omega (arith, length-append bytes (drop (length bytes) out)) in
    rw (le-leb (length bytes) (length (over bytes out)) fits) (take_at bytes (drop (length bytes) out) (length bytes) refl)

-- a property of the way of a last fragment, whatever it is
pub by_ends : (P : Way → Type 0) → P (end inconsistent []) → P (end missing []) → P (end missing_last []) → ((n : ℕ) → P (end (single n) [])) → ((n : ℕ) → P (refuse 13 (n ∷ [])))
    → ((bytes : List ℕ) → P (end (joined (length bytes)) bytes)) → (new : Held) (fs : Fragments) (room : ℕ) → P (join_way new fs room)
unfolding join_way message_way
by_ends P i m l s r j new fs room = by_tests (inconsistent_with new fs) (gapped fs) (is_last_lem (fs (reach fs - 1))) (leb (reach fs) 1) (payloads fs (reach fs)) (ltb room (length (payloads fs (reach fs))))
  where
    by_tests : (u g o n : Bool) (bytes : List ℕ) (x : Bool)
        → P (cond u (end inconsistent []) (cond g (end missing []) (cond (not o) (end missing_last []) (cond n (end (single (length bytes)) []) (cond x (refuse 13 (length bytes ∷ [])) (end (joined (length bytes)) bytes))))))
    by_tests true g o n bytes x = i
    by_tests false true o n bytes x = m
    by_tests false false false n bytes x = l
    by_tests false false true true bytes x = s (length bytes)
    by_tests false false true false bytes true = r (length bytes)
    by_tests false false true false bytes false = j bytes

-- it is a refusal by 13, or an end that shows the same whatever the output held
abbrev Last : Way → Type 0
Last (refuse n values) = n ≡ 13
Last duplicate = ⊥
Last (keep_at i) = ⊥
Last (open_at i row) = ⊥
Last (end h bytes) = (payload out : List ℕ) → shown (gives h) payload (over bytes out) ≡ shown (gives h) payload (over bytes [])

-- whether an answer is that of a duplicate
abbrev pub is_duplicated : Answer PushAnswer → Bool
is_duplicated (gives waiting) = false
is_duplicated (gives duplicated) = true
is_duplicated (gives inconsistent) = false
is_duplicated (gives missing) = false
is_duplicated (gives missing_last) = false
is_duplicated (gives (single n)) = false
is_duplicated (gives (joined n)) = false
is_duplicated (refuses n values) = false

-- the tests of push, in their order
module _ (stored size place : ℕ) (last : Bool) (keeps joins : Way) where
  pub by_11 : stored < 47744 → way_by stored size place last keeps joins ≡ refuse 11 []
  unfolding way_by
  by_11 h = rw (lt-ltb _ _ h)

  module _ (h₁ : 47744 ≤ stored) where
    pub by_12 : 1492 < size → way_by stored size place last keeps joins ≡ refuse 12 []
    unfolding way_by
    by_12 h = rw (le-ltb _ _ h₁, lt-ltb _ _ h)

    module _ (h₂ : size ≤ 1492) where
      pub by_duplicate : place < 32 → way_by stored size place last keeps joins ≡ duplicate
      unfolding way_by
      by_duplicate h = rw (le-ltb _ _ h₁, le-ltb _ _ h₂, lt-ltb _ _ h)

      module _ (h₃ : 32 ≤ place) where
        pub by_last : last ≡ true → way_by stored size place last keeps joins ≡ joins
        unfolding way_by
        by_last h = rw (le-ltb _ _ h₁, le-ltb _ _ h₂, le-ltb _ _ h₃, h)

        pub by_keep : last ≡ false → way_by stored size place last keeps joins ≡ keeps
        unfolding way_by
        by_keep h = rw (le-ltb _ _ h₁, le-ltb _ _ h₂, le-ltb _ _ h₃, h)

-- what holds where a push is refused by 10: its sender has less than its share, and a place is wanted, or a row
pub record Full (t : Table) (a : Arrival) : Type 0 where
  pub few_places : (own_totals t a).places < 8
  pub few_keys : 16 ≤ row_of t a.key → (own_totals t a).keys < 4
  pub wanted : (32 ≤ lowest_free t) ⊎ ((16 ≤ row_of t a.key) × (16 ≤ spare_row t))

-- which way a push went, and what held: what is true of each way is shown by these five cases
pub data Went (t : Table) (store : List ℕ) (a : Arrival) (payload : List ℕ) (room : ℕ) : Way → Type 0 where
  went_refuse : (n : ℕ) (values : List ℕ) → (n ≡ 10 → Full t a) → Went t store a payload room (refuse n values)
  went_duplicate : Went t store a payload room duplicate
  went_keep : (i : ℕ) → 47744 ≤ length store → length payload ≤ 1492 → 32 ≤ place_of t (row_of t a.key) a.fragment.number → a.fragment.last ≡ false
      → i ≡ lowest_free t → i < 32 → row_of t a.key < 16 → (own_totals t a).places < 8 → Went t store a payload room (keep_at i)
  went_open : (i row : ℕ) → 47744 ≤ length store → length payload ≤ 1492 → 32 ≤ place_of t (row_of t a.key) a.fragment.number → a.fragment.last ≡ false
      → i ≡ lowest_free t → i < 32 → 16 ≤ row_of t a.key → row ≡ spare_row t → row < 16 → (own_totals t a).places < 8 → (own_totals t a).keys < 4 → Went t store a payload room (open_at i row)
  went_end : (h : PushAnswer) (bytes : List ℕ) → 47744 ≤ length store → length payload ≤ 1492 → 32 ≤ place_of t (row_of t a.key) a.fragment.number → a.fragment.last ≡ true
      → joined_with t store (row_of t a.key) a.fragment payload room ≡ end h bytes → Went t store a payload room (end h bytes)

-- what is no refusal
abbrev is_refusal : Way → Bool
is_refusal (refuse n values) = true
is_refusal duplicate = false
is_refusal (keep_at i) = false
is_refusal (open_at i row) = false
is_refusal (end h bytes) = false

module _ (t : Table) (store : List ℕ) (a : Arrival) (payload : List ℕ) (room : ℕ) where
  abbrev row : ℕ
  row = row_of t a.key

  abbrev place : ℕ
  place = place_of t row a.fragment.number

  abbrev joins : Way
  joins = joined_with t store row a.fragment payload room

  last_joins : Last joins
  last_joins = by_ends Last (λ x o. refl) (λ x o. refl) (λ x o. refl) (λ n x o. refl) (λ n. refl) (λ bytes x o. start_over bytes o ∙ sym (start_over bytes [])) (held_of a.fragment payload) (and_new (held_in_lem t store row) a.fragment.number (held_of a.fragment payload)) room

  abbrev keeps : Way
  keeps = keep_way (looked_up t a) (own_totals t a)

  -- the tests of a push to a table
  pub way_11 : length store < 47744 → way t store a payload room ≡ refuse 11 []
  unfolding way
  way_11 h = by_11 _ _ _ _ _ _ h

  module _ (h₁ : 47744 ≤ length store) where
    pub way_12 : 1492 < length payload → way t store a payload room ≡ refuse 12 []
    unfolding way
    way_12 h = by_12 _ _ _ _ _ _ h₁ h

    module _ (h₂ : length payload ≤ 1492) where
      pub way_duplicate : place < 32 → way t store a payload room ≡ duplicate
      unfolding way
      way_duplicate h = by_duplicate _ _ _ _ _ _ h₁ h₂ h

      module _ (h₃ : 32 ≤ place) where
        pub way_last : a.fragment.last ≡ true → way t store a payload room ≡ joins
        unfolding way
        way_last l = by_last _ _ _ _ _ _ h₁ h₂ h₃ l

        pub way_keep : a.fragment.last ≡ false → way t store a payload room ≡ keeps
        unfolding way
        way_keep l = by_keep _ _ _ _ _ _ h₁ h₂ h₃ l

        full : has_share_lem (looked_up t a) (own_totals t a) ≡ false → (32 ≤ lowest_free t) ⊎ ((16 ≤ row) × (16 ≤ spare_row t)) → Full t a
        full below wants = let less = below_share (looked_up t a) (own_totals t a) below in record { few_places = less.0; few_keys = less.1; wanted = wants }

        by_room : a.fragment.last ≡ false → has_share_lem (looked_up t a) (own_totals t a) ≡ false → (x : Bool) → leb 32 (lowest_free t) ≡ x → (y : Bool) → ltb row 16 ≡ y → (z : Bool) → leb 16 (spare_row t) ≡ z → Went t store a payload room keeps
        by_room l below true e y f z g = rw (keep_full (looked_up t a) (own_totals t a) below (leb-true _ _ e)) (went_refuse 10 [] (λ n. full below (inl (leb-true _ _ e))))
        by_room l below false e true f z g =
            rw (keep_there (looked_up t a) (own_totals t a) below (leb-false _ _ e) (ltb-true _ _ f)) (went_keep (lowest_free t) h₁ h₂ h₃ l refl (leb-false _ _ e) (ltb-true _ _ f) (below_share (looked_up t a) (own_totals t a) below).0)
        by_room l below false e false f true g = rw (keep_keys (looked_up t a) (own_totals t a) below (leb-false _ _ e) (ltb-false _ _ f) (leb-true _ _ g)) (went_refuse 10 [] (λ n. full below (inr (ltb-false _ _ f, leb-true _ _ g))))
        by_room l below false e false f false g =
            let less = below_share (looked_up t a) (own_totals t a) below in
            rw (keep_new (looked_up t a) (own_totals t a) below (leb-false _ _ e) (ltb-false _ _ f) (leb-false _ _ g))
            (went_open (lowest_free t) (spare_row t) h₁ h₂ h₃ l refl (leb-false _ _ e) (ltb-false _ _ f) refl (leb-false _ _ g) less.0 (less.1 (ltb-false _ _ f)))

        by_share : a.fragment.last ≡ false → (b : Bool) → has_share_lem (looked_up t a) (own_totals t a) ≡ b → Went t store a payload room keeps
        by_share l true e = rw (keep_share (looked_up t a) (own_totals t a) e) (went_refuse 20 [] (λ n. absurd (omega arith)))
        by_share l false e = by_room l e (leb 32 (lowest_free t)) refl (ltb row 16) refl (leb 16 (spare_row t)) refl

        -- a last way is a refusal or an end
        by_end : a.fragment.last ≡ true → (w : Way) → joins ≡ w → Went t store a payload room w
        by_end l (refuse n values) e = let by-13 : n ≡ 13 = subst Last e last_joins in went_refuse n values (λ ten. absurd (omega arith))
        by_end l (end h bytes) e = went_end h bytes h₁ h₂ h₃ l e
        by_end l duplicate e = absurd (subst Last e last_joins)
        by_end l (keep_at i) e = absurd (subst Last e last_joins)
        by_end l (open_at i r) e = absurd (subst Last e last_joins)

        by_mark : (l : Bool) → a.fragment.last ≡ l → Went t store a payload room (way t store a payload room)
        by_mark true l = rw (way_last l) (by_end l joins refl)
        by_mark false l = rw (way_keep l) (by_share l (has_share_lem (looked_up t a) (own_totals t a)) refl)

      by_place : (b : Bool) → ltb place 32 ≡ b → Went t store a payload room (way t store a payload room)
      by_place true e = rw (way_duplicate (ltb-true _ _ e)) went_duplicate
      by_place false e = by_mark (ltb-false _ _ e) a.fragment.last refl

    by_size : (b : Bool) → ltb 1492 (length payload) ≡ b → Went t store a payload room (way t store a payload room)
    by_size true e = rw (way_12 (ltb-true _ _ e)) (went_refuse 12 [] (λ n. absurd (omega arith)))
    by_size false e = by_place (ltb-false _ _ e) (ltb place 32) refl

  by_store : (b : Bool) → ltb (length store) 47744 ≡ b → Went t store a payload room (way t store a payload room)
  by_store true e = rw (way_11 (ltb-true _ _ e)) (went_refuse 11 [] (λ n. absurd (omega arith)))
  by_store false e = by_size (ltb-false _ _ e) (ltb 1492 (length payload)) refl

  pub went : Went t store a payload room (way t store a payload room)
  went = by_store (ltb (length store) 47744) refl

  -- no other way is answered as a duplicate is
  duplicate_by : {w : Way} → Went t store a payload room w → is_duplicated (answer_by w) ≡ true → w ≡ duplicate
  duplicate_by (went_refuse n values why) d = absurd (false≢true d)
  duplicate_by went_duplicate d = refl
  duplicate_by (went_keep i h₁ h₂ h₃ l e h k q) d = absurd (false≢true d)
  duplicate_by (went_open i r h₁ h₂ h₃ l e h k e₂ h₄ q q₂) d = absurd (false≢true d)
  duplicate_by (went_end h bytes h₁ h₂ h₃ l e) d = absurd (false≢true (
      sym (by_ends (λ (w : Way). is_duplicated (answer_by w) ≡ false) refl refl refl (λ n. refl) (λ n. refl) (λ x. refl) (held_of a.fragment payload) (and_new (held_in_lem t store row) a.fragment.number (held_of a.fragment payload)) room)
      ∙ ap (λ (w : Way). is_duplicated (answer_by w)) e ∙ d))

  pub is_duplicate : is_duplicated (answer_by (way t store a payload room)) ≡ true → way t store a payload room ≡ duplicate
  is_duplicate = duplicate_by went

  -- what is shown of a push is the same whatever the output held
  shown_by : {w : Way} → Went t store a payload room w → (out : List ℕ) → shown (answer_by w) payload (output_by w out) ≡ shown (answer_by w) payload (output_by w [])
  shown_by (went_refuse n values why) out = refl
  shown_by went_duplicate out = refl
  shown_by (went_keep i h₁ h₂ h₃ l e h k q) out = refl
  shown_by (went_open i r h₁ h₂ h₃ l e h k e₂ h₄ q q₂) out = refl
  shown_by (went_end h bytes h₁ h₂ h₃ l e) out = subst Last e last_joins payload out

  pub shown_same : (out : List ℕ) → shown (answer_by (way t store a payload room)) payload (output_by (way t store a payload room) out) ≡ shown (answer_by (way t store a payload room)) payload (output_by (way t store a payload room) [])
  shown_same = shown_by went

  -- a push that is refused by 10
  full_by : {w : Way} → Went t store a payload room w → w ≡ refuse 10 [] → Full t a
  full_by (went_refuse n values why) e = why (cc)
  full_by went_duplicate e = absurd (false≢true (ap is_refusal e))
  full_by (went_keep i h₁ h₂ h₃ l e h k q) d = absurd (false≢true (ap is_refusal d))
  full_by (went_open i r h₁ h₂ h₃ l e h k e₂ h₄ q q₂) d = absurd (false≢true (ap is_refusal d))
  full_by (went_end h bytes h₁ h₂ h₃ l e) d = absurd (false≢true (ap is_refusal d))

  pub is_full : way t store a payload room ≡ refuse 10 [] → Full t a
  is_full = full_by went
