-- What one push does to each key's holding.
use mathlib.Core.Path.{◌≡◌, refl, sym, ap, ◌∙◌, subst}
use mathlib.Core.List.{List, []}
use mathlib.Core.Bool.{Bool, true, false, not, ◌&&◌, ◌||◌, false≢true}
use Prim.Native.Nat.{ℕ, min, ◌≤◌, ◌<◌}
use lib.Dec.{ltb, leb}
use lib.ListN.{length, take, drop, length-take, take-append-drop}
use borrow.Author.Tests.{leb-true, leb-false, ltb-true, ltb-false, le-ltb}
use Rattle.numbers.specs.Numbers.{Answer, number, values}
use Rattle.numbers.specs.declared.Refusal.{Refusal}
use Rattle.numbers.specs.declared.Refusal.TheVariants.{TableFull, SenderFull}
use Rattle.keys.specs.Keys.{sender_of_lem}
use Rattle.table.specs.declared.Table.{Table}
use Rattle.pushing.specs.declared.Arrival.{Arrival}
use Rattle.table.specs.Rows.{row_of, spare_row, place_of, lowest_free, totals_of}
use Rattle.pushing.specs.Joining.{Held, Fragments, is_kept_lem, held_of, held_in_lem, and_new}
use Rattle.pushing.specs.Push.{PushAnswer, Way, refuse, duplicate, keep_at, open_at, end, join_way, looked_up, own_totals, has_share_lem, keep_way, joined_with, answer_by}
use Rattle.pushing.specs.Made.{Made}
use Rattle.pushing.proofs.Ways.{by_ends, keep_share, keep_full, keep_there, keep_keys, keep_new, way_11, way_12, way_duplicate, way_last, way_keep}
use Rattle.table.proofs.Sound.{Sound}
use Rattle.pushing.proofs.Sound.{sound}
use Rattle.orders.specs.Runs.{State, Push, pushed, finished_by, refused_by, part, way_of, Holding, holding, for_room}
use Rattle.orders.proofs.Holdings.{held_front}
use Rattle.orders.proofs.Lookups.{kept_there}
use Rattle.orders.proofs.Telling.{shape, passes_by, own_joining, own_way, by_own_way, own_11, own_12, own_duplicate, own_last, own_keep}

-- a state that the calls made over a store of some length
pub record Good (long : ℕ) (z : State) : Type 0 where
  pub made : Made z.table
  pub same_long : length z.store ≡ long

-- the fragments of a row, read through the lent part
pub held_lent : (z : State) → Sound z.table → (lent : ℕ) → 47744 ≤ length (take lent z.store) → (row : ℕ) → held_in_lem z.table (take lent z.store) row ≡ held_in_lem z.table z.store row
held_lent z s lent long row = λ i n. (sym (held_front z.table s (take lent z.store) (drop lent z.store) long row n) ∙ ap (λ (l : List ℕ). held_in_lem z.table l row n) (take-append-drop lent z.store)) i

-- what a push tells goes by the shape of its way
abbrev pub room_by : Way → Bool
room_by = passes_by for_room

pub same_answer : (w : Way) → answer_by (shape w) ≡ answer_by w
same_answer (refuse n values) = refl
same_answer duplicate = refl
same_answer (keep_at i) = refl
same_answer (open_at i row) = refl
same_answer (end h bytes) = refl

pub same_finished : (w : Way) (payload : List ℕ) → finished_by (shape w) payload ≡ finished_by w payload
same_finished (refuse n values) payload = refl
same_finished duplicate payload = refl
same_finished (keep_at i) payload = refl
same_finished (open_at i row) payload = refl
same_finished (end h bytes) payload = refl

-- no place for a fragment, or no row for its key; or the share of its sender is used up
pub data Full (t : Table) (key : ℕ) : Type 0 where
  many_places : 8 ≤ (totals_of t (sender_of_lem key)).places → Full t key
  many_keys : 16 ≤ row_of t key → 4 ≤ (totals_of t (sender_of_lem key)).keys → Full t key
  no_place : 32 ≤ lowest_free t → Full t key
  no_row : 16 ≤ row_of t key → 16 ≤ spare_row t → Full t key

-- a sender that holds its share
at_share : (t : Table) (a : Arrival) → has_share_lem (looked_up t a) (own_totals t a) ≡ true → Full t a.key
at_share t a = by_tests (leb 8 (own_totals t a).places) refl (leb 16 (row_of t a.key)) refl (leb 4 (own_totals t a).keys) refl
  where
    by_tests : (x : Bool) → leb 8 (own_totals t a).places ≡ x → (y : Bool) → leb 16 (row_of t a.key) ≡ y → (w : Bool) → leb 4 (own_totals t a).keys ≡ w → (x || (y && w)) ≡ true → Full t a.key
    by_tests true e y f w q h = many_places (leb-true _ _ e)
    by_tests false e true f true q h = many_keys (leb-true _ _ f) (leb-true _ _ q)
    by_tests false e true f false q h = absurd (false≢true h)
    by_tests false e false f w q h = absurd (false≢true h)

-- a push goes the way that its key's holding tells, or is refused for room where that way is to keep
pub data Turn (long : ℕ) (z : State) (p : Push) : Type 0 where
  as_told : shape (way_of z p) ≡ own_way long (holding p.arrival.key z) p → Turn long z p
  full : (r : Refusal) → for_room (number r) ≡ true → way_of z p ≡ refuse (number r) (values r) → own_way long (holding p.arrival.key z) p ≡ keep_at 0 → p.arrival.fragment.last ≡ false → Full z.table p.arrival.key → Turn long z p

module _ (long : ℕ) (z : State) (p : Push) (g : Good long z) where
  abbrev t : Table
  t = z.table

  abbrev a : Arrival
  a = p.arrival

  abbrev row : ℕ
  row = row_of t a.key

  abbrev place : ℕ
  place = place_of t row a.fragment.number

  abbrev v : Holding
  v = holding a.key z

  s : Sound t
  s = sound g.made

  part_long : length (part z p) ≡ min p.lent long
  part_long = length-take p.lent z.store ∙ ap (min p.lent) g.same_long

  kept_is : is_kept_lem (v.fragments a.fragment.number) ≡ ltb place 32
  kept_is = kept_there t z.store row a.fragment.number place

  module _ (h₁ : 47744 ≤ length (part z p)) (h₂ : length p.payload ≤ 1492) where
    min_long : 47744 ≤ min p.lent long
    min_long = subst (λ (n : ℕ). 47744 ≤ n) part_long h₁

    abbrev new : Held
    new = held_of a.fragment p.payload

    joined_same : joined_with t (part z p) row a.fragment p.payload p.room ≡ own_joining v p
    joined_same = ap (λ (fs : Fragments). join_way new (and_new fs a.fragment.number new) p.room) (held_lent z s p.lent h₁ row)

    module _ (is : way_of z p ≡ keep_way (looked_up t a) (own_totals t a)) (own : own_way long v p ≡ keep_at 0) (l : a.fragment.last ≡ false) where
      by_keep : has_share_lem (looked_up t a) (own_totals t a) ≡ false → (x : Bool) → leb 32 (lowest_free t) ≡ x → (y : Bool) → ltb row 16 ≡ y → (w : Bool) → leb 16 (spare_row t) ≡ w → Turn long z p
      by_keep below true e y f w q = full TableFull refl (is ∙ keep_full (looked_up t a) (own_totals t a) below (leb-true _ _ e)) own l (no_place (leb-true _ _ e))
      by_keep below false e true f w q = as_told (ap shape (is ∙ keep_there (looked_up t a) (own_totals t a) below (leb-false _ _ e) (ltb-true _ _ f)) ∙ sym own)
      by_keep below false e false f true q = full TableFull refl (is ∙ keep_keys (looked_up t a) (own_totals t a) below (leb-false _ _ e) (ltb-false _ _ f) (leb-true _ _ q)) own l (no_row (ltb-false _ _ f) (leb-true _ _ q))
      by_keep below false e false f false q = as_told (ap shape (is ∙ keep_new (looked_up t a) (own_totals t a) below (leb-false _ _ e) (ltb-false _ _ f) (leb-false _ _ q)) ∙ sym own)

      by_share : (b : Bool) → has_share_lem (looked_up t a) (own_totals t a) ≡ b → Turn long z p
      by_share true e = full SenderFull refl (is ∙ keep_share (looked_up t a) (own_totals t a) e) own l (at_share t a e)
      by_share false e = by_keep e (leb 32 (lowest_free t)) refl (ltb row 16) refl (leb 16 (spare_row t)) refl

    by_mark : 32 ≤ place → (b : Bool) → a.fragment.last ≡ b → Turn long z p
    by_mark h₃ true e = as_told (
        ap shape (way_last t (part z p) a p.payload p.room h₁ h₂ h₃ e)
        ∙ by_ends (λ (w : Way). shape w ≡ w) refl refl refl (λ n. refl) (λ n. refl) (λ bytes. refl) new (and_new (held_in_lem t (part z p) row) a.fragment.number new) p.room
        ∙ joined_same
        ∙ sym (own_last long v p min_long h₂ (kept_is ∙ le-ltb _ _ h₃) e))
    by_mark h₃ false e =
        by_share (way_keep t (part z p) a p.payload p.room h₁ h₂ h₃ e) (own_keep long v p min_long h₂ (kept_is ∙ le-ltb _ _ h₃) e) e
        (has_share_lem (looked_up t a) (own_totals t a)) refl

    by_place : (b : Bool) → ltb place 32 ≡ b → Turn long z p
    by_place true e = as_told (ap shape (way_duplicate t (part z p) a p.payload p.room h₁ h₂ (ltb-true _ _ e)) ∙ sym (own_duplicate long v p min_long h₂ (kept_is ∙ e)))
    by_place false e = by_mark (ltb-false _ _ e) a.fragment.last refl

  by_size : 47744 ≤ length (part z p) → (b : Bool) → ltb 1492 (length p.payload) ≡ b → Turn long z p
  by_size h₁ true e = as_told (ap shape (way_12 t (part z p) a p.payload p.room h₁ (ltb-true _ _ e)) ∙ sym (own_12 long v p (subst (λ (n : ℕ). 47744 ≤ n) part_long h₁) (ltb-true _ _ e)))
  by_size h₁ false e = by_place h₁ (ltb-false _ _ e) (ltb place 32) refl

  by_room : (b : Bool) → ltb (length (part z p)) 47744 ≡ b → Turn long z p
  by_room true e = as_told (ap shape (way_11 t (part z p) a p.payload p.room (ltb-true _ _ e)) ∙ sym (own_11 long v p (subst (λ (n : ℕ). n < 47744) part_long (ltb-true _ _ e))))
  by_room false e = by_size (ltb-false _ _ e) (ltb 1492 (length p.payload)) refl

  pub turn : Turn long z p
  turn = by_room (ltb (length (part z p)) 47744) refl

  pub way_shape : room_by (way_of z p) ≡ true → shape (way_of z p) ≡ own_way long v p
  way_shape h = by_turn turn
    where
      by_turn : Turn long z p → shape (way_of z p) ≡ own_way long v p
      by_turn (as_told e) = e
      by_turn (full r for e own l f) = absurd (false≢true (sym (ap not for) ∙ sym (ap room_by e) ∙ h))

-- and the way that a holding tells is never refused for room
pub own_room : (long : ℕ) (v : Holding) (p : Push) → room_by (own_way long v p) ≡ true
own_room long v p = by_own_way long v p (λ (w : Way). room_by w ≡ true) (λ x e. rw e) refl (λ h bytes e. refl) (λ e. refl)

-- a push has room unless it is not marked last and the table is full for it: a full table takes a last fragment, single
-- or not
pub room_unless : (long : ℕ) (z : State) (p : Push) → Good long z → (p.arrival.fragment.last ≡ false → Full z.table p.arrival.key → ⊥) → room_by (way_of z p) ≡ true
room_unless long z p g not_full = by_turn (turn long z p g)
  where
    by_turn : Turn long z p → room_by (way_of z p) ≡ true
    by_turn (as_told e) = ap (λ (a : Answer PushAnswer). not (refused_by for_room (pushed a []))) (sym (same_answer (way_of z p))) ∙ ap room_by e ∙ own_room long (holding p.arrival.key z) p
    by_turn (full r for e own l f) = absurd (not_full l f)
