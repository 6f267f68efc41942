-- Calls that bring and lend the same get the same replies. A push also says that its number is a byte, which plays no part.
use mathlib.Core.Path.{◌≡◌, refl, sym, ap, ◌∙◌, subst}
use mathlib.Core.Bool.{true}
use mathlib.Core.List.{List, [], ◌∷◌, ◌++◌, map}
use Prim.Native.Nat.{ℕ}
use lib.ListN.{length, take, drop}
use Rattle.machines.specs.Machine.{gathered}
use Rattle.pushing.specs.declared.Arrival.{Arrival}
use Rattle.pushing.specs.Push.{Way, way, table_by, store_by, answer_by}
use Rattle.captures.specs.HandedBack.{Arrived}
use Rattle.orders.specs.Runs.{State, Push, Call, push, sweep, Reply, pushed, finished_by, after, reply_to}
use Rattle.replaying.specs.Claims.{arrived_of, Lends, lends_push, sweeps_at, lends_of}

-- all replies of a run
abbrev pub replies_in : State → List Call → List Reply
replies_in = gathered after (λ s e. true) reply_to

-- what two lists that are the same begin with, and how they go on
module _ {A : Type 0} where
  abbrev first : A → List A → A
  first none [] = none
  first none (x ∷ xs) = x

  abbrev rest : List A → List A
  rest [] = []
  rest (x ∷ xs) = xs

  same_first : (x y : A) (xs ys : List A) → x ∷ xs ≡ y ∷ ys → x ≡ y
  same_first x y xs ys e = ap (first x) e

  same_rest : (x y : A) (xs ys : List A) → x ∷ xs ≡ y ∷ ys → xs ≡ ys
  same_rest x y xs ys e = ap rest e

  abbrev IsNone : List A → Type 0
  IsNone [] = Unit
  IsNone (x ∷ xs) = ⊥

  not_none : (x : A) (xs : List A) → [] ≡ x ∷ xs → ⊥
  not_none x xs e = subst IsNone e tt

-- the fields of what a call lends
abbrev lent_in : Lends → ℕ
lent_in (lends_push lent room) = lent
lent_in (sweeps_at time) = 0

abbrev room_in : Lends → ℕ
room_in (lends_push lent room) = room
room_in (sweeps_at time) = 0

abbrev time_in : Lends → ℕ
time_in (lends_push lent room) = 0
time_in (sweeps_at time) = time

abbrev IsPush : Lends → Type 0
IsPush (lends_push lent room) = Unit
IsPush (sweeps_at time) = ⊥

module _ (s : State) where
  -- a push by what it brings and lends
  abbrev way_with : Arrival → List ℕ → ℕ → ℕ → Way
  way_with a payload lent room = way s.table (take lent s.store) a payload room

  abbrev reply_with : Arrival → List ℕ → ℕ → ℕ → Reply
  reply_with a payload lent room = pushed (answer_by (way_with a payload lent room)) (finished_by (way_with a payload lent room) payload)

  abbrev after_with : Arrival → List ℕ → ℕ → ℕ → State
  after_with a payload lent room = record {
    table = table_by (way_with a payload lent room) s.table a (length payload);
    store = store_by (way_with a payload lent room) (take lent s.store) payload ++ drop lent s.store;
  }

  module _ (p q : Push) (a : p.arrival ≡ q.arrival) (b : p.payload ≡ q.payload) (l : p.lent ≡ q.lent) (r : p.room ≡ q.room) where
    same_reply : reply_to s (push p) ≡ reply_to s (push q)
    same_reply = λ i. reply_with (a i) (b i) (l i) (r i)

    same_after : after s (push p) ≡ after s (push q)
    same_after = λ i. after_with (a i) (b i) (l i) (r i)

pub same_calls : (es fs : List Call) → arrived_of es ≡ arrived_of fs → map lends_of es ≡ map lends_of fs → (s : State) → replies_in s es ≡ replies_in s fs
unfolding gathered
same_calls [] [] b l s = refl
same_calls [] (f ∷ fs) b l s = absurd (not_none (lends_of f) (map lends_of fs) l)
same_calls (e ∷ es) [] b l s = absurd (not_none (lends_of e) (map lends_of es) (sym l))
same_calls (push p ∷ es) (push q ∷ fs) b l s =
    let brought = same_first _ _ _ _ b in
    let lent = same_first _ _ _ _ l in
    let a = ap (λ (x : Arrived). x.arrival) brought in
    let c = ap (λ (x : Arrived). x.payload) brought in
    let on = same_calls es fs (same_rest _ _ _ _ b) (same_rest _ _ _ _ l) (after s (push q)) in
    ap (λ (z : State). reply_to s (push p) ∷ replies_in z es) (same_after s p q a c (ap lent_in lent) (ap room_in lent))
    ∙ ap (λ (x : Reply). x ∷ replies_in (after s (push q)) es) (same_reply s p q a c (ap lent_in lent) (ap room_in lent))
    ∙ ap (λ (xs : List Reply). reply_to s (push q) ∷ xs) on
same_calls (push p ∷ es) (sweep time ∷ fs) b l s = absurd (subst IsPush (same_first _ _ _ _ l) tt)
same_calls (sweep time ∷ es) (push q ∷ fs) b l s = absurd (subst IsPush (sym (same_first _ _ _ _ l)) tt)
same_calls (sweep time ∷ es) (sweep time' ∷ fs) b l s =
    ap (λ (t : ℕ). reply_to s (sweep t) ∷ replies_in (after s (sweep t)) es) (ap time_in (same_first _ _ _ _ l))
    ∙ ap (λ (xs : List Reply). reply_to s (sweep time') ∷ xs) (same_calls es fs b (same_rest _ _ _ _ l) (after s (sweep time')))
