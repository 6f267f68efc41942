-- The table as a machine whose calls act key by key: what a call does to a key's holding, and tells, is a function of
-- that holding and the call, unless it is refused for room.
use mathlib.Core.Path.{◌≡◌, refl, sym, ap, ◌∙◌, subst}
use mathlib.Core.List.{List}
use mathlib.Core.Bool.{Bool, true, false, not, ◌&&◌, ◌||◌, false≢true, true≢false, or-false}
use Prim.Native.Nat.{ℕ}
use lib.Dec.{eqb}
use lib.ListN.{length, take-append-drop}
use borrow.Author.Tests.{eqb-true, eqb-false, not-false}
use Rattle.numbers.specs.Numbers.{gives, refuses}
use Rattle.pushing.specs.Push.{Way, refuse, duplicate, keep_at, open_at, end, answer_by}
use Rattle.pushing.specs.Made.{by_fresh, by_push, by_sweep}
use Rattle.pushing.proofs.Ways.{went}
use Rattle.table.proofs.Sound.{Sound}
use Rattle.pushing.proofs.Sound.{sound}
use Rattle.orders.specs.Runs.{State, Push, Call, push, sweep, Reply, pushed, dropped, finished_by, part, way_of, after_way, after, reply_to, refused_by, is_left, has_room_lem, is_own, is_sweep, concerns, mine, start, holding, for_room}
use Rattle.orders.specs.Claims.{CoversRoom}
use Rattle.orders.proofs.Telling.{acts, passes_is, own_way, by_own_lem, tell, answer}
use Rattle.orders.proofs.Pushing.{Good, room_by, same_answer, same_finished, way_shape}
use Rattle.orders.proofs.Effects.{stored_long, others_same, own_same}
use Rattle.orders.proofs.Sweeps.{sweep_holding}
use Rattle.machines.specs.Machine.{those}
use Rattle.machines.specs.Story.{ActsByKey}
use Rattle.machines.proofs.Lists.{those_within}

-- a refused push changes nothing
refused_same : (z : State) (p : Push) (test : ℕ → Bool) (bytes : List ℕ) (w : Way) → refused_by test (pushed (answer_by w) bytes) ≡ true → after_way w z p ≡ z
refused_same z p test bytes (refuse n values) h = ap (λ (l : List ℕ). record { table = z.table; store = l }) (take-append-drop p.lent z.store)
refused_same z p test bytes duplicate h = absurd (false≢true h)
refused_same z p test bytes (keep_at i) h = absurd (false≢true h)
refused_same z p test bytes (open_at i row) h = absurd (false≢true h)
refused_same z p test bytes (end x message) h = absurd (false≢true h)

pub refused_nothing : (test : ℕ → Bool) (z : State) (e : Call) → not (refused_by test (reply_to z e)) ≡ false → after z e ≡ z
refused_nothing test z (push p) h = refused_same z p test (finished_by (way_of z p) p.payload) (way_of z p) (not-false _ h)
refused_nothing test z (sweep time) h = absurd (true≢false h)

pub has_room : (z : State) (p : Push) → has_room_lem z (push p) ≡ room_by (way_of z p)
has_room z p = passes_is for_room (finished_by (way_of z p) p.payload) (way_of z p)

-- each call leaves a state that the calls made
pub good_after : (long : ℕ) (z : State) (e : Call) → Good long z → Good long (after z e)
good_after long z (push p) g = record {
  made = by_push g.made (part z p) p.arrival p.payload p.room p.byte;
  same_long = stored_long z p (sound g.made) (went z.table (part z p) p.arrival p.payload p.room) ∙ g.same_long;
}
good_after long z (sweep time) g = record { made = by_sweep g.made time; same_long = g.same_long }

pub good_start : (store : List ℕ) → Good (length store) (start store)
good_start store = record { made = by_fresh; same_long = refl }

module _ (long : ℕ) (z : State) (g : Good long z) where
  s : Sound z.table
  s = sound g.made

  -- what a key holds is untouched by every push under another key, refused or not
  pub untouched : (c : ℕ) (p : Push) → (c ≡ p.arrival.key → ⊥) → holding c (after z (push p)) ≡ holding c z
  untouched c p ne = others_same z p s (sound (good_after long z (push p) g).made) c (λ e. ne (sym e))

  -- what a push does to its own key's holding, and tells, unless it is refused for room
  pub own_push : (p : Push) → has_room_lem z (push p) ≡ true → holding p.arrival.key (after z (push p)) ≡ tell long (holding p.arrival.key z) (push p)
  own_push p h =
      own_same z p s (sound (good_after long z (push p) g).made)
      ∙ ap (λ (w : Way). by_own_lem w (holding p.arrival.key z) p) (way_shape long z p g (sym (has_room z p) ∙ h))

  pub own_reply : (p : Push) → has_room_lem z (push p) ≡ true → reply_to z (push p) ≡ answer long (holding p.arrival.key z) (push p)
  own_reply p h =
      let w = way_of z p in
      let is = way_shape long z p g (sym (has_room z p) ∙ h) in
      let said : answer_by w ≡ answer_by (own_way long (holding p.arrival.key z) p) = sym (same_answer w) ∙ ap answer_by is in
      let shown : finished_by w p.payload ≡ finished_by (own_way long (holding p.arrival.key z) p) p.payload = sym (same_finished w p.payload) ∙ ap (λ (x : Way). finished_by x p.payload) is in
      λ i. pushed (said i) (shown i)

  -- and what a sweep does to a key's
  pub own_sweep : (c time : ℕ) → holding c (after z (sweep time)) ≡ tell long (holding c z) (sweep time)
  own_sweep c time = sweep_holding z s time c

pub left_room : (out : ℕ → Bool) → CoversRoom out → (z : State) (e : Call) → is_left out z e ≡ true → has_room_lem z e ≡ true
left_room out covers z e h = by_reply (reply_to z e) h
  where
    by_number : (n : ℕ) (b : Bool) → for_room n ≡ b → not (out n) ≡ true → not b ≡ true
    by_number n true e h = absurd (false≢true (ap not (sym (covers n e)) ∙ h))
    by_number n false e h = refl

    by_reply : (r : Reply) → not (refused_by out r) ≡ true → not (refused_by for_room r) ≡ true
    by_reply (pushed (gives a) bytes) h = refl
    by_reply (pushed (refuses n values) bytes) h = by_number n (for_room n) refl h
    by_reply (dropped n) h = refl

-- of the calls that concern a key its own are its own, and the sweeps are all of them
module _ (c : ℕ) where
  own_concerns : (e : Call) → (is_own c e && concerns c e) ≡ is_own c e
  own_concerns e = by_own (is_own c e)
    where
      by_own : (b : Bool) → (b && (b || is_sweep e)) ≡ b
      by_own true = refl
      by_own false = refl

  sweep_concerns : (e : Call) → (is_sweep e && concerns c e) ≡ is_sweep e
  sweep_concerns (push p) = refl
  sweep_concerns (sweep time) = refl

  pub own_mine : (calls : List Call) → those (is_own c) (mine c calls) ≡ those (is_own c) calls
  own_mine = those_within (is_own c) (concerns c) own_concerns

  pub sweeps_mine : (calls : List Call) → those is_sweep (mine c calls) ≡ those is_sweep calls
  sweeps_mine = those_within is_sweep (concerns c) sweep_concerns

-- so the table is a machine whose calls act key by key, but those that are refused for room
module _ (out : ℕ → Bool) (covers : CoversRoom out) (long : ℕ) where
  same : (c : ℕ) (z : State) (e : Call) → Good long z → is_left out z e ≡ true → concerns c e ≡ true → holding c (after z e) ≡ tell long (holding c z) e
  same c z (push p) g h k =
      let is : p.arrival.key ≡ c = eqb-true _ _ (sym (or-false (eqb p.arrival.key c)) ∙ k) in
      subst (λ (d : ℕ). holding d (after z (push p)) ≡ tell long (holding d z) (push p)) is (own_push long z g p (left_room out covers z (push p) h))
  same c z (sweep time) g h k = own_sweep long z g c time

  other : (c : ℕ) (z : State) (e : Call) → Good long z → concerns c e ≡ false → holding c (after z e) ≡ holding c z
  other c z (push p) g k = untouched long z g c p (λ q. eqb-false p.arrival.key c (sym (or-false (eqb p.arrival.key c)) ∙ k) (sym q))
  other c z (sweep time) g k = absurd (true≢false k)

  said : (c : ℕ) (z : State) (e : Call) → Good long z → is_left out z e ≡ true → is_own c e ≡ true → reply_to z e ≡ answer long (holding c z) e
  said c z (push p) g h k = subst (λ (d : ℕ). reply_to z (push p) ≡ answer long (holding d z) (push p)) (eqb-true _ _ k) (own_reply long z g p (left_room out covers z (push p) h))
  said c z (sweep time) g h k = absurd (false≢true k)

  pub local : ActsByKey (acts long) (is_left out) (Good long)
  local = record { stays = good_after long; no_effect = λ z e g. refused_nothing out z e; same = same; other = other; said = said }
