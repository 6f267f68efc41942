-- Examples of rules S1, T8 and T9: a key stays after 2,999 milliseconds and is dropped after 3,000. Fragment 0 and then
-- fragment 1, marked last, make a message. Fragment 1 marked last, without fragment 0, is answered "missing".
use mathlib.Core.Path.{◌≡◌, refl, sym, ap, ◌∙◌}
use mathlib.Core.List.{List, [], ◌∷◌, ◌++◌}
use mathlib.Core.Bool.{Bool, true, false, cond, ◌||◌, true≢false}
use Prim.Native.Nat.{ℕ, min, ◌+◌, ◌-◌, ◌≤◌}
use native.Mathlib.Omega.{arith}
use lib.Dec.{eqb, ltb, leb}
use lib.ListN.{length}
use borrow.Author.Tests.{eqb-true, eqb-false, eq-eqb, ne_eqb, le-leb, lt-leb, lt-ltb, le-ltb}
use Rattle.numbers.specs.Numbers.{gives}
use Rattle.searching.specs.Search.{lowest}
use Rattle.keys.specs.Keys.{sender_of_lem}
use Rattle.table.specs.declared.Totals.{Totals}
use Rattle.table.specs.Rows.{fresh_table}
use Rattle.pushing.specs.Joining.{Held, nothing, kept, Fragments, held_of, is_kept_lem, unlike, inconsistent_with, and_new, in_order_lem, due}
use Rattle.pushing.specs.Push.{Way, end, join_way, waiting, missing, joined, answer_by}
use Rattle.pushing.proofs.Sound.{sound}
use Rattle.orders.specs.Runs.{State, Push, push, sweep, pushed, dropped, finished_by, after, reply_to, has_room_lem, start, Holding, holding, holds_nothing, replies_to}
use Rattle.orders.specs.Shares.{share, total, is_in, distinct}
use Rattle.orders.specs.Messages.{Message, Brings, Sent}
use Rattle.orders.proofs.Telling.{own_way, own_keep, own_last, by_own_lem, with_new, tell, answer}
use Rattle.orders.proofs.Pushing.{Good, Full, many_places, many_keys, no_place, no_row, room_unless}
use Rattle.orders.proofs.Locality.{has_room, good_after, good_start, untouched, own_push, own_reply, own_sweep}
use Rattle.orders.proofs.Totals.{total_alone}
use Rattle.orders.proofs.Counting.{counts_add_up}
use Rattle.orders.proofs.Alone.{fresh_holds}
use Rattle.orders.proofs.Joined.{none_passes, misses}
use Rattle.orders.proofs.Completes.{fresh_totals, fresh_completes}

-- a fresh table is not full
fresh_not_full : (key : ℕ) → Full fresh_table key → ⊥
unfolding lowest
fresh_not_full key (many_places h) = omega (arith, ap (λ (held : Totals). held.places) (fresh_totals (sender_of_lem key)))
fresh_not_full key (many_keys h h') = omega (arith, ap (λ (held : Totals). held.keys) (fresh_totals (sender_of_lem key)))
fresh_not_full key (no_place h) = omega arith
fresh_not_full key (no_row h h') = omega arith

module _ (store : List ℕ) (long : 47744 ≤ length store) (p : Push) (lent : 47744 ≤ p.lent) (small : length p.payload ≤ 1492) where
  abbrev z : State
  z = start store

  abbrev key : ℕ
  key = p.arrival.key

  g : Good (length store) z
  g = good_start store

  roomy : has_room_lem z (push p) ≡ true
  roomy = has_room z p ∙ room_unless (length store) z p g (λ l f. fresh_not_full key f)

  fresh_key : holding key z ≡ holds_nothing
  fresh_key = fresh_holds store key

  enough : 47744 ≤ min p.lent (length store)
  enough = omega arith

  -- fragment 1 marked last, alone
  module _ (number : p.arrival.fragment.number ≡ 1) (last : p.arrival.fragment.last ≡ true) where
    abbrev new : Held
    new = held_of p.arrival.fragment p.payload

    abbrev fs : Fragments
    fs = and_new (λ n. nothing) p.arrival.fragment.number new

    alike : (k : ℕ) → unlike new (fs k) ≡ false
    alike k = by_number (eqb k p.arrival.fragment.number)
      where
        by_number : (b : Bool) → unlike new (cond b (kept new) nothing) ≡ false
        by_number true = rw (eq-eqb new.version new.version refl, eq-eqb new.message_type new.message_type refl)
        by_number false = refl

    consistent : inconsistent_with new fs ≡ false
    unfolding inconsistent_with
    consistent = none_passes (λ k. unlike new (fs k)) 256 (λ k l. alike k)

    misses_zero : join_way new fs p.room ≡ end missing []
    misses_zero = misses new fs 1 0 consistent (omega arith)
        (ap (λ (b : Bool). cond b (kept new) nothing) (ne_eqb 0 p.arrival.fragment.number (λ e. omega arith))) (omega arith)
        (ap (λ (b : Bool). is_kept_lem (cond b (kept new) nothing)) (eq-eqb 1 p.arrival.fragment.number (sym number))) p.room

    pub last_one_alone : reply_to z (push p) ≡ pushed (gives missing) []
    last_one_alone =
        let is : own_way (length store) holds_nothing p ≡ end missing [] = own_last (length store) holds_nothing p enough small refl last ∙ misses_zero in
        own_reply (length store) z g p roomy
        ∙ ap (λ (v : Holding). answer (length store) v (push p)) fresh_key
        ∙ ap (λ (w : Way). pushed (answer_by w) (finished_by w p.payload)) is

  -- a first fragment, and a sweep after 2,999 and after 3,000
  module _ (more : p.arrival.fragment.last ≡ false) where
    abbrev waiting_state : State
    waiting_state = after z (push p)

    g' : Good (length store) waiting_state
    g' = good_after (length store) z (push p) g

    holds_it : holding key waiting_state ≡ with_new holds_nothing p
    holds_it =
        own_push (length store) z g p roomy
        ∙ ap (λ (v : Holding). tell (length store) v (push p)) fresh_key
        ∙ ap (λ (w : Way). by_own_lem w holds_nothing p) (own_keep (length store) holds_nothing p enough small refl more)

    others_none : (k : ℕ) → is_in k (key ∷ []) ≡ false → holding k waiting_state ≡ holds_nothing
    unfolding is_in
    others_none k out = untouched (length store) z g k p (λ e. other e (eqb key k) refl out) ∙ fresh_holds store k
      where
        other : k ≡ key → (b : Bool) → eqb key k ≡ b → (b || false) ≡ false → ⊥
        other e true q h = true≢false h
        other e false q h = eqb-false key k q (sym e)

    counts_are : (time : ℕ) → reply_to waiting_state (sweep time) ≡ dropped (share time (with_new holds_nothing p))
    unfolding total distinct is_in
    counts_are time =
        ap dropped (counts_add_up waiting_state (sound g'.made) time (key ∷ []) refl others_none
        ∙ total_alone (λ k. share time (holding k waiting_state)) key ∙ ap (share time) holds_it)

    share_is : (time : ℕ) (b : Bool) → leb 3000 (time - p.arrival.time) ≡ b → share time (with_new holds_nothing p) ≡ cond b 1 0
    unfolding share
    share_is time b e = rw e

    swept_to_lem : (time : ℕ) (b : Bool) → leb 3000 (time - p.arrival.time) ≡ b → holding key (after waiting_state (sweep time)) ≡ cond b holds_nothing (with_new holds_nothing p)
    swept_to_lem time b e = own_sweep (length store) waiting_state g' key time ∙ ap (λ (v : Holding). cond (due time v.first) holds_nothing v) holds_it ∙ rw e

    -- elapsed 2,999 stays
    young : leb 3000 (p.arrival.time + 2999 - p.arrival.time) ≡ false
    young = lt-leb 3000 (p.arrival.time + 2999 - p.arrival.time) (omega arith)

    pub stays_at_2999 : (reply_to waiting_state (sweep (p.arrival.time + 2999)) ≡ dropped 0) × (holding key (after waiting_state (sweep (p.arrival.time + 2999))) ≡ holding key waiting_state)
    stays_at_2999 = (
      counts_are (p.arrival.time + 2999) ∙ ap dropped (share_is (p.arrival.time + 2999) false young),
      swept_to_lem (p.arrival.time + 2999) false young ∙ sym holds_it,
    )

    -- 3,000 goes
    old : leb 3000 (p.arrival.time + 3000 - p.arrival.time) ≡ true
    old = le-leb 3000 (p.arrival.time + 3000 - p.arrival.time) (omega arith)

    pub goes_at_3000 : (reply_to waiting_state (sweep (p.arrival.time + 3000)) ≡ dropped 1) × (holding key (after waiting_state (sweep (p.arrival.time + 3000))) ≡ holds_nothing)
    goes_at_3000 =
        (counts_are (p.arrival.time + 3000) ∙ ap dropped (share_is (p.arrival.time + 3000) true old), swept_to_lem (p.arrival.time + 3000) true old)

-- fragment 0, then fragment 1 marked last
module _ (store : List ℕ) (long : 47744 ≤ length store) (p q : Push) (lent : 47744 ≤ p.lent) (lent' : 47744 ≤ q.lent)
    (small : length p.payload ≤ 1492) (small' : length q.payload ≤ 1492) (one_key : p.arrival.key ≡ q.arrival.key)
    (one-version : p.arrival.fragment.version ≡ q.arrival.fragment.version) (one_type : p.arrival.fragment.message_type ≡ q.arrival.fragment.message_type)
    (zeroth : p.arrival.fragment.number ≡ 0) (first : q.arrival.fragment.number ≡ 1) (more : p.arrival.fragment.last ≡ false) (last : q.arrival.fragment.last ≡ true)
    (room : length (p.payload ++ q.payload) ≤ q.room) where
  abbrev either : {A : Type 0} → ℕ → A → A → A
  either k x y = cond (eqb k 0) x y

  two : Message
  two = record {
    key = q.arrival.key;
    version = q.arrival.fragment.version;
    message_type = q.arrival.fragment.message_type;
    final = 1;
    piece = λ k. either k p.payload q.payload;
    few = omega arith;
    small = λ k. by_number (eqb k 0);
  }
    where
      by_number : (b : Bool) → length (cond b p.payload q.payload) ≤ 1492
      by_number true = small
      by_number false = small'

  bring : ℕ → Push
  bring k = either k p q

  brings : (k : ℕ) → k ≤ 1 → Brings two k (bring k)
  unfolding two bring
  brings k l = by_number (eqb k 0) refl
    where
      by_number : (b : Bool) → eqb k 0 ≡ b → Brings two k (cond b p q)
      by_number true e =
          let is : k ≡ 0 = eqb-true k 0 e in
          let bytes : p.payload ≡ either k p.payload q.payload = rw e in
          record { key = one_key; number = zeroth ∙ sym is; fragment = λ i. record { version = one-version i; message_type = one_type i; last = (more ∙ sym (ne_eqb k 1 (λ c. omega arith))) i; payload = bytes i }; lent = lent }
      by_number false e =
          let ne = eqb-false k 0 e in
          let is : k ≡ 1 = omega (arith, ne) in
          let bytes : q.payload ≡ either k p.payload q.payload = rw e in
          record { key = refl; number = first ∙ sym is; fragment = λ i. record { version = q.arrival.fragment.version; message_type = q.arrival.fragment.message_type; last = (last ∙ sym (eq-eqb k 1 is)) i; payload = bytes i }; lent = lent' }

  sent : Sent two bring (0 ∷ [])
  unfolding two bring in_order_lem is_in distinct
  sent = record { brings = brings; once = refl; all = λ k. by_number k (eqb 0 k) refl; room = λ l. room }
    where
      by_number : (k : ℕ) (b : Bool) → eqb 0 k ≡ b → (b || false) ≡ ltb k 1
      by_number k true e = sym (lt-ltb k 1 (omega (arith, eqb-true 0 k e)))
      by_number k false e = sym (le-ltb k 1 (omega (arith, eqb-false 0 k e)))

  pub zero_then_last_one : replies_to q.arrival.key (start store) (push p ∷ push q ∷ []) ≡ pushed (gives waiting) [] ∷ pushed (gives (joined (length (p.payload ++ q.payload)))) (p.payload ++ q.payload) ∷ []
  unfolding two bring in_order_lem
  zero_then_last_one = (fresh_completes two bring (0 ∷ []) sent store long).answers
