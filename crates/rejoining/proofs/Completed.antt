-- Fragments that are accepted complete (rule M7): the pushes that bring them send a message in its order.
use mathlib.Core.Path.{◌≡◌, refl, sym, ap, ◌∙◌}
use mathlib.Core.Bool.{Bool, true, false}
use mathlib.Core.List.{List, [], ◌∷◌, ◌++◌, map, map-append, flatten}
use Prim.Native.Nat.{ℕ, zero, suc, ◌+◌, ◌-◌, ◌≤◌, ◌<◌}
use native.Mathlib.Omega.{arith}
use lib.Dec.{eqb, ltb}
use lib.ListN.{length, take, get_or, length-map, get_or-map}
use lib.Seq.{take-suc, take_all}
use borrow.Author.Tests.{eq-eqb, ne_eqb, eqb-true, eqb-false, le-leb}
use Rattle.numbers.specs.Numbers.{gives}
use Rattle.numbers.proofs.Answers.{given, mapped_gave}
use Rattle.cutting.specs.declared.Proposed.{Proposed}
use Rattle.cutting.specs.Cuts.{payload_in, no_fragment, is_cutting_lem, check_of, tlvs_of}
use Rattle.cutting.proofs.Asked.{AsAsked}
use Rattle.cutting.proofs.Accepted.{Fine, Accepted, accepted}
use Rattle.machines.specs.Machine.{gathered}
use Rattle.keys.specs.Keys.{Origin, key_for}
use Rattle.pushing.specs.Push.{waiting}
use Rattle.pushing.specs.declared.Fragment.{Fragment}
use Rattle.pushing.specs.Joining.{held_of}
use Rattle.orders.specs.Runs.{State, Push, Call, push, sweep, pushed, start, after, reply_to, replies_to}
use Rattle.orders.specs.Shares.{is_in}
use Rattle.orders.specs.Messages.{Message, held_at, whole, Brings, Sent, sending, completing}
use Rattle.orders.specs.Happened.{calls_of}
use Rattle.orders.proofs.Claims.{claims}
use Rattle.rejoining.specs.Claims.{Carries, CarriesAll, rejoined, AcceptedCompletes}
use Rattle.rejoining.proofs.InOrder.{count_from, is_in_lem, once, all_same, by_number, joined_in_order}

module _ (origin : Origin) (message payloads : List ℕ) where
  -- the pushes among the calls: all of them
  pub record Pushes (fs : List Proposed) (cs : List Call) : Type 0 where
    pub those : List Push
    pub are : cs ≡ map push those
    pub as_many : length those ≡ length fs
    pub each : (d : Push) (k : ℕ) → k < length fs → Carries origin message payloads (get_or fs k no_fragment) (get_or those k d)

  pushes : (fs : List Proposed) (cs : List Call) → CarriesAll origin message payloads fs cs → Pushes fs cs
  pushes [] [] c = record { those = []; are = refl; as_many = refl; each = λ d k h. absurd (omega arith) }
  pushes [] (e ∷ cs) c = absurd c
  pushes (f ∷ fs) [] c = absurd c
  pushes (f ∷ fs) (sweep time ∷ cs) c = absurd c
  pushes (f ∷ fs) (push p ∷ cs) c = add (pushes fs cs c.1)
    where
      add : Pushes fs cs → Pushes (f ∷ fs) (push p ∷ cs)
      add r = record { those = p ∷ r.those; are = ap (λ (l : List Call). push p ∷ l) r.are; as_many = ap suc r.as_many; each = by_place }
        where
          by_place : (d : Push) (k : ℕ) → k < length (f ∷ fs) → Carries origin message payloads (get_or (f ∷ fs) k no_fragment) (get_or (p ∷ r.those) k d)
          by_place d zero h = c.0
          by_place d (suc k) h = r.each d k (omega arith)

  -- under one key every reply is its own
  own_replies : (ps : List Push) (s : State) → ((k : ℕ) → k < length ps → (d : Push) → (get_or ps k d).arrival.key ≡ key_for origin)
      → replies_to (key_for origin) s (map push ps) ≡ gathered after (λ z e. true) reply_to s (map push ps)
  unfolding gathered
  own_replies [] s h = refl
  own_replies (p ∷ ps) s h = rw (eq-eqb p.arrival.key (key_for origin) (h 0 (omega arith) p), own_replies ps (after s (push p)) (λ k l d. h (suc k) (omega arith) d))

  -- the message that the fragments are cut from
  module _ (fs : List Proposed) (cs : List Call) (a : Accepted message payloads fs) (r : Pushes fs cs) (first : Push) where
    abbrev n : ℕ
    n = length fs

    abbrev parts : List (List ℕ)
    parts = map (payload_in payloads) fs

    small : (ps : List (List ℕ)) → Fine ps → (k : ℕ) → length (get_or ps k []) ≤ 1492
    small [] h k = omega arith
    small (p ∷ ps) h zero = h.1
    small (p ∷ ps) h (suc k) = small ps h.2 k

    abbrev message_of : Message
    message_of = record {
      key = key_for origin;
      version = (get_or fs 0 no_fragment).version;
      message_type = (get_or fs 0 no_fragment).message_type;
      final = n - 1;
      piece = λ k. get_or parts k [];
      few = omega (arith, a.few);
      small = small parts a.fine;
    }

    abbrev bring : ℕ → Push
    bring k = get_or r.those k first

    abbrev order : List ℕ
    order = count_from 0 (n - 1)

    whole_is : whole message_of ≡ message
    whole_is =
        let l : length parts ≡ n = length-map fs (payload_in payloads) in
        joined_in_order parts (suc (n - 1)) (omega (arith, l, a.some)) ∙ ap flatten (take_all (suc (n - 1)) parts (omega (arith, l, a.some))) ∙ a.joined

    last_is : (k : ℕ) → eqb (k + 1) n ≡ eqb k (n - 1)
    last_is k = by_test (eqb k (n - 1)) refl
      where
        by_test : (b : Bool) → eqb k (n - 1) ≡ b → eqb (k + 1) n ≡ b
        by_test true e = eq-eqb (k + 1) n (omega (arith, eqb-true k (n - 1) e, a.some))
        by_test false e = ne_eqb (k + 1) n (λ z. eqb-false k (n - 1) e (omega (arith, z)))

    -- a fragment as it is pushed, and as the message has it
    abbrev as_pushed : Proposed → Fragment
    as_pushed f = record { message_type = f.message_type; version = f.version; number = f.number; last = f.last }

    held_is : {k : ℕ} (f : Proposed) → AsAsked message payloads n (get_or fs 0 no_fragment) k f → get_or parts k [] ≡ payload_in payloads f → held_of (as_pushed f) (payload_in payloads f) ≡ held_at message_of k
    held_is {k} f w e = λ i. record { version = w.version_is i; message_type = w.type_is i; last = (w.mark_is ∙ last_is k) i; payload = sym e i }

    brings : (k : ℕ) → k ≤ n - 1 → Brings message_of k (bring k)
    brings k h =
        let l : k < n = omega (arith, a.some) in
        let f = get_or fs k no_fragment in
        let c = r.each first k l in
        let w = a.each k l in
        record {
          key = c.key_is;
          number = ap (λ (x : Fragment). x.number) c.fragment_is ∙ w.number_is;
          fragment = ap (λ (x : Fragment). held_of x (bring k).payload) c.fragment_is ∙ ap (held_of (as_pushed f)) c.payload_is ∙ held_is f w (get_or-map (payload_in payloads) fs k no_fragment);
          lent = c.lent_enough;
        }

    sent : Sent message_of bring order
    sent = record { brings = brings; once = once (n - 1) 0; all = all; room = room }
      where
        all : (k : ℕ) → is_in k order ≡ ltb k (n - 1)
        all k = let z : 0 + (n - 1) ≡ n - 1 = omega arith in is_in_lem k (n - 1) 0 ∙ rw (le-leb 0 k (omega arith), z)

        room : 1 ≤ n - 1 → length (whole message_of) ≤ (bring (n - 1)).room
        room h =
            let l : n - 1 < n = omega arith in
            rw whole_is ((r.each first (n - 1) l).room_enough ((a.each (n - 1) l).mark_is ∙ eq-eqb (n - 1 + 1) n (omega arith)))

    sending_is : sending message_of bring order ≡ cs
    sending_is =
        let l : length r.those ≡ n = r.as_many in
        ap (λ (es : List Call). es ++ (push (bring (n - 1)) ∷ [])) (by_number push r.those first (n - 1) 0 (omega (arith, l)))
        ∙ sym (map-append push (take (n - 1) r.those) (bring (n - 1) ∷ []))
        ∙ ap (map push) (sym (take-suc r.those (n - 1) first (omega (arith, l, a.some))) ∙ take_all (suc (n - 1)) r.those (omega (arith, l, a.some)))
        ∙ sym r.are

    replies_are : completing message_of order ≡ rejoined message n
    replies_are = rw (all_same (pushed (gives waiting) []) (n - 1) 0, whole_is, one_is)
      where
        one_is : eqb (n - 1) 0 ≡ eqb n 1
        one_is = by_test (eqb n 1) refl
          where
            by_test : (b : Bool) → eqb n 1 ≡ b → eqb (n - 1) 0 ≡ b
            by_test true e = eq-eqb (n - 1) 0 (omega (arith, eqb-true n 1 e))
            by_test false e = ne_eqb (n - 1) 0 (λ z. eqb-false n 1 e (omega (arith, z, a.some)))

-- one of some pushes
a_push : (ps : List Push) → 1 ≤ length ps → Push
a_push [] h = absurd (omega arith)
a_push (p ∷ ps) h = p

pub accepted_completes : AcceptedCompletes
unfolding check_of
accepted_completes message payloads fs e origin store long calls z happened carried =
    let g = mapped_gave (λ tlvs. is_cutting_lem message payloads fs) (tlvs_of message) true e in
    let a = accepted message payloads fs (given _ _ g.then) in
    let r = pushes origin message payloads fs (calls_of calls) carried in
    let p = a_push r.those (omega (arith, r.as_many, a.some)) in
    let m = message_of origin message payloads fs (calls_of calls) a r p in
    let own : (k : ℕ) → k < length r.those → (d : Push) → (get_or r.those k d).arrival.key ≡ key_for origin = λ k h d. (r.each d k (omega (arith, r.as_many))).key_is in
    sym (claims.is_run store calls z happened).replies
    ∙ ap (gathered after (λ s c. true) reply_to (start store)) r.are
    ∙ sym (own_replies origin message payloads r.those (start store) own)
    ∙ ap (replies_to (key_for origin) (start store)) (sym r.are ∙ sym (sending_is origin message payloads fs (calls_of calls) a r p))
    ∙ (claims.fresh_completes m (bring origin message payloads fs (calls_of calls) a r p) (order origin message payloads fs (calls_of calls) a r p) (sent origin message payloads fs (calls_of calls) a r p) store long).answers
    ∙ replies_are origin message payloads fs (calls_of calls) a r p
