-- What a key holds: a fragment that waits is held as it came; one that is held came with a push that waited; and over
-- any calls a key that has a first time has a fragment.
use mathlib.Core.Path.{◌≡◌, refl, sym, ap, ◌∙◌, subst}
use mathlib.Core.List.{List, [], ◌∷◌, ◌++◌}
use mathlib.Core.Bool.{Bool, true, false, cond, not, false≢true}
use Prim.Native.Nat.{ℕ}
use native.Mathlib.Omega.{arith}
use lib.Dec.{eqb}
use lib.ListN.{length}
use borrow.Author.Tests.{eqb-true, eqb-false, eq-eqb}
use Rattle.numbers.specs.Numbers.{gives, number, values}
use Rattle.numbers.proofs.Answers.{given}
use Rattle.numbers.proofs.Firm.{never}
use Rattle.pushing.specs.Joining.{Held, nothing, kept, held_of, due}
use Rattle.pushing.specs.Push.{waiting, Way, keep_at, answer_by}
use Rattle.pushing.specs.Made.{Made}
use Rattle.machines.specs.Machine.{run}
use Rattle.orders.specs.Runs.{State, Push, Call, push, sweep, Reply, pushed, finished_by, refused_by, after, reply_to, has_room_lem, start, Holding, holding, holds_nothing, ends, for_room}
use Rattle.orders.specs.Claims.{HasOne, HeldFrom}
use Rattle.orders.proofs.Telling.{is_waiting, own_way, by_own_way, by_own_lem}
use Rattle.orders.proofs.Pushing.{Good}
use Rattle.orders.proofs.Locality.{refused_nothing, good_after, good_start, untouched, own_push, own_reply, own_sweep}
use Rattle.orders.proofs.Alone.{fresh_holds}

-- a fragment that waits is there as it came
waits_kept : (long : ℕ) (v : Holding) (p : Push) → answer_by (own_way long v p) ≡ gives waiting → (by_own_lem (own_way long v p) v p).fragments p.arrival.fragment.number ≡ kept (held_of p.arrival.fragment p.payload)
waits_kept long v p =
    by_own_way long v p (λ (w : Way). answer_by w ≡ gives waiting → (by_own_lem w v p).fragments p.arrival.fragment.number ≡ kept (held_of p.arrival.fragment p.payload))
    (λ x e q. never waiting (number x) (values x) (sym q))
    (λ q. absurd (false≢true (ap is_waiting (given _ _ q))))
    (λ h bytes e q. absurd (false≢true (sym e ∙ ap is_waiting (given _ _ q))))
    (λ e q. rw (eq-eqb p.arrival.fragment.number p.arrival.fragment.number refl))

pub kept_as_pushed : (z : State) → Made z.table → (p : Push) (bytes : List ℕ) → reply_to z (push p) ≡ pushed (gives waiting) bytes
    → (holding p.arrival.key (after z (push p))).fragments p.arrival.fragment.number ≡ kept (held_of p.arrival.fragment p.payload)
kept_as_pushed z made p bytes told =
    let g : Good (length z.store) z = record { made = made; same_long = refl } in
    let roomy : has_room_lem z (push p) ≡ true = ap (λ (r : Reply). not (refused_by for_room r)) told in
    let own = sym (own_reply (length z.store) z g p roomy) ∙ told in
    ap (λ (v : Holding). v.fragments p.arrival.fragment.number) (own_push (length z.store) z g p roomy)
    ∙ waits_kept (length z.store) (holding p.arrival.key z) p (cc)

no_fragment_lem : {X : Type 0} (fragment : Held) → nothing ≡ kept fragment → X
no_fragment_lem fragment e = let no : ◌≡◌ {A = ℕ} 0 1 = cc in absurd (omega arith)

-- what is under a key after one call was there before it, or came with it: not marked last, and waiting
module _ (key number : ℕ) (fragment : Held) where
  abbrev Holds : State → Type 0
  Holds z = (holding key z).fragments number ≡ kept fragment

  data Came (z : State) (e : Call) : Type 0 where
    stayed : Holds z → Came z e
    came_with : (p : Push) → e ≡ push p → p.arrival.key ≡ key → p.arrival.fragment.number ≡ number → p.arrival.fragment.last ≡ false → held_of p.arrival.fragment p.payload ≡ fragment
        → reply_to z (push p) ≡ pushed (gives waiting) [] → Came z e

  module _ (long : ℕ) (z : State) (g : Good long z) where
    by_sweep_lem : (time : ℕ) (b : Bool) → (cond b holds_nothing (holding key z)).fragments number ≡ kept fragment → Came z (sweep time)
    by_sweep_lem time true h = no_fragment_lem fragment h
    by_sweep_lem time false h = stayed h

    own_came : (p : Push) → p.arrival.key ≡ key → has_room_lem z (push p) ≡ true → Holds (after z (push p)) → Came z (push p)
    own_came p is room h = by_own_way long v p (λ (w : Way). own_way long v p ≡ w → (by_own_lem w v p).fragments number ≡ kept fragment → Came z (push p))
        (λ x e q h. stayed (at_key h)) (λ q h. stayed (at_key h)) (λ a bytes e q h. no_fragment_lem fragment h) (λ e q. by_number e q (eqb number p.arrival.fragment.number) refl)
        refl (sym (ap (λ (u : Holding). u.fragments number) (own_push long z g p room)) ∙ ap (λ (k : ℕ). (holding k (after z (push p))).fragments number) is ∙ h)
      where
        v : Holding
        v = holding p.arrival.key z

        at_key : v.fragments number ≡ kept fragment → Holds z
        at_key h = ap (λ (k : ℕ). (holding k z).fragments number) (sym is) ∙ h

        by_number : p.arrival.fragment.last ≡ false → own_way long v p ≡ keep_at 0 → (b : Bool) → eqb number p.arrival.fragment.number ≡ b
            → cond b (kept (held_of p.arrival.fragment p.payload)) (v.fragments number) ≡ kept fragment → Came z (push p)
        by_number e q true n h =
            let same : held_of p.arrival.fragment p.payload ≡ fragment = cc in
            came_with p refl is (sym (eqb-true _ _ n)) e same (own_reply long z g p room ∙ ap (λ (w : Way). pushed (answer_by w) (finished_by w p.payload)) q)
        by_number e q false n h = stayed (at_key h)

    came : (e : Call) → Holds (after z e) → Came z e
    came (sweep time) h = by_sweep_lem time (due time (holding key z).first) (sym (ap (λ (v : Holding). v.fragments number) (own_sweep long z g key time)) ∙ h)
    came (push p) h = by_key (eqb p.arrival.key key) refl (has_room_lem z (push p)) refl
      where
        by_key : (b : Bool) → eqb p.arrival.key key ≡ b → (r : Bool) → has_room_lem z (push p) ≡ r → Came z (push p)
        by_key true e true q = own_came p (eqb-true _ _ e) q h
        by_key true e false q = stayed (ap (λ (s : State). (holding key s).fragments number) (sym (refused_nothing for_room z (push p) q)) ∙ h)
        by_key false e r q = stayed (ap (λ (v : Holding). v.fragments number) (sym (untouched long z g key p (λ c. eqb-false _ _ e (sym c)))) ∙ h)

  -- over a run it was there all the time, or came with a push of the run
  data Since-when (z : State) (calls : List Call) : Type 0 where
    always : ((soon rest : List Call) → calls ≡ soon ++ rest → Holds (ends z soon)) → Since-when z calls
    since_push : HeldFrom z calls key number fragment → Since-when z calls

  since_when : (long : ℕ) (calls : List Call) (z : State) → Good long z → Holds (ends z calls) → Since-when z calls
  unfolding run
  since_when long [] z g h = always only
    where
      only : (soon rest : List Call) → [] ≡ soon ++ rest → Holds (ends z soon)
      only [] rest e = h
      only (x ∷ soon) rest e = let no : ◌≡◌ {A = ℕ} 0 1 = cc in absurd (omega arith)
  since_when long (e ∷ es) z g h = by_rest (since_when long es (after z e) (good_after long z e g) h)
    where
      by_first : ((soon rest : List Call) → es ≡ soon ++ rest → Holds (ends (after z e) soon)) → Came z e → Since-when z (e ∷ es)
      by_first all (stayed there) = always from_start
        where
          from_start : (soon rest : List Call) → e ∷ es ≡ soon ++ rest → Holds (ends z soon)
          from_start [] rest q = there
          from_start (x ∷ soon) rest q =
              let same : e ≡ x = cc in
              let tail : es ≡ soon ++ rest = cc in
              subst (λ (y : Call). Holds (ends (after z y) soon)) same (all soon rest tail)
      by_first all (came_with p is key_is number_is unmarked held waited) = since_push (record {
        before = [];
        by = p;
        later = es;
        are = ap (λ (y : Call). y ∷ es) is;
        under_key = key_is;
        under_number = number_is;
        unmarked = unmarked;
        is = held;
        waited = waited;
        ever_since = λ soon rest q. subst (λ (y : Call). Holds (ends (after z y) soon)) is (all soon rest q);
      })

      by_rest : Since-when (after z e) es → Since-when z (e ∷ es)
      by_rest (always all) = by_first all (came long z g e (all [] es refl))
      by_rest (since_push f) = since_push (record {
        before = e ∷ f.before;
        by = f.by;
        later = f.later;
        are = ap (λ (l : List Call). e ∷ l) f.are;
        under_key = f.under_key;
        under_number = f.under_number;
        unmarked = f.unmarked;
        is = f.is;
        waited = f.waited;
        ever_since = f.ever_since;
      })

-- what holds of every key's holding: where it has a first time it has a fragment
abbrev Open : Holding → Type 0
Open v = (time : ℕ) → due time v.first ≡ true → HasOne v.fragments

nothing_open : Open holds_nothing
nothing_open time d = absurd (false≢true d)

-- one call leaves it so
module _ (long : ℕ) (z : State) (g : Good long z) (all : (key : ℕ) → Open (holding key z)) where
  push_open : (p : Push) → Open (by_own_lem (own_way long (holding p.arrival.key z) p) (holding p.arrival.key z) p)
  push_open p =
      let v = holding p.arrival.key z in
      by_own_way long v p (λ (w : Way). Open (by_own_lem w v p)) (λ x e. all p.arrival.key) (all p.arrival.key) (λ h bytes e. nothing_open)
      (λ e time d. (p.arrival.fragment.number, p.byte, rw (eq-eqb p.arrival.fragment.number p.arrival.fragment.number refl)))

  call_open : (e : Call) (key : ℕ) → Open (holding key (after z e))
  call_open (sweep time) key = subst Open (sym (own_sweep long z g key time)) (by_due (due time (holding key z).first))
    where
      by_due : (b : Bool) → Open (cond b holds_nothing (holding key z))
      by_due true = nothing_open
      by_due false = all key
  call_open (push p) key = by_key (eqb p.arrival.key key) refl
    where
      own : (b : Bool) → has_room_lem z (push p) ≡ b → Open (holding p.arrival.key (after z (push p)))
      own true h = subst Open (sym (own_push long z g p h)) (push_open p)
      own false h = subst (λ (s : State). Open (holding p.arrival.key s)) (sym (refused_nothing for_room z (push p) h)) (all p.arrival.key)

      by_key : (b : Bool) → eqb p.arrival.key key ≡ b → Open (holding key (after z (push p)))
      by_key true e = subst (λ (k : ℕ). Open (holding k (after z (push p)))) (eqb-true _ _ e) (own (has_room_lem z (push p)) refl)
      by_key false e = subst Open (sym (untouched long z g key p (λ q. eqb-false _ _ e (sym q)))) (all key)

run_open : (long : ℕ) (calls : List Call) (z : State) → Good long z → ((key : ℕ) → Open (holding key z)) → (key : ℕ) → Open (holding key (ends z calls))
unfolding run
run_open long [] z g all = all
run_open long (e ∷ es) z g all = run_open long es (after z e) (good_after long z e g) (call_open long z g all e)

module _ (store : List ℕ) (calls : List Call) where
  pub dropped_unfinished : (time key : ℕ) → due time (holding key (ends (start store) calls)).first ≡ true → HasOne (holding key (ends (start store) calls)).fragments
  dropped_unfinished time key d = run_open (length store) calls (start store) (good_start store) (λ k. subst Open (sym (fresh_holds store k)) nothing_open) key time d

  -- a fresh table holds nothing, so all that is held came with a push
  pub held_from : (key number : ℕ) (fragment : Held) → (holding key (ends (start store) calls)).fragments number ≡ kept fragment → HeldFrom (start store) calls key number fragment
  unfolding run
  held_from key number fragment h = by_when (since_when key number fragment (length store) calls (start store) (good_start store) h)
    where
      by_when : Since-when key number fragment (start store) calls → HeldFrom (start store) calls key number fragment
      by_when (always all) = no_fragment_lem fragment (sym (ap (λ (v : Holding). v.fragments number) (fresh_holds store key)) ∙ all [] calls refl)
      by_when (since_push f) = f
