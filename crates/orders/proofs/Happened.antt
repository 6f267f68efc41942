-- Calls that happened are a run of the table: what is claimed of runs holds for them, and with a station table beside
-- it.
use mathlib.Core.Path.{◌≡◌, refl, sym, ap, ◌∙◌, subst}
use mathlib.Core.List.{List, [], ◌∷◌, ◌++◌, map}
use mathlib.Core.Bool.{Bool, true, false, cond, not, ◌&&◌}
use Prim.Native.Nat.{ℕ, ◌<◌}
use native.Mathlib.Omega.{arith}
use lib.Dec.{eqb}
use lib.ListN.{length, get_or, drop, replicate, take-append-drop}
use borrow.Author.Tests.{eqb-true, eqb-false, eq-eqb}
use Rattle.std.specs.Prelude.{Ok, Err, Result}
use Rattle.sweeping.specs.declared.Swept.{Swept}
use Rattle.numbers.specs.declared.Refusal.{Refusal}
use Rattle.pushing.specs.declared.Pushed.{Pushed}
use Rattle.pushing.specs.declared.Pushed.TheVariants.{DuplicatedFragment}
use Rattle.pushing.specs.Push.{pushed_of, Goes, output_by, answer_by}
use Rattle.pushing.specs.Show.{shown}
use Rattle.pushing.specs.Made.{Made}
use Rattle.pushing.proofs.Ways.{shown_same}
use Rattle.pushing.proofs.Firm.{one_answer}
use Rattle.pushing.proofs.Claims as P
use Rattle.numbers.specs.declared.Refusal.TheVariants.{TableFull}
use Rattle.numbers.specs.Bytes.{is_same_lem}
use Rattle.numbers.proofs.Bytes.{is_same, are_same}
use Rattle.table.specs.InStep.{InStep, WithinShares, OnlyOf}
use Rattle.table.proofs.Places.{all_same}
use Rattle.keys.specs.Keys.{Origin, key_for, sender_of_lem}
use Rattle.keys.proofs.Claims as K
use Rattle.stations.specs.Rows.{Stations, fresh_stations}
use Rattle.stations.specs.Runs.{station_contract}
use Rattle.stations.proofs.Orders.{order_across_stations}
use Rattle.machines.specs.Machine.{those, gathered, every}
use Rattle.machines.specs.Happened.{Happened, Leads, steps_of, Tied, Tests}
use Rattle.machines.specs.Both.{lefts, rights, BothHappened}
use Rattle.machines.proofs.Lists.{left_true, right_true, those_both, every_none}
use Rattle.machines.proofs.Happened as H
use Rattle.machines.proofs.Both.{of_left, of_right}
use Rattle.orders.specs.Runs.{State, Push, Call, push, pushed, dropped, finished_by, part, way_of, after, reply_to, is_left, for_room, has_room_lem, is_own, is_sweep, mine, start, holding, ends, crossed, replies_to, sweep_numbers, dropped_in}
use Rattle.orders.specs.Happened.{TableAsked, push_asked, sweep_asked, TableGot, push_got, sweep_got, TableCall, MixedCall, PushMeets, table_meets, table_contract, call_of, asks_call, calls_of, CallerGot, from_push, from_sweep, got_from, got_by, reply_of, was_left, asks_from, is_from, is_sweep_call, is_about, numbers_got}
use Rattle.orders.specs.Claims.{CoversRoom, Reordered, IsRun, AskedReordered, NoneFull, SameGot, OwnRun, GotAlone, GotAddsUp, ReorderedTogether, RoomTogether, SameTogether}
use Rattle.orders.specs.Shares.{total, is_in, distinct}
use Rattle.orders.proofs.Locality.{sweeps_mine}
use Rattle.orders.proofs.Totals.{total_map}
use Rattle.orders.proofs.Orders.{run_made, told_alone, sweeps_add_up, order_across_keys}

-- no two answers read alike
one_got : (a b : CallerGot) → reply_of a ≡ reply_of b → a ≡ b
one_got (from_push p bytes) (from_push q bytes') e =
    let same : p ≡ q = one_answer p q (cc) in
    let shows : bytes ≡ bytes' = cc in
    rw (same, shows)
one_got (from_push p bytes) (from_sweep c) e = let no : ◌≡◌ {A = ℕ} 0 1 = cc in absurd (omega arith)
one_got (from_sweep c) (from_push q bytes) e = let no : ◌≡◌ {A = ℕ} 0 1 = cc in absurd (omega arith)
one_got (from_sweep c) (from_sweep d) e = cc

all_got : (xs ys : List TableCall) → map (λ e. reply_of (got_by e)) xs ≡ map (λ e. reply_of (got_by e)) ys → map got_by xs ≡ map got_by ys
all_got [] [] h = refl
all_got [] (y ∷ ys) h = let no : ◌≡◌ {A = ℕ} 0 1 = cc in absurd (omega arith)
all_got (x ∷ xs) [] h = let no : ◌≡◌ {A = ℕ} 0 1 = cc in absurd (omega arith)
all_got (x ∷ xs) (y ∷ ys) h = rw (one_got (got_by x) (got_by y) (cc), all_got xs ys (cc))

-- the finished bytes are what the showing call shows of the payload and of the output, whatever the output held
pub finished_shown : (z : State) (p : Push) (out : List ℕ) → shown (answer_by (way_of z p)) p.payload (output_by (way_of z p) out) ≡ finished_by (way_of z p) p.payload
finished_shown z p out = shown_same z.table (part z p) p.arrival p.payload p.room out

-- what a call that happened asked is a step of the run
push_leads : (z z' : State) (p : Push) (out out' : List ℕ) (answer : Result Pushed Refusal) → length out ≡ p.room → PushMeets z p out answer out' z' → (after z (push p) ≡ z') × (reply_to z (push p) ≡ pushed (pushed_of answer) (shown (pushed_of answer) p.payload out'))
push_leads z z' p out out' answer room m =
    let w = way_of z p in
    let met : Goes w z.table (part z p) out p.arrival p.payload answer z'.table (part z' p) out' = rw room at m.goes in
    let bytes : shown (pushed_of answer) p.payload out' ≡ finished_by w p.payload = rw (met.answers, met.puts) (finished_shown z p out) in (
      (λ i. record { table = sym met.keeps i; store = (ap (λ (l : List ℕ). l ++ drop p.lent z.store) (sym met.stores) ∙ ap (λ (l : List ℕ). part z' p ++ l) (sym m.rest) ∙ take-append-drop p.lent z'.store) i }),
      (λ i. pushed (sym met.answers i) (sym bytes i)),
    )

leads : (z : State) (a : TableAsked) (g : TableGot) (z' : State) → table_meets z a g z' → Leads after reply_to z (asks_call a) (reply_of (got_from a g)) z'
leads z (push_asked o p key out room) (push_got answer out') z' m = push_leads z z' p out out' answer room m
leads z (sweep_asked time) (sweep_got many) z' m = ((λ i. record { table = (sym m.0 i).table; store = sym m.1 i }), ap (λ (r : Swept). dropped r.dropped) (sym m.0))
leads z (push_asked o p key out room) (sweep_got many) z' m = absurd m
leads z (sweep_asked time) (push_got answer out') z' m = absurd m

tied : Tied table_contract after reply_to asks_call (λ c. reply_of (got_by c))
tied c m = leads c.was c.asked c.got c.became m

left : (out : ℕ → Bool) → Tests table_contract asks_call (is_left out) (was_left out)
left out c m = rw (tied c m).1

-- by sender and message id, or by key
one_key : (a o : Origin) → (is_same_lem a.sender o.sender && eqb a.message_id o.message_id) ≡ eqb (key_for a) (key_for o)
one_key a o = by_key (eqb (key_for a) (key_for o)) refl
  where
    by_key : (b : Bool) → eqb (key_for a) (key_for o) ≡ b → (is_same_lem a.sender o.sender && eqb a.message_id o.message_id) ≡ b
    by_key true e = let same = (K.claims).key_is_one's a o (eqb-true _ _ e) in rw (same.0, same.1, is_same o.sender o.sender refl, eq-eqb o.message_id o.message_id refl)
    by_key false e = by_both (is_same_lem a.sender o.sender && eqb a.message_id o.message_id) refl
      where
        by_both : (b : Bool) → (is_same_lem a.sender o.sender && eqb a.message_id o.message_id) ≡ b → b ≡ false
        by_both true h =
            let sender : a.sender ≡ o.sender = are_same _ _ (left_true (is_same_lem a.sender o.sender) _ h) in
            let id : a.message_id ≡ o.message_id = eqb-true _ _ (right_true (is_same_lem a.sender o.sender) _ h) in
            absurd (eqb-false (key_for a) (key_for o) e (rw (sender, id)))
        by_both false h = refl

asks_own : (o : Origin) (a : TableAsked) → is_own (key_for o) (call_of a) ≡ asks_from o a
asks_own o (push_asked a p key out room) = ap (λ (k : ℕ). eqb k (key_for o)) key ∙ sym (one_key a o)
asks_own o (sweep_asked time) = refl

own_from : (o : Origin) (c : TableCall) → is_own (key_for o) (call_of c.asked) ≡ is_from o c
own_from o c = asks_own o c.asked

about : (o : Origin) (cs : List TableCall) → mine (key_for o) (calls_of cs) ≡ calls_of (those (is_about o) cs)
unfolding those steps_of
about o [] = refl
about o (c ∷ cs) = rw (own_from o c) (by_test (is_about o c) (about o cs))
  where
    by_test : (b : Bool) → mine (key_for o) (calls_of cs) ≡ calls_of (those (is_about o) cs)
        → cond b (call_of c.asked ∷ mine (key_for o) (calls_of cs)) (mine (key_for o) (calls_of cs)) ≡ calls_of (cond b (c ∷ those (is_about o) cs) (those (is_about o) cs))
    by_test true ih = rw ih
    by_test false ih = ih

-- a key is some sender's, or no call has it
data Known (c : ℕ) (calls : List Call) : Type 0 where
  someone's : (o : Origin) → key_for o ≡ c → Known c calls
  nobody's : mine c calls ≡ those is_sweep calls → Known c calls

known : (c : ℕ) (cs : List TableCall) → Known c (calls_of cs)
unfolding those steps_of
known c [] = nobody's refl
known c (x ∷ cs) = by_call x.asked (known c cs)
  where
    by_key : (o : Origin) (p : Push) → p.arrival.key ≡ key_for o → (b : Bool) → eqb p.arrival.key c ≡ b → Known c (calls_of cs) → Known c (push p ∷ calls_of cs)
    by_key o p key true e k = someone's o (sym key ∙ eqb-true _ _ e)
    by_key o p key false e (someone's o' e') = someone's o' e'
    by_key o p key false e (nobody's h) = nobody's (rw (e, h))

    by_call : (a : TableAsked) → Known c (calls_of cs) → Known c (call_of a ∷ calls_of cs)
    by_call (push_asked o p key out room) k = by_key o p key (eqb p.arrival.key c) refl k
    by_call (sweep_asked time) (someone's o e) = someone's o e
    by_call (sweep_asked time) (nobody's h) = nobody's (rw h)

nobody : Origin
nobody = record { sender = replicate 6 0; message_id = 0; six = refl; bytes = λ i. omega (arith, all_same {A = ℕ} 6 i 0); two = omega arith }

reordered : (es fs : List TableCall) → AskedReordered es fs → Reordered (calls_of es) (calls_of fs)
reordered es fs same c = by_key (known c es) (known c fs)
  where
    at : (o : Origin) → mine (key_for o) (calls_of es) ≡ mine (key_for o) (calls_of fs)
    at o = about o es ∙ same o ∙ sym (about o fs)

    by_key : Known c (calls_of es) → Known c (calls_of fs) → mine c (calls_of es) ≡ mine c (calls_of fs)
    by_key (someone's o e) k = subst (λ (key : ℕ). mine key (calls_of es) ≡ mine key (calls_of fs)) e (at o)
    by_key (nobody's h) (someone's o e) = subst (λ (key : ℕ). mine key (calls_of es) ≡ mine key (calls_of fs)) e (at o)
    by_key (nobody's h) (nobody's k) = h ∙ sym (sweeps_mine (key_for nobody) (calls_of es)) ∙ ap (those is_sweep) (at nobody) ∙ sweeps_mine (key_for nobody) (calls_of fs) ∙ sym k

-- what is answered to a key's own pushes
module _ {z z' : State} {cs : List TableCall} (h : Happened table_contract z cs z') where
  gathers : (test : State → Call → Bool) (passes : TableCall → Bool) → Tests table_contract asks_call test passes → gathered after test reply_to z (calls_of cs) ≡ map (λ c. reply_of (got_by c)) (those passes cs)
  gathers test passes agree = H.gathers table_contract after reply_to asks_call (λ c. reply_of (got_by c)) tied test passes agree h

  own : (o : Origin) → replies_to (key_for o) z (calls_of cs) ≡ map (λ c. reply_of (got_by c)) (those (is_from o) cs)
  own o = gathers (λ s e. is_own (key_for o) e) (is_from o) (λ c m. own_from o c)

  ends_at : ends z (calls_of cs) ≡ z'
  ends_at = H.ends_at table_contract after reply_to asks_call (λ c. reply_of (got_by c)) tied h

  numbers : numbers_got cs ≡ sweep_numbers z (calls_of cs)
  numbers = sym (H.gathers table_contract after (λ s e. dropped_in (reply_to s e)) asks_call (λ c. dropped_in (reply_of (got_by c))) (λ c m. ((tied c m).0, ap dropped_in (tied c m).1)) (λ s e. is_sweep e) is_sweep_call (λ c m. refl) h)

  all_room : NoneFull cs → every after has_room_lem z (calls_of cs) ≡ true
  all_room = H.all_pass table_contract after reply_to asks_call (λ c. reply_of (got_by c)) tied has_room_lem (was_left for_room) (left for_room) h

none_mapped : {A B : Type 0} (f : A → B) (xs : List A) → map f xs ≡ [] → xs ≡ []
none_mapped f [] h = refl
none_mapped f (x ∷ xs) h = let no : ◌≡◌ {A = ℕ} 0 1 = cc in absurd (omega arith)

all_those : (cs : List TableCall) → those (λ c. true) cs ≡ cs
unfolding those
all_those [] = refl
all_those (c ∷ cs) = rw (all_those cs)

module _ (store : List ℕ) (cs : List TableCall) (z : State) (h : Happened table_contract (start store) cs z) where
  pub is_run : IsRun store cs z
  is_run = record { replies = gathers h (λ s e. true) (λ c. true) (λ c m. refl) ∙ ap (map (λ c. reply_of (got_by c))) (all_those cs); end = ends_at h; made = subst (λ (s : State). Made s.table) (ends_at h) (run_made store (calls_of cs)) }

  -- rule D3
  pub order_across_senders : (store' : List ℕ) (ds : List TableCall) (z' : State) → Happened table_contract (start store') ds z' → length store' ≡ length store → AskedReordered cs ds → NoneFull cs → NoneFull ds → SameGot cs ds z z'
  order_across_senders store' ds z' h' long same room room' =
      let story = order_across_keys store store' long (calls_of cs) (calls_of ds) (reordered cs ds same) (all_room h room) (all_room h' room') in
      record {
        pushes = λ o. all_got (those (is_from o) cs) (those (is_from o) ds) (sym (own h o) ∙ story.pushes (key_for o) ∙ own h' o);
        sweeps = numbers h ∙ story.sweeps ∙ sym (numbers h');
        holds = λ o. ap (holding (key_for o)) (sym (ends_at h)) ∙ story.holds (key_for o) ∙ ap (holding (key_for o)) (ends_at h');
      }

  -- rule D5
  module _ (out : ℕ → Bool) (covers : CoversRoom out) (store' : List ℕ) (long : length store' ≡ length store) where
    hers : (o : Origin) (run : OwnRun out store' cs o) → mine (key_for o) (crossed out (start store) (calls_of cs)) ≡ calls_of run.alone
    hers o run = ap (mine (key_for o)) (H.remains table_contract after reply_to asks_call (λ c. reply_of (got_by c)) tied (is_left out) (was_left out) (left out) h) ∙ about o (those (was_left out) cs) ∙ sym run.asked

    pub sender_alone : (o : Origin) (run : OwnRun out store' cs o) → GotAlone out o cs z run
    sender_alone o run =
        let told = told_alone out covers store store' long (key_for o) (calls_of cs) in
        record {
          answers = all_got (those (is_from o) (those (was_left out) cs)) (those (is_from o) run.alone)
              (ap (map (λ c. reply_of (got_by c))) (those_both (is_from o) (was_left out) cs)
              ∙ sym (gathers h (λ s e. is_own (key_for o) e && is_left out s e) (λ c. is_from o c && was_left out c) (λ c m. rw (own_from o c, left out c m)))
              ∙ told.answers ∙ ap (replies_to (key_for o) (start store')) (hers o run) ∙ own run.happened o);
          holds = ap (holding (key_for o)) (sym (ends_at h)) ∙ told.holds ∙ ap (λ (calls : List Call). holding (key_for o) (ends (start store') calls)) (hers o run) ∙ ap (holding (key_for o)) (ends_at run.happened);
          none_refused = none_mapped (λ c. reply_of (got_by c)) _ (
              sym (gathers run.happened (λ s e. not (is_left out s e)) (λ c. not (was_left out c)) (λ c m. ap not (left out c m)))
              ∙ every_none after (is_left out) reply_to (calls_of run.alone) (start store') (rw (hers o run) at told.none_refused));
        }

    pub numbers_add_up : (runs : (o : Origin) → OwnRun out store' cs o) (senders : List Origin) → distinct (map key_for senders) ≡ true → ((key : ℕ) → is_in key (map key_for senders) ≡ false → those (is_own key) (calls_of cs) ≡ [])
        → GotAddsUp cs runs senders
    numbers_add_up runs senders once all i =
        ap (λ (l : List ℕ). get_or l i 0) (numbers h)
        ∙ sweeps_add_up out covers store store' long (calls_of cs) (map key_for senders) once all i
        ∙ total_map _ key_for senders
        ∙ (λ j. total (λ o. get_or ((ap (sweep_numbers (start store')) (hers o (runs o)) ∙ sym (numbers (runs o).happened)) j) i 0) senders)

-- with a station table beside it
module _ (store : List ℕ) (cs : List MixedCall) (z : State × Stations) (h : BothHappened table_contract station_contract (start store, fresh_stations) cs z)
    (store' : List ℕ) (ds : List MixedCall) (z' : State × Stations) (h' : BothHappened table_contract station_contract (start store', fresh_stations) ds z') where
  pub order_together : length store' ≡ length store → ReorderedTogether cs ds → RoomTogether cs → RoomTogether ds → SameTogether cs ds z z'
  order_together long same room room' = record {
    messages = order_across_senders store (lefts cs) z.0 (of_left table_contract station_contract h) store' (lefts ds) z'.0 (of_left table_contract station_contract h') long same.messages room.messages room'.messages;
    stations = order_across_stations (rights cs) z.1 (of_right table_contract station_contract h) (rights ds) z'.1 (of_right table_contract station_contract h') same.events room.events room'.events;
  }

-- a duplicate leaves everything as it was
pub duplicate_untouched : (z z' : State) (p : Push) (out out' : List ℕ) → PushMeets z p out (Ok DuplicatedFragment) out' z' → (z' ≡ z) × (out' ≡ out)
duplicate_untouched z z' p out out' m =
    let same = (P.claims).duplicate_untouched z.table (part z p) out p.arrival p.payload z'.table (part z' p) out' m.goes in
    ((λ i. record { table = same.0 i; store = (sym (take-append-drop p.lent z'.store) ∙ ap (λ (l : List ℕ). l ++ drop p.lent z'.store) same.1 ∙ ap (λ (l : List ℕ). part z p ++ l) m.rest ∙ take-append-drop p.lent z.store) i }), same.2)

-- the table at the end is one that the calls made, so what is claimed of these holds of it
pub totals_in_step : (store : List ℕ) (calls : List TableCall) (z : State) → Happened table_contract (start store) calls z → InStep z.table × WithinShares z.table
totals_in_step store calls z h = let made = (is_run store calls z h).made in ((P.claims).made_in_step z.table made, (P.claims).made_within_shares z.table made)

pub room_for_others : (store : List ℕ) (calls : List TableCall) (z : State) → Happened table_contract (start store) calls z → (p : Push) (out out' : List ℕ) (z' : State)
    → (others : List ℕ) → length others < 4 → OnlyOf z.table (sender_of_lem p.arrival.key ∷ others) → PushMeets z p out (Err TableFull) out' z' → ⊥
room_for_others store calls z h p out out' z' others few only m =
    (P.claims).room_for_few z.table (part z p) out p.arrival p.payload z'.table (part z' p) out' (is_run store calls z h).made others few only m.goes
