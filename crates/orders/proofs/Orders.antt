-- The theorems about runs: one key's story told alone, the sums of a sweep, and from these the order across keys.
use mathlib.Core.Path.{◌≡◌, refl, sym, ap, ◌∙◌, subst}
use mathlib.Core.List.{List, [], ◌∷◌, ◌++◌}
use mathlib.Core.Bool.{Bool, true, false, cond, ◌&&◌, ◌||◌, or-true, or-false, true≢false}
use Prim.Native.Nat.{ℕ, zero, suc}
use native.Mathlib.Omega.{arith}
use lib.Dec.{eqb}
use lib.ListN.{length, get_or}
use lib.Seq.{ext_get_or}
use borrow.Author.Tests.{eqb-true, eqb-false, ne_eqb}
use Rattle.pushing.specs.Made.{Made}
use Rattle.pushing.specs.Joining.{due}
use Rattle.pushing.proofs.Sound.{sound}
use Rattle.machines.specs.Machine.{those, gathered}
use Rattle.machines.proofs.Lists.{those_append, every_remains, every_gathered}
use Rattle.machines.proofs.Story as Y
use Rattle.machines.proofs.TwoRuns as R
use Rattle.orders.specs.Runs.{State, Push, Call, push, sweep, after, reply_to, is_left, for_room, has_room_lem, is_own, is_sweep, concerns, mine, start, Holding, holding, ends, never_full_lem, holds_nothing, crossed, replies_to, sweep_numbers}
use Rattle.orders.specs.Shares.{share, total, is_in, distinct}
use Rattle.orders.specs.Claims.{Local, Alike, CoversRoom, ToldAlone, SharesAddUp, AddsUp, Reordered, SameStory}
use Rattle.orders.proofs.Telling.{acts, tell, answer}
use Rattle.orders.proofs.Pushing.{Good}
use Rattle.orders.proofs.Locality.{refused_nothing, good_after, good_start, untouched, own_push, own_reply, own_sweep, own_mine, sweeps_mine, local as by_key}
use Rattle.orders.proofs.Totals.{total_same, total_none, total_alone}
use Rattle.orders.proofs.Counting.{counts_add_up}
use Rattle.orders.proofs.Alone.{Lone, echo, fresh_holds}

-- what a sweep counts, at every table that the calls made
pub shares_add_up : (z : State) → Made z.table → (time : ℕ) (keys : List ℕ) → distinct keys ≡ true → ((key : ℕ) → is_in key keys ≡ false → holding key z ≡ holds_nothing) → SharesAddUp z time keys
shares_add_up z made = counts_add_up z (sound made)

-- a sweep drops what is due, and leaves the rest
pub sweep_drops : (z : State) → Made z.table → (time key : ℕ) → holding key (after z (sweep time)) ≡ cond (due time (holding key z).first) holds_nothing (holding key z)
sweep_drops z made time key = own_sweep (length z.store) z (record { made = made; same_long = refl }) key time

-- what one call does, at every table that the calls made
pub local : (z : State) → Made z.table → Local z
local z made =
    let g : Good (length z.store) z = record { made = made; same_long = refl } in
    record { untouched = λ key p ne. untouched (length z.store) z g key p ne; refused = refused_nothing (λ n. true) z }

pub alike : (z z' : State) → Made z.table → Made z'.table → length z.store ≡ length z'.store → (key : ℕ) → holding key z ≡ holding key z' → Alike z z' key
alike z z' made made' long key same =
    let n = length z'.store in
    let g : Good n z = record { made = made; same_long = long } in
    let g' : Good n z' = record { made = made'; same_long = refl } in
    record {
      tells_same = λ p e h h'. own_reply n z g p h ∙ ap (λ (v : Holding). answer n v (push p)) (at p e) ∙ sym (own_reply n z' g' p h');
      push_same = λ p e h h'. subst (λ (k : ℕ). holding k (after z (push p)) ≡ holding k (after z' (push p))) e (own_push n z g p h ∙ ap (λ (v : Holding). tell n v (push p)) (at p e) ∙ sym (own_push n z' g' p h'));
      sweep_same = λ time. own_sweep n z g key time ∙ ap (λ (v : Holding). tell n v (sweep time)) same ∙ sym (own_sweep n z' g' key time);
    }
  where
    at : (p : Push) → p.arrival.key ≡ key → holding p.arrival.key z ≡ holding p.arrival.key z'
    at p e = subst (λ (k : ℕ). holding k z ≡ holding k z') (sym e) same

-- the tables of a run are those that push asks for
pub run_made : (store : List ℕ) (calls : List Call) → Made (ends (start store) calls).table
run_made store calls = (Y.good_run (acts (length store)) has_room_lem (Good (length store)) (by_key for_room (λ n h. h) (length store)) calls (start store) (good_start store)).made

-- a key's share in each sweep's number
abbrev share_at : Holding → Call → ℕ
share_at v (push p) = 0
share_at v (sweep time) = share time v

abbrev shares : ℕ → State → List Call → List ℕ
shares key = gathered after (λ s e. is_sweep e) (λ s e. share_at (holding key s) e)

-- where no other key has a push, the numbers are the sums of some keys' shares
module _ (n : ℕ) (ks : List ℕ) (once : distinct ks ≡ true) where
  no_other : (key : ℕ) (p : Push) (calls : List Call) (b : Bool) → eqb p.arrival.key key ≡ b → cond b (push p ∷ those (is_own key) calls) (those (is_own key) calls) ≡ [] → (key ≡ p.arrival.key → ⊥) × (those (is_own key) calls ≡ [])
  no_other key p calls true e h = let no : ◌≡◌ {A = ℕ} 0 1 = cc in absurd (omega arith)
  no_other key p calls false e h = ((λ q. eqb-false _ _ e (sym q)), h)

  numbers_shared : (calls : List Call) → ((key : ℕ) → is_in key ks ≡ false → those (is_own key) calls ≡ []) → (z : State) → Good n z → ((key : ℕ) → is_in key ks ≡ false → holding key z ≡ holds_nothing)
      → sweep_numbers z calls ≡ gathered after (λ s e. is_sweep e) (λ s e. total (λ k. share_at (holding k s) e) ks) z calls
  unfolding gathered those
  numbers_shared [] none z g out = refl
  numbers_shared (push p ∷ calls) none z g out =
      numbers_shared calls (λ key o. (no_other key p calls (eqb p.arrival.key key) refl (none key o)).1) (after z (push p)) (good_after n z (push p) g)
      (λ key o. untouched n z g key p (no_other key p calls (eqb p.arrival.key key) refl (none key o)).0 ∙ out key o)
  numbers_shared (sweep time ∷ calls) none z g out =
      rw (counts_add_up z (sound g.made) time ks once out)
      (ap (λ (l : List ℕ). total (λ k. share time (holding k z)) ks ∷ l)
      (numbers_shared calls none (after z (sweep time)) (good_after n z (sweep time) g) (λ key o. own_sweep n z g key time ∙ ap (λ (v : Holding). cond (due time v.first) holds_nothing v) (out key o))))

-- lists are summed place by place
summed : (f : ℕ → State → Call → ℕ) (ks : List ℕ) (calls : List Call) (z : State) (i : ℕ) → get_or (gathered after (λ s e. is_sweep e) (λ s e. total (λ k. f k s e) ks) z calls) i 0 ≡ total (λ k. get_or (gathered after (λ s e. is_sweep e) (f k) z calls) i 0) ks
unfolding gathered
summed f ks [] z i = sym (total_none (λ k. 0) ks (λ k. refl))
summed f ks (push p ∷ calls) z i = summed f ks calls (after z (push p)) i
summed f ks (sweep time ∷ calls) z zero = refl
summed f ks (sweep time ∷ calls) z (suc i) = summed f ks calls (after z (sweep time)) i

-- each key's own story is about no other
not_hers : (key k : ℕ) → is_in k (key ∷ []) ≡ false → (calls : List Call) → those (is_own k) (mine key calls) ≡ []
unfolding those is_in
not_hers key k out [] = refl
not_hers key k out (push p ∷ calls) = by_key (eqb p.arrival.key key) refl (not_hers key k out calls)
  where
    by_key : (b : Bool) → eqb p.arrival.key key ≡ b → those (is_own k) (mine key calls) ≡ [] → those (is_own k) (cond (b || false) (push p ∷ mine key calls) (mine key calls)) ≡ []
    by_key true e h = rw (eqb-true p.arrival.key key e, sym (or-false (eqb key k)) ∙ out, h)
    by_key false e h = h
not_hers key k out (sweep time ∷ calls) = not_hers key k out calls

sweep_passes : (out : ℕ → Bool) (s : State) (e : Call) → (is_sweep e && is_left out s e) ≡ is_sweep e
sweep_passes out s (push p) = refl
sweep_passes out s (sweep time) = refl

-- rule D5, which asks for no room
module _ (out : ℕ → Bool) (covers : CoversRoom out) (store store' : List ℕ) (long : length store' ≡ length store) where
  abbrev n : ℕ
  n = length store

  good' : Good n (start store')
  good' = record { made = (good_start store').made; same_long = long }

  lone : (key : ℕ) → Lone key (start store')
  lone key k ne = fresh_holds store' k

  fresh_same : (key : ℕ) → holding key (start store) ≡ holding key (start store')
  fresh_same key = fresh_holds store key ∙ sym (fresh_holds store' key)

  pub told_alone : (key : ℕ) (calls : List Call) → ToldAlone out key store store' calls
  told_alone key calls = record {
    answers = R.projected_gathered (acts n) (is_left out) (Good n) (by_key out covers n) key (Lone key) (echo out covers n key) calls (start store) (start store') (good_start store) good' (lone key) (fresh_same key);
    holds = R.projected_view (acts n) (is_left out) (Good n) (by_key out covers n) key (Lone key) (echo out covers n key) calls (start store) (start store') (good_start store) good' (lone key) (fresh_same key);
    none_refused = R.all_pass (acts n) (is_left out) (Good n) (by_key out covers n) key (Lone key) (echo out covers n key) calls (start store) (start store') (good_start store) good' (lone key) (fresh_same key);
  }

  shares_alone : (key : ℕ) (calls : List Call) → shares key (start store) calls ≡ shares key (start store') (mine key (crossed out (start store) calls))
  shares_alone key calls =
      (λ i. gathered after (λ s e. sym (sweep_passes out s e) i) (λ s e. share_at (holding key s) e) (start store) calls)
      ∙ R.projected_said (acts n) (is_left out) (Good n) (by_key out covers n) key (Lone key) (echo out covers n key) calls (start store) (start store') (good_start store) good' (lone key) (fresh_same key)
      is_sweep (λ s e. share_at (holding key s) e) share_at (λ e h. rw (h, or-true (is_own key e))) (λ s e g p q. refl)

  lone_shares : (key : ℕ) (calls : List Call) → sweep_numbers (start store') (mine key calls) ≡ shares key (start store') (mine key calls)
  unfolding is_in distinct
  lone_shares key calls =
      numbers_shared n (key ∷ []) refl (mine key calls) (λ k out. not_hers key k out calls) (start store') good' (λ k out. fresh_holds store' k)
      ∙ (λ i. gathered after (λ s e. is_sweep e) (λ s e. total_alone (λ k. share_at (holding k s) e) key i) (start store') (mine key calls))

  pub sweeps_add_up : (calls : List Call) (keys : List ℕ) → distinct keys ≡ true → ((key : ℕ) → is_in key keys ≡ false → those (is_own key) calls ≡ []) → AddsUp out store store' calls keys
  sweeps_add_up calls keys once pushed i =
      ap (λ (l : List ℕ). get_or l i 0) (numbers_shared n keys once calls pushed (start store) (good_start store) (λ key out. fresh_holds store key))
      ∙ summed (λ k s e. share_at (holding k s) e) keys calls (start store) i
      ∙ total_same _ _ keys (λ key q. ap (λ (l : List ℕ). get_or l i 0) (shares_alone key calls ∙ sym (lone_shares key (crossed out (start store) calls))))

-- keys that have every push, each once
abbrev AllKeys : List Call → Type 0
AllKeys calls = (keys : List ℕ) × (distinct keys ≡ true) × ((key : ℕ) → is_in key keys ≡ false → those (is_own key) calls ≡ [])

all_keys : (calls : List Call) → AllKeys calls
unfolding is_in distinct those
all_keys [] = ([], refl, λ key out. refl)
all_keys (sweep time ∷ calls) = all_keys calls
all_keys (push p ∷ calls) = by_in (all_keys calls).0 (all_keys calls).1 (all_keys calls).2 (is_in p.arrival.key (all_keys calls).0) refl
  where
    by_in : (keys : List ℕ) → distinct keys ≡ true → ((key : ℕ) → is_in key keys ≡ false → those (is_own key) calls ≡ []) → (b : Bool) → is_in p.arrival.key keys ≡ b → AllKeys (push p ∷ calls)
    by_in keys once all true e = (keys, once, λ key out. rw (ne_eqb p.arrival.key key (λ q. true≢false (sym e ∙ ap (λ (k : ℕ). is_in k keys) q ∙ out))) (all key out))
    by_in keys once all false e = (p.arrival.key ∷ keys, rw (e, once), λ key out. by_key key (eqb p.arrival.key key) out)
      where
        by_key : (key : ℕ) (c : Bool) → (c || is_in key keys) ≡ false → cond c (push p ∷ those (is_own key) calls) (those (is_own key) calls) ≡ []
        by_key key true out = absurd (true≢false out)
        by_key key false out = all key out

numbers_long : (calls : List Call) (z : State) → length (sweep_numbers z calls) ≡ length (those is_sweep calls)
unfolding gathered those
numbers_long [] z = refl
numbers_long (push p ∷ calls) z = numbers_long calls (after z (push p))
numbers_long (sweep time ∷ calls) z = ap suc (numbers_long calls (after z (sweep time)))

-- Rule D3, from rule D5: where no push is refused for table room, crossing these out leaves every call.
pub order_across_keys : (store store' : List ℕ) → length store' ≡ length store → (calls calls' : List Call) → Reordered calls calls'
    → never_full_lem (start store) calls ≡ true → never_full_lem (start store') calls' ≡ true → SameStory store store' calls calls'
order_across_keys store store' long calls calls' same room room' =
    let alone : (key : ℕ) → ToldAlone for_room key store store' calls = λ key. told_alone for_room (λ n h. h) store store' long key calls in
    let alone' : (key : ℕ) → ToldAlone for_room key store' store' calls' = λ key. told_alone for_room (λ n h. h) store' store' refl key calls' in
    let stories : (key : ℕ) → mine key (crossed for_room (start store) calls) ≡ mine key (crossed for_room (start store') calls')
    = λ key. ap (mine key) (every_remains after has_room_lem calls (start store) room) ∙ same key ∙ sym (ap (mine key) (every_remains after has_room_lem calls' (start store') room')) in
    let keys = all_keys calls in
    record {
      pushes = λ key.
          sym (every_gathered after has_room_lem (λ s e. is_own key e) reply_to calls (start store) room)
          ∙ (alone key).answers ∙ ap (replies_to key (start store')) (stories key) ∙ sym (alone' key).answers
          ∙ every_gathered after has_room_lem (λ s e. is_own key e) reply_to calls' (start store') room';
      sweeps = ext_get_or 0 (sweep_numbers (start store) calls) (sweep_numbers (start store') calls')
          (numbers_long calls (start store) ∙ ap length (sym (sweeps_mine 0 calls) ∙ ap (those is_sweep) (same 0) ∙ sweeps_mine 0 calls') ∙ sym (numbers_long calls' (start store')))
          (λ i l. sweeps_add_up for_room (λ n h. h) store store' long calls keys.0 keys.1 keys.2 i
          ∙ total_same _ _ keys.0 (λ key q. ap (λ (story : List Call). get_or (sweep_numbers (start store') story) i 0) (stories key))
          ∙ sym (sweeps_add_up for_room (λ n h. h) store' store' refl calls' keys.0 keys.1 (λ key out. sym (own_mine key calls') ∙ ap (those (is_own key)) (sym (same key)) ∙ own_mine key calls ∙ keys.2 key out) i));
      holds = λ key. (alone key).holds ∙ ap (λ (story : List Call). holding key (ends (start store') story)) (stories key) ∙ sym (alone' key).holds;
    }

-- two pushes under different keys that change places are such an order, and so are all that such changes lead to
pub swapped : (before behind : List Call) (p q : Push) → (p.arrival.key ≡ q.arrival.key → ⊥) → Reordered (before ++ push p ∷ push q ∷ behind) (before ++ push q ∷ push p ∷ behind)
unfolding those
swapped before behind p q apart key =
    those_append (concerns key) before (push p ∷ push q ∷ behind)
    ∙ ap (λ (l : List Call). those (concerns key) before ++ l) (by_key (eqb p.arrival.key key) refl (eqb q.arrival.key key) refl)
    ∙ sym (those_append (concerns key) before (push q ∷ push p ∷ behind))
  where
    by_key : (b : Bool) → eqb p.arrival.key key ≡ b → (c : Bool) → eqb q.arrival.key key ≡ c → mine key (push p ∷ push q ∷ behind) ≡ mine key (push q ∷ push p ∷ behind)
    by_key true e true f = absurd (apart (eqb-true _ _ e ∙ sym (eqb-true _ _ f)))
    by_key true e false f = rw (e, f)
    by_key false e true f = rw (e, f)
    by_key false e false f = rw (e, f)
