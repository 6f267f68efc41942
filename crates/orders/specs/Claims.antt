-- What is claimed about runs of the table, and about calls that happened: the record Claims at the end, which
-- proofs/Claims.antt proves.
use Rattle.std.specs.Prelude.{◌≡◌, List, [], ◌∷◌, ◌++◌, map, Bool, true, false, not, cond, ℕ, ◌≤◌, ◌<◌, length, get_or, Ok, Err}
use Rattle.sweeping.specs.Sweep.{swept}
use Rattle.table.specs.Rows.{store_size}
use Rattle.table.specs.InStep.{InStep, WithinShares, OnlyOf}
use Rattle.numbers.specs.Numbers.{gives}
use Rattle.numbers.specs.declared.Refusal.TheVariants.{TableFull}
use Rattle.pushing.specs.Joining.{Held, kept, Fragments, is_kept_lem, held_of, due}
use Rattle.pushing.specs.declared.Pushed.TheVariants.{DuplicatedFragment}
use Rattle.pushing.specs.Push.{waiting, answer_by, output_by}
use Rattle.pushing.specs.Show.{shown}
use Rattle.pushing.specs.Made.{Made}
use Rattle.keys.specs.Keys.{Origin, key_for, sender_of_lem}
use Rattle.machines.specs.Machine.{those, gathered, every}
use Rattle.machines.specs.Happened.{Happened}
use Rattle.machines.specs.Both.{lefts, rights, BothHappened}
use Rattle.stations.specs.Rows.{Stations, fresh_stations}
use Rattle.stations.specs.Runs.{station_contract, events_of, NoneRefused}
use Rattle.stations.specs.Claims.{EventsReordered, SameStations}
use Rattle.orders.specs.Shares.{share, total, is_in, distinct}
use Rattle.orders.specs.Messages.{Message, Room, Sent, sending, spares, completing}
use Rattle.orders.specs.Runs.{State, Push, Call, push, sweep, pushed, finished_by, way_of, is_left, any_number, for_room, is_accepted, is_own, never_full_lem, has_room_lem, after, reply_to, mine, start, holding, holds_nothing, ends, crossed, replies_to, replies_to_left, sweep_numbers}
use Rattle.orders.specs.Happened.{TableCall, MixedCall, PushMeets, table_contract, calls_of, got_by, reply_of, was_left, is_from, is_about, numbers_got}

-- A push under another key, refused or not, leaves what a key holds. A refused call changes nothing (rule A3).
pub record Local (z : State) : Type 0 where
  pub untouched : (key : ℕ) (p : Push) → (key ≡ p.arrival.key → ⊥) → holding key (after z (push p)) ≡ holding key z
  pub refused : (e : Call) → is_accepted z e ≡ false → after z e ≡ z

-- Two tables that hold the same under a key, whatever else they hold, do the same to that key and answer the same. What
-- a push does goes by what its key holds and by the call, unless it is refused for table room (rules T4 to T9). What a
-- sweep does to a key goes by what the key holds and by the time (rule S1).
pub record Alike (z z' : State) (key : ℕ) : Type 0 where
  pub tells_same : (p : Push) → p.arrival.key ≡ key → has_room_lem z (push p) ≡ true → has_room_lem z' (push p) ≡ true → reply_to z (push p) ≡ reply_to z' (push p)
  pub push_same : (p : Push) → p.arrival.key ≡ key → has_room_lem z (push p) ≡ true → has_room_lem z' (push p) ≡ true → holding key (after z (push p)) ≡ holding key (after z' (push p))
  pub sweep_same : (time : ℕ) → holding key (after z (sweep time)) ≡ holding key (after z' (sweep time))

-- Rule D5: the calls refused by some numbers are crossed out. A second table is given, from fresh, one key's pushes that
-- are left and all the sweeps. It answers these pushes as the first one did, with the same bytes, refuses none of them
-- by such a number, and ends with the same under the key. What the stores held before makes no difference, so the two
-- may differ.
pub record ToldAlone (out : ℕ → Bool) (key : ℕ) (store store' : List ℕ) (calls : List Call) : Type 0 where
  pub answers : replies_to_left out key (start store) calls ≡ replies_to key (start store') (mine key (crossed out (start store) calls))
  pub holds : holding key (ends (start store) calls) ≡ holding key (ends (start store') (mine key (crossed out (start store) calls)))
  pub none_refused : every after (is_left out) (start store') (mine key (crossed out (start store) calls)) ≡ true

-- Rule D5: 10 and 20 have to be among these numbers, because they go by what the other keys hold. Any other may be one,
-- up to all. A push that another number refuses and that is left is refused alike alone: 11 and 12 go by the lengths that are
-- lent and the payload's (rule T4), 13 by what the key holds and by the output's length (rule T9).
abbrev pub CoversRoom : (ℕ → Bool) → Type 0
CoversRoom out = (n : ℕ) → for_room n ≡ true → out n ≡ true

-- Rules S1 and S2: a sweep's number is how many keys were due, over any list that has each key of the table once.
abbrev pub SharesAddUp : (z : State) (time : ℕ) (keys : List ℕ) → Type 0
SharesAddUp z time keys = (swept z.table time).dropped ≡ total (λ key. share time (holding key z)) keys

-- Rule D5: the number of the i-th sweep is the sum of what it counts in the keys' tables of their own, over any list
-- that has each key once for which there was a push, refused or not. All sweeps are in each of these runs, so it is the
-- i-th there too.
abbrev pub AddsUp : (out : ℕ → Bool) (store store' : List ℕ) (calls : List Call) (keys : List ℕ) → Type 0
AddsUp out store store' calls keys = (i : ℕ) → get_or (sweep_numbers (start store) calls) i 0 ≡ total (λ key. get_or (sweep_numbers (start store') (mine key (crossed out (start store) calls))) i 0) keys

-- Rule S3: at least one fragment is held.
abbrev pub HasOne : Fragments → Type 0
HasOne fs = (number : ℕ) × (number < 256) × (is_kept_lem (fs number) ≡ true)

-- Rule S3: a fragment that a key holds after some calls came by a push among them, under the key and the number. That
-- push was not marked last and was answered "waiting". From then on the key holds the fragment.
pub record HeldFrom (z : State) (calls : List Call) (key number : ℕ) (fragment : Held) : Type 0 where
  pub before : List Call
  pub by : Push
  pub later : List Call
  pub are : calls ≡ before ++ (push by ∷ later)
  pub under_key : by.arrival.key ≡ key
  pub under_number : by.arrival.fragment.number ≡ number
  pub unmarked : by.arrival.fragment.last ≡ false
  pub is : held_of by.arrival.fragment by.payload ≡ fragment
  pub waited : reply_to (ends z before) (push by) ≡ pushed (gives waiting) []
  pub ever_since : (soon rest : List Call) → later ≡ soon ++ rest → (holding key (ends z (before ++ (push by ∷ soon)))).fragments number ≡ kept fragment

-- Rule D3, what may change places: for each key, its pushes with all the sweeps between them are the same list in both
-- runs.
abbrev pub Reordered : List Call → List Call → Type 0
Reordered calls calls' = (key : ℕ) → mine key calls ≡ mine key calls'

-- Rule D3, what stays the same: the answer and the finished bytes of each call, and what each key has at the end.
pub record SameStory (store store' : List ℕ) (calls calls' : List Call) : Type 0 where
  pub pushes : (key : ℕ) → replies_to key (start store) calls ≡ replies_to key (start store') calls'
  pub sweeps : sweep_numbers (start store) calls ≡ sweep_numbers (start store') calls'
  pub holds : (key : ℕ) → holding key (ends (start store) calls) ≡ holding key (ends (start store') calls')

-- Rule D6: the message completes with its own bytes. The fragments before the last one wait, and in the end the key is
-- dropped (rule T7).
pub record Completes (m : Message) (bring : ℕ → Push) (order : List ℕ) (z : State) : Type 0 where
  pub answers : replies_to m.key z (sending m bring order) ≡ completing m order
  pub holds : holding m.key (ends z (sending m bring order)) ≡ holds_nothing

-- Rule D6, among other calls.
pub record CompletesAmong (m : Message) (order : List ℕ) (z : State) (run : List Call) : Type 0 where
  pub answers : replies_to_left any_number m.key z run ≡ completing m order
  pub holds : holding m.key (ends z run) ≡ holds_nothing

-- Calls that happened are a run: the run answers to each what its caller got. The table at their end is the run's, and
-- one that push takes (rule A1).
pub record IsRun (store : List ℕ) (calls : List TableCall) (z : State) : Type 0 where
  pub replies : gathered after (λ s e. true) reply_to (start store) (calls_of calls) ≡ map (λ c. reply_of (got_by c)) calls
  pub end : ends (start store) (calls_of calls) ≡ z
  pub made : Made z.table

-- Rule D3 for calls that happened: for each sender and message id, the same pushes, with all the sweeps between them,
-- were asked in both runs.
abbrev pub AskedReordered : List TableCall → List TableCall → Type 0
AskedReordered calls calls' = (o : Origin) → calls_of (those (is_about o) calls) ≡ calls_of (those (is_about o) calls')

-- no push was refused for table room
abbrev pub NoneFull : List TableCall → Type 0
NoneFull calls = those (λ c. not (was_left for_room c)) calls ≡ []

-- Rule D3 for calls that happened: their callers got the same answers of push, bytes that show shows, and numbers of
-- sweeps. The tables hold the same.
pub record SameGot (calls calls' : List TableCall) (z z' : State) : Type 0 where
  pub pushes : (o : Origin) → map got_by (those (is_from o) calls) ≡ map got_by (those (is_from o) calls')
  pub sweeps : numbers_got calls ≡ numbers_got calls'
  pub holds : (o : Origin) → holding (key_for o) z ≡ holding (key_for o) z'

-- Rule D5 for calls that happened: of the first calls those refused by some numbers are crossed out. The second calls
-- are one sender's and message id's pushes that are left, and the sweeps.
abbrev pub AskedAlone : (ℕ → Bool) → Origin → List TableCall → List TableCall → Type 0
AskedAlone out o calls calls' = calls_of calls' ≡ calls_of (those (is_about o) (those (was_left out) calls))

-- A run of its own for one sender and message id: calls that happened from a fresh table, each as its contract allows.
-- A contract allows one outcome (rule A4) and the code keeps its contract, so these are the answers that the code gives.
pub record OwnRun (out : ℕ → Bool) (store : List ℕ) (calls : List TableCall) (o : Origin) : Type 0 where
  pub alone : List TableCall
  pub last : State
  pub happened : Happened table_contract (start store) alone last
  pub asked : AskedAlone out o calls alone

-- Rule D5 for calls that happened: the callers of the pushes that are left got the same answers and finished bytes there.
-- The sender's message has the same fragments and first time, and no call of its own run was refused by such a number.
pub record GotAlone (out : ℕ → Bool) (o : Origin) (calls : List TableCall) (z : State) {store : List ℕ} (own : OwnRun out store calls o) : Type 0 where
  pub answers : map got_by (those (is_from o) (those (was_left out) calls)) ≡ map got_by (those (is_from o) own.alone)
  pub holds : holding (key_for o) z ≡ holding (key_for o) own.last
  pub none_refused : those (λ c. not (was_left out c)) own.alone ≡ []

-- Rule D5 for calls that happened: the number that the i-th sweep's caller got is the sum of what the same sweep's caller
-- got in the senders' own runs.
abbrev pub GotAddsUp : {out : ℕ → Bool} {store : List ℕ} (calls : List TableCall) → ((o : Origin) → OwnRun out store calls o) → List Origin → Type 0
GotAddsUp calls own senders = (i : ℕ) → get_or (numbers_got calls) i 0 ≡ total (λ o. get_or (numbers_got (own o).alone) i 0) senders

-- Rules D3 and D4 together: a fragment table and a station table stand side by side. Events may come anywhere between
-- pushes and sweeps.
pub record ReorderedTogether (calls calls' : List MixedCall) : Type 0 where
  pub messages : AskedReordered (lefts calls) (lefts calls')
  pub events : EventsReordered (events_of (rights calls)) (events_of (rights calls'))

-- no push was refused for table room, and no event at all
pub record RoomTogether (calls : List MixedCall) : Type 0 where
  pub messages : NoneFull (lefts calls)
  pub events : NoneRefused (rights calls)

pub record SameTogether (calls calls' : List MixedCall) (z z' : State × Stations) : Type 0 where
  pub messages : SameGot (lefts calls) (lefts calls') z.0 z'.0
  pub stations : SameStations (rights calls) (rights calls') z.1 z'.1

pub record Claims : Type 0 where
  -- what one call does, at every table that the calls made
  pub local : (z : State) → Made z.table → Local z
  pub alike : (z z' : State) → Made z.table → Made z'.table → length z.store ≡ length z'.store → (key : ℕ) → holding key z ≡ holding key z' → Alike z z' key
  pub shares_add_up : (z : State) → Made z.table → (time : ℕ) (keys : List ℕ) → distinct keys ≡ true → ((key : ℕ) → is_in key keys ≡ false → holding key z ≡ holds_nothing) → SharesAddUp z time keys
  -- rule T10: the finished bytes are what show shows, whatever the output held
  pub finished_shown : (z : State) (p : Push) (out : List ℕ) → shown (answer_by (way_of z p)) p.payload (output_by (way_of z p) out) ≡ finished_by (way_of z p) p.payload
  -- rule A1: the tables of a run are ones that push takes
  pub run_made : (store : List ℕ) (calls : List Call) → Made (ends (start store) calls).table
  -- rule D5
  pub told_alone : (out : ℕ → Bool) → CoversRoom out → (store store' : List ℕ) → length store' ≡ length store → (key : ℕ) (calls : List Call) → ToldAlone out key store store' calls
  pub sweeps_add_up : (out : ℕ → Bool) → CoversRoom out → (store store' : List ℕ) → length store' ≡ length store → (calls : List Call) (keys : List ℕ) → distinct keys ≡ true
      → ((key : ℕ) → is_in key keys ≡ false → those (is_own key) calls ≡ []) → AddsUp out store store' calls keys
  -- rule D3; two neighbouring pushes under different keys that change places are such an order
  pub order_across_keys : (store store' : List ℕ) → length store' ≡ length store → (calls calls' : List Call) → Reordered calls calls'
      → never_full_lem (start store) calls ≡ true → never_full_lem (start store') calls' ≡ true → SameStory store store' calls calls'
  pub swapped : (before behind : List Call) (p q : Push) → (p.arrival.key ≡ q.arrival.key → ⊥) → Reordered (before ++ push p ∷ push q ∷ behind) (before ++ push q ∷ push p ∷ behind)
  -- rules D3 to D5 for calls that happened, and with the events of stations between them; there is a run of its own for
  -- each sender and message id, and every such run answers so
  pub is_run : (store : List ℕ) (calls : List TableCall) (z : State) → Happened table_contract (start store) calls z → IsRun store calls z
  pub order_across_senders : (store : List ℕ) (calls : List TableCall) (z : State) → Happened table_contract (start store) calls z
      → (store' : List ℕ) (calls' : List TableCall) (z' : State) → Happened table_contract (start store') calls' z'
      → length store' ≡ length store → AskedReordered calls calls' → NoneFull calls → NoneFull calls' → SameGot calls calls' z z'
  pub own_run : (out : ℕ → Bool) (store : List ℕ) (calls : List TableCall) (o : Origin) → OwnRun out store calls o
  pub sender_alone : (store : List ℕ) (calls : List TableCall) (z : State) → Happened table_contract (start store) calls z → (out : ℕ → Bool) → CoversRoom out
      → (store' : List ℕ) → length store' ≡ length store → (o : Origin) (own : OwnRun out store' calls o) → GotAlone out o calls z own
  pub numbers_add_up : (store : List ℕ) (calls : List TableCall) (z : State) → Happened table_contract (start store) calls z → (out : ℕ → Bool) → CoversRoom out
      → (store' : List ℕ) → length store' ≡ length store → (own : (o : Origin) → OwnRun out store' calls o) (senders : List Origin) → distinct (map key_for senders) ≡ true
      → ((key : ℕ) → is_in key (map key_for senders) ≡ false → those (is_own key) (calls_of calls) ≡ []) → GotAddsUp calls own senders
  pub order_together : (store : List ℕ) (calls : List MixedCall) (z : State × Stations) → BothHappened table_contract station_contract (start store, fresh_stations) calls z
      → (store' : List ℕ) (calls' : List MixedCall) (z' : State × Stations) → BothHappened table_contract station_contract (start store', fresh_stations) calls' z'
      → length store' ≡ length store → ReorderedTogether calls calls' → RoomTogether calls → RoomTogether calls' → SameTogether calls calls' z z'
  -- rules T6 and T15: whatever calls happened, each sender's totals are in step, and no sender holds more than its share
  pub totals_in_step : (store : List ℕ) (calls : List TableCall) (z : State) → Happened table_contract (start store) calls z → InStep z.table × WithinShares z.table
  -- rule D7: whatever calls happened, a push is not refused by 10 if the keys held are of its own sender and of fewer
  -- than four others
  pub room_for_others : (store : List ℕ) (calls : List TableCall) (z : State) → Happened table_contract (start store) calls z → (p : Push) (out out' : List ℕ) (z' : State)
      → (others : List ℕ) → length others < 4 → OnlyOf z.table (sender_of_lem p.arrival.key ∷ others) → PushMeets z p out (Err TableFull) out' z' → ⊥
  -- rule T5: a duplicate changes nothing, and what its caller lent comes back as it was
  pub duplicate_untouched : (z z' : State) (p : Push) (out out' : List ℕ) → PushMeets z p out (Ok DuplicatedFragment) out' z' → (z' ≡ z) × (out' ≡ out)
  -- rules T3 and T6: a fragment that waits is held as it came, its mark included
  pub kept_as_pushed : (z : State) → Made z.table → (p : Push) (bytes : List ℕ) → reply_to z (push p) ≡ pushed (gives waiting) bytes
      → (holding p.arrival.key (after z (push p))).fragments p.arrival.fragment.number ≡ kept (held_of p.arrival.fragment p.payload)
  -- rules S1 and S3: what a sweep does to each key's holding, and what the keys hold that it drops
  pub sweep_drops : (z : State) → Made z.table → (time key : ℕ) → holding key (after z (sweep time)) ≡ cond (due time (holding key z).first) holds_nothing (holding key z)
  pub dropped_unfinished : (store : List ℕ) (calls : List Call) (time key : ℕ) → due time (holding key (ends (start store) calls)).first ≡ true → HasOne (holding key (ends (start store) calls)).fragments
  pub held_from : (store : List ℕ) (calls : List Call) (key number : ℕ) (fragment : Held) → (holding key (ends (start store) calls)).fragments number ≡ kept fragment → HeldFrom (start store) calls key number fragment
  -- rule D6: a message completes at any table that the calls made, and at a fresh one
  pub completes : (m : Message) (bring : ℕ → Push) (order : List ℕ) → Sent m bring order → (z : State) → Made z.table → store_size ≤ length z.store → holding m.key z ≡ holds_nothing
      → Room m z.table → Completes m bring order z
  pub fresh_completes : (m : Message) (bring : ℕ → Push) (order : List ℕ) → Sent m bring order → (store : List ℕ) → store_size ≤ length store → Completes m bring order (start store)
  pub fresh_holds : (store : List ℕ) (key : ℕ) → holding key (start store) ≡ holds_nothing
  -- Rule D6: it completes among any calls, if the accepted pushes under its key are these and each sweep spares the
  -- key. A sweep before the first of them or after the last one does, because the key holds nothing then.
  pub completes_among : (m : Message) (bring : ℕ → Push) (order : List ℕ) → Sent m bring order → (z : State) → Made z.table → store_size ≤ length z.store → holding m.key z ≡ holds_nothing
      → (run : List Call) → those (is_own m.key) (crossed any_number z run) ≡ sending m bring order → every after (spares m.key) z run ≡ true → CompletesAmong m order z run
