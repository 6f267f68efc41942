-- Calls of push and sweep that happened, by their contracts, with keys made by key_of.
use Rattle.std.specs.Prelude.{◌≡◌, List, [], map, Bool, false, not, ◌&&◌, ◌||◌, ℕ, eqb, length, drop, Result}
use Rattle.numbers.specs.declared.Refusal.{Refusal}
use Rattle.numbers.specs.Bytes.{is_same_lem}
use Rattle.machines.specs.Machine.{those}
use Rattle.machines.specs.Happened.{Outcome, Asks, asks_for, steps_of}
use Rattle.machines.specs.Both.{Either}
use Rattle.stations.specs.Runs.{StationCall}
use Rattle.pushing.specs.declared.Pushed.{Pushed}
use Rattle.pushing.specs.Push.{pushed_of, way, Goes}
use Rattle.pushing.specs.Show.{shown}
use Rattle.sweeping.specs.Sweep.{swept, swept_as}
use Rattle.keys.specs.Keys.{Origin, key_for}
use Rattle.orders.specs.Runs.{State, Push, Call, push, sweep, Reply, pushed, dropped, part, refused_by, is_sweep, dropped_in}

-- What is asked: a push under the key that key_of makes (rule T2), with an output of its length as it is lent, or a
-- sweep at a time. What comes back: the answer of a push and the output, or the number of a sweep.
pub data TableAsked : Type 0 where
  push_asked : (o : Origin) (p : Push) → p.arrival.key ≡ key_for o → (out : List ℕ) → length out ≡ p.room → TableAsked
  sweep_asked : ℕ → TableAsked

pub data TableGot : Type 0 where
  push_got : Result Pushed Refusal → (out' : List ℕ) → TableGot
  sweep_got : ℕ → TableGot

abbrev pub TableCall : Type 0
TableCall = Outcome State TableAsked TableGot

-- one of these, or an event of a station table beside it
abbrev pub MixedCall : Type 0
MixedCall = Either TableCall StationCall

-- The contract of push (rules T4 to T9, T11). It is lent the first bytes of the store, and the others stay.
pub record PushMeets (z : State) (p : Push) (out : List ℕ) (answer : Result Pushed Refusal) (out' : List ℕ) (z' : State) : Type 0 where
  pub goes : Goes (way z.table (part z p) p.arrival p.payload (length out)) z.table (part z p) out p.arrival p.payload answer z'.table (part z' p) out'
  pub rest : drop p.lent z'.store ≡ drop p.lent z.store

-- the contracts of push and of sweep (rules S1 and S2)
abbrev pub table_meets : State → TableAsked → TableGot → State → Type 0
table_meets z (push_asked o p key out long) (push_got answer out') z' = PushMeets z p out answer out' z'
table_meets z (sweep_asked time) (sweep_got many) z' = (swept_as z'.table many ≡ swept z.table time) × (z'.store ≡ z.store)
table_meets z (push_asked o p key out long) (sweep_got many) z' = ⊥
table_meets z (sweep_asked time) (push_got answer out') z' = ⊥

abbrev pub table_contract : TableCall → Type 0
table_contract c = table_meets c.was c.asked c.got c.became

-- what was asked, as calls of a run
abbrev pub call_of : TableAsked → Call
call_of (push_asked o p key out long) = push p
call_of (sweep_asked time) = sweep time

abbrev pub asks_call : TableAsked → Asks Call
asks_call a = asks_for (call_of a)

abbrev pub calls_of : List TableCall → List Call
calls_of = steps_of asks_call

-- What the caller got: the answer of a push and the bytes that show then shows (rule T10), or the number of a sweep.
pub data CallerGot : Type 0 where
  from_push : Result Pushed Refusal → List ℕ → CallerGot
  from_sweep : ℕ → CallerGot

abbrev pub got_from : TableAsked → TableGot → CallerGot
got_from (push_asked o p key out long) (push_got answer out') = from_push answer (shown (pushed_of answer) p.payload out')
got_from (sweep_asked time) (push_got answer out') = from_push answer []
got_from a (sweep_got many) = from_sweep many

abbrev pub got_by : TableCall → CallerGot
got_by c = got_from c.asked c.got

-- the same as a run has it; and whether it is no refusal by one of some numbers
abbrev pub reply_of : CallerGot → Reply
reply_of (from_push answer bytes) = pushed (pushed_of answer) bytes
reply_of (from_sweep many) = dropped many

abbrev pub was_left : (ℕ → Bool) → TableCall → Bool
was_left out c = not (refused_by out (reply_of (got_by c)))

-- the pushes of one sender's message
abbrev pub asks_from : Origin → TableAsked → Bool
asks_from o (push_asked o' p key out long) = is_same_lem o'.sender o.sender && eqb o'.message_id o.message_id
asks_from o (sweep_asked time) = false

abbrev pub is_from : Origin → TableCall → Bool
is_from o c = asks_from o c.asked

-- the sweeps, and the numbers that their callers got
abbrev pub is_sweep_call : TableCall → Bool
is_sweep_call c = is_sweep (call_of c.asked)

abbrev pub numbers_got : List TableCall → List ℕ
numbers_got calls = map (λ c. dropped_in (reply_of (got_by c))) (those is_sweep_call calls)

-- both: what concerns one sender's message
abbrev pub is_about : Origin → TableCall → Bool
is_about o c = is_from o c || is_sweep_call c
