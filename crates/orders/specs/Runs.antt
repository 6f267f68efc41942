-- Runs of the fragment table (rules D3, D5 and D6): pushes and sweeps, over one store that nobody else writes.
use Rattle.std.specs.Prelude.{List, [], ◌++◌, Bool, true, false, not, ◌&&◌, ◌||◌, ℕ, ◌<◌, eqb, length, take, drop}
use Rattle.numbers.specs.Numbers.{Answer, gives, refuses}
use Rattle.table.specs.declared.Table.{Table}
use Rattle.pushing.specs.declared.Arrival.{Arrival}
use Rattle.table.specs.Rows.{fresh_table}
use Rattle.pushing.specs.Joining.{nothing, Fragments, Since, never, held_by_lem, first_time}
use Rattle.pushing.specs.Push.{PushAnswer, Way, way, table_by, store_by, output_by, answer_by}
use Rattle.sweeping.specs.Sweep.{swept}
use Rattle.pushing.specs.Show.{shown}
use Rattle.machines.specs.Machine.{those, run, remaining, gathered, every}

pub record State : Type 0 where
  pub table : Table
  pub store : List ℕ

-- a push: what arrives, its payload, how many bytes of the store are lent, and how many of an output
pub record Push : Type 0 where
  pub arrival : Arrival
  pub payload : List ℕ
  pub lent : ℕ
  pub room : ℕ
  -- a fragment's number is one byte
  pub byte : arrival.fragment.number < 256

pub data Call : Type 0 where
  push : Push → Call
  -- at a time
  sweep : ℕ → Call

-- What a call returns: a push its answer and the finished bytes, a sweep how many keys it dropped (rule S2).
pub data Reply : Type 0 where
  pushed : Answer PushAnswer → List ℕ → Reply
  dropped : ℕ → Reply

-- Rule T10, the finished bytes: what the showing call shows of the payload and the output. What the output held makes
-- no difference (see `finished_shown`), so here it is empty.
abbrev pub finished_by : Way → List ℕ → List ℕ
finished_by w payload = shown (answer_by w) payload (output_by w [])

-- the part of the store that a push lends: its first bytes
abbrev pub part : State → Push → List ℕ
part s p = take p.lent s.store

abbrev pub way_of : State → Push → Way
way_of s p = way s.table (part s p) p.arrival p.payload p.room

abbrev pub after_way : Way → State → Push → State
after_way w s p = record { table = table_by w s.table p.arrival (length p.payload); store = store_by w (part s p) p.payload ++ drop p.lent s.store }

-- Rules T4 to T9, S1 and S2: what a call does, and what it answers.
abbrev pub after : State → Call → State
after s (push p) = after_way (way_of s p) s p
after s (sweep time) = record { table = (swept s.table time).table; store = s.store }

abbrev pub reply_to : State → Call → Reply
reply_to s (push p) = pushed (answer_by (way_of s p)) (finished_by (way_of s p) p.payload)
reply_to s (sweep time) = dropped (swept s.table time).dropped

-- whether a call is refused by one of some numbers
abbrev pub refused_by : (ℕ → Bool) → Reply → Bool
refused_by test (pushed (gives given) bytes) = false
refused_by test (pushed (refuses n values) bytes) = test n
refused_by test (dropped n) = false

abbrev pub is_left : (ℕ → Bool) → State → Call → Bool
is_left out s e = not (refused_by out (reply_to s e))

-- by any number, and for want of room in the table: by 10, or by 20 because the sender holds its share (rule T6)
abbrev pub any_number : ℕ → Bool
any_number n = true

abbrev pub for_room : ℕ → Bool
for_room n = eqb n 10 || eqb n 20

abbrev pub is_accepted : State → Call → Bool
is_accepted = is_left any_number

abbrev pub has_room_lem : State → Call → Bool
has_room_lem = is_left for_room

-- the calls that concern a key: its own pushes, and every sweep
abbrev pub is_own : ℕ → Call → Bool
is_own key (push p) = eqb p.arrival.key key
is_own key (sweep time) = false

abbrev pub is_sweep : Call → Bool
is_sweep (push p) = false
is_sweep (sweep time) = true

abbrev pub concerns : ℕ → Call → Bool
concerns key e = is_own key e || is_sweep e

abbrev pub mine : ℕ → List Call → List Call
mine key = those (concerns key)

-- a fresh table (rule T14), over a store that holds anything
abbrev pub start : List ℕ → State
start store = record { table = fresh_table; store = store }

-- Rules D3 and D5: what the table holds under a key, its first time (rule T6) and its fragments by number.
pub record Holding : Type 0 where
  pub first : Since
  pub fragments : Fragments

abbrev pub holding : ℕ → State → Holding
holding key s = record { first = first_time s.table key; fragments = held_by_lem s.table s.store key }

abbrev pub holds_nothing : Holding
holds_nothing = record { first = never; fragments = λ number. nothing }

-- the end of a run, and the calls that are left of it when those refused by some numbers are crossed out
abbrev pub ends : State → List Call → State
ends = run after

abbrev pub crossed : (ℕ → Bool) → State → List Call → List Call
crossed out = remaining after (is_left out)

-- what is answered to a key's own pushes, and to those that are left
abbrev pub replies_to : ℕ → State → List Call → List Reply
replies_to key = gathered after (λ s e. is_own key e) reply_to

abbrev pub replies_to_left : (ℕ → Bool) → ℕ → State → List Call → List Reply
replies_to_left out key = gathered after (λ s e. is_own key e && is_left out s e) reply_to

-- the numbers that the sweeps answer (rule S2), in their order
abbrev pub dropped_in : Reply → ℕ
dropped_in (pushed given bytes) = 0
dropped_in (dropped n) = n

abbrev pub sweep_numbers : State → List Call → List ℕ
sweep_numbers = gathered after (λ s e. is_sweep e) (λ s e. dropped_in (reply_to s e))

-- Rule D3: no call of a run is refused for table room.
abbrev pub never_full_lem : State → List Call → Bool
never_full_lem = every after has_room_lem
