-- What is claimed of pushes that were written to a capture, are read from it and are pushed again: the record Claims at
-- the end, which proofs/Claims.antt proves.
use Rattle.std.specs.Prelude.{◌≡◌, List, [], ◌∷◌, map, ℕ, ◌<◌, length}
use Rattle.numbers.specs.Numbers.{gives}
use Rattle.machines.specs.Happened.{Happened}
use Rattle.captures.specs.Writing.{frame_size}
use Rattle.captures.specs.Reading.{Capture, capture_in}
use Rattle.captures.specs.HandedBack.{Arrived, file_of, arrived_in}
use Rattle.captures.specs.Claims.{Each, Writable}
use Rattle.orders.specs.Runs.{State, Call, push, sweep, start}
use Rattle.orders.specs.Happened.{TableCall, table_contract, calls_of, got_by, reply_of}

-- what the pushes among some calls bring, in their order, as the writer takes it (rule G5)
abbrev pub arrived_of : List Call → List Arrived
arrived_of [] = []
arrived_of (push p ∷ calls) = record { arrival = p.arrival; payload = p.payload } ∷ arrived_of calls
arrived_of (sweep time ∷ calls) = arrived_of calls

-- what else there is to a call: how many bytes of a store and of an output a push is lent, and when a sweep comes
pub data Lends : Type 0 where
  lends_push : (lent room : ℕ) → Lends
  sweeps_at : ℕ → Lends

abbrev pub lends_of : Call → Lends
lends_of (push p) = lends_push p.lent p.room
lends_of (sweep time) = sweeps_at time

-- the file that is written of the pushes among some calls (rule G5)
abbrev pub file_for : List TableCall → List ℕ
file_for calls = file_of (arrived_of (calls_of calls))

-- Rule G10: the second calls push the frames of that file, in their order, with the same sweeps in their places and the
-- same lent lengths.
pub record Replays (capture : Capture) (calls calls' : List TableCall) : Type 0 where
  pub brings : arrived_of (calls_of calls') ≡ map (arrived_in (file_for calls)) capture.frames
  pub lends : map lends_of (calls_of calls') ≡ map lends_of (calls_of calls)

-- Rule G10, for calls that happened: pushes that were written, and are read and pushed again to a fresh table, get the
-- same answers and the same finished bytes as before, refusals too, and so do the sweeps among them. The two stores have
-- one length; what they held at first makes no difference.
abbrev pub AnsweredAgain : Type 0
AnsweredAgain = (store : List ℕ) (calls : List TableCall) (z : State) → Happened table_contract (start store) calls z
    → Each Writable (arrived_of (calls_of calls)) → (capture : Capture) → capture_in (file_for calls) ≡ gives capture
    → (store' : List ℕ) → length store' ≡ length store → (calls' : List TableCall) (z' : State) → Happened table_contract (start store') calls' z'
    → Replays capture calls calls'
    → map (λ c. reply_of (got_by c)) calls' ≡ map (λ c. reply_of (got_by c)) calls

-- Rule G5: what the writer takes, whatever the room, is what `Writable` says; a key has 64 bits and a message type 16.
abbrev pub TakenIsWritable : Type 0
TakenIsWritable = (p : Arrived) → p.arrival.key < 18446744073709551616 → p.arrival.fragment.message_type < 65536
    → (room size : ℕ) → frame_size p.arrival.time (length p.payload) room ≡ gives size → Writable p

-- everything that is claimed here
pub record Claims : Type 0 where
  pub taken_is_writable : TakenIsWritable
  pub answered_again : AnsweredAgain
