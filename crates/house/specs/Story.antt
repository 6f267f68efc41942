-- What many frames do, one after the other (rules H5 and H6).
use Rattle.std.specs.Prelude.{Bool, true, false, not, ◌&&◌, ℕ, eqb}
use mathlib.Core.List.{List, [], ◌∷◌, map, flatten}
use Rattle.numbers.specs.Numbers.{Answer, gives, refuses}
use Rattle.machines.specs.Machine.{run, gathered}
use Rattle.machines.specs.Happened.{and_steps}
use Rattle.pushing.specs.Push.{PushAnswer, waiting, duplicated, inconsistent, missing, missing_last, single, joined, answer_by}
use Rattle.stations.specs.Whereabouts.{Event}
use Rattle.stations.specs.Runs.{of_value, event_by}
use Rattle.orders.specs.Runs.{Push, Call, push, sweep, Reply, pushed, refused_by}
use Rattle.captures.specs.Reading.{Captured, ours, other}
use Rattle.captures.specs.HandedBack.{Arrived}
use Rattle.house.specs.House.{House, events_in, way_in, message_of_lem, after_arrival, brought_of, after_brought}

-- the house after some fragments, and after some records of the file s
abbrev pub after_all : ℕ → House → List Arrived → House
after_all room = run (after_arrival room)

abbrev pub after_one : ℕ → List ℕ → House → Captured → House
after_one room s z c = after_brought room z (brought_of s c)

abbrev pub after_records : ℕ → List ℕ → House → List Captured → House
after_records room s = run (after_one room s)

-- whether a record is a 1905 frame
abbrev pub is_heard : Captured → Bool
is_heard (ours f) = true
is_heard other = false

-- Rule H5: an answer that says that a message is whole.
abbrev pub is_whole : Answer PushAnswer → Bool
is_whole (gives waiting) = false
is_whole (gives duplicated) = false
is_whole (gives inconsistent) = false
is_whole (gives missing) = false
is_whole (gives missing_last) = false
is_whole (gives (single n)) = true
is_whole (gives (joined n)) = true
is_whole (refuses n vs) = false

-- Rule H5: the messages, in the order in which they became whole.
abbrev pub messages_in : ℕ → House → List Arrived → List (List ℕ)
messages_in room = gathered (after_arrival room) (λ z x. is_whole (answer_by (way_in room z x))) (message_of_lem room)

-- the events that some values bring, in their order; a value that doesn't read brings none (rule P6)
abbrev pub events_from : List (List ℕ) → List Event
events_from [] = []
events_from (v ∷ vs) = and_steps (event_by (of_value v)) (events_from vs)

-- Rule H5: the events of some messages, in their order.
abbrev pub events_of_all : List (List ℕ) → List Event
events_of_all ms = events_from (flatten (map events_in ms))

-- Rule H6: the calls of the fragment table that the house makes, a sweep before each push.
abbrev pub calls_for : List Push → List Call
calls_for [] = []
calls_for (p ∷ ps) = sweep p.arrival.time ∷ push p ∷ calls_for ps

abbrev pub arrived_as : Push → Arrived
arrived_as p = record { arrival = p.arrival; payload = p.payload }

-- Rule H6: what a push of the house replies, and the replies to one key's fragments, but for those refused by some
-- numbers.
abbrev pub reply_in : ℕ → House → Arrived → Reply
reply_in room z x = pushed (answer_by (way_in room z x)) (message_of_lem room z x)

abbrev pub is_own_left : (ℕ → Bool) → ℕ → ℕ → House → Arrived → Bool
is_own_left out room key z x = eqb x.arrival.key key && not (refused_by out (reply_in room z x))

abbrev pub replies_left : (ℕ → Bool) → ℕ → ℕ → House → List Arrived → List Reply
replies_left out room key = gathered (after_arrival room) (is_own_left out room key) (reply_in room)
