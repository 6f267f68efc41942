-- What is claimed of fragments that the checker accepts, once they are pushed; proofs/Claims.antt proves it.
use Rattle.std.specs.Prelude.{◌≡◌, true, cond, List, [], ◌∷◌, ◌++◌, map, ℕ, ◌-◌, ◌≤◌, eqb, length, replicate}
use Rattle.numbers.specs.Numbers.{gives}
use Rattle.cutting.specs.declared.Proposed.{Proposed}
use Rattle.cutting.specs.Cuts.{payload_in, check_of}
use Rattle.machines.specs.Happened.{Happened}
use Rattle.keys.specs.Keys.{Origin, key_for}
use Rattle.table.specs.Rows.{store_size}
use Rattle.pushing.specs.Push.{waiting, single, joined}
use Rattle.orders.specs.Runs.{State, Push, Call, push, sweep, Reply, pushed, start}
use Rattle.orders.specs.Happened.{TableCall, table_contract, calls_of, got_by, reply_of}

-- Rule M7: a push that brings a fragment from its sender, under its message id, with its fields and its payload. Enough
-- of the store is lent (rule T4), and for the one marked last an output that has room for the message (rule T9).
pub record Carries (origin : Origin) (message payloads : List ℕ) (f : Proposed) (p : Push) : Type 0 where
  pub id_is : f.id ≡ origin.message_id
  pub key_is : p.arrival.key ≡ key_for origin
  pub fragment_is : p.arrival.fragment
      ≡ record { message_type = f.message_type; version = f.version; number = f.number; last = f.last }
  pub payload_is : p.payload ≡ payload_in payloads f
  pub lent_enough : store_size ≤ p.lent
  pub room_enough : f.last ≡ true → length message ≤ p.room

-- these calls bring these fragments, in their order and with no other call among them
abbrev pub CarriesAll : (origin : Origin) (message payloads : List ℕ) → List Proposed → List Call → Type 0
CarriesAll origin message payloads [] [] = Unit
CarriesAll origin message payloads [] (c ∷ calls) = ⊥
CarriesAll origin message payloads (f ∷ fs) [] = ⊥
CarriesAll origin message payloads (f ∷ fs) (push p ∷ calls) =
    Carries origin message payloads f p × CarriesAll origin message payloads fs calls
CarriesAll origin message payloads (f ∷ fs) (sweep time ∷ calls) = ⊥

-- Rule M7: each but the last waits, and the last one's message is this message. One fragment is a message by itself
-- (rule T9).
abbrev pub rejoined : (message : List ℕ) (count : ℕ) → List Reply
rejoined message count =
    replicate (count - 1) (pushed (gives waiting) [])
    ++ (pushed (gives (cond (eqb count 1) (single (length message)) (joined (length message)))) message ∷ [])

-- Rule M7: fragments that are accepted, pushed in their order to a fresh table, complete with the message. For calls
-- that happened: this is what their callers got.
abbrev pub AcceptedCompletes : Type 0
AcceptedCompletes = (message payloads : List ℕ) (fragments : List Proposed) → check_of message fragments payloads ≡ gives true
    → (origin : Origin) (store : List ℕ) → store_size ≤ length store
    → (calls : List TableCall) (z : State) → Happened table_contract (start store) calls z
    → CarriesAll origin message payloads fragments (calls_of calls)
    → map (λ c. reply_of (got_by c)) calls ≡ rejoined message (length fragments)

-- everything that is claimed here
pub record Claims : Type 0 where
  pub accepted_completes : AcceptedCompletes
