-- What is claimed of push and of the tables that these calls make; proofs/Claims.antt proves it.
use Rattle.std.specs.Prelude.{◌≡◌, List, [], ◌∷◌, ℕ, ◌<◌, length, Result, Ok, Err}
use Rattle.numbers.specs.Firmness.{Firm}
use Rattle.numbers.specs.declared.Refusal.{Refusal}
use Rattle.numbers.specs.declared.Refusal.TheVariants.{TableFull}
use Rattle.keys.specs.Keys.{sender_of_lem}
use Rattle.table.specs.declared.Table.{Table}
use Rattle.table.specs.Rows.{fresh_table}
use Rattle.table.specs.Sound.{Sound}
use Rattle.table.specs.InStep.{InStep, WithinShares, OnlyOf}
use Rattle.sweeping.specs.Sweep.{swept, swept_as}
use Rattle.pushing.specs.declared.Arrival.{Arrival}
use Rattle.pushing.specs.declared.Pushed.{Pushed}
use Rattle.pushing.specs.declared.Pushed.TheVariants.{DuplicatedFragment}
use Rattle.pushing.specs.declared.AfterPush.{AfterPush}
use Rattle.pushing.specs.Joining.{held_by_lem, first_time}
use Rattle.pushing.specs.Push.{way, table_by, store_by, output_by, answer_by, Goes}
use Rattle.pushing.specs.Show.{shown}
use Rattle.pushing.specs.Made.{Made}

-- Rule A4: any two outcomes that the contract allows are equal, in the answer, the table, and every byte of the store
-- and of the output.
pub record Firmness : Type 0 where
  pub push_in_place : (t : Table) (store out : List ℕ) (a : Arrival) (payload : List ℕ)
      → Firm {A = Result Pushed Refusal × Table × List ℕ × List ℕ} (λ o. Goes (way t store a payload (length out)) t store out a payload o.0 o.1 o.2 o.3)
  pub push_step : (t : Table) (store out : List ℕ) (a : Arrival) (payload : List ℕ)
      → Firm {A = AfterPush × List ℕ × List ℕ} (λ o. Goes (way t store a payload (length out)) t store out a payload o.0.answer o.0.table o.1 o.2)

-- Rule A1: a table that these calls made stays one, by what each call ensures. So the next call may take what the last
-- one left.
abbrev pub FreshMade : Type 0
FreshMade = (t : Table) → t ≡ fresh_table → Made t

-- a fragment's number is one byte (rule B6)
abbrev pub PushMade : Type 0
PushMade = (t : Table) (store out : List ℕ) (a : Arrival) (payload : List ℕ) (answer' : Result Pushed Refusal) (t' : Table) (store' out' : List ℕ) → Made t → a.fragment.number < 256
    → Goes (way t store a payload (length out)) t store out a payload answer' t' store' out' → Made t'

abbrev pub SweepMade : Type 0
SweepMade = (t : Table) (time : ℕ) (t' : Table) (dropped : ℕ) → Made t → swept_as t' dropped ≡ swept t time → Made t'

-- such a table is sound (rules T1, T5 and T6)
abbrev pub MadeSound : Type 0
MadeSound = (t : Table) → Made t → Sound t

-- Rules T6 and T15: in such a table each sender's totals are its keys and places, counted, and no sender holds more than
-- 4 keys or 8 places.
abbrev pub MadeInStep : Type 0
MadeInStep = (t : Table) → Made t → InStep t

abbrev pub MadeWithinShares : Type 0
MadeWithinShares = (t : Table) → Made t → WithinShares t

-- Rule D7: if the keys that such a table holds are of the push's own sender and of fewer than four others, then the push
-- is not refused by 10.
abbrev pub RoomForFew : Type 0
RoomForFew = (t : Table) (store out : List ℕ) (a : Arrival) (payload : List ℕ) (t' : Table) (store' out' : List ℕ) → Made t
    → (others : List ℕ) → length others < 4 → OnlyOf t (sender_of_lem a.key ∷ others)
    → Goes (way t store a payload (length out)) t store out a payload (Err TableFull) t' store' out' → ⊥

-- what a key holds, and its first time, are the same in two tables
abbrev pub Untouched : (key : ℕ) (t t' : Table) (store store' : List ℕ) → Type 0
Untouched key t t' store store' = ((number : ℕ) → held_by_lem t' store' key number ≡ held_by_lem t store key number) × (first_time t' key ≡ first_time t key)

-- A push under another key, refused or not, leaves them the same. Rules D3 and D5 rest on this.
abbrev pub PushUntouched : Type 0
PushUntouched = (t : Table) → Sound t → (store : List ℕ) (a : Arrival) (payload : List ℕ) (room key : ℕ) → (a.key ≡ key → ⊥)
    → Untouched key t (table_by (way t store a payload room) t a (length payload)) store (store_by (way t store a payload room) store payload)

-- Rule T5: a push that is answered `DuplicatedFragment` leaves the table, the store and the output as they were.
abbrev pub DuplicateUntouched : Type 0
DuplicateUntouched = (t : Table) (store out : List ℕ) (a : Arrival) (payload : List ℕ) (t' : Table) (store' out' : List ℕ)
    → Goes (way t store a payload (length out)) t store out a payload (Ok DuplicatedFragment) t' store' out' → (t' ≡ t) × (store' ≡ store) × (out' ≡ out)

-- Rule A3: a push that is refused, by any number, leaves all three as they were.
abbrev pub RefusalUntouched : Type 0
RefusalUntouched = (t : Table) (store out : List ℕ) (a : Arrival) (payload : List ℕ) (refusal : Refusal) (t' : Table) (store' out' : List ℕ)
    → Goes (way t store a payload (length out)) t store out a payload (Err refusal) t' store' out' → (t' ≡ t) × (store' ≡ store) × (out' ≡ out)

-- Rules T9 and T10: what is shown after a push is the same whatever the output held before it.
abbrev pub ShownSame : Type 0
ShownSame = (t : Table) (store : List ℕ) (a : Arrival) (payload : List ℕ) (room : ℕ) (out : List ℕ)
    → shown (answer_by (way t store a payload room)) payload (output_by (way t store a payload room) out) ≡ shown (answer_by (way t store a payload room)) payload (output_by (way t store a payload room) [])

-- everything that is claimed of this crate
pub record Claims : Type 0 where
  pub firmness : Firmness
  pub fresh_made : FreshMade
  pub push_made : PushMade
  pub sweep_made : SweepMade
  pub made_sound : MadeSound
  pub made_in_step : MadeInStep
  pub made_within_shares : MadeWithinShares
  pub room_for_few : RoomForFew
  pub push_untouched : PushUntouched
  pub duplicate_untouched : DuplicateUntouched
  pub refusal_untouched : RefusalUntouched
  pub shown_same : ShownSame
