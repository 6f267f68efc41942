-- What a key holds, fragment by number (rule T3), and what joining asks of it (rules T7 to T9).
use Rattle.std.specs.Prelude.{List, [], ◌++◌, Bool, true, false, cond, not, ◌&&◌, ℕ, zero, suc, eqb, ltb, get_or}
use Rattle.pushing.specs.declared.Fragment.{Fragment}
use Rattle.table.specs.declared.Table.{Table}
use Rattle.searching.specs.Search.{lowest, some}
use Rattle.sweeping.specs.Sweep.{is_old}
use Rattle.table.specs.Rows.{keys, places, Place, place_at, place_of, row_of, bytes_at}

-- Rule T3: a fragment. Its number is no field here: it is where the fragment stands among those of its key.
pub record Held : Type 0 where
  pub version : ℕ
  pub message_type : ℕ
  pub last : Bool
  pub payload : List ℕ

pub data Kept : Type 0 where
  nothing : Kept
  kept : Held → Kept

-- fragments by their number
abbrev pub Fragments : Type 0
Fragments = ℕ → Kept

abbrev pub is_kept_lem : Kept → Bool
is_kept_lem nothing = false
is_kept_lem (kept h) = true

-- Rule T3: a fragment as it arrives, and as a place keeps it. No kept one is marked last: rule T6 keeps no other.
abbrev pub held_of : Fragment → List ℕ → Held
held_of f payload = record { version = f.version; message_type = f.message_type; last = f.last; payload = payload }

abbrev pub held_as : Place → List ℕ → Held
held_as p payload = record { version = p.version; message_type = p.message_type; last = false; payload = payload }

-- what place i holds, its bytes from the store
unfoldable pub kept_at : Table → List ℕ → ℕ → Kept
kept_at t store i = cond (ltb i places) (kept (held_as (place_at t i) (bytes_at store i (place_at t i).size))) nothing

-- what a row holds, and what a key holds
abbrev pub held_in_lem : Table → List ℕ → ℕ → Fragments
held_in_lem t store row number = kept_at t store (place_of t row number)

abbrev pub held_by_lem : Table → List ℕ → ℕ → Fragments
held_by_lem t store key = held_in_lem t store (row_of t key)

-- Rule T6: a key's first time, if the table holds the key.
pub data Since : Type 0 where
  never : Since
  since : ℕ → Since

unfoldable pub first_time : Table → ℕ → Since
first_time t key = cond (ltb (row_of t key) keys) (since (get_or t.firsts (row_of t key) 0)) never

-- Rule S1: a sweep drops a key with this first time, if it has one.
abbrev pub due : ℕ → Since → Bool
due now-ms never = false
due now-ms (since first) = is_old now-ms first

-- Rule T7: the fragments that the key holds, and the new one.
abbrev pub and_new : Fragments → ℕ → Held → Fragments
and_new fs number new k = cond (eqb k number) (kept new) (fs k)

-- Rule T8, first test: a fragment has another version or type than the new one.
abbrev pub unlike : Held → Kept → Bool
unlike new nothing = false
unlike new (kept h) = not (eqb h.version new.version && eqb h.message_type new.message_type)

unfoldable pub inconsistent_with : Held → Fragments → Bool
inconsistent_with new fs = some (λ k. unlike new (fs k)) 256

-- Rule T8: the lowest number that is not there. It is n if the numbers are 0 to n - 1.
unfoldable pub reach : Fragments → ℕ
reach fs = lowest (λ k. not (is_kept_lem (fs k))) 256

-- Rule T8, second test: a number is there above the lowest one that is not.
unfoldable pub gapped : Fragments → Bool
gapped fs = some (λ k. is_kept_lem (fs k) && ltb (reach fs) k) 256

-- Rule T8, third test: a fragment is marked last. The test asks this of the one with the highest number.
abbrev pub is_last_lem : Kept → Bool
is_last_lem nothing = false
is_last_lem (kept h) = h.last

abbrev pub payload_of : Kept → List ℕ
payload_of nothing = []
payload_of (kept h) = h.payload

-- the first n of some pieces, one after the other
unfoldable pub in_order_lem : (ℕ → List ℕ) → ℕ → List ℕ
in_order_lem piece zero = []
in_order_lem piece (suc n) = in_order_lem piece n ++ piece n

-- Rule T9: the payloads with numbers below n, in the order of their numbers.
abbrev pub payloads : Fragments → ℕ → List ℕ
payloads fs = in_order_lem (λ k. payload_of (fs k))
