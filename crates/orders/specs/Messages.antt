-- A message cut into fragments, and the pushes that bring them (rule D6).
use Rattle.std.specs.Prelude.{◌≡◌, List, [], ◌∷◌, ◌++◌, map, Bool, true, cond, not, ℕ, suc, ◌+◌, ◌≤◌, ◌<◌, eqb, ltb, length}
use Rattle.numbers.specs.Numbers.{gives}
use Rattle.searching.specs.Count.{how_many}
use Rattle.keys.specs.Keys.{sender_of_lem}
use Rattle.table.specs.declared.Table.{Table}
use Rattle.table.specs.declared.Totals.{Totals}
use Rattle.table.specs.Rows.{keys, places, place_size, store_size, most_keys, most_places, place_at, is_free, spare_row, totals_of}
use Rattle.pushing.specs.Joining.{Held, held_of, in_order_lem, due}
use Rattle.pushing.specs.Push.{PushAnswer, waiting, single, joined}
use Rattle.orders.specs.Runs.{State, Push, Call, push, sweep, Reply, pushed, holding}
use Rattle.orders.specs.Shares.{is_in, distinct}

-- Rule D6: fragments 0 to `final`, of at most 1,492 bytes each. There are at most nine (rule T9): one sender has eight
-- places, and the last one needs none.
pub record Message : Type 0 where
  pub key : ℕ
  pub version : ℕ
  pub message_type : ℕ
  pub final : ℕ
  pub piece : ℕ → List ℕ
  pub few : final ≤ most_places
  pub small : (k : ℕ) → length (piece k) ≤ place_size

-- Rule D6: fragment k as a table holds it. Only the final one is marked last.
abbrev pub held_at : Message → ℕ → Held
held_at m k = record { version = m.version; message_type = m.message_type; last = eqb k m.final; payload = m.piece k }

-- Rule T9: the whole message, the payloads in the order of their numbers.
abbrev pub whole : Message → List ℕ
whole m = in_order_lem m.piece (suc m.final)

-- A push that brings fragment k and lends enough of the store (rule T4). Its time and its output may be any.
pub record Brings (m : Message) (k : ℕ) (p : Push) : Type 0 where
  pub key : p.arrival.key ≡ m.key
  pub number : p.arrival.fragment.number ≡ k
  pub fragment : held_of p.arrival.fragment p.payload ≡ held_at m k
  pub lent : store_size ≤ p.lent

-- Rule D6: the pushes bring each number below the final one once, in any order, and then the final one. The output of
-- that one has room for the whole message (rule T9).
pub record Sent (m : Message) (bring : ℕ → Push) (order : List ℕ) : Type 0 where
  pub brings : (k : ℕ) → k ≤ m.final → Brings m k (bring k)
  pub once : distinct order ≡ true
  pub all : (k : ℕ) → is_in k order ≡ ltb k m.final
  pub room : 1 ≤ m.final → length (whole m) ≤ (bring m.final).room

abbrev pub sending : Message → (ℕ → Push) → List ℕ → List Call
sending m bring order = map (λ k. push (bring k)) order ++ (push (bring m.final) ∷ [])

-- how many places are free
abbrev pub free_in : Table → ℕ
free_in t = how_many (λ i. is_free (place_at t i)) places

-- what the table says that the message's sender holds (rule T15)
abbrev pub senders_totals : Message → Table → Totals
senders_totals m t = totals_of t (sender_of_lem m.key)

-- Rule D6, so that none is refused: places for all fragments but the last, which needs none, and a row for the key. The
-- sender's share has room for them too (rule T6).
pub record Room (m : Message) (t : Table) : Type 0 where
  pub free : m.final ≤ free_in t
  pub row : 1 ≤ m.final → spare_row t < keys
  pub share_of_places : (senders_totals m t).places + m.final ≤ most_places
  pub share_of_keys : 1 ≤ m.final → (senders_totals m t).keys < most_keys

-- Rule D6: a sweep spares a key that holds nothing, and one whose first time is less than 3,000 milliseconds before.
abbrev pub spares : ℕ → State → Call → Bool
spares key z (push p) = true
spares key z (sweep time) = not (due time (holding key z).first)

-- Rule T9: the answer to the last one. A message of one fragment is its payload, and one of several is joined.
abbrev pub completed : Message → PushAnswer
completed m = cond (eqb m.final 0) (single (length (whole m))) (joined (length (whole m)))

-- Rule D6: all the others wait, and the last one completes the message with its own bytes.
abbrev pub completing : Message → List ℕ → List Reply
completing m order = map (λ k. pushed (gives waiting) []) order ++ (pushed (gives (completed m)) (whole m) ∷ [])
