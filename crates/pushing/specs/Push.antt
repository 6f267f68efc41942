-- Push (rules T4 to T9, and T15): which way it goes, and what each way does.
use Rattle.std.specs.Prelude.{◌≡◌, List, [], ◌∷◌, ◌++◌, Bool, cond, not, ◌&&◌, ◌||◌, ℕ, ◌+◌, ◌*◌, ◌-◌, ltb, leb, length, drop, Result, Ok, Err}
use Rattle.std.proofs.Math.Seq.{paste}
use Rattle.numbers.specs.Numbers.{Answer, gives, refuses, told}
use Rattle.numbers.specs.declared.Refusal.{Refusal}
use Rattle.keys.specs.Keys.{sender_of_lem}
use Rattle.table.specs.declared.Table.{Table}
use Rattle.table.specs.declared.Totals.{Totals}
use Rattle.pushing.specs.declared.Fragment.{Fragment}
use Rattle.pushing.specs.declared.Arrival.{Arrival}
use Rattle.pushing.specs.declared.Pushed.{Pushed}
use Rattle.pushing.specs.declared.look.LookedUp.{LookedUp}
use Rattle.pushing.specs.declared.Pushed.TheVariants.{WaitingForMoreFragments, DuplicatedFragment, InconsistentMetadata, MissingFragments, MissingLastFragment, Single, Joined}
use Rattle.table.specs.Rows.{keys, places, place_size, store_size, most_keys, most_places, Place, owner_of, row_of, spare_row, place_of, lowest_free, with_key, with_place, first_row_lem, no_totals, totals_of, with_totals, dropped_key_lem}
use Rattle.pushing.specs.Joining.{Held, Fragments, held_of, held_in_lem, and_new, inconsistent_with, gapped, is_last_lem, reach, payloads}

-- Rules T5 to T9: what push answers where it does not refuse.
pub data PushAnswer : Type 0 where
  waiting : PushAnswer
  duplicated : PushAnswer
  inconsistent : PushAnswer
  missing : PushAnswer
  missing_last : PushAnswer
  -- rule T9: the message is the payload, or lies at the start of the output; with its length
  single : ℕ → PushAnswer
  joined : ℕ → PushAnswer

-- the answer that each case of the code's enum stands for
abbrev pub answer_of : Pushed → PushAnswer
answer_of WaitingForMoreFragments = waiting
answer_of DuplicatedFragment = duplicated
answer_of InconsistentMetadata = inconsistent
answer_of MissingFragments = missing
answer_of MissingLastFragment = missing_last
answer_of (Single n) = single n
answer_of (Joined n) = joined n

-- Rules N1 and N4: what the call's result says, an answer or a refusal.
abbrev pub pushed_of : Result Pushed Refusal → Answer PushAnswer
pushed_of (Ok pushed) = gives (answer_of pushed)
pushed_of (Err r) = told r

-- the ways that a push can go
pub data Way : Type 0 where
  -- rules T4, T6 and T9: refused, with a number and the values that it carries
  refuse : ℕ → List ℕ → Way
  -- rule T5: the key holds a fragment with this number already
  duplicate : Way
  -- rule T6: to a free place, under the row that the key has
  keep_at : ℕ → Way
  -- rule T6: to a free place, under a row that was free
  open_at : ℕ → ℕ → Way
  -- rules T7 to T9: joined; what is answered, and the bytes for the output
  end : PushAnswer → List ℕ → Way

-- Rules T4 to T7: the steps of push, one after the other. The lengths of the store and of the payload decide, then the
-- place that holds the fragment's number, then the last mark. The ways of steps 3 and 4 are given.
unfoldable pub way_by : (stored size place : ℕ) → Bool → (keeps joins : Way) → Way
way_by stored size place last keeps joins =
    -- rule T4: the store is too short, or else the payload is too long
    cond (ltb stored store_size) (refuse 11 [])
    (cond (ltb place_size size) (refuse 12 [])
    -- rule T5: a place holds this number under the key
    (cond (ltb place places) duplicate
    -- rule T6: the fragment is not marked last
    (cond (not last) keeps
    -- rule T7: it is marked last
    joins)))

-- what decides a push: the row of its key, the place that holds its number there, the lowest free place, the lowest
-- free row, and the lowest row of its sender; and what its sender holds
abbrev pub looked_up : Table → Arrival → LookedUp
looked_up t a = record {
  row = row_of t a.key;
  place = place_of t (row_of t a.key) a.fragment.number;
  free = lowest_free t;
  spare = spare_row t;
  first = first_row_lem t (sender_of_lem a.key);
}

abbrev pub own_totals : Table → Arrival → Totals
own_totals t a = totals_of t (sender_of_lem a.key)

-- Rule T6: the sender holds its share. It has 8 places, or it has 4 keys and its key holds nothing.
abbrev pub has_share_lem : LookedUp → Totals → Bool
has_share_lem found held = leb most_places held.places || (leb keys found.row && leb most_keys held.keys)

-- Rule T6: 20 if the sender holds its share. Then 10 if no place is free, or if the key holds nothing and no row is free.
-- Otherwise the fragment is kept.
unfoldable pub keep_way : LookedUp → Totals → Way
keep_way found held =
    cond (has_share_lem found held) (refuse 20 [])
    (cond (leb places found.free) (refuse 10 [])
    (cond (ltb found.row keys) (keep_at found.free)
    (cond (leb keys found.spare) (refuse 10 [])
    (open_at found.free found.spare))))

-- Rule T9: a whole message of n fragments, where `room` is the output's length. A single fragment needs no output. For
-- several, an output shorter than the message is refused by 13 with the message's length.
unfoldable pub message_way : ℕ → List ℕ → (room : ℕ) → Way
message_way n bytes room =
    cond (leb n 1) (end (single (length bytes)) [])
    (cond (ltb room (length bytes)) (refuse 13 (length bytes ∷ []))
    (end (joined (length bytes)) bytes))

-- Rules T8 and T9: joining, by the three tests of T8 in their order, how many fragments there are, and their bytes.
abbrev pub join_by : (unlike gap marked : Bool) → ℕ → List ℕ → (room : ℕ) → Way
join_by unlike gap marked n bytes room =
    cond unlike (end inconsistent [])
    (cond gap (end missing [])
    (cond (not marked) (end missing_last [])
    (message_way n bytes room)))

-- Rule T8: joining, for the new fragment and all fragments of its key, the new one included.
unfoldable pub join_way : Held → Fragments → (room : ℕ) → Way
join_way new fs room = join_by (inconsistent_with new fs) (gapped fs) (is_last_lem (fs (reach fs - 1))) (reach fs) (payloads fs (reach fs)) room

-- Rule T7: a new fragment is joined with those that a row holds.
abbrev pub joined_with : Table → List ℕ → ℕ → Fragment → List ℕ → ℕ → Way
joined_with t store row f payload room = join_way (held_of f payload) (and_new (held_in_lem t store row) f.number (held_of f payload)) room

-- Rules T4 to T9: the way that a push goes. It depends on no age and on no TLV (rule T13).
unfoldable pub way : Table → List ℕ → Arrival → List ℕ → (room : ℕ) → Way
way t store a payload room =
    way_by (length store) (length payload) (looked_up t a).place a.fragment.last (keep_way (looked_up t a) (own_totals t a))
    (joined_with t store (row_of t a.key) a.fragment payload room)

-- Rule T3: a fragment as its place keeps it.
abbrev pub place_for : ℕ → Fragment → ℕ → Place
place_for row f size = record { message_type = f.message_type; size = size; owner = owner_of row; number = f.number; version = f.version }

-- Rules T6 and T15: a fragment is kept under the row of its key, and its sender holds a place more.
abbrev pub kept_under : Table → ℕ → Arrival → ℕ → Table
kept_under t i a size =
    with_totals (with_place t i (place_for (row_of t a.key) a.fragment size))
    (sender_of_lem a.key) (record { keys = (own_totals t a).keys; places = (own_totals t a).places + 1 })

-- Rules T6 and T15: a row that was free gets the key, and a place the fragment. The sender holds both more. Its totals
-- leave the row that was its lowest, because the new one may be lower.
abbrev pub opened_for : Table → ℕ → ℕ → Arrival → ℕ → Table
opened_for t i row a size =
    with_totals (with_place (with_key (with_totals t (sender_of_lem a.key) no_totals) row a.key a.time) i (place_for row a.fragment size))
    (sender_of_lem a.key) (record { keys = (own_totals t a).keys + 1; places = (own_totals t a).places + 1 })

-- Rules A3 and T5 to T7: what each way does to the table; `size` is the payload's length.
abbrev pub table_by : Way → Table → Arrival → ℕ → Table
table_by (refuse n values) t a size = t
table_by duplicate t a size = t
table_by (keep_at i) t a size = kept_under t i a size
table_by (open_at i row) t a size = opened_for t i row a size
table_by (end h bytes) t a size = dropped_key_lem t (row_of t a.key)

-- Rules T6 and T11: what each way does to the store. A kept fragment's payload goes to its place, and all else stays.
abbrev pub store_by : Way → List ℕ → List ℕ → List ℕ
store_by (refuse n values) store payload = store
store_by duplicate store payload = store
store_by (keep_at i) store payload = paste store (i * place_size) payload (length payload)
store_by (open_at i row) store payload = paste store (i * place_size) payload (length payload)
store_by (end h bytes) store payload = store

-- Rule T9: some bytes at the start of the output, whose other bytes stay.
abbrev pub over : List ℕ → List ℕ → List ℕ
over bytes out = bytes ++ drop (length bytes) out

-- Rules T9 and T11: what each way does to the output. Only a joined message changes it.
abbrev pub output_by : Way → List ℕ → List ℕ
output_by (refuse n values) out = out
output_by duplicate out = out
output_by (keep_at i) out = out
output_by (open_at i row) out = out
output_by (end h bytes) out = over bytes out

-- Rules T4 to T9: what each way answers.
abbrev pub answer_by : Way → Answer PushAnswer
answer_by (refuse n values) = refuses n values
answer_by duplicate = gives duplicated
answer_by (keep_at i) = gives waiting
answer_by (open_at i row) = gives waiting
answer_by (end h bytes) = gives h

-- Rules A4, T4 to T9 and T11: the call's answer, table, store and output are those of the way w.
pub record Goes (w : Way) (t : Table) (store out : List ℕ) (a : Arrival) (payload : List ℕ) (answer' : Result Pushed Refusal) (table' : Table) (store' out' : List ℕ) : Type 0 where
  pub answers : pushed_of answer' ≡ answer_by w
  pub keeps : table' ≡ table_by w t a (length payload)
  pub stores : store' ≡ store_by w store payload
  pub puts : out' ≡ output_by w out
