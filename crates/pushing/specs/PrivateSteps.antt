-- What the private functions answer, in the words of the other files. No public contract cites this one.
use Rattle.std.specs.Prelude.{◌≡◌, List, Bool, cond, not, ◌&&◌, ◌||◌, ℕ, zero, suc, ◌+◌, eqb, ltb, leb, get_or, Result, Ok, Err}
use Rattle.numbers.specs.Numbers.{number, values}
use Rattle.numbers.specs.declared.Refusal.{Refusal}
use Rattle.table.specs.declared.Table.{Table}
use Rattle.table.specs.declared.Totals.{Totals}
use Rattle.pushing.specs.declared.Arrival.{Arrival}
use Rattle.pushing.specs.declared.Pushed.{Pushed}
use Rattle.pushing.specs.declared.join.Reach.{Reach}
use Rattle.pushing.specs.declared.join.Compared.{Compared}
use Rattle.pushing.specs.declared.Fragment.{Fragment}
use Rattle.pushing.specs.declared.look.LookedUp.{LookedUp}
use Rattle.searching.specs.Search.{lowest}
use Rattle.table.specs.Rows.{keys, places, owner_of, bytes_at, with_key, with_place, lower_row_lem, no_totals, put_totals_lem}
use Rattle.pushing.specs.Joining.{in_order_lem}
use Rattle.pushing.specs.Push.{Way, refuse, keep_at, open_at, join_by, place_for, pushed_of, answer_by, output_by}

-- the look-ups of joining, in the lists that they need
abbrev pub numbered_in : (owners numbers : List ℕ) → (owner number : ℕ) → ℕ
numbered_in owners numbers owner number = lowest (λ i. eqb (get_or owners i 0) owner && eqb (get_or numbers i 0) number) places

abbrev pub unlike_in : (owners versions types : List ℕ) → (owner version type : ℕ) → ℕ
unlike_in owners versions types owner version type = lowest (λ i. eqb (get_or owners i 0) owner && not (eqb (get_or versions i 0) version && eqb (get_or types i 0) type)) places

abbrev pub beyond_in : (owners numbers : List ℕ) → (owner number : ℕ) → ℕ
beyond_in owners numbers owner number = lowest (λ i. eqb (get_or owners i 0) owner && ltb number (get_or numbers i 0)) places

-- where the piece with number k lies: in a place, at `places` where there is none, and at the number after that where
-- it is the new fragment
abbrev pub new_piece : ℕ
new_piece = places + 1

unfoldable pub fragment_at : (owners numbers : List ℕ) → (row number k : ℕ) → ℕ
fragment_at owners numbers row number k = cond (eqb k number) new_piece (numbered_in owners numbers (owner_of row) k)

abbrev pub size_at : List ℕ → (size piece : ℕ) → ℕ
size_at sizes size piece = cond (ltb piece places) (get_or sizes piece 0) size

unfoldable pub piece_bytes : (sizes store payload : List ℕ) → ℕ → List ℕ
piece_bytes sizes store payload piece = cond (ltb piece places) (bytes_at store piece (get_or sizes piece 0)) payload

-- the first n pieces: how many bytes they have, and the bytes
unfoldable pub size_to : (sizes owners numbers : List ℕ) → (row number size n : ℕ) → ℕ
size_to sizes owners numbers row number size zero = 0
size_to sizes owners numbers row number size (suc n) = size_to sizes owners numbers row number size n + size_at sizes size (fragment_at owners numbers row number n)

abbrev pub pieces_to : (sizes owners numbers store : List ℕ) → (row number : ℕ) → List ℕ → ℕ → List ℕ
pieces_to sizes owners numbers store row number payload = in_order_lem (λ k. piece_bytes sizes store payload (fragment_at owners numbers row number k))

abbrev pub is_gap : (owners numbers : List ℕ) → (row number k : ℕ) → Bool
is_gap owners numbers row number k = eqb (fragment_at owners numbers row number k) places

abbrev pub count_for : (owners numbers : List ℕ) → (row number : ℕ) → ℕ
count_for owners numbers row number = lowest (is_gap owners numbers row number) 256

abbrev pub reach_for : (sizes owners numbers : List ℕ) → (row number size : ℕ) → Reach
reach_for sizes owners numbers row number size = record { count = count_for owners numbers row number; total = size_to sizes owners numbers row number size (count_for owners numbers row number) }

-- Rule T8: a number that is there is above one that is not. It is the new one's, or one of a place.
abbrev pub gap_in : (owners numbers : List ℕ) → (owner number count : ℕ) → Bool
gap_in owners numbers owner number count = ltb count number || ltb (beyond_in owners numbers owner count) places

-- Rule T8: a last fragment, compared with those that its row holds.
abbrev pub compared_in : (owners versions types : List ℕ) → ℕ → Fragment → Compared
compared_in owners versions types row f = record { row = row; number = f.number; unlike = ltb (unlike_in owners versions types (owner_of row) f.version f.message_type) places }

-- Rules T8 and T9: the way of such a fragment.
abbrev pub join_in : (sizes owners numbers store payload : List ℕ) → Compared → (room : ℕ) → Way
join_in sizes owners numbers store payload last room =
    join_by last.unlike (gap_in owners numbers (owner_of last.row) last.number (count_for owners numbers last.row last.number))
    (eqb (count_for owners numbers last.row last.number) (last.number + 1)) (count_for owners numbers last.row last.number)
    (pieces_to sizes owners numbers store last.row last.number payload (count_for owners numbers last.row last.number)) room

-- Rule T6: the way of a fragment that is kept, by what was found, or that is refused.
abbrev pub kept_way : LookedUp → Result (Unit {0}) Refusal → Way
kept_way found (Ok kept) = cond (ltb found.row keys) (keep_at found.free) (open_at found.free found.spare)
kept_way found (Err r) = refuse (number r) (values r)

-- Rule T6: the row under which a fragment is kept.
abbrev pub under_row_lem : LookedUp → ℕ
under_row_lem found = cond (ltb found.row keys) found.row found.spare

-- an answer and the output are those of the way w
pub record Ends (w : Way) (answer' : Result Pushed Refusal) (out out' : List ℕ) : Type 0 where
  pub answers : pushed_of answer' ≡ answer_by w
  pub puts : out' ≡ output_by w out

-- Rules T6 and T15: a row gets the key, and the sender's totals leave its lowest row; or the row has the key.
abbrev pub opened : Bool → Table → (first row : ℕ) → Arrival → Table
opened opens t first row a = cond opens (with_key (put_totals_lem t first no_totals) row a.key a.time) t

-- Rules T6 and T15: a fragment is kept where there is room for it.
abbrev pub kept_by_lem : LookedUp → Totals → Table → Arrival → (size : ℕ) → Table
kept_by_lem found held t a size =
    put_totals_lem (with_place (opened (leb keys found.row) t found.first (under_row_lem found) a) found.free (place_for (under_row_lem found) a.fragment size))
    (lower_row_lem (under_row_lem found) found.first) (record { keys = cond (leb keys found.row) (held.keys + 1) held.keys; places = held.places + 1 })
