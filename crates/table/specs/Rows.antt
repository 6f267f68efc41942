-- The table's rows and places, and what it says that each sender holds (rules T1, T3, T6, T12, T14 and T15).
use Rattle.std.specs.Prelude.{List, [], ◌∷◌, Bool, true, false, cond, not, ◌&&◌, ℕ, ◌+◌, ◌*◌, ◌-◌, eqb, ltb, take, drop, get_or, set, replicate}
use Rattle.table.specs.declared.Table.{Table}
use Rattle.table.specs.declared.Totals.{Totals}
use Rattle.searching.specs.Search.{lowest}
use Rattle.searching.specs.Count.{how_many}
use Rattle.keys.specs.Keys.{sender_of_lem}

-- Rule T1: a table has 16 rows for keys and 32 places for fragments. The store has 1,492 bytes for each place.
abbrev pub keys : ℕ
keys = 16

abbrev pub places : ℕ
places = 32

abbrev pub place_size : ℕ
place_size = 1492

abbrev pub store_size : ℕ
store_size = places * place_size

-- Rule T6: one sender holds at most so many keys, and at most so many places.
abbrev pub most_keys : ℕ
most_keys = 4

abbrev pub most_places : ℕ
most_places = 8

-- Rules T1 and T3: what a place holds. It is a fragment without its payload, which lies in the store, and without its
-- last mark, which no kept fragment has. The owner is 1 more than the row of the key, and 0 where the place is free.
pub record Place : Type 0 where
  pub message_type : ℕ
  pub size : ℕ
  pub owner : ℕ
  pub number : ℕ
  pub version : ℕ

abbrev pub owner_of : ℕ → ℕ
owner_of row = row + 1

-- Rule T14: a free place is zero in each field.
abbrev pub free_place : Place
free_place = record { message_type = 0; size = 0; owner = 0; number = 0; version = 0 }

-- Rule T14: a fresh table holds nothing, and is zero in each field.
abbrev pub fresh_table : Table
fresh_table =
    record {
      row_keys = replicate keys 0;
      firsts = replicate keys 0;
      message_types = replicate places 0;
      sizes = replicate places 0;
      owners = replicate places 0;
      numbers = replicate places 0;
      versions = replicate places 0;
      used = replicate keys false;
      sender_keys = replicate keys 0;
      sender_places = replicate keys 0;
    }

-- Rule T1: the row of a key, or `keys` where the table holds nothing under it.
abbrev pub is_row_of : Table → ℕ → ℕ → Bool
is_row_of t key row = get_or t.used row false && eqb (get_or t.row_keys row 0) key

abbrev pub row_of : Table → ℕ → ℕ
row_of t key = lowest (is_row_of t key) keys

-- Rule T6: the lowest free row, or `keys` where each row has a key.
abbrev pub is_spare : Table → ℕ → Bool
is_spare t row = not (get_or t.used row false)

abbrev pub spare_row : Table → ℕ
spare_row t = lowest (is_spare t) keys

-- place i, put together from its five lists
abbrev pub place_at : Table → ℕ → Place
place_at t i =
    record {
      message_type = get_or t.message_types i 0;
      size = get_or t.sizes i 0;
      owner = get_or t.owners i 0;
      number = get_or t.numbers i 0;
      version = get_or t.versions i 0;
    }

-- Rule T5: the place in which a row holds the fragment with this number, or `places` where it holds none.
abbrev pub is_numbered_lem : (owner number : ℕ) → Place → Bool
is_numbered_lem owner number p = eqb p.owner owner && eqb p.number number

abbrev pub place_of : Table → ℕ → ℕ → ℕ
place_of t row number = lowest (λ i. is_numbered_lem (owner_of row) number (place_at t i)) places

-- Rule T6: the lowest free place, or `places` where none is free.
abbrev pub is_free : Place → Bool
is_free p = eqb p.owner 0

abbrev pub lowest_free : Table → ℕ
lowest_free t = lowest (λ i. is_free (place_at t i)) places

-- Rule T6: the table with a key at a row that was free, and with a fragment at a place.
abbrev pub with_key : Table → (row key time : ℕ) → Table
with_key t row key time =
    record {
      row_keys = set t.row_keys row key;
      firsts = set t.firsts row time;
      message_types = t.message_types;
      sizes = t.sizes;
      owners = t.owners;
      numbers = t.numbers;
      versions = t.versions;
      used = set t.used row true;
      sender_keys = t.sender_keys;
      sender_places = t.sender_places;
    }

abbrev pub with_place : Table → ℕ → Place → Table
with_place t i p =
    record {
      row_keys = t.row_keys;
      firsts = t.firsts;
      message_types = set t.message_types i p.message_type;
      sizes = set t.sizes i p.size;
      owners = set t.owners i p.owner;
      numbers = set t.numbers i p.number;
      versions = set t.versions i p.version;
      used = t.used;
      sender_keys = t.sender_keys;
      sender_places = t.sender_places;
    }

-- Rule T15: the lowest row with a key of this sender, or `keys` where there is none. It says what the sender holds.
abbrev pub is_senders_lem : List Bool → List ℕ → ℕ → ℕ → Bool
is_senders_lem used row-keys sender row = get_or used row false && eqb (sender_of_lem (get_or row-keys row 0)) sender

abbrev pub first_row_in : List Bool → List ℕ → ℕ → ℕ
first_row_in used row-keys sender = lowest (is_senders_lem used row-keys sender) keys

abbrev pub first_row_lem : Table → ℕ → ℕ
first_row_lem t sender = first_row_in t.used t.row_keys sender

-- the lower of two rows
abbrev pub lower_row_lem : ℕ → ℕ → ℕ
lower_row_lem a b = cond (ltb a b) a b

-- Rule T15: what a sender holds as the table says it, how many keys and how many places; nothing, for one without a row.
abbrev pub no_totals : Totals
no_totals = record { keys = 0; places = 0 }

abbrev pub totals_in : (sender-keys sender-places : List ℕ) → ℕ → Totals
totals_in sender-keys sender-places row = cond (ltb row keys) (record { keys = get_or sender-keys row 0; places = get_or sender-places row 0 }) no_totals

abbrev pub totals_of : Table → ℕ → Totals
totals_of t sender = totals_in t.sender_keys t.sender_places (first_row_lem t sender)

-- Rule T15: the table with these totals in a row, and the table with these totals of a sender.
abbrev pub put_totals_lem : Table → ℕ → Totals → Table
put_totals_lem t row held =
    record {
      row_keys = t.row_keys;
      firsts = t.firsts;
      message_types = t.message_types;
      sizes = t.sizes;
      owners = t.owners;
      numbers = t.numbers;
      versions = t.versions;
      used = t.used;
      sender_keys = set t.sender_keys row held.keys;
      sender_places = set t.sender_places row held.places;
    }

abbrev pub with_totals : Table → ℕ → Totals → Table
with_totals t sender held = put_totals_lem t (first_row_lem t sender) held

-- a list of the places once those of an owner are freed: a blank stands where the list of owners has this owner
unfoldable pub wiped : {A : Type 0} → ℕ → A → List ℕ → List A → List A
wiped owner blank [] xs = xs
wiped owner blank (o ∷ os) [] = []
wiped owner blank (o ∷ os) (x ∷ xs) = cond (eqb o owner) blank x ∷ wiped owner blank os xs

-- Rule T12: a row and its places are as fresh ones.
abbrev pub cleared : Table → ℕ → Table
cleared t row =
    record {
      row_keys = set t.row_keys row 0;
      firsts = set t.firsts row 0;
      message_types = wiped (owner_of row) 0 t.owners t.message_types;
      sizes = wiped (owner_of row) 0 t.owners t.sizes;
      owners = wiped (owner_of row) 0 t.owners t.owners;
      numbers = wiped (owner_of row) 0 t.owners t.numbers;
      versions = wiped (owner_of row) 0 t.owners t.versions;
      used = set t.used row false;
      sender_keys = set t.sender_keys row 0;
      sender_places = set t.sender_places row 0;
    }

-- Rule T15: the sender of a row's key, and how many places the row has.
abbrev pub sender_at : Table → ℕ → ℕ
sender_at t row = sender_of_lem (get_or t.row_keys row 0)

abbrev pub places_in : Table → ℕ → ℕ
places_in t row = how_many (λ i. eqb (place_at t i).owner (owner_of row)) places

-- Rule T15: what is left of a sender's totals without one of its keys, which has so many places.
abbrev pub less_key : Totals → ℕ → Totals
less_key held many = record { keys = held.keys - 1; places = held.places - many }

-- Rules T12 and T15: the table after a row's key is dropped. Its sender holds a key less, and its places.
unfoldable pub without : Table → ℕ → Table
without t row = with_totals (cleared t row) (sender_at t row) (less_key (totals_of t (sender_at t row)) (places_in t row))

-- Rules T7 and T12: the key of a row is dropped, if the row has one.
abbrev pub dropped_key_lem : Table → ℕ → Table
dropped_key_lem t row = cond (get_or t.used row false) (without t row) t

-- Rule T1: the payload in place i of the store, from byte 1,492 times i on.
abbrev pub bytes_at : List ℕ → ℕ → ℕ → List ℕ
bytes_at store i size = take size (drop (i * place_size) store)
