-- What holds of every table that the calls make from a fresh one (rules T1, T5 and T6). Its lists have their lengths.
-- Each place's size and number are in range. A place that is not free belongs to a row that has a key, and no other
-- place of that row has its number. No key has two rows.
use Rattle.std.specs.Prelude.{◌≡◌, true, false, ℕ, ◌≤◌, ◌<◌, length, get_or}
use Rattle.table.specs.declared.Table.{Table}
use Rattle.table.specs.Rows.{keys, places, place_size, owner_of, place_at}

-- the five lists have their length
pub record Long (t : Table) : Type 0 where
  pub types : length t.message_types ≡ places
  pub sizes : length t.sizes ≡ places
  pub owners : length t.owners ≡ places
  pub numbers : length t.numbers ≡ places
  pub versions : length t.versions ≡ places

pub record Sound (t : Table) : Type 0 where
  pub row_keys_long : length t.row_keys ≡ keys
  pub firsts_long : length t.firsts ≡ keys
  pub places_long : Long t
  pub used_long : length t.used ≡ keys
  pub sender_keys_long : length t.sender_keys ≡ keys
  pub sender_places_long : length t.sender_places ≡ keys
  pub small : (i : ℕ) → (place_at t i).size ≤ place_size
  pub byte : (i : ℕ) → (place_at t i).number < 256
  -- a place belongs to a row that a key has
  pub owned : (i row : ℕ) → (place_at t i).owner ≡ owner_of row → get_or t.used row false ≡ true
  -- a row has each number once
  pub once : (i j row : ℕ) → (place_at t i).owner ≡ owner_of row → (place_at t j).owner ≡ owner_of row → (place_at t i).number ≡ (place_at t j).number → i ≡ j
  -- a key has one row
  pub keyed : (r s : ℕ) → get_or t.used r false ≡ true → get_or t.used s false ≡ true → get_or t.row_keys r 0 ≡ get_or t.row_keys s 0 → r ≡ s
