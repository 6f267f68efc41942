-- What the loop of `without_key` has done: the places below i are freed, if the owner has them.
use mathlib.Core.Path.{◌≡◌, refl, sym, ap, ◌∙◌}
use mathlib.Core.List.{List}
use mathlib.Core.Bool.{Bool, true, false, cond}
use Prim.{⊥}
use Prim.Native.Nat.{ℕ, ◌+◌, ◌-◌, ◌≤◌, ◌<◌}
use native.Mathlib.Omega.{arith}
use native.Mathlib.Nat.{add-zero}
use native.Mathlib.Numerals.{add-one}
use lib.Dec.{eqb, ltb}
use lib.ListN.{length, get_or, set, length-set}
use lib.Seq.{set_out, get_or-set_other}
use borrow.Author.Tests.{eq-eqb, ne_eqb, lt-ltb, ltb-false}
use Rattle.table.specs.declared.Table.{Table}
use Rattle.table.specs.declared.Totals.{Totals}
use Rattle.table.specs.Rows.{owner_of, free_place, with_place, is_senders_lem, first_row_lem, lower_row_lem, totals_in, totals_of, put_totals_lem, with_totals, cleared, sender_at, places_in, less_key, without}
use Rattle.searching.specs.Count.{how_many}
use Rattle.searching.proofs.Search.{lowest_with}
use Rattle.searching.proofs.Count.{count_next}
use Rattle.table.proofs.Wiped.{wiped_to, wiped_none, wiped_ahead, wiped_met, wiped_passed, wiped_all}

-- the table without a row's key, whose places are not freed yet
abbrev pub row_cleared : Table → ℕ → Table
row_cleared t row =
    record {
      row_keys = set t.row_keys row 0;
      firsts = set t.firsts row 0;
      message_types = t.message_types;
      sizes = t.sizes;
      owners = t.owners;
      numbers = t.numbers;
      versions = t.versions;
      used = set t.used row false;
      sender_keys = set t.sender_keys row 0;
      sender_places = set t.sender_places row 0;
    }

-- a table whose lists of places are these, made from its own by one rule
abbrev each_list : (List ℕ → List ℕ) → Table → Table
each_list rule t =
    record {
      row_keys = t.row_keys;
      firsts = t.firsts;
      message_types = rule t.message_types;
      sizes = rule t.sizes;
      owners = rule t.owners;
      numbers = rule t.numbers;
      versions = rule t.versions;
      used = t.used;
      sender_keys = t.sender_keys;
      sender_places = t.sender_places;
    }

abbrev pub freed_to : ℕ → Table → ℕ → Table
freed_to owner t i = each_list (λ xs. wiped_to owner 0 t.owners xs i) t

-- one law for each list is one for the table
by_rule : (f g : List ℕ → List ℕ) → ((xs : List ℕ) → f xs ≡ g xs) → (t : Table) → each_list f t ≡ each_list g t
by_rule f g same t =
    λ j. record {
      row_keys = t.row_keys;
      firsts = t.firsts;
      message_types = same t.message_types j;
      sizes = same t.sizes j;
      owners = same t.owners j;
      numbers = same t.numbers j;
      versions = same t.versions j;
      used = t.used;
      sender_keys = t.sender_keys;
      sender_places = t.sender_places;
    }

-- a table with these lists of totals
abbrev pub retold : Table → (sender-keys sender-places : List ℕ) → Table
retold t sender-keys sender-places =
    record {
      row_keys = t.row_keys;
      firsts = t.firsts;
      message_types = t.message_types;
      sizes = t.sizes;
      owners = t.owners;
      numbers = t.numbers;
      versions = t.versions;
      used = t.used;
      sender_keys = sender-keys;
      sender_places = sender-places;
    }

pub freed_none : (owner : ℕ) (t : Table) → t ≡ freed_to owner t 0
freed_none owner t = by_rule (λ xs. xs) (λ xs. wiped_to owner 0 t.owners xs 0) (wiped_none owner 0 t.owners) t

module _ (owner : ℕ) (real : 1 ≤ owner) (t : Table) where
  module _ (n : Table) (i : ℕ) (so_far : n ≡ freed_to owner t i) where
    -- the owner that the loop reads is the one that stood there
    read_is : get_or n.owners i 0 ≡ get_or t.owners i 0
    read_is = ap (λ (z : Table). get_or z.owners i 0) so_far ∙ wiped_ahead owner 0 t.owners t.owners i 0

    pub freed_met : get_or n.owners i 0 ≡ owner → with_place n i free_place ≡ freed_to owner t (i + 1)
    freed_met met =
        ap (λ (z : Table). with_place z i free_place) so_far
        ∙ by_rule (λ xs. set (wiped_to owner 0 t.owners xs i) i 0) (λ xs. wiped_to owner 0 t.owners xs (i + 1))
        (λ xs. wiped_met owner 0 real t.owners xs i (eq-eqb (get_or t.owners i 0) owner (sym read_is ∙ met))) t

    pub freed_passed : (get_or n.owners i 0 ≡ owner → ⊥) → n ≡ freed_to owner t (i + 1)
    freed_passed other =
        so_far
        ∙ by_rule (λ xs. wiped_to owner 0 t.owners xs i) (λ xs. wiped_to owner 0 t.owners xs (i + 1))
        (λ xs. wiped_passed owner 0 real t.owners xs i (ne_eqb (get_or t.owners i 0) owner (λ e. other (read_is ∙ e)))) t

    -- how many they are
    abbrev owns : ℕ → Bool
    owns j = eqb (get_or t.owners j 0) owner

    pub counted_met : get_or n.owners i 0 ≡ owner → (many : ℕ) → many ≡ how_many owns i → many + 1 ≡ how_many owns (i + 1)
    counted_met met many e = rw (e, add-one i, count_next owns i, eq-eqb (get_or t.owners i 0) owner (sym read_is ∙ met))

    pub counted_passed : (get_or n.owners i 0 ≡ owner → ⊥) → (many : ℕ) → many ≡ how_many owns i → many ≡ how_many owns (i + 1)
    counted_passed other many e = rw (e, add-one i, count_next owns i, ne_eqb (get_or t.owners i 0) owner (λ q. other (read_is ∙ q)), add-zero)

pub freed_all : (t : Table) (row i : ℕ) → length t.owners ≤ i → freed_to (owner_of row) (row_cleared t row) i ≡ cleared t row
freed_all t row i behind =
    by_rule (λ xs. wiped_to (owner_of row) 0 t.owners xs i) _ (λ xs. wiped_all (owner_of row) 0 t.owners xs i behind) (row_cleared t row)

-- the lower of two rows is one of the table's if the first is
pub lower_inside : (row next : ℕ) → row < 16 → lower_row_lem row next < 16
lower_inside row next h = by_order (ltb row next) refl
  where
    by_order : (b : Bool) → ltb row next ≡ b → cond b row next < 16
    by_order true e = h
    by_order false e = omega (arith, ltb-false row next e)

-- a row's key is dropped
module _ (t : Table) (row : ℕ) (in-16 : row < 16) (used : get_or t.used row false ≡ true) (n : Table) (done : n ≡ cleared t row) (sender next : ℕ) (its : sender ≡ sender_at t row) (is : next ≡ first_row_lem (cleared t row) sender) where
  next_is_lem : next ≡ first_row_lem (cleared t row) (sender_at t row)
  next_is_lem = is ∙ ap (first_row_lem (cleared t row)) its

  -- its sender's totals were in this row or in the next one, whichever is lower
  first_is : lower_row_lem row next ≡ first_row_lem t (sender_at t row)
  first_is =
      ap (lower_row_lem row) next_is_lem
      ∙ sym (lowest_with (is_senders_lem t.used t.row_keys (sender_at t row)) (is_senders_lem (cleared t row).used (cleared t row).row_keys (sender_at t row)) 16 row in-16
      (rw (used, eq-eqb (sender_at t row) (sender_at t row) refl)) (λ k ne. sym (rw (get_or-set_other t.used row k false false ne, get_or-set_other t.row_keys row k 0 0 ne))))

  abbrev held : Totals
  held = totals_of t (sender_at t row)

  held_is : held ≡ record { keys = get_or t.sender_keys (lower_row_lem row next) 0; places = get_or t.sender_places (lower_row_lem row next) 0 }
  held_is = sym (ap (totals_in t.sender_keys t.sender_places) first_is) ∙ rw (lt-ltb _ _ (lower_inside row next in-16))

  abbrev rest : Totals
  rest = less_key held (places_in t row)

  -- what is left of them goes to the next row, if there is one
  pub lowered : (first : ℕ) → first ≡ lower_row_lem row next → (many many' : ℕ) → many ≡ get_or t.sender_keys first 0 - 1 → many' ≡ get_or t.sender_places first 0 - places_in t row
      → put_totals_lem n next (record { keys = many; places = many' }) ≡ without t row
  unfolding without
  lowered first low many many' e f =
      ap (λ (z : Table). put_totals_lem z next (record { keys = many; places = many' })) done
      ∙ ap (λ (r : ℕ). put_totals_lem (cleared t row) r (record { keys = many; places = many' })) next_is_lem
      ∙ ap (with_totals (cleared t row) (sender_at t row)) (λ i. record { keys = keys_are i; places = places_are i })
    where
      keys_are : many ≡ rest.keys
      keys_are = e ∙ ap (λ (r : ℕ). get_or t.sender_keys r 0 - 1) low ∙ ap (λ (z : Totals). z.keys - 1) (sym held_is)

      places_are : many' ≡ rest.places
      places_are = f ∙ ap (λ (r : ℕ). get_or t.sender_places r 0 - places_in t row) low ∙ ap (λ (z : Totals). z.places - places_in t row) (sym held_is)

  pub none_left : length t.sender_keys ≡ 16 → length t.sender_places ≡ 16 → 16 ≤ next → n ≡ without t row
  unfolding without
  none_left long long' out =
      done
      ∙ (λ i. retold (cleared t row) (sym (set_out (cleared t row).sender_keys (first_row_lem (cleared t row) (sender_at t row)) rest.keys (omega (arith, next_is_lem, length-set t.sender_keys row 0))) i)
      (sym (set_out (cleared t row).sender_places (first_row_lem (cleared t row) (sender_at t row)) rest.places (omega (arith, next_is_lem, length-set t.sender_places row 0))) i))
