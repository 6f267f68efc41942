-- Places, put together from their five lists, after each change: a fragment is put, a key is dropped. The laws that only go through a place's own words stand on these.
use mathlib.Core.Path.{◌≡◌, refl, sym, ap, ◌∙◌, subst}
use mathlib.Core.List.{List}
use mathlib.Core.Bool.{Bool, true, false, cond}
use Prim.Native.Nat.{ℕ, zero, suc, ◌<◌}
use native.Mathlib.Omega.{arith}
use lib.Dec.{eqb}
use lib.ListN.{length, get_or, set, replicate, length-set, length-replicate}
use lib.Seq.{get_or-set_same, get_or-set_other}
use borrow.Author.Tests.{eqb-true, eqb-false}
use Rattle.table.specs.declared.Table.{Table}
use Rattle.table.specs.Sound.{Long}
use Rattle.table.specs.Rows.{Place, owner_of, free_place, fresh_table, place_at, with_place, without}
use Rattle.table.proofs.Wiped.{wiped_length, wiped_at}

pub fresh_long : Long fresh_table
fresh_long = record {
  types = length-replicate {A = ℕ} 32 0;
  sizes = length-replicate {A = ℕ} 32 0;
  owners = length-replicate {A = ℕ} 32 0;
  numbers = length-replicate {A = ℕ} 32 0;
  versions = length-replicate {A = ℕ} 32 0;
}

pub put_long : (t : Table) → Long t → (i : ℕ) (p : Place) → Long (with_place t i p)
put_long t l i p = record {
  types = length-set t.message_types i p.message_type ∙ l.types;
  sizes = length-set t.sizes i p.size ∙ l.sizes;
  owners = length-set t.owners i p.owner ∙ l.owners;
  numbers = length-set t.numbers i p.number ∙ l.numbers;
  versions = length-set t.versions i p.version ∙ l.versions;
}

pub drop_long : (t : Table) → Long t → (row : ℕ) → Long (without t row)
unfolding without
drop_long t l row = record {
  types = wiped_length (owner_of row) 0 t.owners t.message_types ∙ l.types;
  sizes = wiped_length (owner_of row) 0 t.owners t.sizes ∙ l.sizes;
  owners = wiped_length (owner_of row) 0 t.owners t.owners ∙ l.owners;
  numbers = wiped_length (owner_of row) 0 t.owners t.numbers ∙ l.numbers;
  versions = wiped_length (owner_of row) 0 t.owners t.versions ∙ l.versions;
}

-- a list of one element, and an element after one was set
pub all_same : {A : Type 0} (n i : ℕ) (a : A) → get_or (replicate n a) i a ≡ a
all_same zero i a = refl
all_same (suc n) zero a = refl
all_same (suc n) (suc i) a = all_same n i a

pub after_set : {A : Type 0} (P : A → Type 0) (l : List A) (i j : ℕ) (a d : A) → i < length l → (j ≡ i → P a) → ((j ≡ i → ⊥) → P (get_or l j d)) → P (get_or (set l i a) j d)
after_set P l i j a d h here other = by_index (eqb j i) refl
  where
    by_index : (b : Bool) → eqb j i ≡ b → P (get_or (set l i a) j d)
    by_index false e = subst P (sym (get_or-set_other l i j a d (eqb-false j i e))) (other (eqb-false j i e))
    by_index true e = subst P (sym (ap (λ (k : ℕ). get_or (set l i a) k d) (eqb-true j i e) ∙ get_or-set_same l i a d h)) (here (eqb-true j i e))

pub fresh_place : (i : ℕ) → place_at fresh_table i ≡ free_place
fresh_place i = λ j. record {
  message_type = all_same {A = ℕ} 32 i 0 j;
  size = all_same {A = ℕ} 32 i 0 j;
  owner = all_same {A = ℕ} 32 i 0 j;
  number = all_same {A = ℕ} 32 i 0 j;
  version = all_same {A = ℕ} 32 i 0 j;
}

-- a place after a fragment was put
module _ (t : Table) (i : ℕ) (p : Place) where
  pub put_here : Long t → i < 32 → place_at (with_place t i p) i ≡ p
  put_here l h = λ j. record {
    message_type = get_or-set_same t.message_types i p.message_type 0 (omega (arith, l.types)) j;
    size = get_or-set_same t.sizes i p.size 0 (omega (arith, l.sizes)) j;
    owner = get_or-set_same t.owners i p.owner 0 (omega (arith, l.owners)) j;
    number = get_or-set_same t.numbers i p.number 0 (omega (arith, l.numbers)) j;
    version = get_or-set_same t.versions i p.version 0 (omega (arith, l.versions)) j;
  }

  pub put_elsewhere : (k : ℕ) → (k ≡ i → ⊥) → place_at (with_place t i p) k ≡ place_at t k
  put_elsewhere k ne = λ j. record {
    message_type = get_or-set_other t.message_types i k p.message_type 0 ne j;
    size = get_or-set_other t.sizes i k p.size 0 ne j;
    owner = get_or-set_other t.owners i k p.owner 0 ne j;
    number = get_or-set_other t.numbers i k p.number 0 ne j;
    version = get_or-set_other t.versions i k p.version 0 ne j;
  }

  pub after_put : Long t → i < 32 → (P : Place → Type 0) (k : ℕ) → (k ≡ i → P p) → ((k ≡ i → ⊥) → P (place_at t k)) → P (place_at (with_place t i p) k)
  after_put l h P k here other = by_index (eqb k i) refl
    where
      by_index : (b : Bool) → eqb k i ≡ b → P (place_at (with_place t i p) k)
      by_index false e = subst P (sym (put_elsewhere k (eqb-false k i e))) (other (eqb-false k i e))
      by_index true e = subst P (sym (ap (place_at (with_place t i p)) (eqb-true k i e) ∙ put_here l h)) (here (eqb-true k i e))

-- and after a row's key was dropped
abbrev pub freed : ℕ → Place → Place
freed row p = cond (eqb p.owner (owner_of row)) free_place p

-- which is so, list by list
abbrev freed_in : Place → Bool → Place
freed_in p b = record {
  message_type = cond b 0 p.message_type;
  size = cond b 0 p.size;
  owner = cond b 0 p.owner;
  number = cond b 0 p.number;
  version = cond b 0 p.version;
}

pub freed_at : (t : Table) (row i : ℕ) → place_at (without t row) i ≡ freed row (place_at t i)
unfolding without
freed_at t row i = listwise ∙ together (eqb (place_at t i).owner (owner_of row))
  where
    listwise : place_at (without t row) i ≡ freed_in (place_at t i) (eqb (place_at t i).owner (owner_of row))
    listwise = λ j. record {
      message_type = wiped_at (owner_of row) 0 (omega arith) t.owners t.message_types i j;
      size = wiped_at (owner_of row) 0 (omega arith) t.owners t.sizes i j;
      owner = wiped_at (owner_of row) 0 (omega arith) t.owners t.owners i j;
      number = wiped_at (owner_of row) 0 (omega arith) t.owners t.numbers i j;
      version = wiped_at (owner_of row) 0 (omega arith) t.owners t.versions i j;
    }

    together : (b : Bool) → freed_in (place_at t i) b ≡ cond b free_place (place_at t i)
    together true = refl
    together false = refl

pub after_drop : (t : Table) (row : ℕ) (P : Place → Type 0) (i : ℕ) → ((place_at t i).owner ≡ owner_of row → P free_place) → (((place_at t i).owner ≡ owner_of row → ⊥) → P (place_at t i)) → P (place_at (without t row) i)
after_drop t row P i free other = subst P (sym (freed_at t row i)) (by_owner (eqb (place_at t i).owner (owner_of row)) refl)
  where
    by_owner : (b : Bool) → eqb (place_at t i).owner (owner_of row) ≡ b → P (cond b free_place (place_at t i))
    by_owner true e = free (eqb-true _ _ e)
    by_owner false e = other (eqb-false _ _ e)
