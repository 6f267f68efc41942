-- The numbers from 0 on, in their order.
use mathlib.Core.Path.{◌≡◌, refl, sym, ap, ◌∙◌}
use mathlib.Core.Bool.{Bool, true, false, ◌&&◌, ◌||◌}
use mathlib.Core.List.{List, [], ◌∷◌, map, flatten}
use Prim.Native.Nat.{ℕ, zero, suc, ◌+◌, ◌≤◌}
use native.Mathlib.Omega.{arith}
use lib.Dec.{eqb, leb, ltb}
use lib.ListN.{length, take, drop, get_or, replicate}
use lib.Seq.{drop-cons, take-suc}
use borrow.Author.Tests.{le-leb, lt-leb, lt-ltb, le-ltb, eqb-true, eqb-false, leb-true, leb-false}
use Rattle.pushing.specs.Joining.{in_order_lem}
use Rattle.orders.specs.Shares.{is_in, distinct}
use Rattle.cutting.proofs.Runs.{flat_snoc}

pub count_from : (i n : ℕ) → List ℕ
count_from i zero = []
count_from i (suc n) = i ∷ count_from (suc i) n

pub is_in_lem : (k n i : ℕ) → is_in k (count_from i n) ≡ (leb i k && ltb k (i + n))
unfolding is_in count_from
is_in_lem k zero i = by_test (leb i k) refl
  where
    by_test : (b : Bool) → leb i k ≡ b → false ≡ (b && ltb k (i + 0))
    by_test true e = sym (le-ltb k (i + 0) (omega (arith, leb-true i k e)))
    by_test false e = refl
is_in_lem k (suc n) i = by_test (eqb i k) refl (is_in_lem k n (suc i))
  where
    by_order : (b : Bool) → leb i k ≡ b → (i ≡ k → ⊥) → (leb (suc i) k && ltb k (suc i + n)) ≡ (b && ltb k (i + suc n))
    by_order true e d = let m : suc i + n ≡ i + suc n = omega arith in rw (le-leb (suc i) k (omega (arith, leb-true i k e, d)), m)
    by_order false e d = rw (lt-leb (suc i) k (omega (arith, leb-false i k e)))

    by_test : (b : Bool) → eqb i k ≡ b → is_in k (count_from (suc i) n) ≡ (leb (suc i) k && ltb k (suc i + n)) → (b || is_in k (count_from (suc i) n)) ≡ (leb i k && ltb k (i + suc n))
    by_test true e on = let m : i ≡ k = eqb-true i k e in sym (rw (le-leb i k (omega arith), lt-ltb k (i + suc n) (omega arith)))
    by_test false e on = on ∙ by_order (leb i k) refl (eqb-false i k e)

pub once : (n i : ℕ) → distinct (count_from i n) ≡ true
unfolding distinct count_from
once zero i = refl
once (suc n) i = rw (is_in_lem i n (suc i), lt-leb (suc i) i (omega arith)) (once n (suc i))

pub all_same : {A : Type 0} (a : A) (n i : ℕ) → map (λ (k : ℕ). a) (count_from i n) ≡ replicate n a
unfolding count_from
all_same a zero i = refl
all_same a (suc n) i = ap (λ (l : List _). a ∷ l) (all_same a n (suc i))

pub by_number : {A B : Type 0} (f : A → B) (l : List A) (d : A) (n i : ℕ) → i + n ≤ length l → map (λ (k : ℕ). f (get_or l k d)) (count_from i n) ≡ map f (take n (drop i l))
unfolding count_from
by_number f l d zero i h = refl
by_number f l d (suc n) i h = rw (drop-cons l i d (omega arith), by_number f l d n (suc i) (omega arith))

-- pieces by number, one after the other
pub joined_in_order : (ps : List (List ℕ)) (n : ℕ) → n ≤ length ps → in_order_lem (λ k. get_or ps k []) n ≡ flatten (take n ps)
unfolding in_order_lem flatten
joined_in_order ps zero h = refl
joined_in_order ps (suc n) h = rw (take-suc ps n [], flat_snoc (take n ps) (get_or ps n []), joined_in_order ps n (omega arith))
