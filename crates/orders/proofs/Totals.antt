-- Sums over keys: what changes when one key's share does.
use mathlib.Core.Path.{◌≡◌, refl, sym, ap, ◌∙◌}
use mathlib.Core.List.{List, [], ◌∷◌, map}
use mathlib.Core.Bool.{Bool, true, false, not, ◌||◌, false≢true, true≢false, or-true}
use Prim.Native.Nat.{ℕ, ◌+◌}
use native.Mathlib.Omega.{arith}
use lib.Dec.{eqb}
use borrow.Author.Tests.{eqb-true, eqb-false, eq-eqb, not-true}
use Rattle.orders.specs.Shares.{total, is_in, distinct}
use Rattle.machines.proofs.Lists.{left_true, right_true}

pub total_same : (f g : ℕ → ℕ) (ks : List ℕ) → ((k : ℕ) → is_in k ks ≡ true → f k ≡ g k) → total f ks ≡ total g ks
unfolding total is_in
total_same f g [] same = refl
total_same f g (k ∷ ks) same = rw (same k (rw (eq-eqb k k refl)), total_same f g ks (λ j h. same j (rw (h, or-true (eqb k j)))))

pub total_none : (f : ℕ → ℕ) (ks : List ℕ) → ((k : ℕ) → f k ≡ 0) → total f ks ≡ 0
unfolding total
total_none f [] none = refl
total_none f (k ∷ ks) none = rw (none k, total_none f ks none)

pub total_map : {A : Type 0} (f : ℕ → ℕ) (g : A → ℕ) (xs : List A) → total f (map g xs) ≡ total (λ x. f (g x)) xs
unfolding total
total_map f g [] = refl
total_map f g (x ∷ xs) = rw (total_map f g xs)

pub total_alone : (f : ℕ → ℕ) (k : ℕ) → total f (k ∷ []) ≡ f k
unfolding total
total_alone f k = omega arith

-- the share of one key in the list is new, all others' are as they were
module _ (f g : ℕ → ℕ) (c : ℕ) (others : (k : ℕ) → (k ≡ c → ⊥) → g k ≡ f k) (none : f c ≡ 0) where
  not_there : (ks : List ℕ) → is_in c ks ≡ false → total g ks ≡ total f ks
  unfolding total is_in
  not_there [] h = refl
  not_there (k ∷ ks) h = by_key (eqb k c) refl h (not_there ks)
    where
      by_key : (b : Bool) → eqb k c ≡ b → (b || is_in c ks) ≡ false → (is_in c ks ≡ false → total g ks ≡ total f ks) → total g ks + g k ≡ total f ks + f k
      by_key true e q ih = absurd (true≢false q)
      by_key false e q ih = rw (others k (eqb-false k c e), ih q)

  pub total_one : (ks : List ℕ) → distinct ks ≡ true → is_in c ks ≡ true → total g ks ≡ total f ks + g c
  unfolding total is_in distinct
  total_one [] d h = absurd (false≢true h)
  total_one (k ∷ ks) d h = by_key (eqb k c) refl h (total_one ks (right_true (not (is_in k ks)) _ d))
    where
      by_key : (b : Bool) → eqb k c ≡ b → (b || is_in c ks) ≡ true → (is_in c ks ≡ true → total g ks ≡ total f ks + g c) → total g ks + g k ≡ total f ks + f k + g c
      by_key true e q ih =
          let same : k ≡ c = eqb-true k c e in
          let out : is_in c ks ≡ false = ap (λ (j : ℕ). is_in j ks) (sym same) ∙ not-true (is_in k ks) (left_true (not (is_in k ks)) _ d) in
          omega (arith, not_there ks out, ap g same, ap f same, none)
      by_key false e q ih = omega (arith, ih q, others k (eqb-false k c e))
