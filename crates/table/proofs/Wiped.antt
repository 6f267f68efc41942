-- Freeing the places of an owner, list by list: what stands where afterwards, and one law for every loop that does it.
use mathlib.Core.Path.{◌≡◌, refl, sym, ap, ◌∙◌}
use mathlib.Core.List.{List, [], ◌∷◌}
use mathlib.Core.Bool.{Bool, true, false, cond}
use Prim.Native.Nat.{ℕ, zero, suc, ◌+◌, ◌≤◌}
use native.Mathlib.Omega.{arith}
use native.Mathlib.Numerals.{add-one}
use lib.Dec.{eqb}
use lib.ListN.{length, get_or, take, set}
use lib.Seq.{set-get_or, take_all}
use borrow.Author.Tests.{ne_eqb}
use Rattle.table.specs.Rows.{wiped}

module _ {A : Type 0} (owner : ℕ) (blank : A) where
  pub wiped_length : (os : List ℕ) (xs : List A) → length (wiped owner blank os xs) ≡ length xs
  unfolding wiped
  wiped_length [] xs = refl
  wiped_length (o ∷ os) [] = refl
  wiped_length (o ∷ os) (x ∷ xs) = ap suc (wiped_length os xs)

  either_blank : (b : Bool) → blank ≡ cond b blank blank
  either_blank true = refl
  either_blank false = refl

  -- an owner is 1 or more, so a list that is longer than that of the owners stays as it is after the owners' end
  pub wiped_at : 1 ≤ owner → (os : List ℕ) (xs : List A) (i : ℕ) → get_or (wiped owner blank os xs) i blank ≡ cond (eqb (get_or os i 0) owner) blank (get_or xs i blank)
  unfolding wiped
  wiped_at h [] xs i = rw (ne_eqb 0 owner (λ e. omega arith))
  wiped_at h (o ∷ os) [] i = either_blank (eqb (get_or (o ∷ os) i 0) owner)
  wiped_at h (o ∷ os) (x ∷ xs) zero = refl
  wiped_at h (o ∷ os) (x ∷ xs) (suc i) = wiped_at h os xs i

  -- a loop has freed what the first i owners say
  abbrev pub wiped_to : List ℕ → List A → ℕ → List A
  wiped_to os xs i = wiped owner blank (take i os) xs

  pub wiped_none : (os : List ℕ) (xs : List A) → xs ≡ wiped_to os xs 0
  unfolding wiped
  wiped_none os xs = refl

  wiped_next : 1 ≤ owner → (os : List ℕ) (xs : List A) (i : ℕ) (d : A) → set (wiped_to os xs i) i (cond (eqb (get_or os i 0) owner) blank (get_or (wiped_to os xs i) i d)) ≡ wiped_to os xs (suc i)
  unfolding wiped
  wiped_next h [] xs zero d = rw (ne_eqb 0 owner (λ e. omega arith)) (set-get_or xs 0 d)
  wiped_next h [] xs (suc i) d = rw (ne_eqb 0 owner (λ e. omega arith)) (set-get_or xs (suc i) d)
  wiped_next h (o ∷ os) [] zero d = refl
  wiped_next h (o ∷ os) [] (suc i) d = refl
  wiped_next h (o ∷ os) (x ∷ xs) zero d = refl
  wiped_next h (o ∷ os) (x ∷ xs) (suc i) d = ap (λ (r : List A). cond (eqb o owner) blank x ∷ r) (wiped_next h os xs i d)

  -- what stands at i is as it was: the loop comes to it next
  pub wiped_ahead : (os : List ℕ) (xs : List A) (i : ℕ) (d : A) → get_or (wiped_to os xs i) i d ≡ get_or xs i d
  unfolding wiped
  wiped_ahead [] xs zero d = refl
  wiped_ahead [] xs (suc i) d = refl
  wiped_ahead (o ∷ os) [] zero d = refl
  wiped_ahead (o ∷ os) [] (suc i) d = refl
  wiped_ahead (o ∷ os) (x ∷ xs) zero d = refl
  wiped_ahead (o ∷ os) (x ∷ xs) (suc i) d = wiped_ahead os xs i d

  -- one turn of such a loop: a blank is stored where the owner is met, and else nothing
  pub wiped_met : 1 ≤ owner → (os : List ℕ) (xs : List A) (i : ℕ) → eqb (get_or os i 0) owner ≡ true → set (wiped_to os xs i) i blank ≡ wiped_to os xs (i + 1)
  wiped_met h os xs i met =
      ap (λ (b : Bool). set (wiped_to os xs i) i (cond b blank (get_or (wiped_to os xs i) i blank))) (sym met) ∙ wiped_next h os xs i blank ∙ ap (wiped_to os xs) (sym (add-one i))

  pub wiped_passed : 1 ≤ owner → (os : List ℕ) (xs : List A) (i : ℕ) → eqb (get_or os i 0) owner ≡ false → wiped_to os xs i ≡ wiped_to os xs (i + 1)
  wiped_passed h os xs i other =
      sym (set-get_or (wiped_to os xs i) i blank) ∙ ap (λ (b : Bool). set (wiped_to os xs i) i (cond b blank (get_or (wiped_to os xs i) i blank))) (sym other) ∙ wiped_next h os xs i blank ∙ ap (wiped_to os xs) (sym (add-one i))

  pub wiped_all : (os : List ℕ) (xs : List A) (i : ℕ) → length os ≤ i → wiped_to os xs i ≡ wiped owner blank os xs
  wiped_all os xs i h = ap (λ (l : List ℕ). wiped owner blank l xs) (take_all i os h)
