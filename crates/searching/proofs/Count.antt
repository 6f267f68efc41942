-- Laws of `how_many`: none, all, one more or fewer, and two tests.
use mathlib.Core.Path.{◌≡◌, refl, sym}
use mathlib.Core.Bool.{Bool, true, false, cond, ◌&&◌, ◌||◌}
use Prim.Native.Nat.{ℕ, zero, suc, ◌+◌, ◌≤◌, ◌<◌}
use native.Mathlib.Omega.{arith}
use lib.Dec.{eqb}
use borrow.Author.Tests.{eqb-true, eqb-false, eq-eqb, ne_eqb}
use Rattle.searching.specs.Count.{how_many}

-- a number that is counted
abbrev pub one : Bool → ℕ
one b = cond b 1 0

pub count_next : (test : ℕ → Bool) (n : ℕ) → how_many test (suc n) ≡ how_many test n + one (test n)
unfolding how_many
count_next test n = by_test (test n)
  where
    by_test : (b : Bool) → cond b (how_many test n + 1) (how_many test n) ≡ how_many test n + one b
    by_test true = refl
    by_test false = omega arith

pub count_before_all : (test : ℕ → Bool) → 0 ≡ how_many test 0
unfolding how_many
count_before_all test = refl

pub count_same : (test test' : ℕ → Bool) (n : ℕ) → ((k : ℕ) → k < n → test k ≡ test' k) → how_many test n ≡ how_many test' n
unfolding how_many
count_same test test' zero same = refl
count_same test test' (suc n) same = rw (same n (omega arith), count_same test test' n (λ k h. same k (omega arith)))

pub count_none : (test : ℕ → Bool) (n : ℕ) → ((k : ℕ) → k < n → test k ≡ false) → how_many test n ≡ 0
unfolding how_many
count_none test zero none = refl
count_none test (suc n) none = rw (none n (omega arith), count_none test n (λ k h. none k (omega arith)))

pub count_all : (test : ℕ → Bool) (n : ℕ) → ((k : ℕ) → k < n → test k ≡ true) → how_many test n ≡ n
unfolding how_many
count_all test zero all = refl
count_all test (suc n) all = let below = count_all test n (λ k h. all k (omega arith)) in rw (all n (omega arith)) (omega arith)

pub count_le : (test : ℕ → Bool) (n : ℕ) → how_many test n ≤ n
unfolding how_many
count_le test zero = omega arith
count_le test (suc n) = by_test (test n) (count_le test n)
  where
    by_test : (b : Bool) → how_many test n ≤ n → cond b (how_many test n + 1) (how_many test n) ≤ suc n
    by_test true h = omega arith
    by_test false h = omega arith

-- two tests that agree but at one number
module _ (test test' : ℕ → Bool) (i : ℕ) (same : (k : ℕ) → (k ≡ i → ⊥) → test k ≡ test' k) where
  pub count_but_one : (n : ℕ) → i < n → how_many test n + one (test' i) ≡ how_many test' n + one (test i)
  count_but_one zero l = absurd (omega arith)
  count_but_one (suc n) l = by_last (eqb n i) refl (count_but_one n)
    where
      by_last : (b : Bool) → eqb n i ≡ b → (i < n → how_many test n + one (test' i) ≡ how_many test' n + one (test i)) → how_many test (suc n) + one (test' i) ≡ how_many test' (suc n) + one (test i)
      by_last true e below =
          let here : n ≡ i = eqb-true n i e in
          rw (count_next, count_next, ← here) (omega (arith, count_same test test' n (λ k h. same k (λ q. omega arith))))
      by_last false e below =
          let ne = eqb-false n i e in
          rw (count_next, count_next, same n ne) (omega (arith, below (omega (arith, ne))))

  pub count_more : (n : ℕ) → i < n → test i ≡ false → test' i ≡ true → how_many test' n ≡ how_many test n + 1
  count_more n l out in-now = let e = rw (out, in-now) at (count_but_one n l) in omega arith

  pub one_fewer : (n : ℕ) → i < n → how_many test n ≤ how_many test' n + 1
  one_fewer n l = by_test (test i) (count_but_one n l)
    where
      by_test : (b : Bool) → how_many test n + one (test' i) ≡ how_many test' n + one b → how_many test n ≤ how_many test' n + 1
      by_test true e = omega arith
      by_test false e = omega arith

-- one that fails, one that passes
pub count_less : (test : ℕ → Bool) (n i : ℕ) → i < n → test i ≡ false → how_many test n < n
count_less test n i l out =
    let wider : ℕ → Bool = λ k. eqb k i || test k in
    omega (arith, count_more test wider i (λ k ne. sym (rw (ne_eqb k i ne))) n l out (rw (eq-eqb i i refl)), count_le wider n)

pub count_some : (test : ℕ → Bool) (n i : ℕ) → i < n → test i ≡ true → 1 ≤ how_many test n
count_some test zero i l e = absurd (omega arith)
count_some test (suc n) i l e = by_last (eqb n i) refl (count_some test n i)
  where
    by_last : (b : Bool) → eqb n i ≡ b → (i < n → test i ≡ true → 1 ≤ how_many test n) → 1 ≤ how_many test (suc n)
    by_last true q below = let here : n ≡ i = eqb-true n i q in rw (count_next, here, e) (omega arith)
    by_last false q below = let before = below (omega (arith, eqb-false n i q)) e in rw count_next (omega arith)

-- those that pass one of two tests, and those that pass both
count_either : (test test' : ℕ → Bool) (n : ℕ) → how_many (λ k. test k || test' k) n + how_many (λ k. test k && test' k) n ≡ how_many test n + how_many test' n
count_either test test' zero = rw (← count_before_all (λ k. test k || test' k), ← count_before_all (λ k. test k && test' k), ← count_before_all test, ← count_before_all test')
count_either test test' (suc n) = rw (count_next, count_next, count_next, count_next) (by_tests (test n) (test' n) (count_either test test' n))
  where
    by_tests : (b c : Bool) → how_many (λ k. test k || test' k) n + how_many (λ k. test k && test' k) n ≡ how_many test n + how_many test' n
        → (how_many (λ k. test k || test' k) n + one (b || c)) + (how_many (λ k. test k && test' k) n + one (b && c)) ≡ (how_many test n + one b) + (how_many test' n + one c)
    by_tests true true e = omega arith
    by_tests true false e = omega arith
    by_tests false c e = omega arith

pub count_at_most : (test test' : ℕ → Bool) (n : ℕ) → how_many (λ k. test k || test' k) n ≤ how_many test n + how_many test' n
count_at_most test test' n = omega (arith, count_either test test' n)

-- never both
pub count_sum : (test test' : ℕ → Bool) (n : ℕ) → ((k : ℕ) → k < n → test k ≡ true → test' k ≡ false) → how_many (λ k. test k || test' k) n ≡ how_many test n + how_many test' n
count_sum test test' n apart = omega (arith, count_either test test' n, count_none (λ k. test k && test' k) n (λ k h. never_both (test k) (apart k h)))
  where
    never_both : {c : Bool} (b : Bool) → (b ≡ true → c ≡ false) → (b && c) ≡ false
    never_both true out = out refl
    never_both false out = refl
