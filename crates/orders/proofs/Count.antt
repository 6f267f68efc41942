-- Counting: what passes a test, where each that passes it passes another. Distinct numbers below n are at most n.
use mathlib.Core.Path.{◌≡◌, refl, sym, ◌∙◌}
use mathlib.Core.List.{List, [], ◌∷◌}
use mathlib.Core.Bool.{Bool, true, false, cond, not, ◌||◌, or-true, false≢true}
use Prim.Native.Nat.{ℕ, zero, suc, ◌+◌, ◌≤◌, ◌<◌}
use native.Mathlib.Omega.{arith}
use lib.Dec.{eqb}
use lib.ListN.{length}
use borrow.Author.Tests.{eq-eqb, ne_eqb, not-true}
use Rattle.searching.specs.Count.{how_many}
use Rattle.searching.proofs.Count.{count_none, count_le, count_more}
use Rattle.machines.proofs.Lists.{left_true, right_true}
use Rattle.orders.specs.Shares.{is_in, distinct}

pub count_within : (test test' : ℕ → Bool) (n : ℕ) → ((k : ℕ) → test k ≡ true → test' k ≡ true) → how_many test n ≤ how_many test' n
unfolding how_many
count_within test test' zero within = omega arith
count_within test test' (suc n) within = by_tests (test n) refl (test' n) refl (count_within test test' n within)
  where
    by_tests : (b : Bool) → test n ≡ b → (c : Bool) → test' n ≡ c → how_many test n ≤ how_many test' n → cond b (how_many test n + 1) (how_many test n) ≤ cond c (how_many test' n + 1) (how_many test' n)
    by_tests true e true f h = omega arith
    by_tests true e false f h = absurd (false≢true (sym f ∙ within n e))
    by_tests false e true f h = omega arith
    by_tests false e false f h = omega arith

count_in_lem : (n : ℕ) (ks : List ℕ) → distinct ks ≡ true → ((k : ℕ) → is_in k ks ≡ true → k < n) → length ks ≡ how_many (λ k. is_in k ks) n
unfolding is_in distinct
count_in_lem n [] d below = sym (count_none (λ k. false) n (λ k h. refl))
count_in_lem n (x ∷ ks) d below =
    let out : is_in x ks ≡ false = not-true (is_in x ks) (left_true (not (is_in x ks)) _ d) in
    let rest = count_in_lem n ks (right_true (not (is_in x ks)) _ d) (λ k h. below k (rw (h, or-true (eqb x k)))) in
    let more = count_more (λ k. is_in k ks) (λ k. eqb x k || is_in k ks) x (λ k ne. sym (rw (ne_eqb x k (λ e. ne (sym e))))) n (below x (rw (eq-eqb x x refl))) out (rw (eq-eqb x x refl)) in
    omega arith

pub at_most : (n : ℕ) (ks : List ℕ) → distinct ks ≡ true → ((k : ℕ) → is_in k ks ≡ true → k < n) → length ks ≤ n
at_most n ks d below = omega (arith, count_in_lem n ks d below, count_le (λ k. is_in k ks) n)
