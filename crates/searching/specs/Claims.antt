-- What is claimed of looking up and of counting; proofs/Claims.antt proves it.
use Rattle.std.specs.Prelude.{◌≡◌, Bool, true, false, ◌||◌, ℕ, ◌+◌, ◌≤◌, ◌<◌}
use Rattle.searching.specs.Search.{lowest}
use Rattle.searching.specs.Count.{how_many}

-- what a search finds, among the numbers below n
pub record LowestIs (test : ℕ → Bool) (n : ℕ) : Type 0 where
  pub within : lowest test n ≤ n
  -- it passes, if it is one of them, and no number before it does
  pub passes : lowest test n < n → test (lowest test n) ≡ true
  pub first : (i : ℕ) → i < lowest test n → test i ≡ false
  -- a number that passes, with none before it, is the one that is found
  pub only : (i : ℕ) → i < n → test i ≡ true → ((j : ℕ) → j < i → test j ≡ false) → i ≡ lowest test n
  pub none : ((j : ℕ) → j < n → test j ≡ false) → n ≡ lowest test n

-- how many pass, among the numbers below n
pub record CountIs (test : ℕ → Bool) (n : ℕ) : Type 0 where
  pub at_most : how_many test n ≤ n
  pub none : ((k : ℕ) → k < n → test k ≡ false) → how_many test n ≡ 0
  pub all : ((k : ℕ) → k < n → test k ≡ true) → how_many test n ≡ n
  -- one that fails, one that passes
  pub not_all : (i : ℕ) → i < n → test i ≡ false → how_many test n < n
  pub not_none : (i : ℕ) → i < n → test i ≡ true → 1 ≤ how_many test n

-- tests that agree find and count the same
pub record Agreeing : Type 0 where
  pub found : (test test' : ℕ → Bool) (n : ℕ) → ((i : ℕ) → i < n → test i ≡ test' i) → lowest test n ≡ lowest test' n
  pub counted : (test test' : ℕ → Bool) (n : ℕ) → ((i : ℕ) → i < n → test i ≡ test' i) → how_many test n ≡ how_many test' n

-- one number more passes
abbrev pub OneMore : Type 0
OneMore = (test test' : ℕ → Bool) (i : ℕ) → ((k : ℕ) → (k ≡ i → ⊥) → test k ≡ test' k) → (n : ℕ) → i < n → test i ≡ false → test' i ≡ true → how_many test' n ≡ how_many test n + 1

-- numbers that pass one of two tests: at most so many,
abbrev pub AtMostSum : Type 0
AtMostSum = (test test' : ℕ → Bool) (n : ℕ) → how_many (λ k. test k || test' k) n ≤ how_many test n + how_many test' n

-- and just so many where none passes both
abbrev pub SumOfTwo : Type 0
SumOfTwo = (test test' : ℕ → Bool) (n : ℕ) → ((k : ℕ) → k < n → test k ≡ true → test' k ≡ false) → how_many (λ k. test k || test' k) n ≡ how_many test n + how_many test' n

-- everything that is claimed of this crate
pub record Claims : Type 0 where
  pub finds : (test : ℕ → Bool) (n : ℕ) → LowestIs test n
  pub counts : (test : ℕ → Bool) (n : ℕ) → CountIs test n
  pub agreeing : Agreeing
  pub one_more : OneMore
  pub at_most_sum : AtMostSum
  pub sum_of_two : SumOfTwo
