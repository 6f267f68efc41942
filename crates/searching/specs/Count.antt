-- How many numbers pass a test. It counts the keys that a sweep drops (rule S2), what a sender holds (rule T15) and the
-- stations held (rule P7).
use Rattle.std.specs.Prelude.{Bool, cond, ℕ, zero, suc, ◌+◌}

-- how many numbers below n pass the test
unfoldable pub how_many : (ℕ → Bool) → ℕ → ℕ
how_many test zero = 0
how_many test (suc n) = cond (test n) (how_many test n + 1) (how_many test n)
