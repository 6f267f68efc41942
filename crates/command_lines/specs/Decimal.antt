-- Decimal numbers as commands have them.
use Rattle.std.specs.Prelude.{ℕ, ◌+◌, ◌*◌, ◌%◌, min, cond, List, drop, ℤ, pos, negsuc, neg_ℤ, ◌==◌, slice_index}
use Rattle.std.specs.List.{fold}

-- a number with a digit after it, the digit's byte less that of 0; one that needs more than 64 bits is the greatest
-- that doesn't
unfoldable pub with_digit_lem : ℕ → ℕ → ℕ
with_digit_lem n digit = min (n * 10 + (digit + 208) % 256) 18446744073709551615

-- the number of these digits
abbrev pub number_of : List ℕ → ℕ
number_of s = fold with_digit_lem 0 s

-- the number of these digits, which has a `-` in front where it is below zero
unfoldable pub signed_of : List ℕ → ℤ
signed_of s = cond (slice_index s 0 == 45) (neg_ℤ (pos (number_of (drop 1 s)))) (pos (number_of s))

-- the nearest of the numbers from -(most + 1) to most, which are those of a signed type
unfoldable pub nearest : ℕ → ℤ → ℤ
nearest most (pos n) = pos (min n most)
nearest most (negsuc n) = negsuc (min n most)
