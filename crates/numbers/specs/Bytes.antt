-- Numbers in bytes. Rule B1: the highest byte stands first.
use Rattle.std.specs.Prelude.{Bool, true, false, ◌&&◌, List, [], ◌∷◌, ◌++◌, ℕ, zero, suc, ◌+◌, ◌*◌, ◌/◌, ◌%◌, ◌<◌, eqb, take, drop, get_or}

-- the number that some bytes say after the number n: each byte is the next digit of base 256
abbrev pub big_endian_after : ℕ → List ℕ → ℕ
big_endian_after n [] = n
big_endian_after n (b ∷ bs) = big_endian_after (n * 256 + b) bs

-- Rule B1: the number that some bytes say.
abbrev pub big_endian : List ℕ → ℕ
big_endian bs = big_endian_after 0 bs

-- the number in the w bytes of s from p on
abbrev pub number_at : ℕ → ℕ → List ℕ → ℕ
number_at w p s = big_endian (take w (drop p s))

-- Rule B1, on writing: the w bytes that say n. Of a number too great for w bytes they are the lowest.
abbrev pub in_bytes : ℕ → ℕ → List ℕ
in_bytes zero n = []
in_bytes (suc w) n = in_bytes w (n / 256) ++ (n % 256 ∷ [])

-- each element is a byte
abbrev pub AllBytes : List ℕ → Type 0
AllBytes s = (i : ℕ) → get_or s i 0 < 256

-- the same bytes
abbrev pub is_same_lem : List ℕ → List ℕ → Bool
is_same_lem [] [] = true
is_same_lem [] (b ∷ t) = false
is_same_lem (a ∷ s) [] = false
is_same_lem (a ∷ s) (b ∷ t) = eqb a b && is_same_lem s t
