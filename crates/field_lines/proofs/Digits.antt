-- What a number padded with zeros is, digit by digit; and a text of ASCII.
use Prim.Native.Nat.{ℕ, zero, suc, ◌+◌, ◌/◌, ◌%◌, ◌^◌, ◌<◌, ◌≤◌}
use native.Mathlib.Omega.{arith}
use mathlib.Core.Path.{◌≡◌}
use mathlib.Core.List.{List, [], ◌∷◌}
use mathlib.Core.Logic.{⊎_elim}
use Rattle.std.specs.Fmt.{padded_integral, char_count}
use Rattle.std.specs.Str.{IsAscii}
use Rattle.std.proofs.lemmas.Bool.{cases_lt}
use Rattle.std.proofs.lemmas.Fmt.{decimal_digit, decimal_step}
use Rattle.field_lines.specs.Words.{digits_padded}

pub two_digits : (n : ℕ) → n < 100 → digits_padded 2 n ≡ (48 + n / 10 % 10) ∷ (48 + n % 10) ∷ []
unfolding padded_integral char_count
two_digits n small =
    let high : n / 10 % 10 ≡ n / 10 = omega arith in
    let fits : n < 2 ^ 64 = omega arith in
    let front : n / 10 < 10 = omega arith in
    ⊎_elim
    (λ (one : n < 10). let none : n / 10 ≡ 0 = omega arith in let low : n % 10 ≡ n = omega arith in rw (decimal_digit n one, high, none, low))
    (λ (two : 10 ≤ n). rw (decimal_step n two fits, decimal_digit (n / 10) front, high))
    (cases_lt n 10)

pub three_digits : (n : ℕ) → n < 1000 → digits_padded 3 n ≡ (48 + n / 100 % 10) ∷ (48 + n / 10 % 10) ∷ (48 + n % 10) ∷ []
unfolding padded_integral char_count
three_digits n small =
    let first : n / 100 % 10 ≡ n / 10 / 10 = omega arith in
    let fits : n < 2 ^ 64 = omega arith in
    let front_fits : n / 10 < 2 ^ 64 = omega arith in
    let front : n / 10 / 10 < 10 = omega arith in
    ⊎_elim
    (λ (one : n < 10). let none : n / 10 ≡ 0 = omega arith in let low : n % 10 ≡ n = omega arith in rw (decimal_digit n one, first, none, low))
    (λ (more : 10 ≤ n). ⊎_elim
    (λ (two : n / 10 < 10).
    let none : n / 10 / 10 ≡ 0 = omega arith in
    let high : n / 10 % 10 ≡ n / 10 = omega arith in
    rw (decimal_step n more fits, decimal_digit (n / 10) two, first, none, high))
    (λ (three : 10 ≤ n / 10). rw (decimal_step n more fits, decimal_step (n / 10) three front_fits, decimal_digit (n / 10 / 10) front, first))
    (cases_lt (n / 10) 10))
    (cases_lt n 10)

-- each byte, one after the other
abbrev pub EachAscii : List ℕ → Type 0
EachAscii [] = Unit {0}
EachAscii (b ∷ bs) = (b < 128) × EachAscii bs

pub IsAscii-from_each : (bs : List ℕ) → EachAscii bs → IsAscii bs
IsAscii-from_each [] each i = omega arith
IsAscii-from_each (b ∷ bs) each zero = each.0
IsAscii-from_each (b ∷ bs) each (suc i) = IsAscii-from_each bs each.1 i
