use Rattle.std.proofs.Common.{rules, ◌∷◌, []}
use Rattle.field_lines.proofs.Digits.{IsAscii-from_each}
use Rattle.field_lines.proofs.words.address_bytes.Goals as goal

pub returns-clause-ascii : goal.returns-clause-ascii
returns-clause-ascii c = IsAscii-from_each
    (c.hex_digit.result ∷ c.hex_digit-2.result ∷ 58 ∷ c.hex_digit-3.result ∷ c.hex_digit-4.result ∷ 58 ∷ c.hex_digit-5.result ∷ c.hex_digit-6.result ∷ 58
    ∷ c.hex_digit-7.result ∷ c.hex_digit-8.result ∷ 58 ∷ c.hex_digit-9.result ∷ c.hex_digit-10.result ∷ 58 ∷ c.hex_digit-11.result ∷ c.hex_digit-12.result ∷ [])
    (search rules)
