use Rattle.std.proofs.Common.{rules, ◌∷◌, []}
use Rattle.field_lines.proofs.Digits.{IsAscii-from_each}
use Rattle.field_lines.proofs.words.time_bytes.Goals as goal

pub returns-clause-ascii : goal.returns-clause-ascii
returns-clause-ascii c = IsAscii-from_each
    (c.last_digit.result ∷ c.last_digit-2.result ∷ 58 ∷ c.last_digit-3.result ∷ c.last_digit-4.result ∷ 58 ∷ c.last_digit-5.result ∷ c.last_digit-6.result
    ∷ 46 ∷ c.last_digit-7.result ∷ c.last_digit-8.result ∷ c.last_digit-9.result ∷ [])
    (search rules)
