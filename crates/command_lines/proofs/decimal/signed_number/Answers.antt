-- With a `-` in front the number is that of what follows it.
use Rattle.std.proofs.Common.{◌≡◌, ℕ, get_or, pos, neg_ℤ, sym, ap, ◌∙◌}
use Rattle.command_lines.specs.Decimal.{number_of, signed_of, nearest}
use Rattle.command_lines.proofs.Signed.{given_back, with_minus, without_minus}
use Rattle.command_lines.proofs.decimal.signed_number.Goals as goal

pub returns-then-byte_at-eq45 : goal.returns-then-byte_at-eq45
returns-then-byte_at-eq45 c =
    let s = c.args.s.now in
    let digits = c.number.ensures ∙ ap number_of c.part.ensures in
    let value = ap (λ (n : ℕ). nearest 2147483647 (neg_ℤ (pos n))) digits in
    let minus = sym c.byte_at.ensures ∙ c.if-byte_at-eq45.true in
    given_back _ (signed_of s) (c.below_zero.ensures ∙ value ∙ ap (nearest 2147483647) (with_minus s minus))

pub returns-else-byte_at-eq45 : goal.returns-else-byte_at-eq45
returns-else-byte_at-eq45 c =
    let s = c.args.s.now in
    let value = ap (λ (n : ℕ). nearest 2147483647 (pos n)) c.number-else-byte_at-eq45.ensures in
    let none : ¬ (get_or s 0 0 ≡ 45) = λ e. c.if-byte_at-eq45.false (c.byte_at.ensures ∙ e) in
    given_back _ (signed_of s) (c.above_zero.ensures ∙ value ∙ ap (nearest 2147483647) (without_minus s none))
