-- The fields of its size, one by one.
use mathlib.Core.Path.{refl, ◌∙◌}
use Rattle.std.specs.Prelude.{Some}
use Rattle.fields.specs.Fields.{ipv6_rows}
use Rattle.fields.specs.Answers.{ipv6_with, ipv6_at}
use Rattle.fields.proofs.Laws.{part_crossed}
use Rattle.fields.proofs.ipv6.Goals as goal

pub returns : goal.returns
unfolding ipv6_at
returns c =
    let x = c.args in
    (λ i. record { address = c.bytes_at.ensures i; origin = c.bytes_at-2.ensures i; type_ = c.byte_at.ensures i; refusal = c.crossed-refusal.result.0 }) ∙
    part_crossed x.s.now x.at ipv6_rows 24 ipv6_with (Some 33) _ _ _ refl c.own_at.ensures refl c.crossed-refusal.ensures
