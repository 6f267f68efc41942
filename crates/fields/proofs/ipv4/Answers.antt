-- The fields of its size, one by one.
use mathlib.Core.Path.{refl, ◌∙◌}
use Rattle.std.specs.Prelude.{Some}
use Rattle.fields.specs.Fields.{ipv4_rows}
use Rattle.fields.specs.Answers.{ipv4_with, ipv4_at}
use Rattle.fields.proofs.Laws.{part_crossed}
use Rattle.fields.proofs.ipv4.Goals as goal

pub returns : goal.returns
unfolding ipv4_at
returns c =
    let x = c.args in
    (λ i. record { address = c.bytes_at.ensures i; dhcp_server = c.bytes_at-2.ensures i; type_ = c.byte_at.ensures i; refusal = c.crossed-refusal.result.0 }) ∙
    part_crossed x.s.now x.at ipv4_rows 23 ipv4_with (Some 9) _ _ _ refl c.own_at.ensures refl c.crossed-refusal.ensures
