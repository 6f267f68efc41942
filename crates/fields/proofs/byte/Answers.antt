-- The fields of a size, one by one.
use mathlib.Core.Path.{refl, ◌∙◌}
use Rattle.fields.specs.Fields.{byte_rows}
use Rattle.fields.specs.Answers.{byte_with, byte_at}
use Rattle.fields.proofs.Laws.{part_crossed}
use Rattle.fields.proofs.byte.Goals as goal

pub returns : goal.returns
unfolding byte_at
returns c =
    let x = c.args in
    (λ i. record { byte = c.byte_at.ensures i; refusal = c.crossed-refusal.result.0 }) ∙
    part_crossed x.s.now x.at byte_rows x.code byte_with _ _ _ _ c.single_size.ensures c.own_at.ensures refl c.crossed-refusal.ensures
