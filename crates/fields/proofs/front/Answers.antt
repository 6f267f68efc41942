-- The fields of a size, one by one.
use mathlib.Core.Path.{refl, ◌∙◌}
use Rattle.fields.specs.Fields.{front_rows}
use Rattle.fields.specs.Answers.{front_with, front_of_lem}
use Rattle.fields.proofs.Laws.{part_crossed}
use Rattle.fields.proofs.front.Goals as goal

pub returns : goal.returns
unfolding front_of_lem
returns c =
    let x = c.args in
    (λ i. record { local = c.address_at.ensures i; neighbour = c.address_at-2.ensures i; refusal = c.crossed-refusal.result.0 }) ∙
    part_crossed x.s.now 0 front_rows x.code front_with _ _ _ _ c.front_size.ensures c.own_at.ensures refl c.crossed-refusal.ensures
