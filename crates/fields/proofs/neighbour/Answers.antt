-- The fields of a size, one by one.
use mathlib.Core.Path.{refl, ◌∙◌}
use Rattle.fields.specs.Fields.{neighbour_rows}
use Rattle.fields.specs.Answers.{neighbour_with, neighbour_at}
use Rattle.fields.proofs.Laws.{part_crossed}
use Rattle.fields.proofs.neighbour.Goals as goal

pub returns : goal.returns
unfolding neighbour_at
returns c =
    let x = c.args in
    (λ i. record { address = c.address_at.ensures i; flags = c.byte_at.ensures i; refusal = c.crossed-refusal.result.0 }) ∙
    part_crossed x.s.now x.at neighbour_rows x.code neighbour_with _ _ _ _ c.neighbour_size.ensures c.own_at.ensures refl c.crossed-refusal.ensures
