-- The fields of a size, one by one.
use mathlib.Core.Path.{refl, ◌∙◌}
use Rattle.fields.specs.Fields.{interface_rows}
use Rattle.fields.specs.Answers.{interface_with, interface_at}
use Rattle.fields.proofs.Laws.{part_crossed}
use Rattle.fields.proofs.interface.Goals as goal

pub returns : goal.returns
unfolding interface_at
returns c =
    let x = c.args in
    (λ i. record { address = c.address_at.ensures i; link_local = c.bytes_at.ensures i; refusal = c.crossed-refusal.result.0 }) ∙
    part_crossed x.s.now x.at interface_rows x.code interface_with _ _ _ _ c.interface_size.ensures c.own_at.ensures refl c.crossed-refusal.ensures
