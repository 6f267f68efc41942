-- The entry, and its fields one by one.
use mathlib.Core.Path.{refl, ◌∙◌}
use lib.Dec.{eqb}
use Rattle.texts.specs.Texts.{inventory_code}
use Rattle.fields.specs.Fields.{radio_rows}
use Rattle.fields.specs.Answers.{radio_with, radio_at}
use Rattle.fields.proofs.Laws.{entry_crossed}
use Rattle.fields.proofs.radio.Goals as goal

pub returns : goal.returns
unfolding radio_at
returns c =
    let x = c.args in
    (λ i. record { text_start = c.crossed-refusal.result.1.text.start; text_length = c.crossed-refusal.result.1.text.length; id = c.address_at.ensures i; refusal = c.crossed-refusal.result.0 }) ∙
    entry_crossed x.s.now x.at radio_rows x.code radio_with (eqb x.code inventory_code) _ _ _ _ c.radio_size.ensures c.entry_at-found.ensures refl c.crossed-refusal.ensures
