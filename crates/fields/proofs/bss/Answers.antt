-- The entry, and its fields one by one.
use mathlib.Core.Path.{refl, ◌∙◌}
use mathlib.Core.Bool.{true}
use Rattle.fields.specs.Fields.{bss_rows}
use Rattle.fields.specs.Answers.{bss_with, bss_at}
use Rattle.fields.proofs.Laws.{entry_crossed}
use Rattle.fields.proofs.bss.Goals as goal

pub returns : goal.returns
unfolding bss_at
returns c =
    let x = c.args in
    (λ i. record { name_start = c.crossed-refusal.result.1.text.start; name_length = c.crossed-refusal.result.1.text.length; bssid = c.address_at.ensures i; flags = c.byte_at.ensures i; reserved = c.byte_at-2.ensures i; refusal = c.crossed-refusal.result.0 }) ∙
    entry_crossed x.s.now x.at bss_rows x.code bss_with true _ _ _ _ c.bss_size.ensures c.entry_at-found.ensures refl c.crossed-refusal.ensures
