-- The shape that the code says.
use Rattle.std.proofs.Common.{ap, ◌∙◌}
use lib.Dec.{eqb}
use Rattle.records.specs.Values.{octets}
use Rattle.texts.specs.Texts.{inventory_code}
use Rattle.fields.specs.Fields.{radio_rows}
use Rattle.fields.specs.PrivateSteps.{made_with}
use Rattle.fields.proofs.Lent.{puts_as, in_code}
use Rattle.fields.proofs.writing.put_radio.Goals as goal

pub returns : goal.returns
returns c =
    let a = c.args in
    let same = ap (λ own. made_with (eqb a.code inventory_code) c.radio_size.result own a.text.now) c.octets_of.ensures ∙
    in_code (eqb a.code inventory_code) radio_rows a.code c.radio_size.result (octets a.id) a.text.now c.radio_size.ensures in
    let whole = puts_as _ _ a.out.now _ _ same (c.put_entry.ensures.answer, c.put_entry.ensures.bytes) in record { answer = whole.0; bytes = whole.1 }
