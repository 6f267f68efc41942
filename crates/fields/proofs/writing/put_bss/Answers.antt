-- The shape that the code says.
use mathlib.Core.Bool.{true}
use Rattle.fields.specs.Fields.{bss_rows}
use Rattle.fields.specs.Writing.{bss_bytes}
use Rattle.fields.proofs.Lent.{puts_as, in_code}
use Rattle.fields.proofs.writing.put_bss.Goals as goal

pub returns : goal.returns
returns c =
    let a = c.args in
    let whole = puts_as _ _ a.out.now _ _ (in_code (true) bss_rows a.code c.bss_size.result (bss_bytes a.bss) a.name.now c.bss_size.ensures) (c.put_entry.ensures.answer, c.put_entry.ensures.bytes) in record { answer = whole.0; bytes = whole.1 }
