-- The shape that the code says.
use mathlib.Core.Bool.{false}
use mathlib.Core.List.{[], ◌∷◌}
use Rattle.fields.specs.Fields.{byte_rows}
use Rattle.fields.proofs.Lent.{puts_as, in_code}
use Rattle.fields.proofs.writing.put_byte.Goals as goal

pub returns : goal.returns
returns c =
    let a = c.args in
    let whole = puts_as _ _ a.out.now _ _ (in_code (false) byte_rows a.code c.single_size.result (a.byte ∷ []) ([]) c.single_size.ensures) (c.put_own.ensures.answer, c.put_own.ensures.bytes) in record { answer = whole.0; bytes = whole.1 }
