-- The shape that the code says.
use mathlib.Core.Bool.{false}
use mathlib.Core.List.{[]}
use Rattle.fields.specs.Fields.{neighbour_rows}
use Rattle.fields.specs.Writing.{neighbour_bytes}
use Rattle.fields.proofs.Lent.{puts_as, in_code}
use Rattle.fields.proofs.writing.put_neighbour.Goals as goal

pub returns : goal.returns
returns c =
    let a = c.args in
    let whole = puts_as _ _ a.out.now _ _ (in_code (false) neighbour_rows a.code c.neighbour_size.result (neighbour_bytes a.neighbour) ([]) c.neighbour_size.ensures) (c.put_own.ensures.answer, c.put_own.ensures.bytes) in record { answer = whole.0; bytes = whole.1 }
