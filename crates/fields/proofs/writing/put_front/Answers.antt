-- The shape that the code says.
use mathlib.Core.Bool.{false}
use mathlib.Core.List.{[], ◌++◌}
use Rattle.records.specs.Values.{octets}
use Rattle.fields.specs.Fields.{front_rows}
use Rattle.fields.proofs.Lent.{puts_as, in_code}
use Rattle.fields.proofs.writing.put_front.Goals as goal

pub returns : goal.returns
returns c =
    let a = c.args in
    let whole = puts_as _ _ a.out.now _ _ (in_code (false) front_rows a.code c.front_size.result (octets a.local ++ octets a.neighbour) ([]) c.front_size.ensures) (c.put_own.ensures.answer, c.put_own.ensures.bytes) in record { answer = whole.0; bytes = whole.1 }
