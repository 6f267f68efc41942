-- The text of the piece with this number, of the value that was read.
use mathlib.Core.Path.{sym}
use Rattle.texts.proofs.Whole.{text_there}
use Rattle.texts.proofs.access.text_in.Goals as goal

pub returns : goal.returns
returns c =
    let a = c.args in
    sym (text_there a.row a.s.now _ (sym c.in_ok-read_row.ensures) a.number _ (sym c.in_ok-piece.ensures) _ c.text_span.ensures)
