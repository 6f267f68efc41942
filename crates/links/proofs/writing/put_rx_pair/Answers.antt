-- Each number by its bytes.
use Rattle.std.proofs.Common.{ap, ◌∙◌, rules}
use mir.Syntax.{w8}
use mir.Val.{SFits}
use Rattle.std.specs.Int.{cast_unsigned}
use mir.Facts.{to_z-of_z}
use Rattle.numbers.specs.Numbers.{gives}
use Rattle.fields.proofs.Lent.{puts_as}
use Rattle.links.proofs.Sent.{rx_sent}
use Rattle.links.proofs.writing.put_rx_pair.Goals as goal

pub returns : goal.returns
returns c =
    let r = c.args.pair in
    let fits : SFits w8 r.signal = search rules in
    let sent = rx_sent r _ _ _ _ fits c.to_be_bytes.ensures c.to_be_bytes-2.ensures c.to_be_bytes-3.ensures (c.cast_unsigned.ensures ∙ ap (cast_unsigned w8) (to_z-of_z {w = w8} fits)) in
    let whole = puts_as _ _ c.args.out.now _ _ (ap gives sent) (c.put_bytes.ensures.answer, c.put_bytes.ensures.bytes) in record { answer = whole.0; bytes = whole.1 }
