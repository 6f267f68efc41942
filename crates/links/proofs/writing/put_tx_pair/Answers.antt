-- Each number by its bytes.
use Rattle.std.proofs.Common.{ap, rules}
use Rattle.numbers.specs.Numbers.{gives}
use Rattle.fields.proofs.Lent.{puts_as}
use Rattle.links.proofs.Sent.{tx_sent}
use Rattle.links.proofs.writing.put_tx_pair.Goals as goal

pub returns : goal.returns
returns c =
    let sent = tx_sent c.args.pair _ _ _ _ _ _ (search rules) c.to_be_bytes.ensures c.to_be_bytes-2.ensures c.to_be_bytes-3.ensures c.to_be_bytes-4.ensures c.to_be_bytes-5.ensures c.to_be_bytes-6.ensures in
    let whole = puts_as _ _ c.args.out.now _ _ (ap gives sent) (c.put_bytes.ensures.answer, c.put_bytes.ensures.bytes) in record { answer = whole.0; bytes = whole.1 }
