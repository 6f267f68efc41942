-- `write_tlv` meets its contract: the header, and the value in the part from byte 3 onward.
use mathlib.Core.Path.{sym, ◌∙◌}
use Rattle.framing.proofs.Writing.{written, put, lent, tlv_put}
use Rattle.framing.proofs.write_tlv.Goals as goal

pub put_bytes-requires : goal.put_bytes-requires
put_bytes-requires c =
    let e = c.in_ok-size.ensures.answer in
    (lent _ _ c.args.out.now _ (written _ _ _ e).1.1 (c.write_header.ensures.bytes ∙ sym (put _ _ _ _ e))).1

pub returns-clause-bytes : goal.returns-clause-bytes
returns-clause-bytes c =
    let e = c.in_ok-size.ensures.answer in
    let a = c.args in
    tlv_put _ a.bytes.now a.out.now _ _ (c.write_header.ensures.bytes ∙ sym (put _ _ _ _ e)) c.put_bytes.ensures ∙ put _ _ _ _ e
