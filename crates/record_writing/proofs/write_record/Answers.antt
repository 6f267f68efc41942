-- Framing writes the header, and the value goes into the part from byte 3 onward.
use mathlib.Core.Path.{sym, ◌∙◌}
use Rattle.framing.proofs.Writing.{written, put, lent, tlv_put}
use Rattle.records.specs.Values.{bytes_of}
use Rattle.record_writing.proofs.Room.{framed}
use Rattle.record_writing.proofs.write_record.Goals as goal

pub put_value-requires : goal.put_value-requires
put_value-requires c =
    let e = rw c.size_of.ensures at c.in_ok-size.ensures.answer in
    let s = rw (c.code_of.ensures, c.size_of.ensures) at c.write_header.ensures.bytes in
    (lent _ _ c.args.out.now _ (written _ _ _ e).1.1 (s ∙ sym (put _ _ _ _ e))).1

pub returns-clause-bytes : goal.returns-clause-bytes
returns-clause-bytes c =
    let a = c.args in
    let e = rw c.size_of.ensures at c.in_ok-size.ensures.answer in
    let s = rw (c.code_of.ensures, c.size_of.ensures) at c.write_header.ensures.bytes in
    tlv_put _ (bytes_of a.item) a.out.now _ _ (s ∙ sym (put _ _ _ _ e)) c.put_value.ensures ∙ put _ _ _ _ (framed _ _ _ (sym c.is_readable.ensures ∙ c.if-not-is_readable.false) e)
