-- The bytes of the address and of the array, and the code says the size.
use Rattle.std.proofs.Common.{false, [], ◌++◌, ap, ◌∙◌, refl}
use lib.ListN.{replicate}
use borrow.Rule.Slice.PartMut.{put_mid}
use Rattle.records.specs.Values.{octets}
use Rattle.fields.specs.Fields.{interface_rows}
use Rattle.fields.specs.PrivateSteps.{made_with}
use Rattle.fields.proofs.Lent.{puts_as, put_last, in_code}
use Rattle.fields.proofs.writing.put_interface.Goals as goal

pub returns : goal.returns
returns c =
    let a = c.args in
    let x = a.interface in
    let zeros = replicate 16 0 in
    let first = c.copy_from_slice.ensures.after ∙ c.octets_of.ensures in
    let own = (λ i. put_mid 6 16 (first i ++ zeros) (c.copy_from_slice-2.ensures.after i)) ∙ put_last 6 16 (octets x.address) x.link_local zeros refl refl in
    let whole = puts_as _ _ a.out.now _ _
    (ap (λ t. made_with false c.interface_size.result t []) own ∙ in_code false interface_rows a.code c.interface_size.result (octets x.address ++ x.link_local) [] c.interface_size.ensures)
    (c.put_own.ensures.answer, c.put_own.ensures.bytes) in record { answer = whole.0; bytes = whole.1 }
