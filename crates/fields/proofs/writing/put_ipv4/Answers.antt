-- The bytes of its fields, one after the other.
use Rattle.std.proofs.Common.{◌≡◌, false, [], ◌∷◌, ◌++◌, ◌+◌, sym, ap, ◌∙◌, refl, rules, suc, ℕ, List}
use Rattle.std.specs.Prelude.{Some}
use lib.ListN.{length, replicate, length-append}
use borrow.Rule.Slice.PartMut.{put_mid}
use Rattle.fields.specs.Fields.{ipv4_rows}
use Rattle.fields.specs.PrivateSteps.{made_with}
use Rattle.fields.proofs.Lent.{puts_as, put_last, in_code}
use Rattle.fields.proofs.writing.put_ipv4.Goals as goal

pub slice_bounds-put_own-end : goal.slice_bounds-put_own-end
slice_bounds-put_own-end c =
    let x = c.args.ipv4 in
    let long : length x.address ≡ 4 = search rules in
    let long' : length x.dhcp_server ≡ 4 = search rules in
    let zeros : List ℕ = replicate 4 0 in
    let first : c.copy_from_slice.new.self ≡ x.address = c.copy_from_slice.ensures.after in
    let second : c.copy_from_slice-2.new.self ≡ x.dhcp_server = c.copy_from_slice-2.ensures.after in
    let own : put_mid 5 4 ((x.type_ ∷ c.copy_from_slice.new.self) ++ zeros) c.copy_from_slice-2.new.self ≡ x.type_ ∷ (x.address ++ x.dhcp_server) =
    (λ i. put_mid 5 4 ((x.type_ ∷ first i) ++ zeros) (second i)) ∙ put_last 5 4 (x.type_ ∷ x.address) x.dhcp_server zeros (ap suc long) refl in
    sym (ap length own ∙ ap suc (length-append x.address x.dhcp_server ∙ (λ i. long i + long' i)))

pub returns : goal.returns
returns c =
    let a = c.args in
    let x = a.ipv4 in
    let long : length x.address ≡ 4 = search rules in
    let zeros : List ℕ = replicate 4 0 in
    let first : c.copy_from_slice.new.self ≡ x.address = c.copy_from_slice.ensures.after in
    let second : c.copy_from_slice-2.new.self ≡ x.dhcp_server = c.copy_from_slice-2.ensures.after in
    let own : put_mid 5 4 ((x.type_ ∷ c.copy_from_slice.new.self) ++ zeros) c.copy_from_slice-2.new.self ≡ x.type_ ∷ (x.address ++ x.dhcp_server) =
    (λ i. put_mid 5 4 ((x.type_ ∷ first i) ++ zeros) (second i)) ∙ put_last 5 4 (x.type_ ∷ x.address) x.dhcp_server zeros (ap suc long) refl in
    let whole = puts_as _ _ a.out.now _ _
    (ap (λ t. made_with false (Some 9) t []) own ∙ in_code false ipv4_rows 23 (Some 9) (x.type_ ∷ (x.address ++ x.dhcp_server)) [] refl)
    (c.put_own.ensures.answer, c.put_own.ensures.bytes) in record { answer = whole.0; bytes = whole.1 }
