-- The bytes of its fields, one after the other.
use Rattle.std.proofs.Common.{◌≡◌, false, [], ◌∷◌, ◌++◌, ◌+◌, sym, ap, ◌∙◌, refl, rules, suc, ℕ, List}
use Rattle.std.specs.Prelude.{Some}
use lib.ListN.{length, replicate, length-append}
use borrow.Rule.Slice.PartMut.{put_mid}
use Rattle.fields.specs.Fields.{ipv6_rows}
use Rattle.fields.specs.PrivateSteps.{made_with}
use Rattle.fields.proofs.Lent.{puts_as, put_last, in_code}
use Rattle.fields.proofs.writing.put_ipv6.Goals as goal

pub slice_bounds-put_own-end : goal.slice_bounds-put_own-end
slice_bounds-put_own-end c =
    let x = c.args.ipv6 in
    let long : length x.address ≡ 16 = search rules in
    let long' : length x.origin ≡ 16 = search rules in
    let zeros : List ℕ = replicate 16 0 in
    let first : c.copy_from_slice.new.self ≡ x.address = c.copy_from_slice.ensures.after in
    let second : c.copy_from_slice-2.new.self ≡ x.origin = c.copy_from_slice-2.ensures.after in
    let own : put_mid 17 16 ((x.type_ ∷ c.copy_from_slice.new.self) ++ zeros) c.copy_from_slice-2.new.self ≡ x.type_ ∷ (x.address ++ x.origin) =
    (λ i. put_mid 17 16 ((x.type_ ∷ first i) ++ zeros) (second i)) ∙ put_last 17 16 (x.type_ ∷ x.address) x.origin zeros (ap suc long) refl in
    sym (ap length own ∙ ap suc (length-append x.address x.origin ∙ (λ i. long i + long' i)))

pub returns : goal.returns
returns c =
    let a = c.args in
    let x = a.ipv6 in
    let long : length x.address ≡ 16 = search rules in
    let zeros : List ℕ = replicate 16 0 in
    let first : c.copy_from_slice.new.self ≡ x.address = c.copy_from_slice.ensures.after in
    let second : c.copy_from_slice-2.new.self ≡ x.origin = c.copy_from_slice-2.ensures.after in
    let own : put_mid 17 16 ((x.type_ ∷ c.copy_from_slice.new.self) ++ zeros) c.copy_from_slice-2.new.self ≡ x.type_ ∷ (x.address ++ x.origin) =
    (λ i. put_mid 17 16 ((x.type_ ∷ first i) ++ zeros) (second i)) ∙ put_last 17 16 (x.type_ ∷ x.address) x.origin zeros (ap suc long) refl in
    let whole = puts_as _ _ a.out.now _ _
    (ap (λ t. made_with false (Some 33) t []) own ∙ in_code false ipv6_rows 24 (Some 33) (x.type_ ∷ (x.address ++ x.origin)) [] refl)
    (c.put_own.ensures.answer, c.put_own.ensures.bytes) in record { answer = whole.0; bytes = whole.1 }
