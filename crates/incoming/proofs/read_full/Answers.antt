-- What a read puts after what is there is what it consumed.
use Rattle.std.proofs.Common.{◌≡◌, ℕ, ◌+◌, ◌≤◌, List, ◌++◌, rules, length, take, sym, ap, ◌∙◌, subst, le_refl, drop_at, length-take-le}
use Rattle.std.proofs.lemmas.Slice.{take-put_mid_below}
use Rattle.std.specs.Io.KnownBytes.{Consumes}
use Rattle.std.proofs.KnownBytes.{Consumes-trans}
use borrow.Rule.Slice.PartMut.{put_mid, post_of}
use lib.Seq.{take-add, take-append-le}
use Rattle.incoming.proofs.read_full.Goals as goal

filled : (a k n : ℕ) (xs ys : List ℕ) → a ≤ length xs → n ≤ length ys → take a xs ++ take n ys ≡ take (a + n) (put_mid a k xs ys)
filled a k n xs ys within fits =
    let after = post_of a k xs in
    let front = take-put_mid_below _ _ _ _ _ (le_refl _) within in
    let part = ap (take n) (drop_at (take a xs) (ys ++ after) a (length-take-le a xs within)) ∙ take-append-le n ys after fits in
    (λ i. sym front i ++ sym part i) ∙ sym (take-add a n (put_mid a k xs ys))

pub loop-have-preserved : goal.loop-have-preserved
loop-have-preserved g c =
    let read = c.read_some-more.ensures in
    let before = c.loop-have.invariant in (
      search rules,
      search rules,
      subst (Consumes _ _) (filled c.loop-have.have _ c.read_some-more.result c.loop-have.room _ before.0 (search rules)) (Consumes-trans _ _ _ _ _ before.2 read.bytes),
    )
