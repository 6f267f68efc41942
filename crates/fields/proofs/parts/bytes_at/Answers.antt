-- Each byte at its place.
use Rattle.std.proofs.Common.{drop, arith, ◌∙◌}
use lib.ListN.{length-replicate}
use lib.Seq.{get_or-drop}
use Rattle.fields.proofs.Laws.{filled}
use Rattle.fields.proofs.parts.bytes_at.Goals as goal

pub returns : goal.returns
returns g c =
    let a = c.args in
    filled _ (drop a.at a.s.now) _ (c.loop-k.invariant.0 ∙ length-replicate _ _) (λ i less. rw get_or-drop (c.loop-k.invariant.1 i (omega (arith, less))))
