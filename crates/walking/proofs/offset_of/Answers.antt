-- `offset_of` meets its contract: after so many turns the walk's TLV of that number stands at `at`.
use mathlib.Core.Path.{◌≡◌, refl, sym, ◌∙◌, ap}
use native.Mathlib.Omega.{arith}
use Rattle.walking.specs.Walk.{walk_of, offset_at}
use Rattle.walking.proofs.Chained.{stands_first, stands_at, is_passed, stands_next}
use Rattle.walking.proofs.offset_of.Goals as goal

pub loop-init : goal.loop-init
loop-init c = stands_first _

pub unwrap-passed-requires : goal.unwrap-passed-requires
unwrap-passed-requires c = rw (c.pass.ensures, is_passed _ c.loop.counter _ c.loop.invariant (omega arith)) refl

pub loop-preserved : goal.loop-preserved
loop-preserved c = stands_next _ c.loop.counter _ c.loop.invariant (omega arith) _ (sym c.unwrap-passed.ensures ∙ c.pass.ensures)

pub returns : goal.returns
returns c =
    let n : c.loop.counter ≡ c.args.k = omega arith in
    stands_at _ c.loop.counter _ c.loop.invariant (omega arith) ∙ ap (offset_at (walk_of c.args.payload.now).items) n
