-- `walk_into` meets its contract: the plan says how many entries fit, and each turn writes one more of them.
use Rattle.std.proofs.Common.{◌<◌, length}
use mathlib.Core.Path.{refl, sym, ◌∙◌}
use native.Mathlib.Omega.{arith}
use lib.Seq.{length-take-le}
use Rattle.walking.specs.Walk.{walk_of}
use Rattle.walking.proofs.Chained.{is_passed}
use Rattle.walking.proofs.Filled.{begins, goes_on}
use Rattle.walking.proofs.Listed.{fits}
use Rattle.walking.proofs.walk_into.Goals as goal

pub loop-element-init : goal.loop-element-init
loop-element-init c = begins _ _

pub unwrap-passed-requires : goal.unwrap-passed-requires
unwrap-passed-requires c =
    let p = c.args.payload.now in
    let list = c.args.list.now in
    let f = fits (walk_of p) (length list) _ c.in_ok-planned.ensures in
    let l : c.loop-element.element-index < length (walk_of p).items = omega (arith, length-take-le c.in_ok-planned.planned.count list f.1) in
    rw (c.pass.ensures, is_passed p c.loop-element.element-index _ c.loop-element.invariant.here l) refl

pub loop-element-preserved : goal.loop-element-preserved
loop-element-preserved c =
    let p = c.args.payload.now in
    let list = c.args.list.now in
    let f = fits (walk_of p) (length list) _ c.in_ok-planned.ensures in
    let n = length-take-le c.in_ok-planned.planned.count list f.1 in
    goes_on p _ _ _ c.loop-element.invariant (omega arith) (omega arith) _ (sym c.unwrap-passed.ensures ∙ c.pass.ensures)
