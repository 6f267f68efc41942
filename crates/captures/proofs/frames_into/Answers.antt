-- `frames_into` meets its contract: the plan says how many frames fit, and each turn lists one more of them.
use Rattle.std.proofs.Common.{List, length, drop, ◌++◌, ap, sym, ◌∙◌, arith}
use lib.Seq.{length-take-le}
use Rattle.captures.specs.declared.Frame.{Frame}
use Rattle.captures.proofs.Handing.{more, goes_over, ends}
use Rattle.captures.proofs.Planning.{listed}
use Rattle.captures.proofs.frames_into.Goals as goal

pub unwrap-handed-requires : goal.unwrap-handed-requires
unwrap-handed-requires c =
    let s = c.args.file.now in
    let list = c.args.list.now in
    let l = listed s (length list) _ c.in_ok-planned.ensures in
    let n = length-take-le c.in_ok-planned.planned.handed list l.room_for_lem in
    more s _ _ _ c.loop-element.invariant (omega arith) _ c.next_frame.ensures

pub loop-element-preserved : goal.loop-element-preserved
loop-element-preserved c =
    let s = c.args.file.now in
    let list = c.args.list.now in
    let l = listed s (length list) _ c.in_ok-planned.ensures in
    let n = length-take-le c.in_ok-planned.planned.handed list l.room_for_lem in
    goes_over s _ _ _ c.loop-element.invariant (omega arith) (omega arith) _ _ c.unwrap-handed.ensures c.next_frame.ensures

pub returns : goal.returns
returns c =
    let s = c.args.file.now in
    let list = c.args.list.now in
    let planned = c.in_ok-planned.planned in
    let l = listed s (length list) planned c.in_ok-planned.ensures in
    let n = length-take-le planned.handed list l.room_for_lem in
    (c.in_ok-planned.ensures, ap (λ (fs : List Frame). fs ++ drop planned.handed list) (ends s _ _ _ c.loop-element.invariant (omega arith) (omega arith)) ∙ sym (l.left list))
