-- `plan` meets its contract: what the loop keeps is `Planning`, and what is left of the message falls.
use native.Mathlib.Omega.{arith}
use Rattle.std.proofs.lemmas.Result.{err_from_is_err_and}
use Rattle.walking.proofs.Stepping.{is_found, passes, lasts}
use Rattle.cutting.proofs.Opened.{few}
use Rattle.cutting.proofs.Planning.{begins, goes_on, ends, last_in, ends_at, stops_at, in_ends}
use Rattle.cutting.proofs.filling.plan.Goals as goal

pub loop-found-init : goal.loop-found-init
loop-found-init c = begins _

pub returns-in_err-found-clause-ends : goal.returns-in_err-found-clause-ends
returns-in_err-found-clause-ends c =
    let p = err_from_is_err_and c.from_residual.result c.from_residual.ensures.1 in
    rw (p.1, p.2) (stops_at _ _ _ _ c.loop-found.invariant _ _ _ c.in_err-found.ensures)

pub returns-in_err-count-in-End-clause-ends : goal.returns-in_err-count-in-End-clause-ends
returns-in_err-count-in-End-clause-ends c =
    let p = err_from_is_err_and c.from_residual-in_err-count-in-End.result c.from_residual-in_err-count-in-End.ensures.1 in
    rw (p.1, p.2) (ends _ _ _ _ c.loop-found.invariant _ (is_found c.in-End.is c.in_ok-found.ensures) _ c.in_err-count-in-End.ensures)

pub returns-in-End-clause-ends : goal.returns-in-End-clause-ends
returns-in-End-clause-ends c =
    ends _ _ _ _ c.loop-found.invariant _ (is_found c.in-End.is c.in_ok-found.ensures) _ c.in_ok-count-in-End.ensures

pub returns-in-End-clause-few : goal.returns-in-End-clause-few
returns-in-End-clause-few c =
    few _ _ _ _ (in_ends _ _ c.loop-found.invariant.filled) c.in_ok-count-in-End.ensures

pub overflow_sub-next : goal.overflow_sub-next
overflow_sub-next c = omega (arith, (passes _ _ _ _ (is_found c.in-Tlv.is c.in_ok-found.ensures)).behind)

pub loop-found-smaller : goal.loop-found-smaller
loop-found-smaller c =
    let o = passes _ _ _ _ (is_found c.in-Tlv.is c.in_ok-found.ensures) in
    omega (arith, o.behind, o.inside)

pub loop-found-preserved : goal.loop-found-preserved
loop-found-preserved c =
    rw c.put_end.ensures (goes_on _ _ _ _ c.loop-found.invariant _ _ (is_found c.in-Tlv.is c.in_ok-found.ensures) _ c.with_tlv-current.ensures)

pub overflow_sub-end : goal.overflow_sub-end
overflow_sub-end c = omega (arith, (lasts _ _ _ _ (is_found c.in-Last.is c.in_ok-found.ensures)).behind)

pub overflow_sub-message : goal.overflow_sub-message
overflow_sub-message c =
    (lasts _ _ _ _ (is_found c.in-Last.is c.in_ok-found.ensures)).inside

pub returns-in_err-count-in-Last-clause-ends : goal.returns-in_err-count-in-Last-clause-ends
returns-in_err-count-in-Last-clause-ends c =
    let p = err_from_is_err_and c.from_residual-in_err-count-in-Last.result c.from_residual-in_err-count-in-Last.ensures.1 in
    rw (p.1, p.2) (ends_at _ _ _ _ c.loop-found.invariant _ _ (is_found c.in-Last.is c.in_ok-found.ensures) _ c.with_tlv-current-in-Last.ensures _ _ c.in_err-count-in-Last.ensures)

pub returns-in-Last-clause-ends : goal.returns-in-Last-clause-ends
returns-in-Last-clause-ends c =
    rw c.put_end-in-Last.ensures (ends_at _ _ _ _ c.loop-found.invariant _ _ (is_found c.in-Last.is c.in_ok-found.ensures) _ c.with_tlv-current-in-Last.ensures _ _ c.in_ok-count-in-Last.ensures)

pub returns-in-Last-clause-few : goal.returns-in-Last-clause-few
returns-in-Last-clause-few c =
    let last = last_in _ _ _ _ c.loop-found.invariant _ _ (is_found c.in-Last.is c.in_ok-found.ensures) _ c.with_tlv-current-in-Last.ensures in
    few _ _ _ _ (in_ends _ _ last) c.in_ok-count-in-Last.ensures

pub put_end-requires : goal.put_end-requires
put_end-requires c =
    in_ends _ _ (goes_on _ _ _ _ c.loop-found.invariant _ _ (is_found c.in-Tlv.is c.in_ok-found.ensures) _ c.with_tlv-current.ensures).filled

pub put_end-requires-in-Last : goal.put_end-requires-in-Last
put_end-requires-in-Last c =
    in_ends _ _ (last_in _ _ _ _ c.loop-found.invariant _ _ (is_found c.in-Last.is c.in_ok-found.ensures) _ c.with_tlv-current-in-Last.ensures)
