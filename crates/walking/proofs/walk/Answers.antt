-- `walk` meets its contract: what the loop keeps is `Walking`, and what is left of the payload falls.
use native.Mathlib.Omega.{arith}
use Rattle.walking.proofs.Stepping.{is_found, passes, lasts}
use Rattle.walking.proofs.Walking.{begins, ends, ends_at, goes_on}
use Rattle.walking.proofs.walk.Goals as goal

pub loop-found-init : goal.loop-found-init
loop-found-init c = begins _

pub returns-in-End : goal.returns-in-End
returns-in-End c = ends _ _ _ c.loop-found.invariant (is_found c.in-End.is c.in_ok-found.ensures)

pub overflow_add-count : goal.overflow_add-count
overflow_add-count c =
    let o = passes _ _ _ _ (is_found c.in-Tlv.is c.in_ok-found.ensures) in
    omega (arith, o.behind, o.inside, c.loop-found.invariant.slow)

pub loop-found-smaller : goal.loop-found-smaller
loop-found-smaller c =
    let o = passes _ _ _ _ (is_found c.in-Tlv.is c.in_ok-found.ensures) in
    omega (arith, o.behind, o.inside)

pub loop-found-preserved : goal.loop-found-preserved
loop-found-preserved c = goes_on _ _ _ c.loop-found.invariant _ _ (is_found c.in-Tlv.is c.in_ok-found.ensures)

pub overflow_add-result : goal.overflow_add-result
overflow_add-result c =
    let o = lasts _ _ _ _ (is_found c.in-Last.is c.in_ok-found.ensures) in
    omega (arith, o.behind, o.inside, c.loop-found.invariant.slow)

pub overflow_sub-result : goal.overflow_sub-result
overflow_sub-result c = (lasts _ _ _ _ (is_found c.in-Last.is c.in_ok-found.ensures)).inside

pub returns-in-Last : goal.returns-in-Last
returns-in-Last c = ends_at _ _ _ c.loop-found.invariant _ _ (is_found c.in-Last.is c.in_ok-found.ensures)
