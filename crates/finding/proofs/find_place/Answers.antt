-- `find_place` meets its contract: the loop is left at a record that reads, or past the last one.
use Rattle.std.proofs.Common.{sym, ◌∙◌}
use Rattle.finding.proofs.Passing.{begins, goes_on, found, missed}
use Rattle.finding.proofs.find_place.Goals as goal

pub loop-place-init : goal.loop-place-init
loop-place-init c = begins _ _ _ _

pub loop-place-preserved : goal.loop-place-preserved
loop-place-preserved c = goes_on _ _ _ _ _ c.loop-place.invariant c.loop-place-test.true (sym c.reads.ensures ∙ c.if-reads.false)

pub returns-then-reads : goal.returns-then-reads
returns-then-reads c = found _ _ _ _ _ c.loop-place.invariant c.loop-place-test.true (sym c.reads.ensures ∙ c.if-reads.true)

pub returns : goal.returns
returns c = c.nothing.ensures ∙ missed _ _ _ _ _ c.loop-place.invariant c.loop-place-test.false
