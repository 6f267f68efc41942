-- `four_at` meets its contract: two numbers of two bytes, in either order.
use native.Mathlib.Omega.{arith}
use Rattle.captures.proofs.Fields.{four_high, four_low}
use borrow.Author.Rules.{rules}
use Rattle.captures.proofs.reading.Ordered.four_at.Goals as goal

pub returns-then-self : goal.returns-then-self
returns-then-self c =
    let a = c.args in
    (rw (c.two_at-first.ensures.0, c.two_at-second.ensures.0) (four_high a.self.file.now a.at (search rules) _ c.if-self.true), omega arith)

pub returns : goal.returns
returns c =
    let a = c.args in
    (rw (c.two_at-first.ensures.0, c.two_at-second.ensures.0) (four_low a.self.file.now a.at (search rules) _ c.if-self.false), omega arith)
