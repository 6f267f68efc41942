-- What is left moves, and what is read follows it.
use Rattle.std.proofs.Common.{◌≡◌, ◌-◌, length, ◌∙◌, arith, rules}
use Rattle.watch.proofs.Refilling.{counted, refilled}
use Rattle.watch.proofs.window.Window.refill.Goals as goal

pub returns : goal.returns
returns g c up below =
    let size = c.self.told in
    let there = counted _ _ _ size c.self.invariant c.self.view_is in
    let moves = c.moved-kept.ensures.moved up (omega (arith, below, there)) (omega (arith, c.self.invariant, size)) in
    let long : length c.moved-kept.new.s ≡ 131072 = c.moved-kept.ensures.long ∙ size in
    let rest : length c.read_some-more.new.room ≡ 131072 - c.moved-kept.result = search rules in
    refilled c.self.inside.bytes c.moved-kept.new.s c.read_some-more.new.room _ _ c.self.inside.have c.args.at c.moved-kept.result c.read_some-more.result size c.self.invariant c.self.view_is up below long moves.0 moves.1 rest (omega (arith, c.read_some-more.ensures.within, c.read_some-more.ensures.long))
