-- The window keeps its file header alone.
use Rattle.std.proofs.Common.{arith}
use Rattle.watch.proofs.Refilling.{counted, header}
use Rattle.watch.proofs.window.Window.seek.Goals as goal

pub returns : goal.returns
returns g c low =
    let there = counted _ _ _ c.self.told c.self.invariant c.self.view_is in
    header _ _ _ (omega (arith, low, there)) c.self.view_is
