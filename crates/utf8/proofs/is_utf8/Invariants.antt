-- What is awaited of the bytes from the one at hand on decides over all.
use mathlib.Core.Path.{◌≡◌}
use lib.ListN.{drop}
use Rattle.utf8.specs.Utf8.{accepts, is_utf8_lem}
use Rattle.utf8.specs.PrivateUtf8.{awaits}
use Rattle.utf8.proofs.is_utf8.Given as goal

abbrev pub invariant-loop-b : goal.invariant-loop-b
invariant-loop-b l = is_utf8_lem l.s ≡ accepts (awaits l.awaited) (drop l.b-index l.b-items)
