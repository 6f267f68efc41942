-- The row of a key is searched, and a new key has no place.
use native.Mathlib.Omega.{arith}
use Rattle.pushing.proofs.Pieces.{place_le}
use Rattle.pushing.proofs.look.held_at.Goals as goal

pub returns : goal.returns
returns c = let a = c.args in omega (arith, c.requires c.if-row-lt-KEYS.false, place_le a.t.now a.row a.number)
