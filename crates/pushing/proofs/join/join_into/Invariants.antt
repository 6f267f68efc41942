-- The output begins with the first k pieces.
use mathlib.Core.Path.{◌≡◌}
use lib.ListN.{length}
use Rattle.pushing.specs.Push.{over}
use Rattle.pushing.specs.PrivateSteps.{pieces_to}
use Rattle.pushing.proofs.join.join_into.Given as goal

abbrev pub invariant-loop-k : goal.invariant-loop-k
invariant-loop-k l = (l.at ≡ length (pieces_to l.t.sizes l.t.owners l.t.numbers l.store l.p.row l.p.number l.payload l.k)) × (l.out ≡ over (pieces_to l.t.sizes l.t.owners l.t.numbers l.store l.p.row l.p.number l.payload l.k) l.initial.out) × (length l.out ≡ length l.initial.out)
