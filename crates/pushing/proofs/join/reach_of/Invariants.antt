-- The loop has found every number below k, and total is the sum of their sizes.
use mathlib.Core.Path.{◌≡◌}
use Prim.Native.Nat.{◌*◌, ◌≤◌}
use Rattle.searching.specs.Search.{lowest}
use Rattle.pushing.specs.PrivateSteps.{size_to, is_gap}
use Rattle.pushing.proofs.join.reach_of.Given as goal

abbrev pub invariant-loop-k : goal.invariant-loop-k
invariant-loop-k l = (l.k ≡ lowest (is_gap l.t.owners l.t.numbers l.row l.number) l.k) × (l.total ≡ size_to l.t.sizes l.t.owners l.t.numbers l.row l.number l.size l.k) × (l.total ≤ l.k * 1492)
