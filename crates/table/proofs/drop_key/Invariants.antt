-- The row is cleared; the loop has freed the places below i that the row owned, and counted them.
use mathlib.Core.Path.{◌≡◌}
use Prim.Native.Nat.{◌≤◌}
use lib.Dec.{eqb}
use lib.ListN.{get_or}
use Rattle.searching.specs.Count.{how_many}
use Rattle.table.proofs.Freed.{freed_to}
use Rattle.table.proofs.drop_key.Given as goal

abbrev pub invariant-loop-i : goal.invariant-loop-i
invariant-loop-i l = (l.n ≡ freed_to l.owner l.initial.n l.i) × (l.freed ≡ how_many (λ j. eqb (get_or l.initial.n.owners j 0) l.owner) l.i) × (l.freed ≤ l.i)
