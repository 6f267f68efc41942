-- The library's `position` is the lowest row.
use mathlib.Core.Path.{◌∙◌}
use mathlib.Core.Bool.{Bool}
use Prim.Native.Nat.{ℕ}
use native.Mathlib.Omega.{arith}
use borrow.Author.Rules.{rules}
use borrow.Author.Tests.{tests}
use lib.Dec.{eqb}
use lib.ListN.{take}
use Rattle.std.proofs.lemmas.Iterator.{YieldsList-from_slice}
use Rattle.std.proofs.lemmas.Iterator.Search.{position_from_yields_List}
use Rattle.stations.proofs.Lookups.{found_at}
use Rattle.stations.proofs.rows.row_with.Goals as goal

pub returns : goal.returns
returns c =
    let a = c.args in
    let is_it : ℕ → Bool = λ held. eqb held a.mark in
    position_from_yields_List is_it _ _ _ c.position.ensures.ran (YieldsList-from_slice (take 128 a.t.now) cc) (λ x b q k. search (rules, tests))
    ∙ found_at is_it a.t.now 128 (omega arith)
