-- The marks that are left by the filter are those of the rows that hold a station.
use mathlib.Core.Path.{◌∙◌}
use mathlib.Core.Bool.{not}
use Prim.Native.Nat.{ℕ}
use mathlib.Core.Bool.{Bool}
use native.Mathlib.Omega.{arith}
use borrow.Author.Rules.{rules}
use borrow.Author.Tests.{tests}
use lib.Dec.{eqb}
use lib.ListN.{take}
use Rattle.std.proofs.lemmas.Iterator.{YieldsList-from_slice}
use Rattle.std.proofs.lemmas.Iterator.Consumers.{YieldsList-from_filter, count_from_yields_List}
use Rattle.std.proofs.lemmas.List.Sums.{length-filter}
use Rattle.stations.proofs.Lookups.{counted}
use Rattle.stations.proofs.count.Goals as goal

abbrev is_mark : ℕ → Bool
is_mark mark = not (eqb mark 0)

pub returns : goal.returns
returns c =
    let t = c.args.t.now in
    count_from_yields_List _ _ c.count.ensures.ran
    (YieldsList-from_filter _ is_mark (YieldsList-from_slice (take 128 t) cc) c.filter.ensures.closure (λ x b q k. search (rules, tests)))
    ∙ length-filter is_mark (take 128 t)
    ∙ counted is_mark t 128 (omega arith)
