-- The search is that of `unlike_in`.
use mathlib.Core.Path.{◌∙◌}
use mathlib.Core.Bool.{Bool, not, ◌&&◌}
use Prim.Native.Nat.{ℕ}
use native.Mathlib.Omega.{arith}
use lib.Dec.{eqb}
use lib.ListN.{get_or}
use borrow.Author.Rules.{rules}
use borrow.Author.Tests.{tests}
use Rattle.std.proofs.lemmas.List.{get_or_read}
use Rattle.searching.proofs.Search.{some_by_find}
use Rattle.pushing.proofs.look.is_unlike.Goals as goal

pub returns : goal.returns
returns c =
    let a = c.args in
    let t = a.t.now in
    let test : ℕ → Bool = λ i. eqb (get_or t.owners i 0) a.owner && not (eqb (get_or t.versions i 0) a.f.version && eqb (get_or t.message_types i 0) a.f.message_type) in
    c.is_some.ensures ∙ some_by_find test _ _ c.find.result c.find.ensures.ran (λ x q k. grind (arith, tests, get_or_read)) (λ x q k. (search rules, grind (arith, tests, get_or_read))) (omega arith) (λ k h. absurd (omega arith))
