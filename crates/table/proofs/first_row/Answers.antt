-- The rows are passed of which none is sought.
use mathlib.Core.Path.{◌∙◌}
use mathlib.Core.Bool.{Bool}
use Prim.Native.Nat.{ℕ}
use native.Mathlib.Omega.{arith}
use borrow.Author.Rules.{rules}
use borrow.Author.Tests.{tests}
use Rattle.std.proofs.lemmas.List.{get_or_read}
use Rattle.table.specs.Rows.{is_senders_lem}
use Rattle.searching.proofs.Search.{lowest_le, lowest_by_find}
use Rattle.table.proofs.first_row.Goals as goal

pub returns : goal.returns
returns c =
    let test : ℕ → Bool = is_senders_lem c.args.used.now c.args.row_keys.now c.args.sender in
    let found = lowest_by_find test _ _ c.find.result c.find.ensures.ran (λ x q k. grind (arith, tests, get_or_read)) (λ x q k. (search rules, grind (arith, tests, get_or_read))) (omega arith) (λ k h. absurd (omega arith)) in
    let is = c.unwrap_or.ensures ∙ found in
    (is, omega (arith, is, lowest_le test 16))
