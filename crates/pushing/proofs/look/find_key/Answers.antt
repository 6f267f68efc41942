-- The search is that of `row_of`; rows before the sender's lowest one have keys of others.
use mathlib.Core.Path.{◌≡◌, refl, sym, ap, ◌∙◌}
use mathlib.Core.Bool.{Bool, true, false, and-eq-true_iff, false≢true}
use Prim.Native.Nat.{ℕ}
use native.Mathlib.Omega.{arith}
use lib.Dec.{eqb}
use lib.ListN.{get_or}
use borrow.Author.Rules.{rules}
use borrow.Author.Tests.{tests, eqb-true, eq-eqb}
use Rattle.std.proofs.lemmas.List.{get_or_read}
use Rattle.keys.specs.Keys.{sender_of_lem}
use Rattle.table.specs.declared.Table.{Table}
use Rattle.table.specs.Rows.{is_row_of, is_senders_lem}
use Rattle.searching.proofs.Search.{lowest_le, lowest_before, lowest_by_find}
use Rattle.pushing.proofs.look.find_key.Goals as goal

-- a row of another sender has another key
not-its : (t : Table) (key row : ℕ) → is_senders_lem t.used t.row_keys (sender_of_lem key) row ≡ false → is_row_of t key row ≡ false
not-its t key row other = by_test (is_row_of t key row) refl
  where
    by_test : (b : Bool) → is_row_of t key row ≡ b → is_row_of t key row ≡ false
    by_test false e = e
    by_test true e =
        let both = (and-eq-true_iff (get_or t.used row false) (eqb (get_or t.row_keys row 0) key)).0 e in
        let same : sender_of_lem (get_or t.row_keys row 0) ≡ sender_of_lem key = ap sender_of_lem (eqb-true _ _ both.1) in
        absurd (false≢true (sym other ∙ rw (both.0, eq-eqb _ _ same)))

pub returns : goal.returns
returns c =
    let a = c.args in
    let t = a.t.now in
    let its = is_senders_lem t.used t.row_keys (sender_of_lem a.key) in
    c.unwrap_or.ensures ∙ lowest_by_find (is_row_of t a.key) _ _ c.find.result c.find.ensures.ran (λ x q k. grind (arith, tests, get_or_read)) (λ x q k. (search rules, grind (arith, tests, get_or_read)))
    (omega (arith, c.requires, lowest_le its 16)) (λ k h. not-its t a.key k (lowest_before its 16 k (omega (arith, c.requires, h))))
