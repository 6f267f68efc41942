-- The row is cleared; the loop has freed the places below i that the row owned, and counted them.
use mathlib.Core.Path.{◌≡◌, ap, ◌∙◌}
use mathlib.Core.Bool.{true, false}
use Prim.Native.Nat.{ℕ, ◌≤◌, ◌-◌}
use native.Mathlib.Omega.{arith}
use lib.Dec.{eqb}
use lib.ListN.{length, get_or, get_or-eq_default}
use borrow.Author.Rules.{rules}
use Rattle.searching.specs.Count.{how_many}
use Rattle.searching.proofs.Count.{count_before_all}
use Rattle.table.specs.Rows.{owner_of}
use Rattle.table.proofs.Freed.{row_cleared, freed_none, freed_met, freed_passed, counted_met, counted_passed, freed_all, lower_inside, lowered, none_left}
use Rattle.table.proofs.drop_key.Goals as goal
use Rattle.table.proofs.drop_key.Goals.{then-n-i, else-n-i, then-row-ge-KEYS-via-then-row-ge-KEYS, then-row-ge-KEYS-via-else-row-ge-KEYS+then-not-n-row}

pub bounds-n-first : goal.bounds-n-first
bounds-n-first c = let inside = lower_inside c.args.row c.first_row-next.result (omega arith) in omega (arith, c.lower_row-first.ensures)

pub loop-i-init : goal.loop-i-init
loop-i-init c =
    let a = c.args in
    let start = row_cleared a.n.now a.row in
    (freed_none (owner_of a.row) start, count_before_all (λ j. eqb (get_or start.owners j 0) (owner_of a.row)), omega arith)

pub loop-i-preserved : goal.loop-i-preserved
loop-i-preserved c =
    let a = c.args in
    let owner = owner_of a.row in
    let start = row_cleared a.n.now a.row in
    let n = c.loop-i.n in
    let i = c.loop-i.i in
    let so_far = c.loop-i.invariant.0 in
    let count = c.loop-i.invariant.1 in (
      elim c.if-n-i.branch [
        | then-n-i w ↦ w.n-is ∙ freed_met owner (omega arith) start n i so_far w.if-n-i.true
        | else-n-i w ↦ w.n-is ∙ freed_passed owner (omega arith) start n i so_far w.if-n-i.false
      ],
      elim c.if-n-i.branch [
        | then-n-i w ↦ w.freed-is ∙ counted_met owner (omega arith) start n i so_far w.if-n-i.true c.loop-i.freed count
        | else-n-i w ↦ w.freed-is ∙ counted_passed owner (omega arith) start n i so_far w.if-n-i.false c.loop-i.freed count
      ],
      elim c.if-n-i.branch [
        | then-n-i w ↦ omega (arith, w.freed-is, c.loop-i.invariant.2)
        | else-n-i w ↦ omega (arith, w.freed-is, c.loop-i.invariant.2)
      ],
    )

pub returns-then-next-lt-KEYS : goal.returns-then-next-lt-KEYS
returns-then-next-lt-KEYS c =
    let t = c.args.n.now in
    let row = c.args.row in
    let first = c.lower_row-first in
    let used : get_or t.used row false ≡ true = grind (arith, c.if-not-n-row.false) in
    let end : c.loop-i.i ≡ 32 = omega (arith, c.loop-i-test.false) in
    let done = c.loop-i.invariant.0 ∙ freed_all t row c.loop-i.i (let long : length t.owners ≡ 32 = search rules in omega arith) in
    let freed_are = c.loop-i.invariant.1 ∙ ap (how_many (λ j. eqb (get_or t.owners j 0) (owner_of row))) end in
    rw used
    (lowered t row c.if-row-ge-KEYS.false used _ done _ _ c.sender_of-sender.ensures c.first_row-next.ensures.0 first.result first.ensures _ _ c.saturating_sub.ensures
    (c.saturating_sub-then-next-lt-KEYS.ensures ∙ ap (λ (m : ℕ). get_or t.sender_places first.result 0 - m) freed_are))

pub returns-else-next-lt-KEYS : goal.returns-else-next-lt-KEYS
returns-else-next-lt-KEYS c =
    let t = c.args.n.now in
    let row = c.args.row in
    let used : get_or t.used row false ≡ true = grind (arith, c.if-not-n-row.false) in
    let done = c.loop-i.invariant.0 ∙ freed_all t row c.loop-i.i (let long : length t.owners ≡ 32 = search rules in omega arith) in
    rw used (none_left t row c.if-row-ge-KEYS.false used _ done _ _ c.sender_of-sender.ensures c.first_row-next.ensures.0 (search rules) (search rules) c.if-next-lt-KEYS.false)

pub returns-then-row-ge-KEYS : goal.returns-then-row-ge-KEYS
returns-then-row-ge-KEYS c =
    let t = c.args.n.now in
    let long : length t.used ≡ 16 = search rules in
    elim c.then-row-ge-KEYS.branch [
      | then-row-ge-KEYS-via-then-row-ge-KEYS w ↦ (let out : length t.used ≤ c.args.row = omega (arith, long, w.if-row-ge-KEYS.true) in rw (get_or-eq_default t.used false out))
      | then-row-ge-KEYS-via-else-row-ge-KEYS+then-not-n-row w ↦ (let free : get_or t.used c.args.row false ≡ false = grind (arith, w.if-not-n-row.true) in rw free)
    ]
