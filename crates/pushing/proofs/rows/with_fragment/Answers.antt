-- Whether the row gets its key or has it, the place then gets the fragment, and the sender's lowest row its totals.
use mathlib.Core.Path.{◌∙◌}
use mathlib.Core.Bool.{true, false}
use native.Mathlib.Omega.{arith}
use borrow.Author.Tests.{le-leb, lt-leb}
use Rattle.table.proofs.Freed.{lower_inside}
use Rattle.pushing.proofs.Kept.{opened_by, kept_by}
use Rattle.pushing.proofs.rows.with_fragment.Goals as goal
use Rattle.pushing.proofs.rows.with_fragment.Goals.{then-found-ge-KEYS, else-found-ge-KEYS}

pub overflow_add-keys : goal.overflow_add-keys
overflow_add-keys c = omega (arith, c.requires.3 c.if-found-ge-KEYS.true)

pub bounds-n-first : goal.bounds-n-first
bounds-n-first c =
    let under = c.under_row-row in
    let inside = lower_inside under.result c.args.found.first (omega (arith, under.ensures, c.requires.1)) in
    omega (arith, c.lower_row-first.ensures)

pub bounds-n-first-2 : goal.bounds-n-first-2
bounds-n-first-2 c =
    let under = c.under_row-row in
    let inside = lower_inside under.result c.args.found.first (omega (arith, under.ensures, c.requires.1)) in
    omega (arith, c.lower_row-first.ensures)

pub returns : goal.returns
returns c =
    let a = c.args in
    let under = c.under_row-row in
    let low = c.lower_row-first in
    let joined = c.if-found-ge-KEYS in
    let kept = kept_by a.n.now a.found a.held a.a a.size under.result under.ensures in
    elim joined.branch [
      | then-found-ge-KEYS w ↦ kept true (le-leb _ _ w.if-found-ge-KEYS.true) joined.n (w.n-is ∙ opened_by a.n.now a.found a.held a.a a.size under.result under.ensures _ _ w.without_total-n.ensures w.without_total-n-then-found-ge-KEYS.ensures) joined.keys w.keys-is low.result low.ensures
      | else-found-ge-KEYS w ↦ kept false (lt-leb _ _ w.if-found-ge-KEYS.false) joined.n w.n-is joined.keys w.keys-is low.result low.ensures
    ]
