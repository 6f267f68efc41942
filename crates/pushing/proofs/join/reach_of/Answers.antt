-- The loop has found every number below k, and total is the sum of their sizes.
use mathlib.Core.Path.{◌≡◌, sym, ap, ◌∙◌}
use Prim.Native.Nat.{ℕ, ◌+◌}
use native.Mathlib.Omega.{arith}
use borrow.Author.Tests.{eq-eqb, ne_eqb}
use Rattle.searching.specs.Search.{lowest}
use Rattle.pushing.specs.PrivateSteps.{fragment_at, size_at, size_to, is_gap}
use Rattle.searching.proofs.Search.{before_all, found, passed}
use Rattle.pushing.proofs.Pieces.{at_most, size_none, size_next}
use borrow.Author.Rules.{rules}
use Rattle.pushing.proofs.join.reach_of.Goals as goal

pub loop-k-init : goal.loop-k-init
loop-k-init c =
    let a = c.args in
    (before_all (is_gap a.t.now.owners a.t.now.numbers a.row a.number), size_none a.t.now.sizes a.t.now.owners a.t.now.numbers a.row a.number a.size, omega arith)

pub piece_at-piece-requires : goal.piece_at-piece-requires
piece_at-piece-requires c = c.requires.0

pub returns-then-piece-eq-PLACES : goal.returns-then-piece-eq-PLACES
returns-then-piece-eq-PLACES c =
    let a = c.args in
    let gap = eq-eqb _ _ (sym c.piece_at-piece.ensures ∙ c.if-piece-eq-PLACES.true) in
    let e = found (is_gap a.t.now.owners a.t.now.numbers a.row a.number) 256 c.loop-k.k c.loop-k.invariant.0 (search rules) gap in
    (λ j. record { count = e j; total = (c.loop-k.invariant.1 ∙ ap (size_to a.t.now.sizes a.t.now.owners a.t.now.numbers a.row a.number a.size) e) j }, search rules)

pub overflow_add-total : goal.overflow_add-total
overflow_add-total c =
    let a = c.args in
    omega (arith, c.size_at-total.ensures, at_most a.t.now.sizes a.size c.requires.2 c.requires.1 c.piece_at-piece.result)

pub loop-k-preserved : goal.loop-k-preserved
loop-k-preserved c =
    let a = c.args in
    let k = c.loop-k.k in
    let piece = fragment_at a.t.now.owners a.t.now.numbers a.row a.number k in
    let size_is : c.size_at-total.result ≡ size_at a.t.now.sizes a.size piece = c.size_at-total.ensures ∙ ap (size_at a.t.now.sizes a.size) c.piece_at-piece.ensures in
    let full = ne_eqb _ _ (λ (e : piece ≡ 32). c.if-piece-eq-PLACES.false (c.piece_at-piece.ensures ∙ e)) in (
      passed (is_gap a.t.now.owners a.t.now.numbers a.row a.number) k c.loop-k.invariant.0 full,
      ap (λ (m : ℕ). m + c.size_at-total.result) c.loop-k.invariant.1 ∙ ap (λ (m : ℕ). size_to a.t.now.sizes a.t.now.owners a.t.now.numbers a.row a.number a.size k + m) size_is ∙ size_next a.t.now.sizes a.t.now.owners a.t.now.numbers a.row a.number a.size k,
      omega (arith, size_is, at_most a.t.now.sizes a.size c.requires.2 c.requires.1 piece),
    )

pub returns : goal.returns
returns c =
    let a = c.args in
    let end : c.loop-k.k ≡ 256 = omega arith in
    let e = c.loop-k.invariant.0 ∙ ap (lowest (is_gap a.t.now.owners a.t.now.numbers a.row a.number)) end in
    (λ j. record { count = (sym end ∙ e) j; total = (c.loop-k.invariant.1 ∙ ap (size_to a.t.now.sizes a.t.now.owners a.t.now.numbers a.row a.number a.size) e) j }, search rules)
