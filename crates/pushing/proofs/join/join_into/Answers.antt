-- The output begins with the first k pieces.
use mathlib.Core.Path.{◌≡◌, refl, sym, ap, ◌∙◌}
use mathlib.Core.List.{List}
use Prim.Native.Nat.{ℕ, ◌+◌}
use lib.ListN.{length, length-append}
use lib.Seq.{paste}
use native.Mathlib.Omega.{arith}
use Rattle.pushing.specs.Push.{over}
use Rattle.pushing.specs.PrivateSteps.{fragment_at, piece_bytes, pieces_to}
use Rattle.pushing.proofs.Pieces.{pieces_none, pieces_next, next_fits, grown}
use Rattle.pushing.proofs.join.join_into.Goals as goal

pub loop-k-init : goal.loop-k-init
loop-k-init c =
    let a = c.args in
    let none = pieces_none a.t.now.sizes a.t.now.owners a.t.now.numbers a.store.now a.p.row a.p.number a.payload.now in
    (ap length none, ap (λ (l : List ℕ). over l a.out.now) none, refl)

pub overflow_cast-k : goal.overflow_cast-k
overflow_cast-k c = omega (arith, c.loop-k-test.true, c.requires.3)

pub piece_at-piece-requires : goal.piece_at-piece-requires
piece_at-piece-requires c = c.requires.0

pub bytes_of-bytes-requires : goal.bytes_of-bytes-requires
bytes_of-bytes-requires c = (c.requires.1, c.requires.2)

pub copy-requires : goal.copy-requires
copy-requires c =
    let a = c.args in
    let same = ap length (c.bytes_of-bytes.ensures ∙ ap (piece_bytes a.t.now.sizes a.store.now a.payload.now) c.piece_at-piece.ensures) in
    omega (arith, same, next_fits a.t.now.sizes a.t.now.owners a.t.now.numbers a.store.now a.p.row a.p.number a.payload.now c.loop-k.k a.p.count c.loop-k-test.true, c.requires.4, c.loop-k.invariant.0, c.loop-k.invariant.2)

pub loop-k-preserved : goal.loop-k-preserved
loop-k-preserved c =
    let a = c.args in
    let k = c.loop-k.k in
    let upto = pieces_to a.t.now.sizes a.t.now.owners a.t.now.numbers a.store.now a.p.row a.p.number a.payload.now in
    let bytes = piece_bytes a.t.now.sizes a.store.now a.payload.now (fragment_at a.t.now.owners a.t.now.numbers a.p.row a.p.number k) in
    let same : c.bytes_of-bytes.result.now ≡ bytes = c.bytes_of-bytes.ensures ∙ ap (piece_bytes a.t.now.sizes a.store.now a.payload.now) c.piece_at-piece.ensures in
    let next = pieces_next a.t.now.sizes a.t.now.owners a.t.now.numbers a.store.now a.p.row a.p.number a.payload.now k in (
      ap (λ (l : List ℕ). c.loop-k.at + length l) same ∙ ap (λ (m : ℕ). m + length bytes) c.loop-k.invariant.0 ∙ sym (length-append (upto k) bytes) ∙ ap length next,
      c.copy.ensures ∙ ap (λ (l : List ℕ). paste c.loop-k.out c.loop-k.at l (length l)) same ∙ ap (λ (m : ℕ). paste c.loop-k.out m bytes (length bytes)) c.loop-k.invariant.0
          ∙ ap (λ (l : List ℕ). paste l (length (upto k)) bytes (length bytes)) c.loop-k.invariant.1 ∙ grown (upto k) bytes a.out.now ∙ ap (λ (l : List ℕ). over l a.out.now) next,
      c.copy.auto.dst ∙ c.loop-k.invariant.2,
    )

pub returns : goal.returns
returns c =
    let a = c.args in
    let end : c.loop-k.k ≡ a.p.count = omega arith in
    c.loop-k.invariant.1 ∙ ap (λ (m : ℕ). over (pieces_to a.t.now.sizes a.t.now.owners a.t.now.numbers a.store.now a.p.row a.p.number a.payload.now m) a.out.now) end
