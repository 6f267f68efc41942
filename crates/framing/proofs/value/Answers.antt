-- `value` meets its contract: the part from byte 3 to the last byte consumed.
use mathlib.Core.Path.{sym, ◌∙◌, ap}
use Prim.Native.Nat.{ℕ}
use native.Mathlib.Omega.{arith}
use lib.ListN.{length-take}
use borrow.Author.Rules.{rules}
use Rattle.numbers.specs.Parts.{behind}
use Rattle.numbers.specs.Numbers.{answered}
use Rattle.framing.proofs.Reading.{reads, value_given, value_refused, from_start}
use Rattle.framing.proofs.value.Goals as goal

pub slice_bounds-result-count : goal.slice_bounds-result-count
slice_bounds-result-count c = omega (arith, (reads _ _ (ap answered (sym c.in-Ok.is) ∙ c.read_tlv.ensures)).all)

pub slice_bounds-result-start : goal.slice_bounds-result-start
slice_bounds-result-start c = omega (arith, (reads _ _ (ap answered (sym c.in-Ok.is) ∙ c.read_tlv.ensures)).all)

pub slice_bounds-result-end : goal.slice_bounds-result-end
slice_bounds-result-end c = (reads _ _ (ap answered (sym c.in-Ok.is) ∙ c.read_tlv.ensures)).inside

pub returns-in-Ok : goal.returns-in-Ok
returns-in-Ok c =
    let v = value_given _ _ (ap answered (sym c.in-Ok.is) ∙ c.read_tlv.ensures) in
    record { bytes = v.0; place = ap (λ (n : ℕ). behind n c.args.s) v.1 }

pub returns-in-Err : goal.returns-in-Err
returns-in-Err c =
    let e = ap answered (sym c.in-Err.is) ∙ c.read_tlv.ensures in
    record { bytes = value_refused _ _ _ _ e (search (rules, length-take)); place = ap (λ (n : ℕ). behind n c.args.s) (from_start _ _ _ e) }
