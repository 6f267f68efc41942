-- Laws of `reads_as_lem`, by which a look at one record is right.
use mathlib.Core.Path.{◌≡◌, refl, sym, ap, ◌∙◌}
use mathlib.Core.Bool.{Bool, true, false, cond}
use mathlib.Core.List.{List}
use mathlib.Core.Option.{Option, none, some}
use Prim.Native.Nat.{ℕ, ◌+◌, ◌≤◌}
use native.Mathlib.Omega.{arith}
use lib.Dec.{eqb, leb}
use lib.ListN.{length}
use borrow.Author.Tests.{leb-true}
use Rattle.numbers.specs.Numbers.{Answer, gives, refuses, mapped, answered, is_given}
use Rattle.records.specs.declared.Record.{Record}
use Rattle.std.specs.Prelude.{Result, Ok, Err, is_ok}
use Rattle.numbers.specs.declared.Refusal.{Refusal}
use Rattle.kinds.specs.declared.Typed.{Typed}
use Rattle.kinds.specs.Kinds.{is_kind_lem, read_kind_lem, without_record}
use Rattle.kinds.proofs.Laws.{of_a_kind as reads-a-kind}
use Rattle.walking.specs.declared.Tlv.{Tlv}
use Rattle.finding.specs.Finding.{is_candidate_lem, value_of, if_given, is_there_lem, reads_as_lem}
use Rattle.finding.specs.Private.{looked_as}

module _ (code : ℕ) (payload : List ℕ) (t : Tlv) where
  -- a candidate lies inside the payload, and reads as its value does
  pub inside : is_candidate_lem code (length payload) t ≡ true → t.offset + 3 + t.length ≤ length payload
  inside = by_tests (eqb t.tlv_type code)
    where
      by_tests : (a : Bool) → cond a (leb (t.offset + 3 + t.length) (length payload)) false ≡ true → t.offset + 3 + t.length ≤ length payload
      by_tests true e = leb-true (t.offset + 3 + t.length) (length payload) e
      by_tests false e = let z : ◌≡◌ {A = ℕ} 0 1 = cc in absurd (omega arith)

  reads : is_candidate_lem code (length payload) t ≡ true → if_given (read_kind_lem code (value_of payload t)) ≡ reads_as_lem code payload t
  unfolding reads_as_lem
  reads e = ap (λ (b : Bool). cond b (if_given (read_kind_lem code (value_of payload t))) none) (sym e)

  -- and its value may be measured instead
  still : (x : Answer (Typed Record)) → is_given (mapped without_record x) ≡ is_there_lem (if_given x)
  still (gives r) = refl
  still (refuses n vs) = refl

  -- a result that is given is one that answers
  ok_given : {A : Type 0} (r : Result A Refusal) → is_ok r ≡ is_given (answered r)
  ok_given (Ok a) = refl
  ok_given (Err r) = refl

  pub measured : (value : List ℕ) (size : Result (Typed Unit) Refusal) → answered size ≡ mapped without_record (read_kind_lem code value) → value ≡ value_of payload t
      → is_candidate_lem code (length payload) t ≡ true → is_ok size ≡ is_there_lem (reads_as_lem code payload t)
  measured value size e v h = ok_given size ∙ rw (e, v) (still (read_kind_lem code (value_of payload t)) ∙ ap is_there_lem (reads h))

  pub looked_at : (looked : ℕ) (value : List ℕ) (x : Answer (Typed Record)) → x ≡ read_kind_lem code value → value ≡ value_of payload t
      → is_candidate_lem code (length payload) t ≡ true → looked_as (if_given x) looked t ≡ looked_as (reads_as_lem code payload t) looked t
  looked_at looked value x e v h = ap (λ (y : Option (Typed Record)). looked_as y looked t) (ap if_given (e ∙ ap (read_kind_lem code) v) ∙ reads h)

  pub no_candidate : is_candidate_lem code (length payload) t ≡ false → none ≡ reads_as_lem code payload t
  unfolding reads_as_lem
  no_candidate e = ap (λ (b : Bool). cond b (if_given (read_kind_lem code (value_of payload t))) none) (sym e)

  -- what a record reads as is what its value reads as
  by_test : (b : Bool) (x : Answer (Typed Record)) (r : Typed Record) → some r ≡ cond b (if_given x) none → gives r ≡ x
  by_test true (gives r') r e = let i : r ≡ r' = cc in ap gives i
  by_test true (refuses n vs) r e = let z : ◌≡◌ {A = ℕ} 0 1 = cc in absurd (omega arith)
  by_test false x r e = let z : ◌≡◌ {A = ℕ} 0 1 = cc in absurd (omega arith)

  pub value_reads : (r : Typed Record) → some r ≡ reads_as_lem code payload t → gives r ≡ read_kind_lem code (value_of payload t)
  unfolding reads_as_lem
  value_reads r e = by_test (is_candidate_lem code (length payload) t) (read_kind_lem code (value_of payload t)) r e

  pub of_a_kind : (r : Typed Record) → some r ≡ reads_as_lem code payload t → true ≡ is_kind_lem code
  of_a_kind r e = reads-a-kind code (value_of payload t) r (value_reads r e)
