-- No code is of two families: a test over the codes of the records, and one over those of the kinds that hold text.
use mathlib.Core.Path.{◌≡◌, refl, ap, ◌∙◌}
use mathlib.Core.Bool.{Bool, true, false, cond}
use mathlib.Core.List.{List, [], ◌∷◌}
use Prim.Native.Nat.{ℕ}
use native.Mathlib.Omega.{arith}
use lib.Dec.{eqb}
use borrow.Author.Tests.{eqb-true}
use Rattle.numbers.specs.Numbers.{gives, is_given}
use Rattle.records.specs.declared.RecordKind.{RecordKind}
use Rattle.records.specs.Kinds.{record_kinds, code_of}
use Rattle.records.specs.Reading.{is_record_lem, with_code}
use Rattle.layouts.specs.Layouts.{layout_of, is_list_lem}
use Rattle.texts.specs.Texts.{text_kind, is_text_lem}
use Rattle.texts.proofs.Claims.{of_three}
use Rattle.kinds.specs.declared.Family.{Family}
use Rattle.kinds.specs.Kinds.{family_of_lem}
use Rattle.kinds.specs.Claims.{Apart}

abbrev has_entries : ℕ → Bool
has_entries code = cond (is_list_lem code) true (is_text_lem code)

abbrev none_listed : List RecordKind → Bool
none_listed [] = true
none_listed (k ∷ ks) = cond (has_entries (code_of k)) false (none_listed ks)

tested : none_listed record_kinds ≡ true
unfolding is_list_lem layout_of is_text_lem text_kind
tested = refl

of_these : (code : ℕ) (ks : List RecordKind) → none_listed ks ≡ true → is_given (with_code code ks) ≡ true → has_entries code ≡ false
of_these code [] t e = let z : ◌≡◌ {A = ℕ} 0 1 = cc in absurd (omega arith)
of_these code (k ∷ ks) t e = by_list (has_entries (code_of k)) refl t (of_these code ks)
  where
    by_code : (b : Bool) → eqb code (code_of k) ≡ b → is_given (cond b (gives k) (with_code code ks)) ≡ true → has_entries (code_of k) ≡ false → (is_given (with_code code ks) ≡ true → has_entries code ≡ false) →
        has_entries code ≡ false
    by_code true f e l on = ap has_entries (eqb-true code (code_of k) f) ∙ l
    by_code false f e l on = on e

    by_list : (b : Bool) → has_entries (code_of k) ≡ b → cond b false (none_listed ks) ≡ true → (none_listed ks ≡ true → is_given (with_code code ks) ≡ true → has_entries code ≡ false) → has_entries code ≡ false
    by_list true f t on = let z : ◌≡◌ {A = ℕ} 0 1 = cc in absurd (omega arith)
    by_list false f t on = by_code (eqb code (code_of k)) refl e f (on t)

neither : (a b : Bool) → cond a true b ≡ false → (a ≡ false) × (b ≡ false)
neither true b e = let z : ◌≡◌ {A = ℕ} 0 1 = cc in absurd (omega arith)
neither false b e = (refl, e)

text_apart : (code : ℕ) → is_text_lem code ≡ true → is_list_lem code ≡ false
unfolding is_list_lem layout_of
text_apart = of_three (λ c. is_list_lem c ≡ false) refl refl refl

pub apart : Apart
apart code = (λ r. neither (is_list_lem code) (is_text_lem code) (of_these code record_kinds tested r), text_apart code)

-- so a record's code is of the records' family
pub of_records : (code : ℕ) → is_record_lem code ≡ true → Family.Record ≡ family_of_lem code
of_records code r = let n = (apart code).0 r in rw (n.0, n.1)

pub inventory : family_of_lem 0xD4 ≡ Family.Text
unfolding is_list_lem layout_of is_text_lem text_kind
inventory = refl
