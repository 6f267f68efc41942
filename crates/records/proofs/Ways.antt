-- Laws of `empty`, `fixed` and `read_record_lem`: a law for each way that reading can go.
use mathlib.Core.Path.{◌≡◌, refl, ap}
use mathlib.Core.Bool.{Bool, true}
use mathlib.Core.List.{List, []}
use Prim.Native.Nat.{ℕ, ◌<◌, ◌≤◌}
use lib.ListN.{length}
use borrow.Author.Tests.{lt-ltb, le-ltb}
use Rattle.numbers.specs.Numbers.{Answer, gives, refuses, and_then}
use Rattle.records.specs.declared.Record.{Record}
use Rattle.records.specs.declared.RecordKind.{RecordKind}
use Rattle.records.specs.Kinds.{record_kinds, code_of}
use Rattle.records.specs.Reading.{empty, fixed, of_kind_lem, with_code, read_record_lem}

module _ (r : Record) (s : List ℕ) where
  pub filled : 0 < length s → refuses 4 [] ≡ empty r s
  unfolding empty
  filled h = simp (lt-ltb 0 (length s) h)

  pub bare : length s ≤ 0 → gives (record { value = r; consumed = 0 }) ≡ empty r s
  unfolding empty
  bare h = simp (le-ltb 0 (length s) h)

module _ (n : ℕ) (ok : Bool) (r : Record) (s : List ℕ) where
  pub cut : length s < n → refuses 3 [] ≡ fixed n ok r s
  unfolding fixed
  cut h = simp (lt-ltb (length s) n h)

  pub whole : n ≤ length s → ok ≡ true → gives (record { value = r; consumed = n }) ≡ fixed n ok r s
  unfolding fixed
  whole h a = simp (le-ltb (length s) n h, a)

-- what the code says, and then the kind's reading
pub by_code : (c : ℕ) (s : List ℕ) (a : Answer RecordKind) → a ≡ with_code c record_kinds → and_then a (λ k. of_kind_lem k s) ≡ read_record_lem c s
unfolding read_record_lem
by_code c s a e = ap (λ (b : Answer RecordKind). and_then b (λ k. of_kind_lem k s)) e

-- each code of the list is its own kind's: no two have one code
pub by_kind : (k : RecordKind) (s : List ℕ) → read_record_lem (code_of k) s ≡ of_kind_lem k s
unfolding read_record_lem
by_kind RecordKind.EndOfMessage s = refl
by_kind RecordKind.AlMacAddress s = refl
by_kind RecordKind.MacAddress s = refl
by_kind RecordKind.SearchedRole s = refl
by_kind RecordKind.SupportedRole s = refl
by_kind RecordKind.SupportedFreqBand s = refl
by_kind RecordKind.Ieee1905ProfileVersion s = refl
by_kind RecordKind.LinkMetricResultCode s = refl
by_kind RecordKind.LinkMetricQuery s = refl
by_kind RecordKind.ClientAssociation s = refl
by_kind RecordKind.MultiApProfile s = refl
by_kind RecordKind.Profile2ApCapability s = refl
