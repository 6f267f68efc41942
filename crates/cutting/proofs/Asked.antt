-- What holds of fragments that are as asked (rule M3).
use mathlib.Core.Path.{◌≡◌, refl, subst}
use mathlib.Core.Bool.{Bool, true, false, ◌&&◌, ◌||◌, beq}
use mathlib.Core.List.{List, [], ◌∷◌}
use Prim.Native.Nat.{ℕ, zero, suc, ◌+◌, ◌≤◌, ◌<◌}
use native.Mathlib.Omega.{arith}
use lib.Dec.{eqb, leb}
use lib.ListN.{length, get_or}
use borrow.Author.Tests.{eqb-true, leb-true}
use Rattle.numbers.proofs.Bytes.{cannot, both_true}
use Rattle.cutting.specs.Cuts.{longest_payload, payload_in, is_tlvs_lem, is_empty_one, is_alike_lem, is_fragment, each_from, no_fragment}
use Rattle.cutting.specs.declared.Proposed.{Proposed}

pub record AsAsked (m payloads : List ℕ) (count : ℕ) (first : Proposed) (i : ℕ) (f : Proposed) : Type 0 where
  pub number_is : f.number ≡ i
  pub mark_is : f.last ≡ eqb (i + 1) count
  pub version_is : f.version ≡ first.version
  pub type_is : f.message_type ≡ first.message_type
  pub inside : f.start + f.length ≤ length payloads
  pub short : f.length ≤ longest_payload
  pub run : (is_tlvs_lem (payload_in payloads f) || is_empty_one m count) ≡ true

same_mark : (a b : Bool) → beq a b ≡ true → a ≡ b
same_mark true true e = refl
same_mark true false e = cannot e
same_mark false true e = cannot e
same_mark false false e = refl

module _ (m payloads : List ℕ) (count : ℕ) (first : Proposed) where
  pub as_asked : (i : ℕ) (f : Proposed) → is_fragment m payloads count first i f ≡ true → AsAsked m payloads count first i f
  unfolding is_fragment
  as_asked i f e =
      let number = eqb f.number i in
      let mark = beq f.last (eqb (i + 1) count) in
      let inside = leb (f.start + f.length) (length payloads) in
      let short = leb f.length longest_payload in
      let o = both_true (number && mark && is_alike_lem f first && inside && short) (is_tlvs_lem (payload_in payloads f) || is_empty_one m count) e in
      let s = both_true (number && mark && is_alike_lem f first && inside) short o.0 in
      let l = both_true (number && mark && is_alike_lem f first) inside s.0 in
      let h = both_true (number && mark) (is_alike_lem f first) l.0 in
      let n = both_true number mark h.0 in
      let v = both_true (eqb f.version first.version) (eqb f.message_type first.message_type) (both_true (eqb f.version first.version && eqb f.message_type first.message_type) (eqb f.id first.id) h.1).0 in
      record {
        number_is = eqb-true f.number i n.0;
        mark_is = same_mark f.last (eqb (i + 1) count) n.1;
        version_is = eqb-true f.version first.version v.0;
        type_is = eqb-true f.message_type first.message_type v.1;
        inside = leb-true (f.start + f.length) (length payloads) l.1;
        short = leb-true f.length longest_payload s.1;
        run = o.1;
      }

  pub each_asked : (i : ℕ) (fs : List Proposed) → each_from (is_fragment m payloads count first) i fs ≡ true → (k : ℕ) → k < length fs → AsAsked m payloads count first (i + k) (get_or fs k no_fragment)
  each_asked i [] e k h = absurd (omega arith)
  each_asked i (f ∷ fs) e k h = by_number k h (both_true (is_fragment m payloads count first i f) (each_from (is_fragment m payloads count first) (i + 1) fs) e) (each_asked (i + 1) fs)
    where
      by_number : (k : ℕ) → k < suc (length fs) → (is_fragment m payloads count first i f ≡ true) × (each_from (is_fragment m payloads count first) (i + 1) fs ≡ true)
          → (each_from (is_fragment m payloads count first) (i + 1) fs ≡ true → (k : ℕ) → k < length fs → AsAsked m payloads count first (i + 1 + k) (get_or fs k no_fragment)) → AsAsked m payloads count first (i + k) (get_or (f ∷ fs) k no_fragment)
      by_number zero h o on = let n : i ≡ i + 0 = omega arith in subst (λ (j : ℕ). AsAsked m payloads count first j f) n (as_asked i f o.0)
      by_number (suc k) h o on = let n : i + 1 + k ≡ i + suc k = omega arith in subst (λ (j : ℕ). AsAsked m payloads count first j (get_or fs k no_fragment)) n (on o.1 k (omega arith))
