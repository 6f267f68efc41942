-- A look at the record that was found answers what is to be found.
use mathlib.Core.Path.{◌≡◌, refl, sym, ap, ◌∙◌}
use mathlib.Core.List.{List}
use Prim.Native.Nat.{ℕ, ◌-◌, ◌<◌}
use native.Mathlib.Omega.{arith}
use lib.ListN.{length, get_or}
use Rattle.numbers.specs.Numbers.{Answer, gives, refuses, mapped}
use Rattle.walking.specs.declared.Tlv.{Tlv}
use Rattle.walking.specs.Walk.{no_tlv}
use Rattle.finding.specs.declared.Hit.{Hit}
use Rattle.finding.specs.Finding.{reads_as_lem, find_from}
use Rattle.finding.specs.Private.{looked_as}
use Rattle.numbers.proofs.Firm.{never}
use Rattle.numbers.proofs.Answers.{given}
use Rattle.finding.proofs.First.{is_first}

module _ (code : ℕ) (payload : List ℕ) (ys : List Tlv) (from k : ℕ) (e : gives k ≡ mapped (λ h. h.looked) (find_from code ys payload from)) where
  -- what was found has that number
  number : (h : Hit) → gives h ≡ find_from code ys payload from → k ≡ h.looked
  number h g = given k h.looked (e ∙ ap (mapped (λ (h : Hit). h.looked)) (sym g))

  none : {B : Type 0} (n : ℕ) (vs : List ℕ) → refuses n vs ≡ find_from code ys payload from → B
  none n vs g = never k n vs (e ∙ ap (mapped (λ (h : Hit). h.looked)) (sym g))

  pub inside : (0 < k) × (k - 1 < length ys)
  inside = by_finding (find_from code ys payload from) refl
    where
      by_finding : (x : Answer Hit) → x ≡ find_from code ys payload from → (0 < k) × (k - 1 < length ys)
      by_finding (gives h) g =
          let first = is_first code payload ys from h g in
          (omega (arith, number h g, first.behind), omega (arith, number h g, first.behind, first.there))
      by_finding (refuses n vs) g = none n vs g

  pub there : looked_as (reads_as_lem code payload (get_or ys (k - 1) no_tlv)) k (get_or ys (k - 1) no_tlv) ≡ find_from code ys payload from
  there = by_finding (find_from code ys payload from) refl
    where
      by_finding : (x : Answer Hit) → x ≡ find_from code ys payload from → looked_as (reads_as_lem code payload (get_or ys (k - 1) no_tlv)) k (get_or ys (k - 1) no_tlv) ≡ x
      by_finding (gives h) g = let first = is_first code payload ys from h g in rw (number h g, first.is, sym first.reads)
      by_finding (refuses n vs) g = none n vs g

-- where no place is given, nothing is found, for the same reason
pub not_there : (x : Answer Hit) (n : ℕ) (vs : List ℕ) → refuses n vs ≡ mapped (λ h. h.looked) x → refuses n vs ≡ x
not_there (gives h) n vs e = never _ _ _ (sym e)
not_there (refuses m ws) n vs e = let i : n ≡ m = cc in let j : vs ≡ ws = cc in rw (i, j)
