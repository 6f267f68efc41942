-- The shortfall of 1 and 2 is exact.
use mathlib.Core.Path.{◌≡◌, refl, sym, ap, ◌∙◌}
use mathlib.Core.Bool.{Bool, true, false}
use mathlib.Core.List.{List, [], ◌∷◌, ◌++◌}
use Prim.Native.Nat.{ℕ, ◌-◌, ◌<◌, ◌≤◌}
use native.Mathlib.Omega.{arith}
use lib.Dec.{ltb}
use lib.ListN.{length, length-append}
use lib.Seq.{take-append-le}
use borrow.Author.Tests.{ltb-true, ltb-false}
use Rattle.numbers.specs.Numbers.{Answer, gives, refuses}
use Rattle.numbers.proofs.Firm.{never}
use Rattle.numbers.proofs.Bytes.{number_longer}
use Rattle.framing.specs.declared.TlvRead.{TlvRead}
use Rattle.framing.specs.Tlv.{read_tlv_lem, declared}
use Rattle.framing.specs.Cmdu.{read_header}
use Rattle.framing.specs.Claims.{number_in, Missing}
use Rattle.framing.proofs.Reading as tlv
use Rattle.framing.proofs.Heading as heading

-- a refusal with one value is one number and one value
one_number : {A : Type 0} (n m k l : ℕ) → ◌≡◌ {A = Answer A} (refuses n (k ∷ [])) (refuses m (l ∷ [])) → (n ≡ m) × (k ≡ l)
one_number n m k l e = (cc, cc)

-- with three bytes the declared length is there, and stays
declared_same : (s more : List ℕ) → 3 ≤ length s → declared s ≡ declared (s ++ more)
declared_same s more h = number_longer 2 1 s h more

-- what reads reads the same with more after it
pub longer : (s more : List ℕ) (t : TlvRead) → gives t ≡ read_tlv_lem s → gives t ≡ read_tlv_lem (s ++ more)
longer s more t e =
    let r = tlv.reads s t e in
    tlv.reads_same s (s ++ more) t e (omega (arith, r.inside, length-append s more)) (take-append-le t.consumed s more r.inside)

-- the three cases of a reading
data Case (s : List ℕ) : Type 0 where
  few : length s < 3 → Case s
  past : 3 ≤ length s → length s - 3 < declared s → Case s
  all : 3 ≤ length s → declared s ≤ length s - 3 → Case s

case_of_lem : (s : List ℕ) → Case s
case_of_lem s = go (ltb (length s) 3) (ltb (length s - 3) (declared s)) refl refl
  where
    go : (x y : Bool) → ltb (length s) 3 ≡ x → ltb (length s - 3) (declared s) ≡ y → Case s
    go true y f g = few (ltb-true (length s) 3 f)
    go false true f g = past (ltb-false (length s) 3 f) (ltb-true (length s - 3) (declared s) g)
    go false false f g = all (ltb-false (length s) 3 f) (ltb-false (length s - 3) (declared s) g)

-- a refusal of a TLV has a number of its own
pub numbered : (s : List ℕ) (n : ℕ) (vs : List ℕ) → read_tlv_lem s ≡ refuses n vs → 0 < n
numbered s n vs e = go (case_of_lem s)
  where
    go : Case s → 0 < n
    go (few h) = omega (arith, ap number_in (tlv.short s h ∙ e))
    go (past h l) = omega (arith, ap number_in (tlv.past s (declared s) refl h l ∙ e))
    go (all h l) = never _ _ _ (tlv.whole s (declared s) refl h l ∙ e)

not_one : (s : List ℕ) → 3 ≤ length s → number_in (read_tlv_lem s) ≡ 1 → ⊥
not_one s k e = go (case_of_lem s)
  where
    go : Case s → ⊥
    go (few h) = omega arith
    go (past h l) = omega (arith, ap number_in (tlv.past s (declared s) refl h l), e)
    go (all h l) = omega (arith, ap number_in (tlv.whole s (declared s) refl h l), e)

module _ (s : List ℕ) where
  pub of_tlv : (n missing : ℕ) → read_tlv_lem s ≡ refuses n (missing ∷ []) → Missing read_tlv_lem s n missing
  of_tlv n missing e = go (case_of_lem s)
    where
      go : Case s → Missing read_tlv_lem s n missing
      go (few h) =
          let o = one_number _ _ _ _ (sym e ∙ sym (tlv.short s h)) in
          rw (o.0, o.1) (record {
            again = λ more l. sym (ap number_in (tlv.short (s ++ more) (omega (arith, length-append s more))));
            no_longer = λ more l e. not_one (s ++ more) (omega (arith, length-append s more)) e;
          })
      go (past h l) =
          let o = one_number _ _ _ _ (sym e ∙ sym (tlv.past s (declared s) refl h l)) in
          rw (o.0, o.1) (record {
            again = λ more f. sym (ap number_in (tlv.past (s ++ more) (declared s) (declared_same s more h) (omega (arith, length-append s more)) (omega (arith, length-append s more))));
            no_longer = λ more f e. omega (arith, ap number_in (tlv.whole (s ++ more) (declared s) (declared_same s more h) (omega (arith, length-append s more)) (omega (arith, length-append s more))), e);
          })
      go (all h l) = never _ _ _ (tlv.whole s (declared s) refl h l ∙ e)

  -- with just the missing bytes a TLV that then reads takes all
  pub fills_up : (n missing : ℕ) → read_tlv_lem s ≡ refuses n (missing ∷ []) → (more : List ℕ) → length more ≡ missing → (t : TlvRead) → gives t ≡ read_tlv_lem (s ++ more) → t.consumed ≡ length (s ++ more)
  fills_up n missing e more k t is = go (case_of_lem s)
    where
      r : tlv.Reads (s ++ more) t
      r = tlv.reads (s ++ more) t is

      go : Case s → t.consumed ≡ length (s ++ more)
      go (few h) = omega (arith, (one_number _ _ _ _ (sym e ∙ sym (tlv.short s h))).1, r.all, r.inside, length-append s more)
      go (past h l) = omega (arith, (one_number _ _ _ _ (sym e ∙ sym (tlv.past s (declared s) refl h l))).1, r.all, r.long, declared_same s more h, length-append s more)
      go (all h l) = never _ _ _ (tlv.whole s (declared s) refl h l ∙ e)

  few_of_header : length s < 8 → Missing read_header s 1 (8 - length s)
  few_of_header h = record {
    again = λ more l. sym (ap number_in (heading.short (s ++ more) (omega (arith, length-append s more))));
    no_longer = λ more l e. omega (arith, ap number_in (heading.whole (s ++ more) _ _ (omega (arith, length-append s more)) refl refl), e);
  }

  pub of_header : (n missing : ℕ) → read_header s ≡ refuses n (missing ∷ []) → Missing read_header s n missing
  of_header n missing e = go (ltb (length s) 8) refl
    where
      go : (x : Bool) → ltb (length s) 8 ≡ x → Missing read_header s n missing
      go true f = let h = ltb-true (length s) 8 f in let o = one_number _ _ _ _ (sym e ∙ sym (heading.short s h)) in rw (o.0, o.1) (few_of_header h)
      go false f = never _ _ _ (heading.whole s _ _ (ltb-false (length s) 8 f) refl refl ∙ e)
