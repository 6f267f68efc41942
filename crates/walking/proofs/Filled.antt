-- What the loop that fills the list keeps: the walk's TLV number i stands at `at`, and the entries before i are
-- written.
use Rattle.std.specs.Prelude.{Some}
use mathlib.Core.Path.{◌≡◌, refl, sym, ◌∙◌, ap}
use mathlib.Core.List.{List}
use Prim.Native.Nat.{ℕ, ◌+◌, ◌≤◌, ◌<◌}
use native.Mathlib.Numerals.{add-one}
use lib.ListN.{length, take, set}
use lib.Seq.{take-suc, take-suc-set, take_all}
use Rattle.walking.specs.declared.Tlv.{Tlv}
use Rattle.walking.specs.Walk.{step_at, walk_of, no_tlv}
use Rattle.walking.specs.PrivateSteps.{passed_by}
use Rattle.walking.specs.declared.Passed.{Passed}
use Rattle.walking.proofs.Chained.{Stands, stands_first, tlv_is, stands_next}

module _ (p : List ℕ) where
  abbrev ts : List Tlv
  ts = (walk_of p).items

  pub record Filled (i at : ℕ) (zs : List Tlv) : Type 0 where
    pub so_far : take i zs ≡ take i ts
    pub here : Stands p i at

  pub begins : (zs : List Tlv) → Filled 0 0 zs
  begins zs = record { so_far = refl; here = stands_first p }

  module _ (i at : ℕ) (zs : List Tlv) (f : Filled i at zs) where
    pub goes_on : i < length zs → i < length ts → (o : Passed) → Some o ≡ passed_by (step_at p at) → Filled (i + 1) o.next (set zs i o.tlv)
    goes_on room l o said = record {
      so_far = ap (λ (m : ℕ). take m (set zs i o.tlv)) (add-one i) ∙ take-suc-set zs i o.tlv room ∙ rw (f.so_far, tlv_is p i at f.here l o said) (sym (take-suc ts i no_tlv l)) ∙ ap (λ (m : ℕ). take m ts) (sym (add-one i));
      here = stands_next p i at f.here l o said;
    }

    -- as many entries as the walk has TLVs
    pub ends : length zs ≤ i → length ts ≤ i → zs ≡ ts
    ends room l = sym (take_all i zs room) ∙ f.so_far ∙ take_all i ts l
