-- How a search through a list goes on, answers, or ends: what is found from place i on is what is to be found.
use mathlib.Core.Path.{◌≡◌, refl, sym, ap, ◌∙◌}
use mathlib.Core.Bool.{Bool, true, false, cond}
use mathlib.Core.List.{List, [], ◌∷◌}
use mathlib.Core.Option.{Option, none, some}
use Prim.Native.Nat.{ℕ, ◌+◌, ◌≤◌, ◌<◌}
use native.Mathlib.Omega.{arith}
use native.Mathlib.Numerals.{add-one}
use lib.ListN.{length, get_or, drop, drop_of_length-le}
use lib.Seq.{drop-cons}
use Rattle.numbers.specs.Numbers.{gives, refuses, mapped}
use Rattle.records.specs.declared.Record.{Record}
use Rattle.kinds.specs.declared.Typed.{Typed}
use Rattle.kinds.specs.Kinds.{is_kind_lem}
use Rattle.walking.specs.declared.Tlv.{Tlv}
use Rattle.walking.specs.Walk.{no_tlv}
use Rattle.finding.specs.declared.Hit.{Hit}
use Rattle.finding.specs.Finding.{is_there_lem, reads_as_lem, there_or, first_of, found_or, find_from}
use Rattle.finding.specs.Private.{none_of_lem}
use Rattle.finding.proofs.Looking.{of_a_kind}

pub record Passed (code : ℕ) (payload : List ℕ) (ys : List Tlv) (from i : ℕ) : Type 0 where
  pub same : first_of code payload i (drop i ys) ≡ first_of code payload from (drop from ys)

pub first_nil : (code : ℕ) (payload : List ℕ) (before : ℕ) → first_of code payload before [] ≡ none
unfolding first_of
first_nil code payload before = refl

pub first_cons : (code : ℕ) (payload : List ℕ) (before : ℕ) (t : Tlv) (ts : List Tlv) → first_of code payload before (t ∷ ts) ≡ there_or (reads_as_lem code payload t) (before + 1) t (first_of code payload (before + 1) ts)
unfolding first_of
first_cons code payload before t ts = refl

module _ (code : ℕ) (payload : List ℕ) (ys : List Tlv) (from : ℕ) where
  pub begins : Passed code payload ys from from
  begins = record { same = refl }

  module _ (i : ℕ) (f : Passed code payload ys from i) where
    -- one turn: the record at i, or what is after it
    turn : i < length ys → there_or (reads_as_lem code payload (get_or ys i no_tlv)) (i + 1) (get_or ys i no_tlv) (first_of code payload (i + 1) (drop (i + 1) ys)) ≡ first_of code payload from (drop from ys)
    turn l =
        let e : drop i ys ≡ get_or ys i no_tlv ∷ drop (i + 1) ys = rw (add-one, drop-cons ys i no_tlv) in
        sym (first_cons code payload i (get_or ys i no_tlv) (drop (i + 1) ys)) ∙ ap (first_of code payload i) (sym e) ∙ f.same

    pub goes_on : i < length ys → is_there_lem (reads_as_lem code payload (get_or ys i no_tlv)) ≡ false → Passed code payload ys from (i + 1)
    goes_on l = by_reading (reads_as_lem code payload (get_or ys i no_tlv)) (turn l)
      where
        by_reading : (x : Option (Typed Record)) → there_or x (i + 1) (get_or ys i no_tlv) (first_of code payload (i + 1) (drop (i + 1) ys)) ≡ first_of code payload from (drop from ys) → is_there_lem x ≡ false → Passed code payload ys from (i + 1)
        by_reading (some r) e h = let z : ◌≡◌ {A = ℕ} 0 1 = cc in absurd (omega arith)
        by_reading none e h = record { same = e }

    -- a hit is of a kind, so that 16 is not to be answered
    pub found : i < length ys → is_there_lem (reads_as_lem code payload (get_or ys i no_tlv)) ≡ true → gives (i + 1) ≡ mapped (λ h. h.looked) (find_from code ys payload from)
    unfolding find_from
    found l = by_reading (reads_as_lem code payload (get_or ys i no_tlv)) refl (turn l)
      where
        by_reading : (x : Option (Typed Record)) → x ≡ reads_as_lem code payload (get_or ys i no_tlv) → there_or x (i + 1) (get_or ys i no_tlv) (first_of code payload (i + 1) (drop (i + 1) ys)) ≡ first_of code payload from (drop from ys)
            → is_there_lem x ≡ true → gives (i + 1) ≡ mapped (λ (h : Hit). h.looked) (cond (is_kind_lem code) (found_or (first_of code payload from (drop from ys)) (refuses 15 (length ys ∷ []))) (refuses 16 []))
        by_reading (some r) e f h = rw (sym (of_a_kind code payload (get_or ys i no_tlv) r e), sym f)
        by_reading none e f h = let z : ◌≡◌ {A = ℕ} 0 1 = cc in absurd (omega arith)

    pub missed : length ys ≤ i → none_of_lem code (length ys) ≡ mapped (λ h. h.looked) (find_from code ys payload from)
    unfolding find_from
    missed l = by_kind (is_kind_lem code)
      where
        nowhere : first_of code payload from (drop from ys) ≡ none
        nowhere = sym f.same ∙ ap (first_of code payload i) (drop_of_length-le ys l) ∙ first_nil code payload i

        by_kind : (b : Bool) → cond b (refuses 15 (length ys ∷ [])) (refuses 16 []) ≡ mapped (λ (h : Hit). h.looked) (cond b (found_or (first_of code payload from (drop from ys)) (refuses 15 (length ys ∷ []))) (refuses 16 []))
        by_kind true = rw nowhere
        by_kind false = refl
