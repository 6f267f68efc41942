-- Going on after each answer gives every readable record of the kind once, in the list's order.
use mathlib.Core.Path.{◌≡◌, refl, sym, ap, ◌∙◌}
use mathlib.Core.Bool.{true}
use mathlib.Core.List.{List, [], ◌∷◌}
use mathlib.Core.Option.{Option, none, some}
use Prim.Native.Nat.{ℕ, zero, suc, ◌+◌, ◌-◌, ◌≤◌, ◌<◌}
use native.Mathlib.Omega.{arith}
use lib.ListN.{length, drop, drop_of_length-le}
use lib.Seq.{drop-drop}
use Rattle.numbers.specs.Numbers.{Answer, refuses}
use Rattle.records.specs.declared.Record.{Record}
use Rattle.kinds.specs.declared.Typed.{Typed}
use Rattle.kinds.specs.Kinds.{is_kind_lem}
use Rattle.walking.specs.declared.Tlv.{Tlv}
use Rattle.finding.specs.declared.Hit.{Hit}
use Rattle.finding.specs.Finding.{reads_as_lem, there_or, first_of, found_or, find_from}
use Rattle.finding.specs.Claims.{hit_then, all_that_read, and_on_lem, collected}
use Rattle.finding.proofs.Passing.{first_nil, first_cons}

-- what was found, and what follows it
abbrev found_then : Option Hit → (Hit → List Hit) → List Hit
found_then (some h) on = h ∷ on h
found_then none on = []

module _ (code : ℕ) (payload : List ℕ) where
  not_before : (before : ℕ) (ts : List Tlv) (h : Hit) → some h ≡ first_of code payload before ts → before < h.looked
  not_before before [] h e = let f : some h ≡ none = e ∙ first_nil code payload before in let z : ◌≡◌ {A = ℕ} 0 1 = cc in absurd (omega arith)
  not_before before (t ∷ ts) h e = by_reading (reads_as_lem code payload t) (e ∙ first_cons code payload before t ts) (not_before (before + 1) ts h)
    where
      by_reading : (x : Option (Typed Record)) → some h ≡ there_or x (before + 1) t (first_of code payload (before + 1) ts) → (some h ≡ first_of code payload (before + 1) ts → before + 1 < h.looked) → before < h.looked
      by_reading (some r) e on =
          let p : h ≡ record { looked = before + 1; tlv = t; reading = r } = cc in
          omega (arith, ap (λ (x : Hit). x.looked) p)
      by_reading none e on = omega (arith, on e)

  -- the first that reads, and those after it
  split_first : (before : ℕ) (ts : List Tlv) → all_that_read code payload before ts ≡ found_then (first_of code payload before ts) (λ h. all_that_read code payload h.looked (drop (h.looked - before) ts))
  split_first before [] = sym (ap (λ (x : Option Hit). found_then x (λ h. all_that_read code payload h.looked (drop (h.looked - before) []))) (first_nil code payload before))
  split_first before (t ∷ ts) =
      by_reading (reads_as_lem code payload t) (split_first (before + 1) ts)
      ∙ sym (ap (λ (x : Option Hit). found_then x (λ h. all_that_read code payload h.looked (drop (h.looked - before) (t ∷ ts)))) (first_cons code payload before t ts))
    where
      later : (x : Option Hit) → x ≡ first_of code payload (before + 1) ts
          → found_then x (λ h. all_that_read code payload h.looked (drop (h.looked - (before + 1)) ts)) ≡ found_then x (λ h. all_that_read code payload h.looked (drop (h.looked - before) (t ∷ ts)))
      later (some h) e =
          let b = not_before (before + 1) ts h e in
          let s : h.looked - before ≡ suc (h.looked - (before + 1)) = omega arith in
          ap (λ (k : ℕ). h ∷ all_that_read code payload h.looked (drop k (t ∷ ts))) (sym s)
      later none e = refl

      by_reading : (x : Option (Typed Record)) → all_that_read code payload (before + 1) ts ≡ found_then (first_of code payload (before + 1) ts) (λ h. all_that_read code payload h.looked (drop (h.looked - (before + 1)) ts))
          → hit_then x (before + 1) t (all_that_read code payload (before + 1) ts) ≡ found_then (there_or x (before + 1) t (first_of code payload (before + 1) ts)) (λ h. all_that_read code payload h.looked (drop (h.looked - before) (t ∷ ts)))
      by_reading (some r) on =
          let s : before + 1 - before ≡ 1 = omega arith in
          ap (λ (k : ℕ). record { looked = before + 1; tlv = t; reading = r } ∷ all_that_read code payload (before + 1) (drop k (t ∷ ts))) (sym s)
      by_reading none on = on ∙ later (first_of code payload (before + 1) ts) refl

  module _ (ys : List Tlv) (kind : is_kind_lem code ≡ true) where
    find_is : (from : ℕ) → find_from code ys payload from ≡ found_or (first_of code payload from (drop from ys)) (refuses 15 (length ys ∷ []))
    unfolding find_from
    find_is from = rw kind

    pub every_one : (most from : ℕ) → length ys ≤ from + most → collected most code ys payload from ≡ all_that_read code payload from (drop from ys)
    every_one zero from l =
        let h : length ys ≤ from = omega arith in
        let z : drop from ys ≡ [] = drop_of_length-le ys h in
        rw z
    every_one (suc most) from l =
        ap (λ (x : Answer Hit). and_on_lem x (λ h. collected most code ys payload h.looked)) (find_is from)
        ∙ each (first_of code payload from (drop from ys)) refl (every_one most)
        ∙ sym (split_first from (drop from ys))
      where
        each : (x : Option Hit) → x ≡ first_of code payload from (drop from ys) → ((from : ℕ) → length ys ≤ from + most → collected most code ys payload from ≡ all_that_read code payload from (drop from ys))
            → and_on_lem (found_or x (refuses 15 (length ys ∷ []))) (λ h. collected most code ys payload h.looked) ≡ found_then x (λ h. all_that_read code payload h.looked (drop (h.looked - from) (drop from ys)))
        each (some h) e on =
            let b = not_before from (drop from ys) h e in
            let s : from + (h.looked - from) ≡ h.looked = omega arith in
            ap (λ (l : List Hit). h ∷ l)
            (on h.looked (omega arith) ∙ ap (λ (k : ℕ). all_that_read code payload h.looked (drop k ys)) (sym s) ∙ ap (all_that_read code payload h.looked) (sym (drop-drop (h.looked - from) from ys)))
        each none e on = refl
