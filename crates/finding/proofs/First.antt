-- What is found is the first that reads, and where none is found none reads: said by places, without the definition's
-- recursion.
use mathlib.Core.Path.{◌≡◌, refl, sym, ap, ◌∙◌}
use mathlib.Core.Bool.{Bool, true, false, cond}
use mathlib.Core.List.{List, [], ◌∷◌, ◌++◌}
use mathlib.Core.Option.{Option, none, some}
use Prim.Native.Nat.{ℕ, zero, suc, ◌+◌, ◌-◌, ◌≤◌, ◌<◌}
use native.Mathlib.Omega.{arith}
use lib.ListN.{length, get_or, drop, length-drop}
use lib.Seq.{get_or-drop}
use Rattle.numbers.specs.Numbers.{Answer, gives, refuses}
use Rattle.numbers.proofs.Firm.{never}
use Rattle.records.specs.declared.Record.{Record}
use Rattle.kinds.specs.declared.Typed.{Typed}
use Rattle.kinds.specs.Kinds.{is_kind_lem}
use Rattle.walking.specs.declared.Tlv.{Tlv}
use Rattle.walking.specs.Walk.{no_tlv}
use Rattle.finding.specs.declared.Hit.{Hit}
use Rattle.finding.specs.Finding.{is_there_lem, reads_as_lem, there_or, first_of, found_or, find_from}
use Rattle.finding.specs.Claims.{reads_at, IsFirst}

module _ (code : ℕ) (payload : List ℕ) where
  -- h is record number k of these, from 0; so many stand in front of them
  record Nth (before : ℕ) (ts : List Tlv) (h : Hit) : Type 0 where
    k : ℕ
    its : h.looked ≡ before + k + 1
    there : k < length ts
    is : get_or ts k no_tlv ≡ h.tlv
    reads : some h.reading ≡ reads_as_lem code payload h.tlv
    none_before : (j : ℕ) → j < k → reads_at code payload ts j ≡ false

  nth : (before : ℕ) (ts : List Tlv) (h : Hit) → some h ≡ first_of code payload before ts → Nth before ts h
  unfolding first_of
  nth before [] h e = let z : ◌≡◌ {A = ℕ} 0 1 = cc in absurd (omega arith)
  nth before (t ∷ ts) h e = by_reading (reads_as_lem code payload t) refl e (nth (before + 1) ts h)
    where
      by_reading : (x : Option (Typed Record)) → x ≡ reads_as_lem code payload t → some h ≡ there_or x (before + 1) t (first_of code payload (before + 1) ts)
          → (some h ≡ first_of code payload (before + 1) ts → Nth (before + 1) ts h) → Nth before (t ∷ ts) h
      by_reading (some r) f e on =
          let p : h ≡ record { looked = before + 1; tlv = t; reading = r } = cc in
          record {
            k = 0;
            its = ap (λ (x : Hit). x.looked) p ∙ omega arith;
            there = omega arith;
            is = sym (ap (λ (x : Hit). x.tlv) p);
            reads = ap (λ (x : Hit). some x.reading) p ∙ f ∙ ap (reads_as_lem code payload) (sym (ap (λ (x : Hit). x.tlv) p));
            none_before = λ j l. absurd (omega arith);
          }
      by_reading none f e on =
          let h' = on e in
          record {
            k = suc h'.k;
            its = omega (arith, h'.its);
            there = omega (arith, h'.there);
            is = h'.is;
            reads = h'.reads;
            none_before = earlier h'.k h'.none_before;
          }
        where
          earlier : (k : ℕ) → ((j : ℕ) → j < k → reads_at code payload ts j ≡ false) → (j : ℕ) → j < suc k → reads_at code payload (t ∷ ts) j ≡ false
          earlier k none_before zero l = ap is_there_lem (sym f)
          earlier k none_before (suc j) l = none_before j (omega arith)

  none_reads : (before : ℕ) (ts : List Tlv) → none ≡ first_of code payload before ts → (j : ℕ) → j < length ts → reads_at code payload ts j ≡ false
  unfolding first_of
  none_reads before [] e j l = absurd (omega arith)
  none_reads before (t ∷ ts) e j l = by_reading (reads_as_lem code payload t) refl e (none_reads (before + 1) ts) j l
    where
      by_reading : (x : Option (Typed Record)) → x ≡ reads_as_lem code payload t → none ≡ there_or x (before + 1) t (first_of code payload (before + 1) ts)
          → (none ≡ first_of code payload (before + 1) ts → (j : ℕ) → j < length ts → reads_at code payload ts j ≡ false) → (j : ℕ) → j < length (t ∷ ts) → reads_at code payload (t ∷ ts) j ≡ false
      by_reading (some r) f e on j l = let z : ◌≡◌ {A = ℕ} 0 1 = cc in absurd (omega arith)
      by_reading none f e on zero l = ap is_there_lem (sym f)
      by_reading none f e on (suc j) l = on e j (omega arith)

  -- what stands after the list's records plays no part, once one of them reads
  pub unchanged : (before : ℕ) (ts us : List Tlv) (h : Hit) → some h ≡ first_of code payload before ts → some h ≡ first_of code payload before (ts ++ us)
  unfolding first_of
  unchanged before [] us h e = let z : ◌≡◌ {A = ℕ} 0 1 = cc in absurd (omega arith)
  unchanged before (t ∷ ts) us h e = by_reading (reads_as_lem code payload t) e (unchanged (before + 1) ts us h)
    where
      by_reading : (x : Option (Typed Record)) → some h ≡ there_or x (before + 1) t (first_of code payload (before + 1) ts)
          → (some h ≡ first_of code payload (before + 1) ts → some h ≡ first_of code payload (before + 1) (ts ++ us)) → some h ≡ there_or x (before + 1) t (first_of code payload (before + 1) (ts ++ us))
      by_reading (some r) e on = e
      by_reading none e on = on e

  -- what is found is no refusal, and what is refused was not found
  pub was_found : (x : Option Hit) (other : Answer Hit) (n : ℕ) (vs : List ℕ) (h : Hit) → other ≡ refuses n vs → gives h ≡ found_or x other → some h ≡ x
  was_found (some g) other n vs h o e = let i : h ≡ g = cc in ap some i
  was_found none other n vs h o e = never _ _ _ (e ∙ o)

  pub was_none : (x : Option Hit) (other : Answer Hit) (n : ℕ) (vs : List ℕ) → refuses n vs ≡ found_or x other → (none ≡ x) × (refuses n vs ≡ other)
  was_none (some g) other n vs e = never _ _ _ (sym e)
  was_none none other n vs e = (refl, e)

  module _ (ys : List Tlv) (from : ℕ) where
    at_place : (k : ℕ) → get_or (drop from ys) k no_tlv ≡ get_or ys (from + k) no_tlv
    at_place k = get_or-drop from ys k no_tlv

    of_kind : (b : Bool) (x : Option Hit) (n : ℕ) (vs : List ℕ) (h : Hit) → gives h ≡ cond b (found_or x (refuses n vs)) (refuses 16 []) → some h ≡ x
    of_kind true x n vs h e = was_found x (refuses n vs) n vs h refl e
    of_kind false x n vs h e = never _ _ _ e

    pub is_first : (h : Hit) → gives h ≡ find_from code ys payload from → IsFirst code payload ys from h
    unfolding find_from
    is_first h e =
        let n = nth from (drop from ys) h (of_kind (is_kind_lem code) _ 15 (length ys ∷ []) h e) in
        let i : h.looked - 1 ≡ from + n.k = omega (arith, n.its) in
        record {
          behind = omega (arith, n.its);
          there = omega (arith, n.its, n.there, length-drop from ys);
          is = ap (λ (k : ℕ). get_or ys k no_tlv) i ∙ sym (at_place n.k) ∙ n.is;
          reads = n.reads;
          first = λ k l m.
              let s : from + (k - from) ≡ k = omega arith in
              ap (λ (t : Tlv). is_there_lem (reads_as_lem code payload t)) (ap (λ (i : ℕ). get_or ys i no_tlv) (sym s) ∙ sym (at_place (k - from))) ∙ n.none_before (k - from) (omega (arith, n.its));
        }

    -- 15: none of them reads
    none_of_kind : (b : Bool) (x : Option Hit) (vs ws : List ℕ) → refuses 15 vs ≡ cond b (found_or x (refuses 15 ws)) (refuses 16 []) → (none ≡ x) × (vs ≡ ws)
    none_of_kind true x vs ws e = let w = was_none x (refuses 15 ws) 15 vs e in (w.0, told_so w.1)
      where
        told_so : ◌≡◌ {A = Answer Hit} (refuses 15 vs) (refuses 15 ws) → vs ≡ ws
        told_so f = cc
    none_of_kind false x vs ws e = let z : ◌≡◌ {A = ℕ} 15 16 = cc in absurd (omega arith)

    pub none_there : (vs : List ℕ) → refuses 15 vs ≡ find_from code ys payload from → (vs ≡ length ys ∷ []) × ((k : ℕ) → from ≤ k → k < length ys → reads_at code payload ys k ≡ false)
    unfolding find_from
    none_there vs e =
        let w = none_of_kind (is_kind_lem code) (first_of code payload from (drop from ys)) vs (length ys ∷ []) e in (
          w.1,
          λ k l m.
              let s : from + (k - from) ≡ k = omega arith in
              ap (λ (t : Tlv). is_there_lem (reads_as_lem code payload t)) (ap (λ (i : ℕ). get_or ys i no_tlv) (sym s) ∙ sym (at_place (k - from)))
              ∙ none_reads from (drop from ys) w.0 (k - from) (omega (arith, length-drop from ys)),
        )
