-- Going on by offset answers what going on by place does, over a payload that a walk gets through.
use mathlib.Core.Path.{◌≡◌, refl, sym, ap, ◌∙◌, subst}
use mathlib.Core.Bool.{Bool, true, false, cond}
use mathlib.Core.List.{List, [], ◌∷◌}
use Prim.Native.Nat.{ℕ, zero, suc, ◌+◌, ◌-◌, ◌≤◌, ◌<◌}
use native.Mathlib.Omega.{arith}
use lib.Dec.{ltb}
use lib.ListN.{length, drop, get_or, length-drop, drop_of_length-le}
use lib.Seq.{drop-cons}
use borrow.Author.Tests.{ltb-false}
use Rattle.numbers.specs.Numbers.{Answer, gives, refuses, mapped}
use Rattle.numbers.proofs.Answers.{given, mapped_gave}
use Rattle.kinds.specs.Kinds.{is_kind_lem}
use Rattle.walking.specs.declared.Tlv.{Tlv}
use Rattle.walking.specs.Steps.{Ahead, ended, passed, last}
use Rattle.walking.specs.Walk.{step_at, walk_of, walk_on, no_tlv}
use Rattle.walking.proofs.Chained.{Has, the_walk_on}
use Rattle.walking.proofs.Going.{turned, at_end_lem}
use Rattle.walking.proofs.Stepping as step
use Rattle.walking.proofs.Walking.{Walking}
use Rattle.walking.proofs.Walking as Walks
use Rattle.finding.specs.declared.Hit.{Hit}
use Rattle.finding.specs.declared.Sought.{Sought}
use Rattle.finding.specs.Finding.{first_of, found_or, offset_after, with_next, find_from, find_in_payload_lem, find_onward_lem}
use Rattle.finding.specs.Claims.{and_on_lem, collected, and_onward, collected_onward, ByOffset}
use Rattle.finding.proofs.First.{is_first}
use Rattle.finding.proofs.OfWalk.{without_list}

module _ (p : List ℕ) (padding : ℕ) (through : (walk_of p).end ≡ gives padding) where
  abbrev tlvs : List Tlv
  tlvs = (walk_of p).items

  -- where the TLVs from number k on stand, and how their walk ends
  record From (at k : ℕ) : Type 0 where
    after : ℕ
    walk : walk_on p at ≡ record { items = drop k tlvs; end = gives after }
    few : k ≤ length tlvs
    slow : k ≤ at

  -- each number of TLVs is reached by steps
  reached : (k : ℕ) → k < length tlvs → (at : ℕ) × Walking p at k
  reached zero h = (0, Walks.begins p)
  reached (suc k) h = let w = reached k (omega arith) in by_step w.0 w.1 (step_at p w.0) refl
    where
      by_step : (at : ℕ) (w : Walking p at k) (x : Answer (Ahead Tlv)) → x ≡ step_at p at → (to : ℕ) × Walking p to (suc k)
      by_step at w (gives ended) e = absurd (omega (arith, length-drop k tlvs, ap length (turned (step_at p) (length p) w.goes (gives ended) e).0))
      by_step at w (gives (passed t next)) e = (next, subst (Walking p next) (omega arith) (Walks.goes_on p at k w t next e))
      by_step at w (gives (last t to)) e = absurd (omega (arith, length-drop k tlvs, ap length (turned (step_at p) (length p) w.goes (gives (last t to)) e).0))
      by_step at w (refuses n vs) e = absurd (omega (arith, length-drop k tlvs, ap length (turned (step_at p) (length p) w.goes (refuses n vs) e).0))

  start : From 0 0
  start = record { after = padding; walk = the_walk_on p 0 tlvs (gives padding) (subst (Has p 0 tlvs) through (Walks.begins p).goes); few = omega arith; slow = omega arith }

  -- after TLV number k stands the next one, or the end
  onward : (k : ℕ) → k < length tlvs → From (offset_after p (get_or tlvs k no_tlv)) (k + 1)
  onward k h = let w = reached k h in by_step w.0 w.1 (step_at p w.0) refl
    where
      here : drop k tlvs ≡ get_or tlvs k no_tlv ∷ drop (suc k) tlvs
      here = drop-cons tlvs k no_tlv h

      first : (t : Tlv) (ts : List Tlv) → drop k tlvs ≡ t ∷ ts → get_or tlvs k no_tlv ≡ t
      first t ts e = let f : get_or tlvs k no_tlv ∷ drop (suc k) tlvs ≡ t ∷ ts = sym here ∙ e in cc

      by_step : (at : ℕ) (w : Walking p at k) (x : Answer (Ahead Tlv)) → x ≡ step_at p at → From (offset_after p (get_or tlvs k no_tlv)) (k + 1)
      by_step at w (gives ended) e = absurd (omega (arith, length-drop k tlvs, ap length (turned (step_at p) (length p) w.goes (gives ended) e).0))
      by_step at w (gives (passed t next)) e =
          let o = step.steps p at false t next e in
          let n : next ≡ t.offset + 3 + t.length = omega (arith, o.passing.behind, o.passing.starts) in
          let i : next ≡ offset_after p (get_or tlvs k no_tlv) = rw (first t _ (Walks.ahead p at k w t next e), o.marks) n in
          let g = Walks.goes_on p at k w t next e in
          subst (λ (m : ℕ). From m (k + 1)) i (record { after = padding; walk = the_walk_on p next (drop (k + 1) tlvs) (gives padding) (subst (Has p next (drop (k + 1) tlvs)) through g.goes); few = g.few; slow = g.slow })
      by_step at w (gives (last t to)) e =
          let o = step.steps p at true t to e in
          let u = turned (step_at p) (length p) w.goes (gives (last t to)) e in
          let i : length p ≡ offset_after p (get_or tlvs k no_tlv) = rw (first t [] u.0, o.marks) in
          let z : drop (k + 1) tlvs ≡ [] = drop_of_length-le tlvs {i = k + 1} (omega (arith, length-drop k tlvs, ap length u.0)) in
          subst (λ (m : ℕ). From m (k + 1)) i (record {
            after = 0;
            walk = the_walk_on p (length p) [] (gives 0) (at_end_lem (step.at_end_lem p (length p) (omega arith))) ∙ ap (λ (l : List Tlv). record { items = l; end = gives 0 }) (sym z);
            few = omega arith;
            slow = omega (arith, w.slow, o.passing.behind, o.passing.inside);
          })
      by_step at w (refuses n vs) e = absurd (omega (arith, length-drop k tlvs, ap length (turned (step_at p) (length p) w.goes (refuses n vs) e).0))

  module _ (code : ℕ) where
    capped : (at k : ℕ) → k ≤ at → cond (ltb k at) k at ≡ k
    capped at k h = by_test (ltb k at) refl
      where
        by_test : (b : Bool) → ltb k at ≡ b → cond b k at ≡ k
        by_test true e = refl
        by_test false e = omega (arith, ltb-false k at e, h)

    -- from there both answer the same
    same : (at k : ℕ) → From at k → find_onward_lem code p at k ≡ find_in_payload_lem code p k
    unfolding find_onward_lem find_in_payload_lem find_from
    same at k f =
        let n : k + length (drop k tlvs) ≡ length tlvs = omega (arith, f.few, length-drop k tlvs) in
        rw (through, f.walk, capped at k f.slow, n) (by_kind (is_kind_lem code) (found_or (first_of code p k (drop k tlvs)) (refuses 15 (length tlvs ∷ []))))
      where
        by_kind : (b : Bool) (x : Answer Hit) → cond b (mapped (with_next p) x) (refuses 16 []) ≡ cond b (mapped (with_next p) (cond b x (refuses 16 []))) (refuses 16 [])
        by_kind true x = refl
        by_kind false x = refl

    goes_on : (from : ℕ) (s : Sought) → gives s ≡ find_in_payload_lem code p from → From s.next s.hit.looked
    goes_on from s e =
        let g = mapped_gave (with_next p) (find_from code tlvs p from) s (sym (e ∙ without_list p code from padding through)) in
        let i : with_next p g.first ≡ s = given _ _ g.then in
        let f = is_first code p tlvs from g.first (sym g.is) in
        let k : g.first.looked - 1 + 1 ≡ g.first.looked = omega (arith, f.behind) in
        subst (λ (s : Sought). From s.next s.hit.looked) i
        (subst (From (offset_after p g.first.tlv)) k
        (subst (λ (t : Tlv). From (offset_after p t) (g.first.looked - 1 + 1)) f.is (onward (g.first.looked - 1) (omega (arith, f.behind, f.there)))))

    all_same : (most at k : ℕ) → From at k → collected_onward most code p at k ≡ collected most code tlvs p k
    all_same zero at k f = refl
    all_same (suc most) at k f =
        ap (λ (x : Answer Sought). and_onward x (λ s. collected_onward most code p s.next s.hit.looked)) (same at k f)
        ∙ each (find_in_payload_lem code p k) refl (all_same most)
        ∙ ap (λ (x : Answer Sought). and_onward x (λ s. collected most code tlvs p s.hit.looked)) (without_list p code k padding through)
        ∙ hits (find_from code tlvs p k)
      where
        each : (x : Answer Sought) → x ≡ find_in_payload_lem code p k → ((at k : ℕ) → From at k → collected_onward most code p at k ≡ collected most code tlvs p k)
            → and_onward x (λ s. collected_onward most code p s.next s.hit.looked) ≡ and_onward x (λ s. collected most code tlvs p s.hit.looked)
        each (gives s) e on = ap (λ (l : List Hit). s.hit ∷ l) (on s.next s.hit.looked (goes_on k s e))
        each (refuses n vs) e on = refl

        hits : (x : Answer Hit) → and_onward (mapped (with_next p) x) (λ s. collected most code tlvs p s.hit.looked) ≡ and_on_lem x (λ h. collected most code tlvs p h.looked)
        hits (gives h) = refl
        hits (refuses n vs) = refl

    pub by_offset : ByOffset p code
    by_offset = record {
      from_the_start = same 0 0 start;
      goes_on = λ from s e. same s.next s.hit.looked (goes_on from s e);
      same_records = λ most. all_same most 0 0 start;
    }
