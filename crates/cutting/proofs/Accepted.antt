-- What fragments that are accepted say of the message's TLVs: each fragment takes a group of them that has room in it
-- (rule M3).
use mathlib.Core.Path.{◌≡◌, refl, sym, ap, ◌∙◌, subst}
use mathlib.Core.Bool.{Bool, true, false, ◌&&◌, ◌||◌}
use mathlib.Core.List.{List, [], ◌∷◌, ◌++◌, map, map-append, flatten}
use Prim.Native.Nat.{ℕ, suc, ◌+◌, ◌≤◌, ◌<◌}
use native.Mathlib.Omega.{arith}
use lib.Dec.{eqb, leb, ltb}
use lib.ListN.{length, drop, get_or, length-append, length-take}
use borrow.Author.Tests.{eqb-true, leb-true}
use Rattle.numbers.specs.Numbers.{Answer, gives, refuses, is_given}
use Rattle.walking.specs.Walk.{walk_of}
use Rattle.walking.specs.Pieces.{pieces}
use Rattle.numbers.specs.Bytes.{is_same_lem}
use Rattle.numbers.proofs.Bytes.{cannot, both_true, are_same}
use Rattle.cutting.specs.Cuts.{longest_payload, most_fragments, tlvs_of, payload_in, is_tlvs_lem, is_empty_one, is_fragment, each_from, no_fragment, is_cutting_lem}
use Rattle.cutting.specs.declared.Proposed.{Proposed}
use Rattle.cutting.proofs.Asked.{AsAsked, as_asked, each_asked}
use Rattle.cutting.proofs.Fewest.{sum, Within}
use Rattle.cutting.proofs.Runs.{flat, Tlvs, of_pieces, pieces_are, unique, nothing_left}
use Rattle.cutting.proofs.Whole.{given_tlvs}

-- payloads that are whole TLVs, or empty, and not too long
abbrev pub Fine : List (List ℕ) → Type 0
Fine [] = Unit
Fine (p ∷ ps) = ((walk_of p).end ≡ gives 0) × (length p ≤ longest_payload) × Fine ps

-- none of an empty message holds a byte
empties : (ps : List (List ℕ)) → flatten ps ≡ [] → Fine ps
unfolding flatten
empties [] e = tt
empties ([] ∷ ps) e = (nothing_left, omega arith, empties ps e)
empties ((b ∷ p) ∷ ps) e = absurd (omega (arith, ap length e))

tlvs_whole : (p : List ℕ) → is_tlvs_lem p ≡ true → (walk_of p).end ≡ gives 0
unfolding is_tlvs_lem
tlvs_whole p e = by_given (tlvs_of p) refl (both_true (is_given (tlvs_of p)) (ltb 0 (length p)) e).0
  where
    by_given : (a : Answer (List (List ℕ))) → tlvs_of p ≡ a → is_given a ≡ true → (walk_of p).end ≡ gives 0
    by_given (gives ts) is g = (given_tlvs p ts is).ends
    by_given (refuses n vs) is g = cannot g

-- each fragment of a message that is not empty
module _ (b : ℕ) (m payloads : List ℕ) (count : ℕ) (first : Proposed) where
  is_run : (t : Bool) → (t || is_empty_one (b ∷ m) count) ≡ true → t ≡ true
  is_run true e = refl
  is_run false e = absurd (omega (arith, eqb-true (suc (length m)) 0 (both_true (eqb (suc (length m)) 0) (eqb count 1) e).0))

  short_payload : (f : Proposed) → f.length ≤ longest_payload → length (payload_in payloads f) ≤ longest_payload
  short_payload f h = omega (arith, length-take f.length (drop f.start payloads))

  all_fine : (i : ℕ) (fs : List Proposed) → each_from (is_fragment (b ∷ m) payloads count first) i fs ≡ true → Fine (map (payload_in payloads) fs)
  all_fine i [] e = tt
  all_fine i (f ∷ fs) e =
      let o = both_true (is_fragment (b ∷ m) payloads count first i f) (each_from (is_fragment (b ∷ m) payloads count first) (i + 1) fs) e in
      let w = as_asked (b ∷ m) payloads count first i f o.0 in
      (tlvs_whole (payload_in payloads f) (is_run (is_tlvs_lem (payload_in payloads f)) w.run), short_payload f w.short, all_fine (i + 1) fs o.1)

pub record Accepted (m payloads : List ℕ) (fs : List Proposed) : Type 0 where
  pub some : 1 ≤ length fs
  pub few : length fs ≤ most_fragments
  pub each : (k : ℕ) → k < length fs → AsAsked m payloads (length fs) (get_or fs 0 no_fragment) k (get_or fs k no_fragment)
  pub fine : Fine (map (payload_in payloads) fs)
  pub joined : flatten (map (payload_in payloads) fs) ≡ m

pub accepted : (m payloads : List ℕ) (fs : List Proposed) → is_cutting_lem m payloads fs ≡ true → Accepted m payloads fs
unfolding is_cutting_lem
accepted m payloads fs e =
    let n = leb 1 (length fs) && leb (length fs) most_fragments in
    let each = each_from (is_fragment m payloads (length fs) (get_or fs 0 no_fragment)) 0 fs in
    let o = both_true (n && each) (is_same_lem (flatten (map (payload_in payloads) fs)) m) e in
    let i = both_true n each o.0 in
    let c = both_true (leb 1 (length fs)) (leb (length fs) most_fragments) i.0 in
    let j = are_same (flatten (map (payload_in payloads) fs)) m o.1 in
    record { some = leb-true 1 (length fs) c.0; few = leb-true (length fs) most_fragments c.1; each = λ k h. by_number k (each_asked m payloads (length fs) (get_or fs 0 no_fragment) 0 fs i.1 k h); fine = all_of m j i.1; joined = j }
  where
    by_number : (k : ℕ) → AsAsked m payloads (length fs) (get_or fs 0 no_fragment) (0 + k) (get_or fs k no_fragment) → AsAsked m payloads (length fs) (get_or fs 0 no_fragment) k (get_or fs k no_fragment)
    by_number k w = let n : 0 + k ≡ k = omega arith in subst (λ (j : ℕ). AsAsked m payloads (length fs) (get_or fs 0 no_fragment) j (get_or fs k no_fragment)) n w

    all_of : (m : List ℕ) → flatten (map (payload_in payloads) fs) ≡ m → each_from (is_fragment m payloads (length fs) (get_or fs 0 no_fragment)) 0 fs ≡ true → Fine (map (payload_in payloads) fs)
    all_of [] j e = empties (map (payload_in payloads) fs) j
    all_of (b ∷ m) j e = all_fine b m payloads (length fs) (get_or fs 0 no_fragment) 0 fs e

-- the lengths of the TLVs in each payload
abbrev pub groups : List (List ℕ) → List (List ℕ)
groups ps = map (λ (p : List ℕ). map length (pieces p)) ps

sum_lengths : (ts : List (List ℕ)) → sum (map length ts) ≡ length (flatten ts)
unfolding flatten
sum_lengths [] = refl
sum_lengths (t ∷ ts) = omega (arith, sum_lengths ts, length-append t (flatten ts))

pub within : (ps : List (List ℕ)) → Fine ps → Within (groups ps)
within [] h = tt
within (p ∷ ps) h = (omega (arith, sum_lengths (pieces p), ap length (pieces_are p h.0), h.1), within ps h.2)

-- the TLVs of the message are those of the payloads
module _ (m : List ℕ) (ps : List (List ℕ)) (h : Fine ps) (e : flatten ps ≡ m) (w : (walk_of m).end ≡ gives 0) where
  pub tlvs_are : pieces m ≡ flatten (map pieces ps)
  unfolding flatten
  tlvs_are = unique (pieces m) (flatten (map pieces ps)) (of_pieces m) (all_tlvs ps) (pieces_are m w ∙ sym (back ps h ∙ e))
    where
      append_tlvs : (ts us : List (List ℕ)) → Tlvs ts → Tlvs us → Tlvs (ts ++ us)
      append_tlvs [] us h k = k
      append_tlvs (t ∷ ts) us h k = (h.0, append_tlvs ts us h.1 k)

      all_tlvs : (ps : List (List ℕ)) → Tlvs (flatten (map pieces ps))
      all_tlvs [] = tt
      all_tlvs (p ∷ ps) = append_tlvs (pieces p) (flatten (map pieces ps)) (of_pieces p) (all_tlvs ps)

      back : (ps : List (List ℕ)) → Fine ps → flatten (flatten (map pieces ps)) ≡ flatten ps
      back [] h = refl
      back (p ∷ ps) h = flat (pieces p) (flatten (map pieces ps)) ∙ rw (pieces_are p h.0, back ps h.2)

  pub grouped : map length (pieces m) ≡ flatten (groups ps)
  unfolding flatten
  grouped = ap (map length) tlvs_are ∙ mapped_groups ps
    where
      mapped_groups : (ps : List (List ℕ)) → map length (flatten (map pieces ps)) ≡ flatten (groups ps)
      mapped_groups [] = refl
      mapped_groups (p ∷ ps) = map-append length (pieces p) (flatten (map pieces ps)) ∙ rw (mapped_groups ps)
