-- The cutter passes, and refuses by 21 exactly where nothing is accepted (rule M6).
use mathlib.Core.Path.{◌≡◌, refl, sym, ap, ◌∙◌, subst}
use mathlib.Core.Bool.{Bool, true, false, cond, ◌&&◌, ◌||◌}
use mathlib.Core.List.{List, [], ◌∷◌, append-nil, map, map-map, flatten}
use Prim.Native.Nat.{ℕ, suc, ◌+◌, ◌≤◌}
use native.Mathlib.Omega.{arith}
use lib.Dec.{leb, ltb}
use lib.ListN.{length, get_or, length-map}
use borrow.Author.Tests.{eq-eqb, le-leb, le-ltb, leb-true}
use Rattle.numbers.specs.Numbers.{Answer, gives, refuses, and_then}
use Rattle.numbers.proofs.Answers.{given, gave, mapped_gave, mapped_given}
use Rattle.numbers.proofs.Firm.{never}
use Rattle.walking.specs.Pieces.{pieces}
use Rattle.numbers.proofs.Bytes.{both_true, is_same}
use Rattle.cutting.specs.Cuts.{longest_payload, most_fragments, tlvs_of, payload_in, is_tlvs_lem, is_fragment, no_fragment, is_cutting_lem, check_of}
use Rattle.cutting.specs.Greedy.{ends_from, all_fit, ends_over, ends_of_lem, cut_into}
use Rattle.cutting.specs.Claims.{fragments_from, AlwaysPasses, NoneExactly, Fewest, NoneCut}
use Rattle.cutting.specs.declared.Proposed.{Proposed}
use Rattle.cutting.proofs.Accepted.{accepted, groups, within, tlvs_are, grouped}
use Rattle.cutting.proofs.Filled.{some, both}
use Rattle.cutting.proofs.Fewest.{needed, as_many, fewest, all_fit_lem}
use Rattle.cutting.proofs.Passing.{Passes, passes, first_of}
use Rattle.cutting.proofs.Runs.{of_pieces, pieces_are, chain_of, at_least_3, Chain}
use Rattle.cutting.proofs.Whole.{given_tlvs}

-- the ends that are given, and what holds of them
pub record Ends (sizes ends : List ℕ) : Type 0 where
  pub are : ends ≡ ends_from 0 0 sizes
  pub fit : all_fit sizes ≡ true
  pub few : length (ends_from 0 0 sizes) ≤ most_fragments

pub ends_given : (sizes ends : List ℕ) → ends_over sizes ≡ gives ends → Ends sizes ends
unfolding ends_over
ends_given sizes ends e = by_test (all_fit sizes && leb (length (ends_from 0 0 sizes)) most_fragments) refl e
  where
    by_test : (b : Bool) → (all_fit sizes && leb (length (ends_from 0 0 sizes)) most_fragments) ≡ b → cond b (gives (ends_from 0 0 sizes)) (refuses 21 []) ≡ gives ends → Ends sizes ends
    by_test true t e = let o = both_true _ _ t in record { are = sym (given _ _ e); fit = o.0; few = leb-true (length (ends_from 0 0 sizes)) most_fragments o.1 }
    by_test false t e = never _ _ _ (sym e)

-- a message that is cut
pub record Cut (m : List ℕ) (room : ℕ) (ends : List ℕ) : Type 0 where
  pub tlvs : List (List ℕ)
  pub is : tlvs_of m ≡ gives tlvs
  pub ends_are : Ends (map length tlvs) ends

pub cut : (m : List ℕ) (room : ℕ) (ends : List ℕ) → cut_into m room ≡ gives ends → Cut m room ends
unfolding cut_into ends_of_lem
cut m room ends e =
    let g = gave (ends_of_lem m) (λ es. cond (ltb room (length es)) (refuses 7 []) (gives es)) ends e in
    let h = gave (tlvs_of m) (λ ts. ends_over (map length ts)) g.first g.is in
    let same : g.first ≡ ends = by_room (ltb room (length g.first)) g.then in
    record { tlvs = h.first; is = h.is; ends_are = ends_given (map length h.first) ends (h.then ∙ ap gives same) }
  where
    by_room : {es : List ℕ} (b : Bool) → cond b (refuses 7 []) (gives es) ≡ gives ends → es ≡ ends
    by_room true e = never _ _ _ (sym e)
    by_room false e = given _ _ e

module _ (m : List ℕ) (v t d : ℕ) where
  so_many : (i start : ℕ) (es : List ℕ) → length (fragments_from v t d i start es) ≡ length es
  so_many i start [] = refl
  so_many i start (e ∷ es) = ap suc (so_many (i + 1) e es)

  record Like (f : Proposed) : Type 0 where
    version_is : v ≡ f.version
    type_is : t ≡ f.message_type
    id_is : d ≡ f.id

  head_is : (i start : ℕ) (es : List ℕ) → 1 ≤ length es → Like (get_or (fragments_from v t d i start es) 0 no_fragment)
  head_is i start [] h = absurd (omega arith)
  head_is i start (e ∷ es) h = record { version_is = refl; type_is = refl; id_is = refl }

  module _ (ends : List ℕ) where
    abbrev frags : List Proposed
    frags = fragments_from v t d 0 0 ends

    cutting_by : 1 ≤ length ends → length ends ≤ most_fragments → Passes m v t d (length frags) (get_or frags 0 no_fragment) 0 0 ends → is_cutting_lem m m frags ≡ true
    unfolding is_cutting_lem
    cutting_by some few p =
        let n = so_many 0 0 ends in
        rw (le-leb 1 (length frags) (omega (arith, n)), le-leb (length frags) most_fragments (omega (arith, n)), p.each, p.joined) (is_same m m refl)

  -- the empty message is one empty fragment
  empty_passes : is_cutting_lem [] [] (fragments_from v t d 0 0 (0 ∷ [])) ≡ true
  unfolding is_cutting_lem is_fragment flatten
  empty_passes = rw (eq-eqb v v refl, eq-eqb t t refl, eq-eqb d d refl) (by_run (is_tlvs_lem []))
    where
      by_run : (b : Bool) → ((b || true) && true && true) ≡ true
      by_run true = refl
      by_run false = refl

  -- the fragments of these TLVs, which are the message
  fragments_pass : (ts : List (List ℕ)) → flatten ts ≡ m → Chain ts → all_fit (map length ts) ≡ true → length (ends_from 0 0 (map length ts)) ≤ most_fragments → is_cutting_lem m m (fragments_from v t d 0 0 (ends_from 0 0 (map length ts))) ≡ true
  unfolding ends_from flatten
  fragments_pass [] e c fit few = subst (λ (s : List ℕ). is_cutting_lem s s (fragments_from v t d 0 0 (0 ∷ [])) ≡ true) e empty_passes
  fragments_pass (x ∷ rest) e c fit few = subst (λ (es : List ℕ). is_cutting_lem m m (fragments_from v t d 0 0 es) ≡ true) (sym filled) (cutting_by ends (some (length (flatten (x ∷ []))) (length x) (map length rest)) (rw filled at few) by_run)
    where
      ends : List ℕ
      ends = ends_from (length (flatten (x ∷ []))) (length x) (map length rest)

      fits : (length x ≤ longest_payload) × (all_fit (map length rest) ≡ true)
      fits = let f = both_true (leb (length x) longest_payload) (all_fit (map length rest)) fit in (leb-true (length x) longest_payload f.0, f.1)

      only : length (flatten (x ∷ [])) ≡ length x
      only = ap length (append-nil x)

      filled : ends_from 0 0 (length x ∷ map length rest) ≡ ends
      filled = let z : 0 + length x ≡ length x = omega arith in rw (z, le-leb (length x) longest_payload fits.0, only)

      by_run : Passes m v t d (length (frags ends)) (get_or (frags ends) 0 no_fragment) 0 0 ends
      by_run =
          let l = head_is 0 0 ends (some (length (flatten (x ∷ []))) (length x) (map length rest)) in
          passes m v t d (length (frags ends)) (get_or (frags ends) 0 no_fragment) l.version_is l.type_is l.id_is rest 0 0 (length x) (x ∷ []) (record {
            chain = c;
            some = omega (arith, only, at_least_3 x (first_of x rest c));
            short = omega (arith, only, fits.0);
            here = omega (arith, only);
            are = sym e ∙ rw append-nil;
            fit = fits.1;
            count = omega (arith, so_many 0 0 ends);
          })

pub always_passes : AlwaysPasses
unfolding check_of
always_passes m room ends e v t d =
    let c = cut m room ends e in
    let a = given_tlvs m c.tlvs c.is in
    let flat : flatten c.tlvs ≡ m = ap flatten (sym a.pieces_are) ∙ pieces_are m a.ends in
    let chain = subst Chain a.pieces_are (chain_of (pieces m) (of_pieces m) (rw (pieces_are m a.ends) a.ends)) in
    mapped_given (λ ts. is_cutting_lem m m (fragments_from v t d 0 0 ends)) (tlvs_of m) c.tlvs c.is
    ∙ ap gives (ap (λ (es : List ℕ). is_cutting_lem m m (fragments_from v t d 0 0 es)) c.ends_are.are ∙ fragments_pass m v t d c.tlvs flat chain c.ends_are.fit c.ends_are.few)

module _ (m : List ℕ) (ts : List (List ℕ)) (is : tlvs_of m ≡ gives ts) where
  abbrev sizes : List ℕ
  sizes = map length ts

  -- fragments that are accepted have room for the TLVs, so the cutter finds as few
  accepted_cut : (payloads : List ℕ) (fs : List Proposed) → is_cutting_lem m payloads fs ≡ true → (all_fit sizes ≡ true) × (length (ends_from 0 0 sizes) ≤ length fs)
  accepted_cut payloads fs e =
      let a = accepted m payloads fs e in
      let w = given_tlvs m ts is in
      let g : sizes ≡ flatten (groups (map (payload_in payloads) fs)) = ap (map length) (sym w.pieces_are) ∙ grouped m (map (payload_in payloads) fs) a.fine a.joined w.ends in
      let gs = groups (map (payload_in payloads) fs) in
      let n : length gs ≡ length fs = length-map (map (payload_in payloads) fs) (λ (p : List ℕ). map length (pieces p)) ∙ length-map fs (payload_in payloads) in
      let w' = within (map (payload_in payloads) fs) a.fine in
      (ap all_fit g ∙ all_fit_lem gs w', omega (arith, as_many 0 0 sizes, ap (needed 0) g, fewest gs (omega (arith, n, a.some)) w', n))

  -- with a place for each end, the ends are given
  enough : (ends : List ℕ) → ends_over sizes ≡ gives ends → cut_into m (length ends) ≡ gives ends
  unfolding cut_into ends_of_lem
  enough ends e = rw (is, e, le-ltb (length ends) (length ends) (omega arith))

  is_cutting : (payloads : List ℕ) (fs : List Proposed) → check_of m fs payloads ≡ gives true → is_cutting_lem m payloads fs ≡ true
  unfolding check_of
  is_cutting payloads fs e = given _ _ (sym (mapped_given (λ tlvs. is_cutting_lem m payloads fs) (tlvs_of m) ts is) ∙ e)

  room_only : (room : ℕ) (a : Answer (List ℕ)) → ends_over sizes ≡ a → cut_into m room ≡ and_then a (λ ends. cond (ltb room (length ends)) (refuses 7 []) (gives ends))
  unfolding cut_into ends_of_lem
  room_only room a e = rw (is, e)

  none_accepted : (room : ℕ) → cut_into m room ≡ refuses 21 [] → (payloads : List ℕ) (fs : List Proposed) → check_of m fs payloads ≡ gives true → ⊥
  none_accepted room e payloads fs a =
      let c = is_cutting payloads fs a in
      let o = accepted_cut payloads fs c in
      let g = both sizes o.0 (omega (arith, o.1, (accepted m payloads fs c).few)) in
      by_room (ltb room (length (ends_from 0 0 sizes))) (sym e ∙ room_only room (gives (ends_from 0 0 sizes)) g)
    where
      by_room : (b : Bool) → refuses 21 [] ≡ cond b (refuses 7 []) (gives (ends_from 0 0 sizes)) → ⊥
      by_room true e = let z : ◌≡◌ {A = ℕ} 21 7 = cc in omega (arith, z)
      by_room false e = never _ _ _ (sym e)

  only_then : (room : ℕ) → ((payloads : List ℕ) (fs : List Proposed) → check_of m fs payloads ≡ gives true → ⊥) → cut_into m room ≡ refuses 21 []
  unfolding ends_over
  only_then room none = by_test (all_fit sizes && leb (length (ends_from 0 0 sizes)) most_fragments) refl
    where
      by_test : (b : Bool) → (all_fit sizes && leb (length (ends_from 0 0 sizes)) most_fragments) ≡ b → cut_into m room ≡ refuses 21 []
      by_test true t = absurd (none m (fragments_from 0 0 0 0 0 (ends_from 0 0 sizes)) (always_passes m (length (ends_from 0 0 sizes)) (ends_from 0 0 sizes) (enough (ends_from 0 0 sizes) (rw t)) 0 0 0))
      by_test false t = room_only room (refuses 21 []) (rw t)

  pub none_exactly : (room : ℕ) → NoneExactly m room
  none_exactly room = record { none_accepted = none_accepted room; only_then = only_then room }

pub fewest_of_all : Fewest
fewest_of_all m room ends e payloads fs a =
    let c = cut m room ends e in
    omega (arith, ap length c.ends_are.are, (accepted_cut m c.tlvs c.is payloads fs (is_cutting m c.tlvs c.is payloads fs a)).1)

-- no TLV is cut
pub none_cut : NoneCut
unfolding check_of
none_cut m payloads fs e =
    let g = mapped_gave (λ tlvs. is_cutting_lem m payloads fs) (tlvs_of m) true e in
    let a = accepted m payloads fs (given _ _ g.then) in
    tlvs_are m (map (payload_in payloads) fs) a.fine a.joined (given_tlvs m g.first g.is).ends ∙ ap flatten (map-map pieces (payload_in payloads) fs)
