-- Over the list that a walk made of a payload, what a record reads as is what the TLV that stands there reads as: so
-- `find` gives the first TLV of the payload of the kind that reads, in the words of framing alone.
use mathlib.Core.Path.{◌≡◌, refl, sym, ap, ◌∙◌}
use mathlib.Core.Bool.{Bool, true, false, cond}
use mathlib.Core.List.{List, [], ◌∷◌, ◌++◌}
use mathlib.Core.Option.{Option, none}
use Prim.Native.Nat.{ℕ, ◌+◌, ◌-◌, ◌≤◌, ◌<◌}
use native.Mathlib.Omega.{arith}
use lib.Dec.{eqb}
use lib.ListN.{length, take, drop, get_or}
use lib.Seq.{drop-drop}
use borrow.Author.Tests.{le-leb}
use Rattle.numbers.specs.Numbers.{gives, refuses, mapped}
use Rattle.numbers.proofs.Firm.{never}
use Rattle.records.specs.declared.Record.{Record}
use Rattle.kinds.specs.declared.Typed.{Typed}
use Rattle.kinds.specs.Kinds.{is_kind_lem, read_kind_lem}
use Rattle.walking.specs.declared.Tlv.{Tlv}
use Rattle.walking.specs.declared.WalkCount.{WalkCount}
use Rattle.walking.specs.Walk.{walk_of, filled, no_tlv}
use Rattle.walking.proofs.Chained.{of_walk, stands}
use Rattle.finding.specs.declared.Hit.{Hit}
use Rattle.finding.specs.Finding.{if_given, is_there_lem, reads_as_lem, first_of, found_or, with_next, find_from, find_in_payload_lem}
use Rattle.finding.specs.Claims.{reads_at, tlv_read_as, tlv_as, reads_there, IsFirstTlv}
use Rattle.finding.proofs.First.{is_first, none_there, unchanged, was_found}

module _ (p : List ℕ) where
  by_code : (b : Bool) (x : Option (Typed Record)) → cond (cond b true false) x none ≡ cond b x none
  by_code true x = refl
  by_code false x = refl

  pub as_tlv : (code k : ℕ) → k < length (walk_of p).items
      → reads_as_lem code p (get_or (walk_of p).items k no_tlv) ≡ tlv_as code (drop (get_or (walk_of p).items k no_tlv).offset p)
  unfolding reads_as_lem
  as_tlv code k l =
      let t : Tlv = get_or (walk_of p).items k no_tlv in
      let s : List ℕ = drop t.offset p in
      let o = stands p (of_walk p) k l in
      ap (λ (b : Bool). cond (cond (eqb t.tlv_type code) b false) (if_given (read_kind_lem code (take t.length (drop (t.offset + 3) p)))) none) (le-leb (t.offset + 3 + t.length) (length p) o.inside)
      ∙ by_code (eqb t.tlv_type code) (if_given (read_kind_lem code (take t.length (drop (t.offset + 3) p))))
      ∙ ap (λ (l : List ℕ). cond (eqb t.tlv_type code) (if_given (read_kind_lem code (take t.length l))) none) (sym (drop-drop 3 t.offset p))
      ∙ ap (tlv_read_as code s) o.reads_as

  -- so what reads or doesn't as a record of the walk's list reads so as a TLV
  not_there : (code k : ℕ) → k < length (walk_of p).items → reads_at code p (walk_of p).items k ≡ false → reads_there code p k ≡ false
  not_there code k l e = ap is_there_lem (sym (as_tlv code k l)) ∙ e

  -- what is found among the walk's records is the TLV of that number, read where it stands
  pub found_is_tlv : (code from : ℕ) (h : Hit) → gives h ≡ find_from code (walk_of p).items p from → IsFirstTlv p code from h
  found_is_tlv code from h e =
      let f = is_first code p (walk_of p).items from h e in
      record {
        reads = f.reads ∙ ap (reads_as_lem code p) (sym f.is) ∙ as_tlv code (h.looked - 1) (omega (arith, f.behind, f.there))
            ∙ ap (λ (t : Tlv). tlv_as code (drop t.offset p)) f.is;
        first = λ k l m. not_there code k (omega (arith, f.there)) (f.first k l m);
      }

  pub none_is_tlv : (code from : ℕ) (vs : List ℕ) → refuses 15 vs ≡ find_from code (walk_of p).items p from → (k : ℕ) → from ≤ k → k < length (walk_of p).items → reads_there code p k ≡ false
  none_is_tlv code from vs e k l m = not_there code k m ((none_there code p (walk_of p).items from vs e).1 k l m)

  -- a list that is longer than the walk's, as `walk_into` leaves it, gives the same, if the payload has one
  by_kind : (code : ℕ) (us : List Tlv) (h : Hit) (b : Bool) (n m : ℕ) → gives h ≡ cond b (found_or (first_of code p 0 (walk_of p).items) (refuses 15 (n ∷ []))) (refuses 16 [])
      → gives h ≡ cond b (found_or (first_of code p 0 ((walk_of p).items ++ us)) (refuses 15 (m ∷ []))) (refuses 16 [])
  by_kind code us h true n m e =
      let f = was_found code p (first_of code p 0 (walk_of p).items) (refuses 15 (n ∷ [])) 15 (n ∷ []) h refl e in
      ap (λ (x : Option Hit). found_or x (refuses 15 (m ∷ []))) (unchanged code p 0 (walk_of p).items us h f)
  by_kind code us h false n m e = never _ _ _ e

  pub in_filled_list : (code : ℕ) (c : WalkCount) (ys : List Tlv) (h : Hit) → gives h ≡ find_from code (walk_of p).items p 0 → gives h ≡ find_from code (filled (gives c) (walk_of p).items ys) p 0
  unfolding find_from
  in_filled_list code c ys h e = by_kind code (drop c.count ys) h (is_kind_lem code) _ _ e

  -- without a list the answer is the one over the walk's list, if a walk gets through the payload
  pub without_list : (code from padding : ℕ) → (walk_of p).end ≡ gives padding → find_in_payload_lem code p from ≡ mapped (with_next p) (find_from code (walk_of p).items p from)
  unfolding find_in_payload_lem find_from
  without_list code from padding e = rw e (twice (is_kind_lem code))
    where
      twice : (b : Bool) → cond b (mapped (with_next p) (cond b (found_or (first_of code p from (drop from (walk_of p).items)) (refuses 15 (length (walk_of p).items ∷ []))) (refuses 16 []))) (refuses 16 [])
          ≡ mapped (with_next p) (cond b (found_or (first_of code p from (drop from (walk_of p).items)) (refuses 15 (length (walk_of p).items ∷ []))) (refuses 16 []))
      twice true = refl
      twice false = refl
