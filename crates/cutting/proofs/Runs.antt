-- Rows of whole TLVs, as bytes: which of them a walk takes whole, and that bytes are no two such rows.
use mathlib.Core.Path.{◌≡◌, refl, sym, ap, ◌∙◌}
use mathlib.Core.Bool.{Bool, true, false}
use mathlib.Core.Logic.{◌⊎◌, inl, inr, ⊎_elim}
use mathlib.Core.List.{List, [], ◌∷◌, ◌++◌, append_assoc, append-nil, flatten}
use Prim.Native.Nat.{ℕ, zero, suc, ◌+◌, ◌-◌, ◌<◌, ◌≤◌}
use native.Mathlib.Omega.{arith}
use lib.ListN.{length, take, drop, get_or, length-append}
use lib.Seq.{take-append_seam, drop-append_seam, drop-length}
use Rattle.numbers.specs.Numbers.{gives}
use Rattle.numbers.proofs.Answers.{given}
use Rattle.framing.specs.declared.TlvRead.{TlvRead}
use Rattle.framing.specs.Tlv.{read_tlv_lem}
use Rattle.framing.proofs.Reading.{reads}
use Rattle.framing.proofs.Shortfall.{longer}
use Rattle.walking.specs.declared.Tlv.{Tlv}
use Rattle.walking.specs.Steps.{walk_from, Walk}
use Rattle.walking.specs.Walk.{is_marker_lem, walk_of, no_tlv}
use Rattle.walking.specs.Pieces.{pieces}
use Rattle.walking.specs.Claims.{Unmarked, IsTlv}
use Rattle.walking.proofs.Claims.{claims}
use Rattle.walking.proofs.Chained.{the_walk}
use Rattle.walking.proofs.Going.{at_end_lem, onward, final}
use Rattle.walking.proofs.Stepping as step

-- one row after another, and one more
pub flat : (ts us : List (List ℕ)) → flatten (ts ++ us) ≡ flatten ts ++ flatten us
unfolding flatten
flat [] us = refl
flat (t ∷ ts) us = rw (flat ts us, append_assoc)

pub flat_snoc : (ts : List (List ℕ)) (t : List ℕ) → flatten (ts ++ (t ∷ [])) ≡ flatten ts ++ t
unfolding flatten
flat_snoc ts t = flat ts (t ∷ []) ∙ rw append-nil

-- each of these is one TLV
abbrev pub Tlvs : List (List ℕ) → Type 0
Tlvs [] = Unit
Tlvs (t ∷ ts) = IsTlv t × Tlvs ts

pub of_pieces : (p : List ℕ) → Tlvs (pieces p)
of_pieces p = one_by_one (pieces p) (claims.in_pieces.each p)
  where
    one_by_one : (ts : List (List ℕ)) → ((k : ℕ) → k < length ts → IsTlv (get_or ts k [])) → Tlvs ts
    one_by_one [] each = tt
    one_by_one (t ∷ ts) each = (each 0 (omega arith), one_by_one ts (λ k h. each (suc k) (omega arith)))

pub pieces_are : (p : List ℕ) → (walk_of p).end ≡ gives 0 → flatten (pieces p) ≡ p
pieces_are p e =
    let z : length p - 0 ≡ length p = omega arith in
    sym (append-nil (flatten (pieces p))) ∙ ap (λ (rest : List ℕ). flatten (pieces p) ++ rest) (sym (drop-length p) ∙ ap (λ (n : ℕ). drop n p) (sym z)) ∙ claims.in_pieces.one_by_one p 0 e

pub at_least_3 : (t : List ℕ) → IsTlv t → 3 ≤ length t
at_least_3 t h = omega (arith, (reads t h.tlv (sym h.reads)).all, h.all)

-- no bytes are two rows of TLVs
pub unique : (ts us : List (List ℕ)) → Tlvs ts → Tlvs us → flatten ts ≡ flatten us → ts ≡ us
unfolding flatten
unique [] [] h k e = refl
unique [] (u ∷ us) h k e = absurd (omega (arith, ap length e, length-append u (flatten us), at_least_3 u k.0))
unique (t ∷ ts) [] h k e = absurd (omega (arith, ap length e, length-append t (flatten ts), at_least_3 t h.0))
unique (t ∷ ts) (u ∷ us) h k e =
    let same : h.0.tlv ≡ k.0.tlv = given _ _ (longer t (flatten ts) _ (sym h.0.reads) ∙ ap read_tlv_lem e ∙ sym (longer u (flatten us) _ (sym k.0.reads))) in
    let l : length t ≡ length u = sym h.0.all ∙ ap (λ (r : TlvRead). r.consumed) same ∙ k.0.all in
    let i : t ≡ u = sym (take-append_seam t (flatten ts)) ∙ ap (take (length t)) e ∙ ap (λ (n : ℕ). take n (u ++ flatten us)) l ∙ take-append_seam u (flatten us) in
    let j : flatten ts ≡ flatten us = sym (drop-append_seam t (flatten ts)) ∙ ap (drop (length t)) e ∙ ap (λ (n : ℕ). drop n (u ++ flatten us)) l ∙ drop-append_seam u (flatten us) in
    let r : ts ≡ us = unique ts us h.1 k.1 j in
    rw (i, r)

-- the empty payload, and one TLV, are walked whole
pub nothing_left : (walk_of []).end ≡ gives 0
unfolding walk_of walk_from
nothing_left = refl

pub alone : (t : List ℕ) → IsTlv t → (walk_of t).end ≡ gives 0
alone t h = by_mark (is_marker_lem u) refl
  where
    u : Tlv
    u = record { tlv_type = h.tlv.tlv_type; length = h.tlv.value_length; offset = 0 }

    next : 0 + h.tlv.consumed ≡ length t
    next = omega (arith, h.all)

    some_bytes : 0 < length t
    some_bytes = omega (arith, at_least_3 t h)

    by_mark : (b : Bool) → b ≡ is_marker_lem u → (walk_of t).end ≡ gives 0
    by_mark true m =
        let none : length t - (0 + h.tlv.consumed) ≡ 0 = omega (arith, next) in
        ap (λ (w : Walk Tlv). w.end) (the_walk t _ _ (final (step.by_mark t 0 some_bytes h.tlv (sym h.reads) true m))) ∙ ap gives none
    by_mark false m =
        ap (λ (w : Walk Tlv). w.end) (the_walk t _ _ (onward (step.by_mark t 0 some_bytes h.tlv (sym h.reads) false m) (at_end_lem (step.at_end_lem t (0 + h.tlv.consumed) (omega (arith, next))))))

-- a TLV that is a marker, or not
abbrev Marked : List Tlv → Type 0
Marked ts = (k : ℕ) × (k < length ts) × (is_marker_lem (get_or ts k no_tlv) ≡ true)

marked? : (ts : List Tlv) → Unmarked ts ⊎ Marked ts
marked? [] = inl (λ k h. absurd (omega arith))
marked? (t ∷ ts) = by_mark (is_marker_lem t) refl (marked? ts)
  where
    by_mark : (b : Bool) → is_marker_lem t ≡ b → Unmarked ts ⊎ Marked ts → Unmarked (t ∷ ts) ⊎ Marked (t ∷ ts)
    by_mark true e rest = inr (0, omega arith, e)
    by_mark false e (inl un) = inl (from_first un)
      where
        from_first : Unmarked ts → Unmarked (t ∷ ts)
        from_first un zero h = e
        from_first un (suc k) h = un k (omega arith)
    by_mark false e (inr m) = inr (suc m.0, omega (arith, m.1), m.2)

-- TLVs of which only the last may be a marker
abbrev pub Chain : List (List ℕ) → Type 0
Chain [] = Unit
Chain (t ∷ []) = IsTlv t
Chain (t ∷ u ∷ ts) = IsTlv t × Unmarked (walk_of t).items × Chain (u ∷ ts)

pub whole : (ts : List (List ℕ)) → Chain ts → (walk_of (flatten ts)).end ≡ gives 0
unfolding flatten
whole [] c = nothing_left
whole (t ∷ []) c = rw append-nil (alone t c)
whole (t ∷ u ∷ ts) c = (claims.in_pieces.followed t (flatten (u ∷ ts)) 0 (alone t c.0) c.1 (whole (u ∷ ts) c.2)).1

prepend : (t : List ℕ) (ts : List (List ℕ)) → IsTlv t → Unmarked (walk_of t).items → Chain ts → Chain (t ∷ ts)
prepend t [] h un c = h
prepend t (u ∷ ts) h un c = (h, un, c)

-- how a walk over whole TLVs ends; without padding they are such a chain
record Ended (ts : List (List ℕ)) : Type 0 where
  padding : ℕ
  ends : (walk_of (flatten ts)).end ≡ gives padding
  chained : padding ≡ 0 → Chain ts

ended : (ts : List (List ℕ)) → Tlvs ts → Ended ts
unfolding flatten
ended [] h = record { padding = 0; ends = nothing_left; chained = λ z. tt }
ended (t ∷ ts) h = ⊎_elim (unmarked (ended ts h.1)) marked (marked? (walk_of t).items)
  where
    unmarked : Ended ts → Unmarked (walk_of t).items → Ended (t ∷ ts)
    unmarked o un = record {
      padding = o.padding;
      ends = (claims.in_pieces.followed t (flatten ts) o.padding (alone t h.0) un o.ends).1;
      chained = λ z. prepend t ts h.0 un (o.chained z);
    }

    nothing_after : (us : List (List ℕ)) → Tlvs us → length (flatten us) ≡ 0 → Chain (t ∷ us)
    nothing_after [] k z = h.0
    nothing_after (u ∷ us) k z = absurd (omega (arith, z, length-append u (flatten us), at_least_3 u k.0))

    marked : Marked (walk_of t).items → Ended (t ∷ ts)
    marked m = record {
      padding = length (flatten ts);
      ends = (claims.in_pieces.padded t (flatten ts) m.0 (alone t h.0) m.1 m.2).1;
      chained = nothing_after ts h.1;
    }

pub chain_of : (ts : List (List ℕ)) → Tlvs ts → (walk_of (flatten ts)).end ≡ gives 0 → Chain ts
chain_of ts h e = let o = ended ts h in o.chained (given _ _ (sym o.ends ∙ e))
