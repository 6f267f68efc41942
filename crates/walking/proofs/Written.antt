-- The TLVs of a walk that succeeds, one after the other, and then the padding, are the payload, byte for byte: as
-- pieces of it, and written anew.
use mathlib.Core.Path.{◌≡◌, sym, ap, ◌∙◌, subst}
use mathlib.Core.List.{List, ◌++◌, map, flatten, append_assoc, append-nil}
use Prim.Native.Nat.{ℕ, ◌+◌, ◌-◌, ◌<◌, ◌≤◌}
use native.Mathlib.Omega.{arith}
use lib.ListN.{length, take, drop, drop_of_length-le, take-append-drop}
use lib.Seq.{drop-drop, get_or-drop}
use Rattle.numbers.specs.Numbers.{Answer, gives}
use Rattle.numbers.specs.Bytes.{AllBytes}
use Rattle.numbers.proofs.Firm.{never}
use Rattle.numbers.proofs.Answers.{given}
use Rattle.framing.specs.Tlv.{read_tlv_lem, value_in_lem, tlv_bytes}
use Rattle.framing.proofs.RoundTrip.{written_read}
use Rattle.walking.specs.declared.Tlv.{Tlv}
use Rattle.walking.specs.Pieces.{tlv_in}
use Rattle.walking.specs.Claims.{tlv_of_lem}
use Rattle.walking.proofs.Chained.{Has}
use Rattle.walking.proofs.Going.{at_end_lem, onward, final, stopped}
use Rattle.walking.proofs.Stepping.{Passes, passes, lasts, ends}

module _ (p : List ℕ) where
  -- what stands where a step goes over a TLV
  abbrev Tells : (Tlv → List ℕ) → Type 0
  Tells f = (at : ℕ) (t : Tlv) (next : ℕ) → Passes p at t next → f t ≡ take (3 + t.length) (drop at p)

  pub as_piece : Tells (tlv_in p)
  as_piece at t next o = rw o.starts

  pub as_written : AllBytes p → Tells (tlv_of_lem p)
  as_written bytes at t next o =
      let f : t.offset + 3 ≡ at + 3 = rw o.starts in
      let v : take t.length (drop (t.offset + 3) p) ≡ value_in_lem (read_tlv_lem (drop at p)) (drop at p) = rw (← o.reads_as, f, drop-drop) in
      ap (tlv_bytes t.tlv_type) v ∙ written_read (drop at p) (λ i. subst (λ (b : ℕ). b < 256) (sym (get_or-drop at p i 0)) (bytes (at + i))) _ o.reads_as

  module _ (f : Tlv → List ℕ) (tells : Tells f) where
    -- a TLV, and what stands after it
    and_on : (at : ℕ) (t : Tlv) (next : ℕ) → Passes p at t next → (rest : List ℕ) → rest ≡ drop next p → f t ++ rest ≡ drop at p
    and_on at t next o rest e =
        let n : next ≡ at + (3 + t.length) = omega (arith, o.behind) in
        rw (tells at t next o, e, n, ← drop-drop (3 + t.length) at p) (take-append-drop (3 + t.length) (drop at p))

    pub all_told : {at : ℕ} {ts : List Tlv} {end : Answer ℕ} → Has p at ts end → (padding : ℕ) → end ≡ gives padding → (flatten (map f ts) ++ drop (length p - padding) p ≡ drop at p) × (padding ≤ length p)
    unfolding flatten
    all_told (at_end_lem {at} e) padding is =
        let z : length p ≤ length p - padding = omega (arith, given 0 padding is) in
        (drop_of_length-le p z ∙ sym (drop_of_length-le p (ends p at e)), omega (arith, given 0 padding is))
    all_told (stopped e) padding is = never _ _ _ (sym is)
    all_told (final {at} {t} {to} e) padding is =
        let o = lasts p at t to e in
        let k = given (length p - to) padding is in
        let n : length p - padding ≡ to = omega (arith, o.inside) in
        (rw append-nil (and_on at t to o (drop (length p - padding) p) (ap (λ (m : ℕ). drop m p) n)), omega arith)
    all_told (onward {at} {t} {next} {ts} e g) padding is =
        let w = all_told g padding is in
        (append_assoc (f t) (flatten (map f ts)) (drop (length p - padding) p) ∙ and_on at t next (passes p at t next e) _ w.0, w.1)
