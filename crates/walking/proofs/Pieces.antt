-- The pieces of a payload, and of one payload after another.
use mathlib.Core.Path.{◌≡◌, refl, sym, ap, ◌∙◌, subst}
use mathlib.Core.Bool.{Bool, true, false, cond}
use mathlib.Core.List.{List, [], ◌∷◌, ◌++◌, map, map-append, flatten}
use Prim.Native.Nat.{ℕ, zero, suc, ◌+◌, ◌-◌, ◌<◌, ◌≤◌}
use native.Mathlib.Omega.{arith}
use lib.ListN.{length, take, drop, get_or, length-append, length-drop, length-map, take-append-drop}
use lib.Seq.{drop-append-le, take-append-le, drop-append-add, take-take, take_all, length-take-le}
use Rattle.numbers.specs.Numbers.{Answer, gives}
use Rattle.numbers.proofs.Firm.{never}
use Rattle.numbers.proofs.Answers.{given}
use Rattle.framing.specs.Tlv.{read_tlv_lem}
use Rattle.framing.proofs.Reading.{reads_same}
use Rattle.walking.specs.declared.Tlv.{Tlv}
use Rattle.walking.specs.Steps.{passed, last, Walk}
use Rattle.walking.specs.Walk.{is_marker_lem, step_at, walk_of, no_tlv, offset_at}
use Rattle.walking.specs.Pieces.{tlv_in, pieces}
use Rattle.walking.specs.Claims.{Unmarked, IsTlv, InPieces}
use Rattle.walking.proofs.Carried.{carried}
use Rattle.walking.proofs.Chained.{Has, of_walk, the_walk, stands}
use Rattle.walking.proofs.Going.{at_end_lem, onward, final, stopped}
use Rattle.walking.proofs.Marked.{marker_ends}
use Rattle.walking.proofs.Stepping.{Passes, passes, lasts, steps}
use Rattle.walking.proofs.Stepping as step
use Rattle.walking.proofs.Written.{as_piece, all_told}

one_by_one : (p : List ℕ) (padding : ℕ) → (walk_of p).end ≡ gives padding → flatten (pieces p) ++ drop (length p - padding) p ≡ p
one_by_one p padding e = (all_told p (tlv_in p) (as_piece p) (of_walk p) padding e).0

-- the bytes of a TLV that a walk goes over are one TLV
is_tlv : (p : List ℕ) (t : Tlv) → Passes p t.offset t (t.offset + 3 + t.length) → IsTlv (tlv_in p t)
is_tlv p t o =
    let s : List ℕ = drop t.offset p in
    let l : length (take (3 + t.length) s) ≡ 3 + t.length = length-take-le (3 + t.length) s (omega (arith, o.inside, length-drop t.offset p)) in
    record {
      tlv = record { tlv_type = t.tlv_type; value_length = t.length; consumed = 3 + t.length };
      reads = sym (reads_same s (take (3 + t.length) s) _ o.reads_as (omega arith) (take-take (3 + t.length) (3 + t.length) s (omega arith)));
      all = sym l;
    }

each : (p : List ℕ) (k : ℕ) → k < length (pieces p) → IsTlv (get_or (pieces p) k [])
each p k h =
    let l : k < length (walk_of p).items = omega (arith, length-map (walk_of p).items (tlv_in p)) in
    rw (of_map (walk_of p).items k l) (is_tlv p _ (stands p (of_walk p) k l))
  where
    of_map : (ts : List Tlv) (k : ℕ) → k < length ts → get_or (map (tlv_in p) ts) k [] ≡ tlv_in p (get_or ts k no_tlv)
    of_map [] k h = absurd (omega arith)
    of_map (t ∷ ts) zero h = refl
    of_map (t ∷ ts) (suc k) h = of_map ts k (omega arith)

module _ (a b : List ℕ) where
  -- the pieces stay with more after the payload
  piece_stays : (at : ℕ) (t : Tlv) (next : ℕ) → Passes a at t next → tlv_in (a ++ b) t ≡ tlv_in a t
  piece_stays at t next o =
      rw (drop-append-le t.offset a b (omega (arith, o.starts, o.behind, o.inside)), take-append-le (3 + t.length) (drop t.offset a) b (omega (arith, o.starts, o.behind, o.inside, length-drop t.offset a)))

  pieces_stay : {at : ℕ} {ts : List Tlv} {end : Answer ℕ} → Has a at ts end → map (tlv_in (a ++ b)) ts ≡ map (tlv_in a) ts
  pieces_stay (at_end_lem e) = refl
  pieces_stay (stopped e) = refl
  pieces_stay (final {at} {t} {to} e) = rw (piece_stays at t to (lasts a at t to e))
  pieces_stay (onward {at} {t} {next} e g) = rw (piece_stays at t next (passes a at t next e), pieces_stay g)

  -- after other bytes each TLV stands so much farther on
  abbrev moved : Tlv → Tlv
  moved t = record { tlv_type = t.tlv_type; length = t.length; offset = length a + t.offset }

  pieces_moved : (ts : List Tlv) → map (tlv_in (a ++ b)) (map moved ts) ≡ map (tlv_in b) ts
  pieces_moved [] = refl
  pieces_moved (t ∷ ts) = rw (drop-append-add a b t.offset, pieces_moved ts)

  found : (x : Bool) (at : ℕ) (t : Tlv) (next : ℕ) → gives (cond x (last t next) (passed t next)) ≡ step_at b at
      → gives (cond x (last (moved t) (length a + next)) (passed (moved t) (length a + next))) ≡ step_at (a ++ b) (length a + at)
  found x at t next e =
      let o = steps b at x t next e in
      let n : length a + next ≡ length a + at + (3 + t.length) = omega (arith, o.passing.behind) in
      let i : moved t ≡ record { tlv_type = t.tlv_type; length = t.length; offset = length a + at } = rw o.passing.starts in
      rw (n, i) (step.by_mark (a ++ b) (length a + at) (omega (arith, o.passing.behind, o.passing.inside, length-append a b)) _ (o.passing.reads_as ∙ ap read_tlv_lem (sym (drop-append-add a b at))) x (sym o.marks))

  goes : {at : ℕ} {ts : List Tlv} {end : Answer ℕ} → Has b at ts end → (padding : ℕ) → end ≡ gives padding → Has (a ++ b) (length a + at) (map moved ts) (gives padding)
  goes (at_end_lem {at} e) padding is = subst (λ (k : ℕ). Has (a ++ b) (length a + at) [] (gives k)) (given 0 padding is) (at_end_lem (step.at_end_lem (a ++ b) (length a + at) (omega (arith, step.ends b at e, length-append a b))))
  goes (stopped e) padding is = never _ _ _ (sym is)
  goes (final {at} {t} {to} e) padding is =
      let k : length (a ++ b) - (length a + to) ≡ padding = omega (arith, given _ padding is, length-append a b) in
      subst (λ (k : ℕ). Has (a ++ b) (length a + at) (moved t ∷ []) (gives k)) k (final (found true at t to e))
  goes (onward {at} {t} {next} e g) padding is = onward (found false at t next e) (goes g padding is)

  -- a walk that ends with no TLV is at the end
  at_its_end : {to : ℕ} {end : Answer ℕ} → Has a to [] end → (k : ℕ) → end ≡ gives k → length a ≤ to
  at_its_end (at_end_lem {at} e) k is = step.ends a at e
  at_its_end (stopped e) k is = never _ _ _ (sym is)

  followed : (padding : ℕ) → (walk_of a).end ≡ gives 0 → Unmarked (walk_of a).items → (walk_of b).end ≡ gives padding
      → (pieces (a ++ b) ≡ pieces a ++ pieces b) × ((walk_of (a ++ b)).end ≡ gives padding)
  followed padding whole unmarked is =
      let c = carried a b (of_walk a) (omega arith) unmarked in
      let to : length a + 0 ≡ c.to = omega (arith, c.within, at_its_end c.stops 0 whole) in
      let w = the_walk (a ++ b) _ _ (c.on _ _ (subst (λ (k : ℕ). Has (a ++ b) k (map moved (walk_of b).items) (gives padding)) to (goes (of_walk b) padding is))) in
      (ap (λ (v : Walk Tlv). map (tlv_in (a ++ b)) v.items) w ∙ map-append (tlv_in (a ++ b)) (walk_of a).items (map moved (walk_of b).items) ∙ rw (pieces_stay (of_walk a), pieces_moved (walk_of b).items), ap (λ (v : Walk Tlv). v.end) w)

  padded : (k : ℕ) → (walk_of a).end ≡ gives 0 → k < length (walk_of a).items → is_marker_lem (get_or (walk_of a).items k no_tlv) ≡ true
      → (pieces (a ++ b) ≡ pieces a) × ((walk_of (a ++ b)).end ≡ gives (length b))
  padded k whole l m =
      let cut : ℕ = offset_at (walk_of a).items k + 3 in
      let ends = marker_ends a k l m in
      let z : 0 ≡ length (drop cut a) = given _ _ (sym whole ∙ ap (λ (v : Walk Tlv). v.end) (rw (take-append-drop cut a) at (ends.not_looked_at (drop cut a)))) in
      let w : walk_of (a ++ b) ≡ record { items = (walk_of a).items; end = gives (length b) } = ap (λ (s : List ℕ). walk_of (s ++ b)) (sym (take_all cut a (omega (arith, length-drop cut a)))) ∙ ends.not_looked_at b in
      (ap (λ (v : Walk Tlv). map (tlv_in (a ++ b)) v.items) w ∙ pieces_stay (of_walk a), ap (λ (v : Walk Tlv). v.end) w)

pub in_pieces : InPieces
in_pieces = record { one_by_one = one_by_one; each = each; followed = followed; padded = padded }
