-- What the cutter's loop keeps, and how a turn goes on or ends: from `at` on the walk has the rest of the TLVs, and
-- those before it are in fragments.
use Rattle.std.specs.Prelude.{Option, Some, None, IfSome}
use mathlib.Core.Path.{◌≡◌, refl, sym, ap, ◌∙◌, subst}
use mathlib.Core.Bool.{Bool, true, false, cond}
use mathlib.Core.List.{List, [], ◌∷◌, map}
use Prim.Native.Nat.{ℕ, ◌+◌, ◌-◌, ◌<◌}
use native.Mathlib.Omega.{arith}
use lib.Dec.{eqb, ltb}
use lib.ListN.{length, take, drop, replicate, length-drop}
use lib.Seq.{length-take-le}
use borrow.Author.Tests.{eqb-true, eqb-false, ne_eqb}
use Rattle.numbers.specs.Numbers.{Answer, gives, refuses, and_then, mapped}
use Rattle.walking.specs.declared.Tlv.{Tlv}
use Rattle.walking.specs.Steps.{ended, passed, last}
use Rattle.walking.specs.Walk.{step_at, walk_of}
use Rattle.walking.specs.Pieces.{tlv_in}
use Rattle.walking.proofs.Chained.{Has, of_walk}
use Rattle.walking.proofs.Going.{at_end_lem, onward, final, stopped, turned}
use Rattle.walking.proofs.Stepping.{Passes, passes, lasts}
use Rattle.cutting.specs.Cuts.{tlvs_of}
use Rattle.cutting.specs.Greedy.{ends_over, ends_of_lem, cut_into}
use Rattle.cutting.specs.PrivateFilling.{with_tlv_lem, ends_with, places_for, answer_for_lem}
use Rattle.cutting.specs.declared.filling.Open.{Open}
use Rattle.cutting.proofs.Filled.{Filled, goes_on as one_more, all_in}
use Rattle.cutting.proofs.Opened.{padded, unpadded}

-- how long a TLV is, with its header
abbrev sizes : List Tlv → List ℕ
sizes ts = map (λ (t : Tlv). 3 + t.length) ts

module _ (m : List ℕ) where
  long : {at : ℕ} {t : Tlv} {next : ℕ} → Passes m at t next → length (tlv_in m t) ≡ 3 + t.length
  long {at} {t} {next} o = length-take-le (3 + t.length) (drop t.offset m) (omega (arith, o.starts, o.behind, o.inside, length-drop t.offset m))

  lengths : {at : ℕ} {ts : List Tlv} {end : Answer ℕ} → Has m at ts end → map length (map (tlv_in m) ts) ≡ sizes ts
  lengths (at_end_lem e) = refl
  lengths (stopped e) = refl
  lengths (final {at} {t} {to} e) = rw (long (lasts m at t to e))
  lengths (onward {at} {t} {next} e g) = rw (long (passes m at t next e), lengths g)

  abbrev all : List ℕ
  all = sizes (walk_of m).items

  -- the walk's own refusal, and padding
  unwalked : (room n : ℕ) (vs : List ℕ) → (walk_of m).end ≡ refuses n vs → cut_into m room ≡ refuses n vs
  unfolding tlvs_of ends_of_lem cut_into
  unwalked room n vs e = rw e

  left_over : (room padding : ℕ) → (walk_of m).end ≡ gives padding → (padding ≡ 0 → ⊥) → cut_into m room ≡ refuses 4 []
  unfolding tlvs_of ends_of_lem cut_into
  left_over room padding e h = rw (e, ne_eqb padding 0 h)

  whole : (room : ℕ) → (walk_of m).end ≡ gives 0 → (a : Answer (List ℕ)) → ends_over all ≡ a → cut_into m room ≡ and_then a (λ ends. cond (ltb room (length ends)) (refuses 7 []) (gives ends))
  unfolding tlvs_of ends_of_lem cut_into
  whole room e a is = rw (e, lengths (of_walk m), is)

  -- all TLVs are in, and the walk ended with this padding
  module _ (found : List ℕ) (padding : ℕ) (e : (walk_of m).end ≡ gives padding) (room : ℕ) where
    -- what is planned, by what is answered
    abbrev Closed : Answer ℕ → Type 0
    Closed a = mapped (λ (count : ℕ). take count found) a ≡ cut_into m room

    in_places : (at : ℕ) (o : Option Open) → Filled all at o found [] → padding ≡ 0 → Closed (places_for o room)
    in_places at None f z = sym (whole room (e ∙ ap gives z) (refuses 21 []) (all_in all at None found f))
    in_places at (Some o) f z = by_test (ltb room (o.before + 1)) refl
      where
        n : length (take (o.before + 1) found) ≡ o.before + 1
        n = length-take-le (o.before + 1) found (omega (arith, f.so.small, f.long))

        cuts : cut_into m room ≡ cond (ltb room (length (take (o.before + 1) found))) (refuses 7 []) (gives (take (o.before + 1) found))
        cuts = whole room (e ∙ ap gives z) (gives (take (o.before + 1) found)) (all_in all at (Some o) found f)

        by_test : (b : Bool) → ltb room (o.before + 1) ≡ b → Closed (cond (ltb room (o.before + 1)) (refuses 7 []) (gives (o.before + 1)))
        by_test true r = rw r (sym (cuts ∙ rw (n, r)))
        by_test false r = rw r (sym (cuts ∙ rw (n, r)))

    closes : (at : ℕ) (o : Option Open) → Filled all at o found [] → Closed (answer_for_lem o padding room)
    closes at o f = by_padding (eqb padding 0) refl
      where
        by_padding : (b : Bool) → eqb padding 0 ≡ b → Closed (answer_for_lem o padding room)
        by_padding false p = let h = eqb-false padding 0 p in subst Closed (padded o padding room h) (sym (left_over room padding e h))
        by_padding true p = let z = eqb-true padding 0 p in subst Closed (unpadded o padding room z) (in_places at o f z)

  pub record Planning (at : ℕ) (o : Option Open) (found : List ℕ) : Type 0 where
    pub rest : List Tlv
    pub goes : Has m at rest (walk_of m).end
    pub filled : Filled all at o found (sizes rest)

  pub begins : Planning 0 (Some (record { used = 0; before = 0 })) (replicate 9 0)
  begins = record { rest = (walk_of m).items; goes = of_walk m; filled = record { long = refl; so = record { small = omega arith; so_far = refl; fit = refl; here = refl } } }

  module _ (at : ℕ) (o : Option Open) (found : List ℕ) (w : Planning at o found) where
    -- after the TLV that a step goes over
    filled_on : (t : Tlv) (next : ℕ) (rest : List Tlv) → Passes m at t next → w.rest ≡ t ∷ rest → Filled all next (with_tlv_lem o (next - at)) (ends_with (with_tlv_lem o (next - at)) next found) (sizes rest)
    filled_on t next rest p is =
        let n : next ≡ at + (3 + t.length) = omega (arith, p.behind) in
        let k : next - at ≡ 3 + t.length = omega (arith, p.behind) in
        rw (k, n) (one_more all at o found (3 + t.length) (sizes rest) (rw is at w.filled))

    pub goes_on : (t : Tlv) (next : ℕ) → gives (passed t next) ≡ step_at m at → (p : Option Open) → p ≡ with_tlv_lem o (next - at) → Planning next p (ends_with p next found)
    goes_on t next e p said =
        let u = turned (step_at m) (length m) w.goes (gives (passed t next)) e in
        rw said (record { rest = u.0; goes = u.1.1; filled = filled_on t next u.0 (passes m at t next e) u.1.0 })

    pub ends : (room : ℕ) → gives ended ≡ step_at m at → (a : Answer ℕ) → a ≡ answer_for_lem o 0 room → mapped (λ (count : ℕ). take count found) a ≡ cut_into m room
    ends room e a said =
        let u = turned (step_at m) (length m) w.goes (gives ended) e in
        rw said (closes found 0 u.1 room at o (rw u.0 at w.filled))

    -- the marker is the last
    module _ (t : Tlv) (to : ℕ) (e : gives (last t to) ≡ step_at m at) (p : Option Open) (said : p ≡ with_tlv_lem o (to - at)) where
      pub last_in : Filled all to p (ends_with p to found) []
      last_in = rw said (filled_on t to [] (lasts m at t to e) (turned (step_at m) (length m) w.goes (gives (last t to)) e).0)

      pub ends_at : (room : ℕ) (a : Answer ℕ) → a ≡ answer_for_lem p (length m - to) room → mapped (λ (count : ℕ). take count (ends_with p to found)) a ≡ cut_into m room
      ends_at room a tells =
          let u = turned (step_at m) (length m) w.goes (gives (last t to)) e in
          rw tells (closes (ends_with p to found) (length m - to) u.1 room to p last_in)

    pub stops_at : (room n : ℕ) (vs : List ℕ) → refuses n vs ≡ step_at m at → refuses n vs ≡ cut_into m room
    stops_at room n vs e = sym (unwalked room n vs (turned (step_at m) (length m) w.goes (refuses n vs) e).1)

  -- an open fragment has its place among the ends
  pub in_ends : {at : ℕ} (o : Option Open) {found rest : List ℕ} → Filled all at o found rest → IfSome o (λ p. p.before < 9)
  in_ends None f = tt
  in_ends (Some p) f = omega (arith, f.so.small)
