-- What the marker does: a walk ends with it, whatever follows it; without one a walk goes on to the payload's end.
use mathlib.Core.Path.{◌≡◌, refl, sym, ap, ◌∙◌, subst}
use mathlib.Core.Bool.{Bool, true, false, cond}
use mathlib.Core.List.{List, [], ◌∷◌, ◌++◌}
use Prim.Native.Nat.{ℕ, zero, suc, ◌+◌, ◌-◌, ◌<◌, ◌≤◌}
use native.Mathlib.Omega.{arith}
use lib.ListN.{length, take, drop, get_or, length-append, length-drop, take-append-drop}
use lib.Seq.{length-take-le, drop-append-le, take-append-le}
use Rattle.numbers.specs.Numbers.{Answer, gives}
use Rattle.numbers.proofs.Firm.{never}
use Rattle.numbers.proofs.Answers.{given}
use Rattle.framing.proofs.Reading.{reads_same}
use Rattle.walking.specs.declared.Tlv.{Tlv}
use Rattle.walking.specs.Steps.{passed, last}
use Rattle.walking.specs.Walk.{is_marker_lem, step_at, walk_of, no_tlv, offset_at}
use Rattle.walking.specs.Claims.{Ends, Unmarked}
use Rattle.walking.proofs.Carried.{marked_last}
use Rattle.walking.proofs.Chained.{Has, of_walk, the_walk, stands}
use Rattle.walking.proofs.Going.{at_end_lem, onward, final, stopped}
use Rattle.walking.proofs.Stepping.{empty, passes, lasts, Steps, steps, steps_same}

-- the message's bytes up to the offset `cut`, and other bytes after them
module _ (p : List ℕ) (cut : ℕ) (long : cut ≤ length p) (other : List ℕ) where
  abbrev q : List ℕ
  q = take cut p ++ other

  size : length q ≡ cut + length other
  size = length-append (take cut p) other ∙ ap (λ (n : ℕ). n + length other) (length-take-le cut p long)

  -- the same bytes stand before `cut`
  same_bytes : (at n : ℕ) → at + n ≤ cut → take n (drop at q) ≡ take n (drop at p)
  same_bytes at n h = start other ∙ sym (start (drop cut p)) ∙ ap (λ (l : List ℕ). take n (drop at l)) (take-append-drop cut p)
    where
      start : (rest : List ℕ) → take n (drop at (take cut p ++ rest)) ≡ take n (drop at (take cut p))
      start rest =
          let l : length (take cut p) ≡ cut = length-take-le cut p long in
          rw (drop-append-le at (take cut p) rest (omega arith), take-append-le n (drop at (take cut p)) rest (omega (arith, length-drop at (take cut p))))

  -- a TLV that ends by then is found in both
  found : (b : Bool) (at : ℕ) (t : Tlv) (next : ℕ) → Steps p at b t next → next ≤ cut → gives (cond b (last t next) (passed t next)) ≡ step_at q at
  found b at t next w h =
      let o = w.passing in
      steps_same p at b t next w q (omega (arith, o.behind, size))
      (reads_same (drop at p) (drop at q) _ o.reads_as (omega (arith, o.behind, size, length-drop at q)) (same_bytes at (3 + t.length) (omega (arith, o.behind))))

  not_before : {at : ℕ} {ts : List Tlv} {end : Answer ℕ} → Has p at ts end → (k : ℕ) → k < length ts → at ≤ offset_at ts k
  not_before (at_end_lem e) k h = absurd (omega arith)
  not_before (stopped e) k h = absurd (omega arith)
  not_before (final {at} {t} {to} e) zero h = omega (arith, (lasts p at t to e).starts)
  not_before (final e) (suc k) h = absurd (omega arith)
  not_before (onward {at} {t} {next} e g) zero h = omega (arith, (passes p at t next e).starts)
  not_before (onward {at} {t} {next} e g) (suc k) h = omega (arith, (passes p at t next e).behind, not_before g k (omega arith))

  -- the walk from `at` on comes to the marker, its TLV number k
  comes : {at : ℕ} {ts : List Tlv} {end : Answer ℕ} → Has p at ts end → (k : ℕ) → k < length ts → is_marker_lem (get_or ts k no_tlv) ≡ true → offset_at ts k + 3 ≡ cut → (k + 1 ≡ length ts) × Has q at ts (gives (length other))
  comes (at_end_lem e) k h m z = absurd (omega arith)
  comes (stopped e) k h m z = absurd (omega arith)
  comes (final e) (suc k) h m z = absurd (omega arith)
  comes (final {at} {t} {to} e) zero h m z =
      let n : to ≡ cut = omega (arith, (lasts p at t to e).behind, (lasts p at t to e).starts, empty t m) in
      let k : length q - to ≡ length other = omega (arith, size) in
      (refl, subst (λ (j : ℕ). Has q at (t ∷ []) (gives j)) k (final (found true at t to (steps p at true t to e) (omega arith))))
  comes (onward {at} {t} {next} e g) zero h m z = let f = sym m ∙ (steps p at false t next e).marks in let y : ◌≡◌ {A = ℕ} 0 1 = cc in absurd (omega arith)
  comes (onward {at} {t} {next} e g) (suc k) h m z =
      let w = comes g k (omega arith) m z in
      let before : next ≤ cut = omega (arith, not_before g k (omega arith)) in
      (omega (arith, w.0), onward (found false at t next (steps p at false t next e) before) w.1)

module _ (p : List ℕ) (k : ℕ) (l : k < length (walk_of p).items) (m : is_marker_lem (get_or (walk_of p).items k no_tlv) ≡ true) where
  abbrev up_to : ℕ
  up_to = offset_at (walk_of p).items k + 3

  followed_by : (other : List ℕ) → (k + 1 ≡ length (walk_of p).items) × Has (take up_to p ++ other) 0 (walk_of p).items (gives (length other))
  followed_by other = comes p up_to (omega (arith, (stands p (of_walk p) k l).inside)) other (of_walk p) k l m refl

  pub marker_ends : Ends p (walk_of p).items k
  marker_ends = record { is_last = (followed_by []).0; not_looked_at = λ other. the_walk (take up_to p ++ other) _ _ (followed_by other).1 }

-- without a marker a walk ends at the payload's end
module _ (p : List ℕ) where
  unpadded : {at : ℕ} {ts : List Tlv} {end : Answer ℕ} → Has p at ts end → (padding : ℕ) → end ≡ gives padding → Unmarked ts → padding ≡ 0
  unpadded (at_end_lem e) padding is not = sym (given 0 padding is)
  unpadded (stopped e) padding is not = never _ _ _ (sym is)
  unpadded (final {at} {t} {to} e) padding is not = marked_last p at t to e (not 0 (omega arith))
  unpadded (onward e g) padding is not = unpadded g padding is (λ k l. not (suc k) (omega arith))

  pub no_marker : (padding : ℕ) → (walk_of p).end ≡ gives padding → Unmarked (walk_of p).items → padding ≡ 0
  no_marker = unpadded (of_walk p)
