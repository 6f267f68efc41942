-- Laws of `record_at_lem`: a law for each case, and what a record that is passed says of the file.
use mathlib.Core.Path.{◌≡◌, refl, sym, ap, ◌∙◌}
use mathlib.Core.Bool.{Bool, true, false}
use mathlib.Core.List.{List, [], ◌∷◌}
use Prim.Native.Nat.{ℕ, ◌+◌, ◌-◌, ◌<◌, ◌≤◌}
use native.Mathlib.Omega.{arith}
use lib.Dec.{eqb, leb, ltb}
use lib.ListN.{length, take, drop, length-drop}
use lib.Seq.{length-take-le}
use borrow.Author.Tests.{lt-ltb, le-ltb, le-leb, lt-leb, eq-eqb, ne_eqb, leb-true, leb-false, ltb-true, ltb-false, eqb-true, eqb-false}
use Rattle.numbers.specs.Numbers.{gives, refuses}
use Rattle.numbers.proofs.Firm.{never}
use Rattle.walking.specs.Steps.{ended, passed, last}
use Rattle.captures.specs.Form.{field_at}
use Rattle.captures.specs.Reading.{Captured, captured_at, stored_at, lengths_at, record_at_lem}

module _ (highFirst : Bool) (s : List ℕ) (at : ℕ) where
  pub at_end_lem : length s ≤ at → gives ended ≡ record_at_lem highFirst s at
  unfolding record_at_lem
  at_end_lem h = simp (le-leb (length s) at h)

  module _ (h : at < length s) where
    pub headless : length s - at < 16 → refuses 2 ((16 - (length s - at)) ∷ []) ≡ record_at_lem highFirst s at
    unfolding record_at_lem
    headless k = simp (lt-leb (length s) at h, lt-ltb (length s - at) 16 k)

    -- `n` and `m` are what the code takes the two lengths for
    module _ (k : 16 ≤ length s - at) (n m : ℕ) (e : n ≡ field_at highFirst 4 (at + 8) s) (f : m ≡ field_at highFirst 4 (at + 12) s) where
      by_lengths : lengths_at highFirst s at n m ≡ record_at_lem highFirst s at
      unfolding record_at_lem
      by_lengths = rw (e, f) (simp (lt-leb (length s) at h, le-ltb (length s - at) 16 k))

      pub unlike : (n ≡ m → ⊥) → refuses 23 [] ≡ record_at_lem highFirst s at
      unlike g = sym (rw (ne_eqb n m g)) ∙ by_lengths

      module _ (g : n ≡ m) where
        pub cut : length s - at - 16 < n → refuses 2 ((n - (length s - at - 16)) ∷ []) ≡ record_at_lem highFirst s at
        cut l =
            let left : length s - at - 16 ≡ length s - (at + 16) = omega arith in
            rw left (sym (rw (eq-eqb n m g, lt-ltb (length s - (at + 16)) n (rw left at l))) ∙ by_lengths)

        pub whole : n ≤ length s - at - 16 → gives (passed (captured_at at (stored_at highFirst s at n)) (at + 16 + n)) ≡ record_at_lem highFirst s at
        whole l =
            let left : length s - at - 16 ≡ length s - (at + 16) = omega arith in
            sym (rw (eq-eqb n m g, le-ltb (length s - (at + 16)) n (rw left at l))) ∙ by_lengths

        -- the same with the two numbers of the time, and the frame in the part that the code lends
        pub seen : n ≤ length s - at - 16 → (seconds microseconds : ℕ) → seconds ≡ field_at highFirst 4 at s → microseconds ≡ field_at highFirst 4 (at + 4) s → (frame : List ℕ) → frame ≡ take (at + 16 + n - (at + 16)) (drop (at + 16) s)
            → gives (passed (captured_at at (record { seconds = seconds; microseconds = microseconds; frame = frame })) (at + 16 + length frame)) ≡ record_at_lem highFirst s at
        seen l seconds microseconds p q frame r =
            let width : at + 16 + n - (at + 16) ≡ n = omega arith in
            let all : frame ≡ take n (drop (at + 16) s) = r ∙ ap (λ (k : ℕ). take k (drop (at + 16) s)) width in
            let size : length (take n (drop (at + 16) s)) ≡ n = length-take-le n (drop (at + 16) s) (simp length-drop (omega arith)) in
            rw (p, q, all) (ap (λ (k : ℕ). gives (passed (captured_at at (stored_at highFirst s at n)) (at + 16 + k))) size ∙ whole l)

-- what a step finds at `at`: no byte, a record, or a fault
data Finds (highFirst : Bool) (s : List ℕ) (at : ℕ) : Type 0 where
  past : length s ≤ at → Finds highFirst s at
  fault : (n : ℕ) (vs : List ℕ) → refuses n vs ≡ record_at_lem highFirst s at → Finds highFirst s at
  there : (n : ℕ) → n ≡ field_at highFirst 4 (at + 8) s → n ≡ field_at highFirst 4 (at + 12) s → at + 16 + n ≤ length s → gives (passed (captured_at at (stored_at highFirst s at n)) (at + 16 + n)) ≡ record_at_lem highFirst s at → Finds highFirst s at

finds : (highFirst : Bool) (s : List ℕ) (at : ℕ) → Finds highFirst s at
finds highFirst s at = by_start (leb (length s) at) refl
  where
    by_frame : at < length s → 16 ≤ length s - at → (n m : ℕ) → n ≡ field_at highFirst 4 (at + 8) s → m ≡ field_at highFirst 4 (at + 12) s → n ≡ m → (b : Bool) → ltb (length s - at - 16) n ≡ b → Finds highFirst s at
    by_frame h k n m e f g true t = fault _ _ (cut highFirst s at h k n m e f g (ltb-true (length s - at - 16) n t))
    by_frame h k n m e f g false t = let l = ltb-false (length s - at - 16) n t in there n e (g ∙ f) (omega arith) (whole highFirst s at h k n m e f g l)

    by_lengths : at < length s → 16 ≤ length s - at → (n m : ℕ) → n ≡ field_at highFirst 4 (at + 8) s → m ≡ field_at highFirst 4 (at + 12) s → (b : Bool) → eqb n m ≡ b → Finds highFirst s at
    by_lengths h k n m e f true t = by_frame h k n m e f (eqb-true n m t) (ltb (length s - at - 16) n) refl
    by_lengths h k n m e f false t = fault _ _ (unlike highFirst s at h k n m e f (eqb-false n m t))

    by_head : at < length s → (b : Bool) → ltb (length s - at) 16 ≡ b → Finds highFirst s at
    by_head h true t = fault _ _ (headless highFirst s at h (ltb-true (length s - at) 16 t))
    by_head h false t = by_lengths h (ltb-false (length s - at) 16 t) (field_at highFirst 4 (at + 8) s) (field_at highFirst 4 (at + 12) s) refl refl (eqb (field_at highFirst 4 (at + 8) s) (field_at highFirst 4 (at + 12) s)) refl

    by_start : (b : Bool) → leb (length s) at ≡ b → Finds highFirst s at
    by_start true t = past (leb-true (length s) at t)
    by_start false t = by_head (leb-false (length s) at t) (ltb (length s - at) 16) refl

module _ (highFirst : Bool) (s : List ℕ) (at : ℕ) where
  -- the record at `at`, with a frame of `size` bytes, is c, and the next one stands at `next`
  pub record Passes (c : Captured) (next : ℕ) : Type 0 where
    pub size : ℕ
    pub stored : size ≡ field_at highFirst 4 (at + 8) s
    pub original : size ≡ field_at highFirst 4 (at + 12) s
    pub is : c ≡ captured_at at (stored_at highFirst s at size)
    pub behind : next ≡ at + 16 + size
    pub inside : next ≤ length s

  pub passes : (c : Captured) (next : ℕ) → gives (passed c next) ≡ record_at_lem highFirst s at → Passes c next
  passes c next e = by_case (finds highFirst s at)
    where
      by_case : Finds highFirst s at → Passes c next
      by_case (past h) = let f = e ∙ sym (at_end_lem highFirst s at h) in let z : ◌≡◌ {A = ℕ} 0 1 = cc in absurd (omega arith)
      by_case (fault n vs f) = never _ _ _ (e ∙ sym f)
      by_case (there n p q l f) =
          let g = e ∙ sym f in
          let i : next ≡ at + 16 + n = cc in
          record { size = n; stored = p; original = q; is = cc; behind = i; inside = omega arith }

  -- where no byte is left, the file ends; and no record is said to be the last
  pub ends : gives ended ≡ record_at_lem highFirst s at → length s ≤ at
  ends e = by_case (finds highFirst s at)
    where
      by_case : Finds highFirst s at → length s ≤ at
      by_case (past h) = h
      by_case (fault n vs f) = never _ _ _ (e ∙ sym f)
      by_case (there n p q l f) = let g = e ∙ sym f in let z : ◌≡◌ {A = ℕ} 0 1 = cc in absurd (omega arith)

  pub never_last : {B : Type 0} (c : Captured) (to : ℕ) → gives (last c to) ≡ record_at_lem highFirst s at → B
  never_last c to e = by_case (finds highFirst s at)
    where
      by_case : {B : Type 0} → Finds highFirst s at → B
      by_case (past h) = let f = e ∙ sym (at_end_lem highFirst s at h) in let z : ◌≡◌ {A = ℕ} 0 1 = cc in absurd (omega arith)
      by_case (fault n vs f) = never _ _ _ (e ∙ sym f)
      by_case (there n p q l f) = let g = e ∙ sym f in let z : ◌≡◌ {A = ℕ} 0 1 = cc in absurd (omega arith)
