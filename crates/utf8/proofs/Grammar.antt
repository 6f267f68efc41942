-- Laws of the test for UTF-8: which form a first byte begins, and how the test goes on by a byte.
use mathlib.Core.Path.{◌≡◌, refl, sym, ap, ◌∙◌}
use mathlib.Core.Bool.{Bool, true, false, cond}
use mathlib.Core.List.{List, [], ◌∷◌}
use mathlib.Core.Logic.{◌⊎◌, inl, inr}
use Rattle.std.specs.Prelude.{None, Some}
use Prim.Native.Nat.{ℕ, zero, suc, ◌+◌, ◌-◌, ◌<◌, ◌≤◌}
use native.Mathlib.Numerals.{add-one, sub-one}
use native.Mathlib.Omega.{arith}
use lib.ListN.{length, get_or, drop, take, drop_of_length-le, length-drop, replicate}
use lib.Seq.{drop-cons, take_all}
use lib.Bits.{bit_or, and_le_l, and_le_r, or_add_and}
use lib.Dec.{leb, ltb, eqb, T, eqb-suc-zero}
use borrow.Author.Tests.{le-leb, lt-leb, ltb-true}
use Rattle.utf8.specs.Utf8.{Range, ◌to◌, tail, Form, forms, in_range, begun, onward, may_end, accepts, is_utf8_lem}
use Rattle.utf8.specs.PrivateUtf8.{ranges}

-- a byte is in a range, or below it, or above it
pub in_range_lem : (r : Range) (b : ℕ) → r.low ≤ b → b ≤ r.high → in_range r b ≡ true
in_range_lem r b l h = rw (le-leb r.low b l, le-leb b r.high h)

pub below_range : (r : Range) (b : ℕ) → b < r.low → in_range r b ≡ false
below_range r b h = rw (lt-leb r.low b h)

pub above_range : (r : Range) (b : ℕ) → r.high < b → in_range r b ≡ false
above_range r b h = rw (lt-leb b r.high h) (go (leb r.low b)) where
  go : (t : Bool) → cond t false false ≡ false
  go true = refl
  go false = refl

-- the forms begin with bytes that no other begins with: each above those before it
abbrev above : ℕ → List Form → Bool
above h [] = true
above h (f ∷ fs) = cond (ltb h f.first.low) (above h fs) false

abbrev pub increasing : List Form → Bool
increasing [] = true
increasing (f ∷ fs) = cond (above f.first.high fs) (increasing fs) false

-- b begins one of these forms, and the ranges rs stand after it
abbrev pub Begins : List Form → ℕ → List Range → Type 0
Begins [] b rs = ⊥
Begins (f ∷ fs) b rs = ((f.first.low ≤ b) × (b ≤ f.first.high) × (f.behind ≡ rs)) ⊎ Begins fs b rs

higher : (h : ℕ) (fs : List Form) (b : ℕ) (rs : List Range) → T (above h fs) → Begins fs b rs → h < b
higher h [] b rs t x = absurd x
higher h (f ∷ fs) b rs t x = go (ltb h f.first.low) refl t x (higher h fs b rs) where
  go : (d : Bool) → ltb h f.first.low ≡ d → T (cond d (above h fs) false) → Begins (f ∷ fs) b rs → (T (above h fs) → Begins fs b rs → h < b) → h < b
  go true e t (inl y) on = let l = ltb-true h f.first.low e in let m = y.0 in omega arith
  go true e t (inr y) on = on t y
  go false e t y on = absurd t

pub begun_is : (fs : List Form) (b : ℕ) (rs : List Range) → T (increasing fs) → Begins fs b rs → begun fs b ≡ Some rs
begun_is [] b rs t x = absurd x
begun_is (f ∷ fs) b rs t x = go (above f.first.high fs) refl t x (begun_is fs b rs) where
  go : (d : Bool) → above f.first.high fs ≡ d → T (cond d (increasing fs) false) → Begins (f ∷ fs) b rs → (T (increasing fs) → Begins fs b rs → begun fs b ≡ Some rs) →
      begun (f ∷ fs) b ≡ Some rs
  go true e t (inl y) on = rw (in_range_lem f.first b y.0 y.1) (ap Some y.2)
  go true e t (inr y) on =
      let u : T (above f.first.high fs) = rw e tt in
      rw (above_range f.first b (higher f.first.high fs b rs u y)) (on t y)
  go false e t y on = absurd t

-- what is awaited of a character that has begun, and the bytes that are not
pub some_left : (n low high b : ℕ) → 0 < n → low ≤ b → b ≤ high → onward (ranges n low high) b ≡ Some (ranges (n - 1) 0x80 0xBF)
some_left zero low high b z l h = absurd (omega arith)
some_left (suc n) low high b z l h = rw (in_range_lem (low to high) b l h, sub-one (suc n)) (ap Some (tails n))
  where
    tails : (n : ℕ) → replicate n tail ≡ ranges n 0x80 0xBF
    tails zero = refl
    tails (suc n) = refl

pub too_low : (n low high b : ℕ) → 0 < n → b < low → onward (ranges n low high) b ≡ None
too_low zero low high b z l = absurd (omega arith)
too_low (suc n) low high b z l = rw (below_range (low to high) b l)

pub too_high : (n low high b : ℕ) → 0 < n → high < b → onward (ranges n low high) b ≡ None
too_high zero low high b z l = absurd (omega arith)
too_high (suc n) low high b z l = rw (above_range (low to high) b l)

-- the test goes on by the byte at i
pub goes_on : (rs ts : List Range) (s : List ℕ) (i : ℕ) → i < length s → onward rs (get_or s i 0) ≡ Some ts → accepts rs (drop i s) ≡ accepts ts (drop (i + 1) s)
unfolding accepts
goes_on rs ts s i h e = rw (add-one i, drop-cons s i 0 h, e)

pub goes_off : (rs : List Range) (s : List ℕ) (i : ℕ) → i < length s → onward rs (get_or s i 0) ≡ None → accepts rs (drop i s) ≡ false
unfolding accepts
goes_off rs s i h e = rw (drop-cons s i 0 h, e)

-- and ends after the last one
pub comes_to_end : (n low high : ℕ) (s : List ℕ) (i : ℕ) → length s ≤ i → accepts (ranges n low high) (drop i s) ≡ eqb n 0
unfolding accepts
comes_to_end n low high s i h = rw (drop_of_length-le s h) (go n) where
  go : (n : ℕ) → may_end (ranges n low high) ≡ eqb n 0
  go zero = refl
  go (suc n) = sym (eqb-suc-zero n)

-- a byte below 0x80 is a character
pub ascii : (s : List ℕ) (i j : ℕ) → j ≡ i + 1 → i < length s → get_or s i 0 < 0x80 → is_utf8_lem (drop i s) ≡ is_utf8_lem (drop j s)
ascii s i j e h b = rw e (goes_on [] [] s i h (begun_is forms (get_or s i 0) [] tt (inl (omega arith, omega arith, refl))))

both_low : (a b : ℕ) → bit_or a b < 0x80 → (a < 0x80) × (b < 0x80)
both_low a b h = let x = or_add_and a b in let y = and_le_l a b in let z = and_le_r a b in (omega arith, omega arith)

-- eight of them at the start, which have no highest bit together
pub ascii_eight : (s : List ℕ) → 8 ≤ length s →
    bit_or (bit_or (bit_or (bit_or (bit_or (bit_or (bit_or (get_or s 0 0) (get_or s 1 0)) (get_or s 2 0)) (get_or s 3 0)) (get_or s 4 0)) (get_or s 5 0)) (get_or s 6 0)) (get_or s 7 0) < 0x80 →
    is_utf8_lem s ≡ is_utf8_lem (take (length s - 8) (drop 8 s))
ascii_eight s l low =
    let h = both_low _ (get_or s 7 0) low in
    let g = both_low _ (get_or s 6 0) h.0 in
    let f = both_low _ (get_or s 5 0) g.0 in
    let e = both_low _ (get_or s 4 0) f.0 in
    let d = both_low _ (get_or s 3 0) e.0 in
    let c = both_low _ (get_or s 2 0) d.0 in
    let b = both_low (get_or s 0 0) (get_or s 1 0) c.0 in
    let all : take (length s - 8) (drop 8 s) ≡ drop 8 s = take_all _ _ (simp length-drop (omega arith)) in
    ascii s 0 1 refl (omega arith) b.0 ∙ ascii s 1 2 refl (omega arith) b.1 ∙ ascii s 2 3 refl (omega arith) c.1 ∙ ascii s 3 4 refl (omega arith) d.1 ∙
    ascii s 4 5 refl (omega arith) e.1 ∙ ascii s 5 6 refl (omega arith) f.1 ∙ ascii s 6 7 refl (omega arith) g.1 ∙ ascii s 7 8 refl (omega arith) h.1 ∙ ap is_utf8_lem (sym all)
