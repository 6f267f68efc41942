-- Laws of numbers in bytes: a number and its bytes say each other. Laws of bytes that are the same.
use mathlib.Core.Path.{◌≡◌, refl, sym, ap, ◌∙◌}
use mathlib.Core.Bool.{Bool, true, false, ◌&&◌}
use mathlib.Core.List.{List, [], ◌∷◌, ◌++◌, append-nil, append_assoc}
use Prim.Native.Nat.{ℕ, zero, suc, ◌+◌, ◌*◌, ◌/◌, ◌%◌, ◌^◌, ◌<◌, ◌≤◌}
use native.Mathlib.Omega.{arith}
use native.Mathlib.Nat.{pow-suc, zero-add, add-zero}
use native.Mathlib.Numerals.{add-one}
use lib.Dec.{eqb}
use lib.ListN.{length, take, drop, get_or, length-drop}
use lib.Seq.{drop-cons, get_or-drop, length-take-le, drop-append-le, take-append-le}
use borrow.Author.Tests.{eq-eqb, eqb-true}
use Rattle.numbers.specs.Bytes.{big_endian_after, big_endian, number_at, in_bytes, AllBytes, is_same_lem}

-- bytes after bytes
pub after_append : (n : ℕ) (a b : List ℕ) → big_endian_after n (a ++ b) ≡ big_endian_after (big_endian_after n a) b
after_append n [] b = refl
after_append n (x ∷ a) b = after_append (n * 256 + x) a b

pub said_back : (w n : ℕ) → n < 256 ^ w → big_endian (in_bytes w n) ≡ n
said_back zero n h = omega (arith, h)
said_back (suc w) n h =
    after_append 0 (in_bytes w (n / 256)) (n % 256 ∷ []) ∙ rw (said_back w (n / 256) (omega (arith, h, pow-suc 256 w))) (omega arith)

-- the bytes of a number after which some bytes stand
in_bytes_after : (w n : ℕ) (bs : List ℕ) → AllBytes bs → in_bytes (length bs + w) (big_endian_after n bs) ≡ in_bytes w n ++ bs
in_bytes_after w n [] h = rw (zero-add, append-nil)
in_bytes_after w n (b ∷ bs) h =
    let more : suc (length bs) + w ≡ length bs + suc w = omega arith in
    let high : (n * 256 + b) / 256 ≡ n = omega (arith, h 0) in
    let low : (n * 256 + b) % 256 ≡ b = omega (arith, h 0) in
    rw (more, in_bytes_after (suc w) (n * 256 + b) bs (λ i. h (suc i)), high, low, append_assoc)

pub bytes_back : (bs : List ℕ) → AllBytes bs → in_bytes (length bs) (big_endian bs) ≡ bs
bytes_back bs h = rw (← add-zero (length bs)) (in_bytes_after 0 0 bs h)

-- so many bytes say one number alone
pub one_number : (a b : List ℕ) → length a ≡ length b → AllBytes a → AllBytes b → big_endian a ≡ big_endian b → a ≡ b
one_number a b l h k e = sym (bytes_back a h) ∙ rw (l, e) (bytes_back b k)

-- a part of bytes is bytes
pub part_bytes : (w p : ℕ) (s : List ℕ) → AllBytes s → AllBytes (take w (drop p s))
part_bytes w p s h = start w (drop p s) (λ i. rw get_or-drop (h (p + i)))
  where
    start : (w : ℕ) (s : List ℕ) → AllBytes s → AllBytes (take w s)
    start zero s h i = omega arith
    start (suc w) [] h i = omega arith
    start (suc w) (b ∷ s) h zero = h 0
    start (suc w) (b ∷ s) h (suc i) = start w s (λ j. h (suc j)) i

-- the bytes from p on, one by one, as code reads them
abbrev pub digits_at_lem : ℕ → ℕ → List ℕ → List ℕ
digits_at_lem zero p s = []
digits_at_lem (suc w) p s = get_or s p 0 ∷ digits_at_lem w (p + 1) s

module _ (w p : ℕ) (s : List ℕ) (inside : p + w ≤ length s) where
  pub digits_at : digits_at_lem w p s ≡ take w (drop p s)
  digits_at = taken w p inside
    where
      taken : (w p : ℕ) → p + w ≤ length s → digits_at_lem w p s ≡ take w (drop p s)
      taken zero p h = refl
      taken (suc w) p h = rw (drop-cons s p 0 (omega arith), taken w (p + 1) (omega arith), add-one)

  pub number_at_lem : big_endian (digits_at_lem w p s) ≡ number_at w p s
  number_at_lem = ap big_endian digits_at

  -- it says the bytes where it stands
  pub bytes_at_back : AllBytes s → in_bytes w (number_at w p s) ≡ take w (drop p s)
  bytes_at_back h =
      let l : length (take w (drop p s)) ≡ w = length-take-le w (drop p s) (simp length-drop (omega arith)) in
      rw l at (bytes_back (take w (drop p s)) (part_bytes w p s h))

  -- it stays with more bytes after them
  pub number_longer : (more : List ℕ) → number_at w p s ≡ number_at w p (s ++ more)
  number_longer more = rw (drop-append-le p s more (omega arith), take-append-le w (drop p s) more (simp length-drop (omega arith)))

-- what no test gives, and both of two tests
pub cannot : {A : Type 0} → false ≡ true → A
cannot e = let z : ◌≡◌ {A = ℕ} 0 1 = cc in absurd (omega arith)

pub both_true : (a b : Bool) → (a && b) ≡ true → (a ≡ true) × (b ≡ true)
both_true true b e = (refl, e)
both_true false b e = cannot e

pub is_same : (s t : List ℕ) → s ≡ t → is_same_lem s t ≡ true
is_same s t e = rw e (itself t)
  where
    itself : (t : List ℕ) → is_same_lem t t ≡ true
    itself [] = refl
    itself (a ∷ t) = rw (eq-eqb a a refl) (itself t)

pub are_same : (s t : List ℕ) → is_same_lem s t ≡ true → s ≡ t
are_same [] [] e = refl
are_same [] (b ∷ t) e = cannot e
are_same (a ∷ s) [] e = cannot e
are_same (a ∷ s) (b ∷ t) e = let o = both_true (eqb a b) (is_same_lem s t) e in rw (eqb-true a b o.0, are_same s t o.1)
