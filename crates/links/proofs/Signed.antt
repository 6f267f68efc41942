-- A signed number said by unsigned ones: as a difference `sub_ℕ a b`, which is a - b. Sums, orders and multiples of
-- differences are those of numbers that `omega` reads.
use mathlib.Core.Path.{◌≡◌, refl, sym, ap, ◌∙◌}
use mathlib.Core.Bool.{Bool, true, false, not, cond, false≢true}
use borrow.Author.Tests.{leb-true, le-leb}
use Prim.Native.Nat.{ℕ, zero, suc, ◌+◌, ◌*◌, ◌-◌, ◌%◌, ◌≤◌, ◌<◌}
use native.Mathlib.Omega.{arith}
use lib.Dec.{T, ltb, ltb→lt, nltb→le}
use lib.IntN.{ℤ, pos, negsuc, sub_ℕ, ◌+ℤ◌, ◌*ℤ◌, neg_ℤ}
use lib.Signed.{le_z}
use mir.Syntax.{w32}
use mir.Val.{SFits}
use Rattle.links.specs.Pairs.{signed}

-- by whether it is below zero
pub by_order : (P : ℤ → Type 0) (a b : ℕ) → (a < b → P (negsuc (b - suc a))) → (b ≤ a → P (pos (a - b))) → P (sub_ℕ a b)
by_order P a b f g = by_test (ltb a b) (λ t. f (ltb→lt a b t)) (λ t. g (nltb→le a b t))
  where
    by_test : (c : Bool) → (T c → P (negsuc (b - suc a))) → (T (not c) → P (pos (a - b))) → P (cond c (negsuc (b - suc a)) (pos (a - b)))
    by_test true f g = f tt
    by_test false f g = g tt

-- two differences that are the same
pub sub_same : (a b c d : ℕ) → a + d ≡ c + b → sub_ℕ a b ≡ sub_ℕ c d
sub_same a b c d e =
    by_order (λ z. z ≡ sub_ℕ c d) a b
    (λ h. by_order (λ z. negsuc (b - suc a) ≡ z) c d (λ k. ap negsuc (omega (arith, e, h, k))) (λ k. absurd (clash e h k)))
    (λ h. by_order (λ z. pos (a - b) ≡ z) c d (λ k. absurd (clash (sym e) k h)) (λ k. ap pos (omega (arith, e, h, k))))
  where
    clash : {a b c d : ℕ} → a + d ≡ c + b → a < b → d ≤ c → ⊥
    clash e h k = omega (arith, e, h, k)

pub pos_sub : (n : ℕ) → pos n ≡ sub_ℕ n 0
pos_sub n = by_order (λ z. pos n ≡ z) n 0 (λ h. absurd (no_less h)) (λ h. ap pos (omega arith))
  where
    no_less : n < 0 → ⊥
    no_less h = omega (arith, h)

pub neg_sub : (n : ℕ) → negsuc n ≡ sub_ℕ 0 (suc n)
neg_sub n = by_order (λ z. negsuc n ≡ z) 0 (suc n) (λ h. ap negsuc (omega arith)) (λ h. absurd (no_less h))
  where
    no_less : suc n ≤ 0 → ⊥
    no_less h = omega (arith, h)

-- a sum of differences
pub sub_add : (a b c d : ℕ) → sub_ℕ a b +ℤ sub_ℕ c d ≡ sub_ℕ (a + c) (b + d)
sub_add a b c d =
    by_order (λ z. z +ℤ sub_ℕ c d ≡ sub_ℕ (a + c) (b + d)) a b
    (λ h. by_order (λ z. negsuc (b - suc a) +ℤ z ≡ sub_ℕ (a + c) (b + d)) c d
    (λ k. neg_sub (suc ((b - suc a) + (d - suc c))) ∙ sub_same 0 (suc (suc ((b - suc a) + (d - suc c)))) (a + c) (b + d) (omega (arith, h, k)))
    (λ k. sub_same (c - d) (suc (b - suc a)) (a + c) (b + d) (omega (arith, h, k))))
    (λ h. by_order (λ z. pos (a - b) +ℤ z ≡ sub_ℕ (a + c) (b + d)) c d
    (λ k. sub_same (a - b) (suc (d - suc c)) (a + c) (b + d) (omega (arith, h, k)))
    (λ k. pos_sub ((a - b) + (c - d)) ∙ sub_same ((a - b) + (c - d)) 0 (a + c) (b + d) (omega (arith, h, k))))

-- the order of differences
pub sub_le : (a b c d : ℕ) → a + d ≤ c + b → le_z (sub_ℕ a b) (sub_ℕ c d) ≡ true
sub_le a b c d e =
    by_order (λ z. le_z z (sub_ℕ c d) ≡ true) a b
    (λ h. by_order (λ z. le_z (negsuc (b - suc a)) z ≡ true) c d
    (λ k. le-leb (d - suc c) (b - suc a) (omega (arith, e, h, k)))
    (λ k. refl))
    (λ h. by_order (λ z. le_z (pos (a - b)) z ≡ true) c d
    (λ k. absurd (clash e h k))
    (λ k. le-leb (a - b) (c - d) (omega (arith, e, h, k))))
  where
    clash : a + d ≤ c + b → b ≤ a → c < d → ⊥
    clash e h k = omega (arith, e, h, k)

-- a multiple of a difference
pub sub_times : (n a b : ℕ) → pos n *ℤ sub_ℕ a b ≡ sub_ℕ (n * a) (n * b)
sub_times n a b =
    by_order (λ z. pos n *ℤ z ≡ sub_ℕ (n * a) (n * b)) a b
    (λ h. minus (n * suc (b - suc a)) ∙ sub_same 0 (n * suc (b - suc a)) (n * a) (n * b) (over (suc (b - suc a)) b a (omega (arith, h))))
    (λ h. pos_sub (n * (a - b)) ∙ sub_same (n * (a - b)) 0 (n * a) (n * b) (omega (arith, over (a - b) a b (omega (arith, h)))))
  where
    minus : (m : ℕ) → neg_ℤ (pos m) ≡ sub_ℕ 0 m
    minus zero = refl
    minus (suc m) = neg_sub m

    over : (d x y : ℕ) → x ≡ y + d → 0 + n * x ≡ n * y + n * d
    over d x y e = rw e (omega arith)

-- a byte, raised by 128
abbrev pub raised : ℕ → ℕ
raised b = (b + 128) % 256

pub signed_raised : (b : ℕ) → b < 256 → signed b ≡ sub_ℕ (raised b) 128
signed_raised b h = by_test (ltb b 128) (λ t. low (ltb→lt b 128 t)) (λ t. high (nltb→le b 128 t))
  where
    low : b < 128 → pos b ≡ sub_ℕ (raised b) 128
    low k = pos_sub b ∙ sub_same b 0 (raised b) 128 (omega (arith, k))

    high : 128 ≤ b → negsuc (255 - b) ≡ sub_ℕ (raised b) 128
    high k = neg_sub (255 - b) ∙ sub_same 0 (suc (255 - b)) (raised b) 128 (omega (arith, h, k))

    by_test : (c : Bool) → (T c → pos b ≡ sub_ℕ (raised b) 128) → (T (not c) → negsuc (255 - b) ≡ sub_ℕ (raised b) 128) → cond c (pos b) (negsuc (255 - b)) ≡ sub_ℕ (raised b) 128
    by_test true f g = f tt
    by_test false f g = g tt

-- and back: what the order of differences says
pub le_back : (a b c d : ℕ) → le_z (sub_ℕ a b) (sub_ℕ c d) ≡ true → a + d ≤ c + b
le_back a b c d =
    by_order (λ z. le_z z (sub_ℕ c d) ≡ true → a + d ≤ c + b) a b
    (λ h. by_order (λ z. le_z (negsuc (b - suc a)) z ≡ true → a + d ≤ c + b) c d
    (λ k e. omega (arith, h, k, leb-true (d - suc c) (b - suc a) e))
    (λ k e. omega (arith, h, k)))
    (λ h. by_order (λ z. le_z (pos (a - b)) z ≡ true → a + d ≤ c + b) c d
    (λ k e. absurd (false≢true e))
    (λ k e. omega (arith, h, k, leb-true (a - b) (c - d) e)))

-- each number is such a difference
abbrev pub above : ℤ → ℕ
above (pos a) = a
above (negsuc a) = 0

abbrev pub under : ℤ → ℕ
under (pos a) = 0
under (negsuc a) = suc a

pub is_difference : (z : ℤ) → z ≡ sub_ℕ (above z) (under z)
is_difference (pos a) = pos_sub a
is_difference (negsuc a) = neg_sub a

-- a number that is not below -k, raised by k
abbrev pub up : ℕ → ℤ → ℕ
up k z = above z + k - under z

pub up_is : (k : ℕ) (z : ℤ) → under z ≤ above z + k → z ≡ sub_ℕ (up k z) k
up_is k z h = is_difference z ∙ sub_same (above z) (under z) (up k z) k (omega (arith, h))

-- a difference in 32 bits
pub sub_fits : (a b : ℕ) → a < 2147483648 → b < 2147483648 → SFits w32 (sub_ℕ a b)
sub_fits a b h g = by_order (SFits w32) a b (λ k. record { sfits = omega (arith, g, k) }) (λ k. record { sfits = omega (arith, h) })
