-- The test of a sum of signal strengths, as the machine makes it in 32 bits (rule Q6).
use mathlib.Core.Path.{◌≡◌, sym, ap, subst, ◌∙◌}
use mathlib.Core.Bool.{Bool, true, ◌&&◌}
use Prim.Native.Nat.{ℕ, zero, suc, ◌+◌, ◌*◌, ◌-◌, ◌≤◌, ◌<◌}
use native.Mathlib.Omega.{arith}
use native.Mathlib.Nat.{mul-le-mul_left}
use borrow.Author.Tests.{le-leb}
use lib.IntN.{ℤ, pos, negsuc, sub_ℕ, ◌+ℤ◌, ◌*ℤ◌, pos-*ℤ-pos}
use lib.Signed.{le_z}
use mir.Syntax.{w8, w32}
use mir.Val.{SFits, to_z, of_z}
use mir.ValLaws.{to_z_pos}
use mir.Facts.{to_z-of_z}
use Rattle.links.specs.declared.LinkKind.TheVariants.{Rx}
use Rattle.std.specs.Prelude.{Some}
use Rattle.links.specs.Reports.{a_signal, signals_fit_lem}
use Rattle.links.proofs.Signed.{pos_sub, sub_add, sub_times, sub_fits, above, under, up, up_is}
use Rattle.links.proofs.Machine.{kept, widened}

a_signal_lem : (l : ℤ) → SFits w8 l → a_signal l ≡ true
a_signal_lem (pos a) f = le-leb a 127 (omega (arith, f.sfits))
a_signal_lem (negsuc a) f = ap (λ c. c && true) (le-leb a 127 (omega (arith, f.sfits)))

low_bound : (l : ℤ) → SFits w8 l → under l ≤ above l + 128
low_bound (pos a) f = omega arith
low_bound (negsuc a) f = omega (arith, f.sfits)

high_bound : (l : ℤ) → SFits w8 l → above l ≤ 127
high_bound (pos a) f = omega (arith, f.sfits)
high_bound (negsuc a) f = omega arith

-- with pairs, the test is these two
two_bounds : (n : ℕ) (l s : ℤ) → 0 < n → SFits w8 l → signals_fit_lem Rx n (Some l) s ≡ (le_z (pos n *ℤ l) s && le_z s (l +ℤ pos ((n - 1) * 127)))
two_bounds zero l s some f = absurd (none some)
  where
    none : 0 < 0 → ⊥
    none h = omega (arith, h)
two_bounds (suc m) l s some f =
    let one : suc m - 1 ≡ m = omega arith in
    rw (a_signal_lem l f, one)

module _ (n : ℕ) (l : ℤ) (few : n ≤ 1024) (f : SFits w8 l) where
  l_is : l ≡ sub_ℕ (up 128 l) 128
  l_is = up_is 128 l (low_bound l f)

  l_byte : up 128 l ≤ 255
  l_byte = omega (arith, high_bound l f)

  abbrev as32 : ℤ
  as32 = to_z w32 (of_z w32 (to_z w8 (of_z w8 l)))

  -- n·l
  product : to_z w32 n *ℤ as32 ≡ pos n *ℤ l
  product = λ i. to_z_pos w32 n (omega (arith, few)) i *ℤ widened l f i

  product_fits : SFits w32 (pos n *ℤ l)
  product_fits =
      subst (SFits w32) (sym (ap (λ z. pos n *ℤ z) l_is ∙ sub_times n (up 128 l) 128))
      (sub_fits (n * up 128 l) (n * 128) (omega (arith, few, mul-le-mul_left n l_byte)) (omega (arith, few)))

  -- (n - 1)·127
  others : to_z w32 (n - 1) *ℤ pos 127 ≡ pos ((n - 1) * 127)
  others = ap (λ z. z *ℤ pos 127) (to_z_pos w32 (n - 1) (omega (arith, few))) ∙ pos-*ℤ-pos (n - 1) 127

  others_fit : SFits w32 (pos ((n - 1) * 127))
  others_fit = record { sfits = omega (arith, few) }

  -- l + (n - 1)·127
  top : as32 +ℤ to_z w32 (of_z w32 (to_z w32 (n - 1) *ℤ pos 127)) ≡ l +ℤ pos ((n - 1) * 127)
  top = λ i. widened l f i +ℤ kept w32 others others_fit i

  top_fits : SFits w32 (l +ℤ pos ((n - 1) * 127))
  top_fits =
      subst (SFits w32) (sym ((λ i. l_is i +ℤ pos_sub ((n - 1) * 127) i) ∙ sub_add (up 128 l) 128 ((n - 1) * 127) 0))
      (sub_fits (up 128 l + (n - 1) * 127) (128 + 0) (omega (arith, few, l_byte)) (omega arith))

  -- what fits, as the machine has it
  pub product_in : SFits w32 (to_z w32 n *ℤ as32)
  product_in = subst (SFits w32) (sym product) product_fits

  pub others_in : SFits w32 (to_z w32 (n - 1) *ℤ pos 127)
  others_in = subst (SFits w32) (sym others) others_fit

  pub top_in : SFits w32 (as32 +ℤ to_z w32 (of_z w32 (to_z w32 (n - 1) *ℤ pos 127)))
  top_in = subst (SFits w32) (sym top) top_fits

  -- the two tests
  module _ (s : ℤ) (g : SFits w32 s) where
    low_test : le_z (to_z w32 (of_z w32 (to_z w32 n *ℤ as32))) (to_z w32 (of_z w32 s)) ≡ le_z (pos n *ℤ l) s
    low_test = λ i. le_z (kept w32 product product_fits i) (to_z-of_z {w = w32} g i)

    pub high_test : le_z (to_z w32 (of_z w32 s)) (to_z w32 (of_z w32 (as32 +ℤ to_z w32 (of_z w32 (to_z w32 (n - 1) *ℤ pos 127))))) ≡ le_z s (l +ℤ pos ((n - 1) * 127))
    high_test = λ i. le_z (to_z-of_z {w = w32} g i) (kept w32 top top_fits i)

    -- what the test says, once the first of the two is known
    pub by_first : (t : Bool) → 0 < n → le_z (to_z w32 (of_z w32 (to_z w32 n *ℤ as32))) (to_z w32 (of_z w32 s)) ≡ t →
        (t && le_z s (l +ℤ pos ((n - 1) * 127))) ≡ signals_fit_lem Rx n (Some l) s
    by_first t some is = sym (two_bounds n l s some f ∙ ap (λ t. t && le_z s (l +ℤ pos ((n - 1) * 127))) (sym low_test ∙ is))
