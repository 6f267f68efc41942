-- Signed numbers: the nearest that a signed type holds, and what the machine makes of one that it reads back from its
-- bits.
use Rattle.std.proofs.Common.{◌≡◌, ℕ, zero, suc, ◌-◌, ◌<◌, ◌≤◌, min, Bool, true, false, cond, List, length, get_or, take, drop, ℤ, pos, negsuc, ◌-ℤ◌, neg_ℤ, sym, refl, ap, ◌∙◌, subst, arith, length-drop, take_all, to_z-of_z, w8, w32, w64, SFits, to_z, of_z, ltb, ltb-false, ltb-true, eq-eqb, ne_eqb}
use Rattle.std.specs.Int.{int_max, int_min}
use lib.IntN.{+ℤ_idl}
use lib.Signed.{mag}
use mir.Facts.{to_z_pos}
use Rattle.command_lines.specs.Decimal.{number_of, signed_of, nearest}

-- the nearest is one that the type holds
nearest_within : (most : ℕ) (z : ℤ) → mag (nearest most z) ≤ most
unfolding nearest
nearest_within most (pos n) = omega arith
nearest_within most (negsuc n) = omega arith

nearest_fits : (z : ℤ) → SFits w32 (nearest 2147483647 z)
nearest_fits z = record { sfits = omega (arith, nearest_within 2147483647 z) }

-- a number that is cut off at the end of the type and then negated
cut_off : (n r : ℕ) → r ≡ min n 2147483648 → neg_ℤ (pos r) ≡ nearest 2147483647 (neg_ℤ (pos n))
unfolding nearest
cut_off zero r e = let k : r ≡ 0 = omega (arith, e) in rw k
cut_off (suc n) r e = let k : r ≡ suc (min n 2147483647) = omega (arith, e) in rw k

module _ (n r : ℕ) (e : r ≡ min n 2147483648) where
  abbrev Negated : ℤ
  Negated = pos 0 -ℤ to_z w64 r

  negated_is : Negated ≡ nearest 2147483647 (neg_ℤ (pos n))
  negated_is =
      let small : r < 9223372036854775808 = omega (arith, e) in
      ap (λ z. pos 0 -ℤ z) (to_z_pos w64 small) ∙ +ℤ_idl (neg_ℤ (pos r)) ∙ cut_off n r e

  negated_fits : SFits w64 Negated
  negated_fits = subst (SFits w64) (sym negated_is) (record { sfits = omega (arith, nearest_within 2147483647 (neg_ℤ (pos n))) })

  pub negated : to_z w32 (of_z w32 (to_z w64 (of_z w64 Negated))) ≡ nearest 2147483647 (neg_ℤ (pos n))
  negated = ap (λ z. to_z w32 (of_z w32 z)) (to_z-of_z {w = w64} negated_fits ∙ negated_is) ∙ to_z-of_z {w = w32} (nearest_fits (neg_ℤ (pos n)))

-- what a call gives is read back from its bits
pub given_back : (y z : ℤ) → y ≡ nearest 2147483647 z → to_z w32 (of_z w32 y) ≡ nearest 2147483647 z
given_back y z e = ap (λ x. to_z w32 (of_z w32 x)) e ∙ to_z-of_z {w = w32} (nearest_fits z)

-- a number that is kept between the ends of the type
lesser : (sign : ℕ → ℤ) (greater : Bool) (n m : ℕ) → ltb m n ≡ greater → cond greater (sign m) (sign n) ≡ sign (min n m)
lesser sign true n m h = let e : min n m ≡ m = omega (arith, ltb-true m n h) in rw e
lesser sign false n m h = let e : min n m ≡ n = omega (arith, ltb-false m n h) in rw e

pub clamped : (z : ℤ) → int_max (negsuc 127) (int_min z (pos 127)) ≡ nearest 127 z
unfolding nearest
clamped (pos n) = ap (int_max (negsuc 127)) (lesser pos (ltb 127 n) n 127 refl)
clamped (negsuc n) = lesser negsuc (ltb 127 n) n 127 refl

pub byte_back : (r z : ℤ) → r ≡ nearest 127 z → to_z w8 (of_z w8 (to_z w32 (of_z w32 r))) ≡ nearest 127 z
byte_back r z e =
    let small = nearest_within 127 z in
    let wide : SFits w32 r = subst (SFits w32) (sym e) (record { sfits = omega (arith, small) }) in
    let narrow : SFits w8 (nearest 127 z) = record { sfits = omega (arith, small) } in
    ap (λ x. to_z w8 (of_z w8 x)) (to_z-of_z {w = w32} wide ∙ e) ∙ to_z-of_z {w = w8} narrow

-- a field with a `-` in front, and one without
pub with_minus : (s : List ℕ) → get_or s 0 0 ≡ 45 → neg_ℤ (pos (number_of (take (length s - 1) (drop 1 s)))) ≡ signed_of s
unfolding signed_of
with_minus s e = rw (take_all (length s - 1) (drop 1 s) (omega (arith, length-drop 1 s)), eq-eqb (get_or s 0 0) 45 e)

pub without_minus : (s : List ℕ) → ¬ (get_or s 0 0 ≡ 45) → pos (number_of s) ≡ signed_of s
unfolding signed_of
without_minus s e = rw (ne_eqb (get_or s 0 0) 45 e)
