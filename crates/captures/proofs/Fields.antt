-- Laws of `field_at`: a number of the file's own, as the code puts it together.
use mathlib.Core.Path.{◌≡◌, sym, ap, ◌∙◌}
use mathlib.Core.Bool.{Bool, true, false}
use mathlib.Core.List.{List, [], ◌∷◌, ◌++◌, reverse, reverse-append}
use Prim.Native.Nat.{ℕ, ◌+◌, ◌*◌, ◌≤◌}
use native.Mathlib.Omega.{arith}
use lib.ListN.{length, take, drop, length-drop, length-reverse}
use lib.Seq.{take-add, drop-drop, length-take-le}
use Rattle.numbers.specs.Bytes.{big_endian_after, big_endian}
use Rattle.numbers.proofs.Bytes.{after_append}
use Rattle.captures.specs.Form.{field_at}

-- two bytes after a number
after_two : (n : ℕ) (b : List ℕ) → length b ≡ 2 → big_endian_after n b ≡ n * 65536 + big_endian b
after_two n [] l = absurd (omega arith)
after_two n (x ∷ []) l = absurd (omega arith)
after_two n (x ∷ y ∷ []) l = omega arith
after_two n (x ∷ y ∷ z ∷ b) l = absurd (omega arith)

module _ (s : List ℕ) (at : ℕ) (inside : at + 4 ≤ length s) (highFirst : Bool) where
  halves : take 4 (drop at s) ≡ take 2 (drop at s) ++ take 2 (drop (at + 2) s)
  halves = take-add 2 2 (drop at s) ∙ ap (λ (l : List ℕ). take 2 (drop at s) ++ take 2 l) (drop-drop 2 at s)

  pub four_high : highFirst ≡ true → field_at highFirst 2 at s * 65536 + field_at highFirst 2 (at + 2) s ≡ field_at highFirst 4 at s
  four_high h =
      let l : length (take 2 (drop (at + 2) s)) ≡ 2 = length-take-le 2 (drop (at + 2) s) (simp length-drop (omega arith)) in
      rw h (sym (after_two _ (take 2 (drop (at + 2) s)) l) ∙ sym (after_append 0 (take 2 (drop at s)) (take 2 (drop (at + 2) s))) ∙ ap big_endian (sym halves))

  pub four_low : highFirst ≡ false → field_at highFirst 2 (at + 2) s * 65536 + field_at highFirst 2 at s ≡ field_at highFirst 4 at s
  four_low h =
      let l : length (reverse (take 2 (drop at s))) ≡ 2 = length-reverse (take 2 (drop at s)) ∙ length-take-le 2 (drop at s) (simp length-drop (omega arith)) in
      rw h (sym (after_two _ (reverse (take 2 (drop at s))) l)
      ∙ sym (after_append 0 (reverse (take 2 (drop (at + 2) s))) (reverse (take 2 (drop at s))))
      ∙ ap big_endian (sym (reverse-append (take 2 (drop at s)) (take 2 (drop (at + 2) s))))
      ∙ ap (λ (l : List ℕ). big_endian (reverse l)) (sym halves))
