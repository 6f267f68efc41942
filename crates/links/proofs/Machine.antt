-- Signed numbers as the machine has them: it reads a number back from its bits, which leaves a number that fits as it is.
use mathlib.Core.Path.{◌≡◌, sym, subst, ◌∙◌}
use lib.IntN.{ℤ}
use mir.Syntax.{Width, w8, w32}
use mir.Val.{SFits, to_z, of_z}
use mir.Facts.{sfits_widen, to_z-of_z}

-- a signal as an i32
pub widens : (z : ℤ) → SFits w8 z → SFits w32 (to_z w8 (of_z w8 z))
widens z f = subst (SFits w32) (sym (to_z-of_z {w = w8} f)) (sfits_widen {w = w8} tt f)

pub widened : (z : ℤ) → SFits w8 z → to_z w32 (of_z w32 (to_z w8 (of_z w8 z))) ≡ z
widened z f = to_z-of_z {w = w32} (widens z f) ∙ to_z-of_z {w = w8} f

-- a number that is known and fits, as the machine reads it back
pub kept : (w : Width) {z x : ℤ} → z ≡ x → SFits w x → to_z w (of_z w z) ≡ x
kept w e f = to_z-of_z {w = w} (subst (SFits w) (sym e) f) ∙ e
