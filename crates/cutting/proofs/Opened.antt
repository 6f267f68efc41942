-- Laws of the open fragment: what one more TLV makes of it, and what is answered in the end.
use Rattle.std.specs.Prelude.{Option, Some, None, IfSome}
use mathlib.Core.Path.{◌≡◌, refl}
use mathlib.Core.Bool.{Bool, true, false, cond}
use mathlib.Core.List.{[]}
use Prim.Native.Nat.{ℕ, ◌+◌, ◌-◌, ◌≤◌, ◌<◌}
use native.Mathlib.Omega.{arith}
use lib.Dec.{eqb, ltb}
use borrow.Author.Tests.{ltb-false, eq-eqb, ne_eqb, le-leb, lt-leb, lt-ltb, le-ltb}
use Rattle.numbers.specs.Numbers.{gives, refuses}
use Rattle.numbers.proofs.Answers.{given}
use Rattle.numbers.proofs.Firm.{never}
use Rattle.cutting.specs.Cuts.{longest_payload}
use Rattle.cutting.specs.PrivateFilling.{with_tlv_lem, places_for, answer_for_lem}
use Rattle.cutting.specs.declared.filling.Open.{Open}

pub stays_none : (x : ℕ) → None ≡ with_tlv_lem None x
unfolding with_tlv_lem
stays_none x = refl

module _ (o : Open) (x : ℕ) where
  pub too_long : longest_payload < x → None ≡ with_tlv_lem (Some o) x
  unfolding with_tlv_lem
  too_long h = rw (lt-ltb longest_payload x h)

  pub goes_in : x ≤ longest_payload → o.used ≤ longest_payload - x → Some (record { used = o.used + x; before = o.before }) ≡ with_tlv_lem (Some o) x
  unfolding with_tlv_lem
  goes_in h l = rw (le-ltb longest_payload x h, le-leb o.used (longest_payload - x) l)

  pub begins_next : x ≤ longest_payload → longest_payload - x < o.used → o.before < 8 → Some (record { used = x; before = o.before + 1 }) ≡ with_tlv_lem (Some o) x
  unfolding with_tlv_lem
  begins_next h l b = rw (le-ltb longest_payload x h, lt-leb o.used (longest_payload - x) l, lt-ltb o.before 8 b)

  pub too_many : x ≤ longest_payload → longest_payload - x < o.used → 8 ≤ o.before → None ≡ with_tlv_lem (Some o) x
  unfolding with_tlv_lem
  too_many h l b = rw (le-ltb longest_payload x h, lt-leb o.used (longest_payload - x) l, le-ltb o.before 8 b)

module _ (o : Option Open) (padding room : ℕ) where
  pub padded : (padding ≡ 0 → ⊥) → refuses 4 [] ≡ answer_for_lem o padding room
  unfolding answer_for_lem
  padded h = rw (ne_eqb padding 0 h)

  pub unpadded : padding ≡ 0 → places_for o room ≡ answer_for_lem o padding room
  unfolding answer_for_lem
  unpadded h = rw (eq-eqb padding 0 h)

-- there are few fragments, and a place for each
pub few : (current : Option Open) (padding room n : ℕ) → IfSome current (λ o. o.before < 9) → gives n ≡ answer_for_lem current padding room → (n ≤ 9) × (n ≤ room)
unfolding answer_for_lem
few current padding room n = by_tests current (eqb padding 0)
  where
    by_room : (o : Open) (b : Bool) → ltb room (o.before + 1) ≡ b → o.before < 9 → gives n ≡ cond b (refuses 7 []) (gives (o.before + 1)) → (n ≤ 9) × (n ≤ room)
    by_room o true r l e = never _ _ _ e
    by_room o false r l e = let i = given _ _ e in (omega (arith, i, l), omega (arith, i, ltb-false room (o.before + 1) r))

    by_tests : (c : Option Open) (a : Bool) → IfSome c (λ o. o.before < 9) → gives n ≡ cond a (places_for c room) (refuses 4 []) → (n ≤ 9) × (n ≤ room)
    by_tests c false l e = never _ _ _ e
    by_tests None true l e = never _ _ _ e
    by_tests (Some o) true l e = by_room o (ltb room (o.before + 1)) refl l e
