-- Laws of `listed`, from what the counting walk answered.
use mathlib.Core.Path.{◌≡◌, refl, sym, ap, ◌∙◌}
use mathlib.Core.Bool.{Bool, true, false, cond}
use mathlib.Core.List.{List, [], ◌∷◌}
use Prim.Native.Nat.{ℕ, ◌≤◌}
use lib.Dec.{ltb}
use lib.ListN.{length}
use borrow.Author.Tests.{ltb-false}
use Rattle.numbers.specs.Numbers.{Answer, gives, refuses, mapped}
use Rattle.numbers.proofs.Firm.{never}
use Rattle.numbers.proofs.Answers.{given, gave, mapped_gave}
use Rattle.walking.specs.declared.Tlv.{Tlv}
use Rattle.walking.specs.Steps.{Walk}
use Rattle.walking.specs.declared.WalkCount.{WalkCount}
use Rattle.walking.specs.Walk.{counted, listed, offset_at}

-- how a walk that was counted ended, and one that was not
module _ (w : Walk Tlv) where
  pub ended_with : (c : WalkCount) → gives c ≡ counted w → (w.end ≡ gives c.padding) × (c.count ≡ length w.items)
  ended_with c e =
      let g = mapped_gave _ w.end c (sym e) in
      let i = given _ _ g.then in
      (g.is ∙ ap (λ (d : WalkCount). gives d.padding) i, sym (ap (λ (d : WalkCount). d.count) i))

  pub ended_by : (n : ℕ) (vs : List ℕ) → refuses n vs ≡ counted w → w.end ≡ refuses n vs
  ended_by n vs e = by_end w.end e
    where
      by_end : (end : Answer ℕ) → ◌≡◌ {A = Answer WalkCount} (refuses n vs) (mapped (λ (k : ℕ). record { count = length w.items; padding = k }) end) → end ≡ refuses n vs
      by_end (gives k) e = never _ _ _ (sym e)
      by_end (refuses m us) e = let i : n ≡ m = cc in let j : vs ≡ us = cc in rw (i, j)

  abbrev room_for : ℕ → WalkCount → Answer WalkCount
  room_for room c = cond (ltb room c.count) (refuses 14 (offset_at w.items room ∷ [])) (gives c)

-- what is counted with a list has room there
module _ (w : Walk Tlv) (room : ℕ) (c : WalkCount) (e : gives c ≡ listed room w) where
  by_test : (d : WalkCount) (vs : List ℕ) (b : Bool) → b ≡ ltb room d.count → gives d ≡ counted w → cond b (refuses 14 vs) (gives d) ≡ gives c → (c.count ≡ length w.items) × (c.count ≤ room)
  by_test d vs true t is g = never _ _ _ (sym g)
  by_test d vs false t is g = let i = given _ _ g in rw (← i) ((ended_with w d is).1, ltb-false room d.count (sym t))

  pub fits : (c.count ≡ length w.items) × (c.count ≤ room)
  fits = let g = gave (counted w) (room_for w room) c (sym e) in by_test g.first _ _ refl (sym g.is) g.then
