-- One or more entries of h bytes each, without lists, end where as many bytes in one piece end.
use mathlib.Core.Path.{◌≡◌, refl, sym, ap, ◌∙◌}
use mathlib.Core.Bool.{Bool, true, false}
use mathlib.Core.List.{List, []}
use Prim.Native.Nat.{ℕ, zero, suc, ◌+◌, ◌*◌, ◌<◌}
use native.Mathlib.Omega.{arith}
use lib.Dec.{leb}
use lib.ListN.{length}
use borrow.Author.Tests.{leb-true, leb-false}
use Rattle.numbers.proofs.Answers.{follows, stops}
use Rattle.layouts.specs.Layouts.{bytes}
use Rattle.layouts.specs.Reading.{reaching, entries_end, end_of}
use Rattle.layouts.proofs.Within.{reaches, cut}
use Rattle.layouts.proofs.Laws.{one_entry}

pub run_bytes : (h : ℕ) (s : List ℕ) (n p : ℕ) → 0 < n → entries_end (end_of (bytes h) s) n p ≡ reaching (p + n * h) s (p + n * h)
unfolding entries_end end_of
run_bytes h s zero p l = absurd (omega arith)
run_bytes h s (suc zero) p l = let one : h ≡ 1 * h = omega arith in one_entry (end_of (bytes h) s) p ∙ ap (λ k. reaching (p + k) s (p + k)) one
run_bytes h s (suc (suc n)) p l = go (run_bytes h s (suc n) (p + h) (omega arith)) (leb (p + h) (length s)) refl where
  sum : p + h + suc n * h ≡ p + suc (suc n) * h
  sum = omega arith

  go : entries_end (end_of (bytes h) s) (suc n) (p + h) ≡ reaching (p + h + suc n * h) s (p + h + suc n * h) →
      (t : Bool) → leb (p + h) (length s) ≡ t → entries_end (end_of (bytes h) s) (suc (suc n)) p ≡ reaching (p + suc (suc n) * h) s (p + suc (suc n) * h)
  go on true e = follows _ (p + h) _ (reaches (p + h) s (p + h) (leb-true _ _ e)) ∙ on ∙ ap (λ q. reaching q s q) sum
  go on false e = let l = leb-false (p + h) (length s) e in stops _ 3 [] _ (cut (p + h) s (p + h) (omega arith)) ∙ sym (cut _ s _ (omega arith))
