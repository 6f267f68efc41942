-- A loop over n entries that start at `at`: those from i on, the next of which starts at p, end where all do.
use mathlib.Core.Path.{◌≡◌, sym, ◌∙◌}
use mathlib.Core.List.{List}
use Prim.Native.Nat.{ℕ, ◌+◌, ◌-◌, ◌<◌, ◌≤◌}
use native.Mathlib.Nat.{sub-zero}
use native.Mathlib.Omega.{arith}
use Rattle.numbers.specs.Numbers.{gives, refuses}
use Rattle.layouts.specs.Layouts.{Layout}
use Rattle.layouts.specs.Reading.{entries_end, end_of}
use Rattle.layouts.proofs.Laws.{entries_none, entries_more}

abbrev pub Left : Layout → List ℕ → ℕ → ℕ → ℕ → ℕ → Type 0
Left l s n at i p = (i ≤ n) × (entries_end (end_of l s) n at ≡ entries_end (end_of l s) (n - i) p)

pub left_all : (l : Layout) (s : List ℕ) (n at : ℕ) → Left l s n at 0 at
left_all l s n at = (omega arith, rw sub-zero)

module _ (l : Layout) (s : List ℕ) (n at i p : ℕ) (left : Left l s n at i p) where
  pub left_none : n ≤ i → gives p ≡ entries_end (end_of l s) n at
  left_none h = sym (left.1 ∙ entries_none (end_of l s) n i p h)

  pub left_cut : (m : ℕ) (vs : List ℕ) → i < n → end_of l s p ≡ refuses m vs → refuses m vs ≡ entries_end (end_of l s) n at
  left_cut m vs h e = sym (left.1 ∙ entries_more (end_of l s) n i p h ∙ rw e)

  pub left_more : (q : ℕ) → i < n → end_of l s p ≡ gives q → Left l s n at (i + 1) q
  left_more q h e = (omega arith, left.1 ∙ entries_more (end_of l s) n i p h ∙ rw e)
