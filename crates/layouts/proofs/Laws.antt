-- How the definitions of reading go on by one level and by one entry, in the code's numbers.
use mathlib.Core.Path.{◌≡◌, refl, sym, ◌∙◌}
use mathlib.Core.List.{List, []}
use Prim.Native.Nat.{ℕ, zero, suc, ◌+◌, ◌-◌, ◌<◌, ◌≤◌}
use native.Mathlib.Numerals.{sub-one}
use native.Mathlib.Omega.{arith}
use lib.ListN.{length}
use Rattle.numbers.specs.Numbers.{Answer, gives, refuses, and_then}
use Rattle.numbers.proofs.Firm.{never}
use Rattle.numbers.proofs.Answers.{follows, stops}
use Rattle.layouts.specs.declared.LayoutRow.{LayoutRow}
use Rattle.layouts.specs.Layouts.{Layout, bytes, entry}
use Rattle.layouts.specs.declared.ListAt.{ListAt}
use Rattle.layouts.specs.Reading.{reaching, head_of, counting_of_lem, count_at_lem, list_of, entries_end, end_of, consumed_to_lem, read_as_lem}
use Rattle.layouts.specs.Rows.{counting, row_below_lem, layout_in, row_layout}
use Rattle.layouts.proofs.Within.{list_leaf, end_within}

-- a row's entry: its head, and its list where it has one
pub layout_zero : (row : LayoutRow) → row.levels ≡ 0 → row_layout row ≡ bytes row.h0
unfolding layout_in
layout_zero row e = rw e

pub layout_more : (row : LayoutRow) → (row.levels ≡ 0 → ⊥) → row_layout row ≡ entry row.h0 (counting row.has_count) (row_layout (row_below_lem row))
unfolding layout_in
layout_more row f = go row.levels refl where
  go : (k : ℕ) → row.levels ≡ k → layout_in k row ≡ entry row.h0 (counting row.has_count) (layout_in (k - 1) (row_below_lem row))
  go zero e = absurd (f e)
  go (suc k) e = rw (sub-one (suc k))

head_of_lem : (row : LayoutRow) → head_of (row_layout row) ≡ row.h0
unfolding layout_in
head_of_lem row = go row.levels where
  go : (k : ℕ) → head_of (layout_in k row) ≡ row.h0
  go zero = refl
  go (suc k) = refl

-- one entry is a list of one
pub one_entry : (f : ℕ → Answer ℕ) (p : ℕ) → entries_end f 1 p ≡ f p
unfolding entries_end
one_entry f p = go (f p) where
  go : (x : Answer ℕ) → and_then x (λ q. gives q) ≡ x
  go (gives q) = refl
  go (refuses n vs) = refl

module _ (row : LayoutRow) (s : List ℕ) (p : ℕ) where
  -- the list of an entry stands after its head
  pub list_none : row.levels ≡ 0 → list_of (row_layout row) s p ≡ refuses 6 []
  list_none e = rw (layout_zero row e) (list_leaf row.h0 s p)

  -- only an entry above the lowest level has one
  pub list_level : (m : ListAt) → list_of (row_layout row) s p ≡ gives m → 0 < row.levels
  list_level m x = go row.levels refl where
    go : (k : ℕ) → row.levels ≡ k → 0 < k
    go zero e = never m 6 [] (sym x ∙ list_none e)
    go (suc k) e = omega arith

  -- and it is counted as the row says
  pub counting_of : (m : ListAt) → list_of (row_layout row) s p ≡ gives m → counting_of_lem (row_layout row) ≡ counting row.has_count
  counting_of m x = let l = list_level m x in rw (layout_more row (omega arith))

  pub list_steps : (row.levels ≡ 0 → ⊥) → list_of (row_layout row) s p ≡ and_then (reaching (p + row.h0) s (p + row.h0)) (λ q. count_at_lem (counting row.has_count) row.h1 s q)
  unfolding list_of
  list_steps f = rw (layout_more row f, head_of_lem (row_below_lem row))

  -- an entry ends in its list
  end_list : (row.levels ≡ 0 → ⊥) → end_of (row_layout row) s p ≡ and_then (list_of (row_layout row) s p) (λ m. entries_end (end_of (row_layout (row_below_lem row)) s) m.many m.first)
  unfolding end_of
  end_list f = rw (layout_more row f)

  pub end_there : (m : ListAt) → list_of (row_layout row) s p ≡ gives m → entries_end (end_of (row_layout (row_below_lem row)) s) m.many m.first ≡ end_of (row_layout row) s p
  end_there m e = let l = list_level m e in sym (end_list (omega arith) ∙ follows _ m _ e)

  -- and so within the bytes
  pub end_inside : (under : LayoutRow) (m : ListAt) (q : ℕ) → under ≡ row_below_lem row → list_of (row_layout row) s p ≡ gives m → entries_end (end_of (row_layout under) s) m.many m.first ≡ gives q → q ≤ length s
  end_inside under m q u e x = let y = rw u at x in (end_within (row_layout row) s p q (sym (end_there m e) ∙ y)).1

  pub end_cut : (n : ℕ) (vs : List ℕ) → (row.levels ≡ 0 → ⊥) → list_of (row_layout row) s p ≡ refuses n vs → refuses n vs ≡ end_of (row_layout row) s p
  end_cut n vs f e = sym (end_list f ∙ stops _ n vs _ e)

  pub end_bytes : row.levels ≡ 0 → end_of (row_layout row) s p ≡ reaching (p + row.h0) s (p + row.h0)
  unfolding end_of
  end_bytes e = rw (layout_zero row e)

-- of the entries i to n: none is left, or one and those after it
pub entries_none : (f : ℕ → Answer ℕ) (n i p : ℕ) → n ≤ i → entries_end f (n - i) p ≡ gives p
unfolding entries_end
entries_none f n i p h = let e : n - i ≡ 0 = omega arith in rw e

pub entries_more : (f : ℕ → Answer ℕ) (n i p : ℕ) → i < n → entries_end f (n - i) p ≡ and_then (f p) (λ q. entries_end f (n - (i + 1)) q)
unfolding entries_end
entries_more f n i p h = let e : n - i ≡ suc (n - (i + 1)) = omega arith in rw e

-- a value whose list is there and that ends
pub read_to : (l : Layout) (s : List ℕ) (m : ListAt) (e : ℕ) → list_of l s 0 ≡ gives m → end_of l s 0 ≡ gives e →
    read_as_lem l s ≡ consumed_to_lem (counting_of_lem l) e m.many s
unfolding read_as_lem
read_to l s m e x y = rw (x, y)
