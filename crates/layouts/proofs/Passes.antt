-- Laws of going over the entries in order: one level down, and each way to pass an entry.
use mathlib.Core.Path.{◌≡◌, sym, ap, ◌∙◌}
use mathlib.Core.Bool.{Bool, true, false}
use mathlib.Core.List.{List, []}
use Prim.Native.Nat.{ℕ, zero, suc, ◌+◌, ◌-◌, ◌<◌, ◌≤◌}
use native.Mathlib.Numerals.{sub-one}
use native.Mathlib.Omega.{arith}
use Rattle.numbers.specs.Numbers.{gives, refuses, mapped}
use Rattle.numbers.proofs.Answers.{follows, stops}
use Rattle.layouts.specs.declared.LayoutRow.{LayoutRow}
use Rattle.layouts.specs.Layouts.{Counting, Layout, bytes, entry}
use Rattle.layouts.specs.declared.ListAt.{ListAt}
use Rattle.layouts.specs.Reading.{reaching, list_of, entries_end, end_of}
use Rattle.layouts.specs.Access.{at_level, gone_over}
use Rattle.layouts.specs.Rows.{row_below_lem, row_layout}
use Rattle.layouts.proofs.Within.{leafless}
use Rattle.layouts.proofs.Laws.{layout_zero, layout_more, end_there}

-- the entry itself, a level that there isn't, and one level down
pub level_here : (k : ℕ) (l : Layout) → k ≤ 0 → at_level k l ≡ gives l
unfolding at_level
level_here k l h = let e : k ≡ 0 = omega arith in rw e

pub level_none : (k : ℕ) (row : LayoutRow) → 0 < k → row.levels ≡ 0 → at_level k (row_layout row) ≡ refuses 6 []
unfolding at_level
level_none zero row h e = absurd (omega arith)
level_none (suc k) row h e = rw (layout_zero row e)

pub level_down : (k : ℕ) (row : LayoutRow) → 0 < k → (row.levels ≡ 0 → ⊥) → at_level k (row_layout row) ≡ at_level (k - 1) (row_layout (row_below_lem row))
unfolding at_level
level_down zero row h f = absurd (omega arith)
level_down (suc k) row h f = rw (layout_more row f, sub-one (suc k))

-- an entry without a list, and one whose list was found, entered or passed
pub pass_leaf : (enter : Bool) (row : LayoutRow) (s : List ℕ) (p : ℕ) → row.levels ≡ 0 →
    gone_over enter (row_layout row) s p ≡ mapped (λ q. record { many = 0; first = q }) (reaching (p + row.h0) s (p + row.h0))
unfolding gone_over end_of
pass_leaf enter row s p e = rw (layout_zero row e)

module _ (l : Layout) (s : List ℕ) (p : ℕ) (m : ListAt) (has : list_of l s p ≡ gives m) where
  pub pass_enter : gone_over true l s p ≡ gives m
  unfolding gone_over
  pass_enter = go l has where
    go : (l : Layout) → list_of l s p ≡ gives m → gone_over true l s p ≡ gives m
    go (bytes n) x = leafless n s p m x
    go (entry n w e) x = x

  pub pass_over : gone_over false l s p ≡ mapped (λ q. record { many = m.many; first = q }) (end_of l s p)
  unfolding gone_over
  pass_over = go l has where
    go : (l : Layout) → list_of l s p ≡ gives m → gone_over false l s p ≡ mapped (λ q. record { many = m.many; first = q }) (end_of l s p)
    go (bytes n) x = leafless n s p m x
    go (entry n w e) x = follows (list_of (entry n w e) s p) m _ x

-- in a row's numbers: the entry ends where the entries of its list end, or one of these is cut
pub pass_to : (enter : Bool) (row below : LayoutRow) (s : List ℕ) (p q : ℕ) (m : ListAt) → enter ≡ false → below ≡ row_below_lem row → list_of (row_layout row) s p ≡ gives m →
    entries_end (end_of (row_layout below) s) m.many m.first ≡ gives q → gone_over enter (row_layout row) s p ≡ gives (record { many = m.many; first = q })
pass_to enter row below s p q m e b has x =
    let y = rw (b, end_there row s p m has) at x in rw (e, pass_over (row_layout row) s p m has, y)

pub pass_short : (enter : Bool) (row below : LayoutRow) (s : List ℕ) (p n : ℕ) (vs : List ℕ) (m : ListAt) → enter ≡ false → below ≡ row_below_lem row → list_of (row_layout row) s p ≡ gives m →
    entries_end (end_of (row_layout below) s) m.many m.first ≡ refuses n vs → gone_over enter (row_layout row) s p ≡ refuses n vs
pass_short enter row below s p n vs m e b has x =
    let y = rw (b, end_there row s p m has) at x in rw (e, pass_over (row_layout row) s p m has, y)

-- or its list is cut
pub pass_cut : (enter : Bool) (row : LayoutRow) (s : List ℕ) (p n : ℕ) (vs : List ℕ) → (row.levels ≡ 0 → ⊥) → list_of (row_layout row) s p ≡ refuses n vs →
    gone_over enter (row_layout row) s p ≡ refuses n vs
unfolding gone_over
pass_cut enter row s p n vs f x = ap (λ l. gone_over enter l s p) (layout_more row f) ∙ go enter _ _ _ (sym (ap (λ l. list_of l s p) (layout_more row f)) ∙ x) where
  go : (enter : Bool) (h : ℕ) (w : Counting) (e : Layout) → list_of (entry h w e) s p ≡ refuses n vs → gone_over enter (entry h w e) s p ≡ refuses n vs
  go true h w e x = x
  go false h w e x = stops (list_of (entry h w e) s p) n vs _ x
