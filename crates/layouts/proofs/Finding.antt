-- Laws of access by numbers: the entry of a list, one number taken, and none left.
use mathlib.Core.Path.{◌≡◌, refl}
use mathlib.Core.List.{List, [], ◌∷◌}
use Prim.Native.Nat.{ℕ, zero, suc, ◌+◌, ◌-◌, ◌<◌, ◌≤◌}
use native.Mathlib.Numerals.{add-one, sub-one}
use lib.ListN.{length, get_or, drop, drop_of_length-le}
use lib.Seq.{drop-cons}
use native.Mathlib.Omega.{arith}
use borrow.Author.Tests.{lt-ltb, le-ltb}
use Rattle.numbers.specs.Numbers.{gives, refuses, and_then, mapped}
use Rattle.layouts.specs.declared.LayoutRow.{LayoutRow}
use Rattle.layouts.specs.Layouts.{Layout}
use Rattle.layouts.specs.declared.ListAt.{ListAt}
use Rattle.layouts.specs.Reading.{list_of, entries_end, end_of}
use Rattle.layouts.specs.Access.{numbers, child_at, below, find_entry_lem, span_of}
use Rattle.layouts.specs.Rows.{row_below_lem, row_layout}
use Rattle.layouts.proofs.Within.{among}
use Rattle.layouts.proofs.Laws.{layout_more, list_level}

-- no number is left
pub find_here : (l : Layout) (s : List ℕ) (p : ℕ) → find_entry_lem l [] s p ≡ gives (record { layout = l; start = p })
unfolding find_entry_lem
find_here l s p = refl

pub find_end : (l : Layout) (is s : List ℕ) (p level : ℕ) → length is ≤ level → find_entry_lem l (drop level is) s p ≡ gives (record { layout = l; start = p })
find_end l is s p level h = rw (drop_of_length-le is h) (find_here l s p)

-- the entry of a list
module _ (l : Layout) (i : ℕ) (s : List ℕ) (p : ℕ) where
  pub child_there : (m : ListAt) → list_of l s p ≡ gives m → i < m.many → child_at l i s p ≡ entries_end (end_of (below l) s) i m.first
  unfolding child_at
  child_there m x h = rw (x, lt-ltb i m.many h)

  pub child_past : (m : ListAt) → list_of l s p ≡ gives m → m.many ≤ i → child_at l i s p ≡ refuses 6 []
  unfolding child_at
  child_past m x h = rw (x, le-ltb i m.many h)

  pub child_none : (n : ℕ) (vs : List ℕ) → list_of l s p ≡ refuses n vs → child_at l i s p ≡ refuses n vs
  unfolding child_at
  child_none n vs x = rw x

  pub find_stop : (is : List ℕ) (n : ℕ) (vs : List ℕ) → child_at l i s p ≡ refuses n vs → find_entry_lem l (i ∷ is) s p ≡ refuses n vs
  unfolding find_entry_lem
  find_stop is n vs x = rw x

  pub find_on : (is : List ℕ) (q : ℕ) → child_at l i s p ≡ gives q → find_entry_lem l (i ∷ is) s p ≡ find_entry_lem (below l) is s q
  unfolding find_entry_lem
  find_on is q x = rw x

-- only an entry above the lowest level has entries, and they are of the row below
pub child_level : (row : LayoutRow) (i : ℕ) (s : List ℕ) (p q : ℕ) → child_at (row_layout row) i s p ≡ gives q → 0 < row.levels
child_level row i s p q x = let a = among (row_layout row) i s p q x in list_level row s p a.list a.has

below_row : (row : LayoutRow) → 0 < row.levels → below (row_layout row) ≡ row_layout (row_below_lem row)
below_row row h = rw (layout_more row (omega arith))

pub child_row : (row under : LayoutRow) (i : ℕ) (s : List ℕ) (p : ℕ) (m : ListAt) → under ≡ row_below_lem row → list_of (row_layout row) s p ≡ gives m → i < m.many →
    child_at (row_layout row) i s p ≡ entries_end (end_of (row_layout under) s) i m.first
child_row row under i s p m u x h =
    let down = below_row row (list_level row s p m x) in rw (u, ← down) (child_there (row_layout row) i s p m x h)

-- the numbers of a path, one at a time
pub numbers_more : (d i j k : ℕ) → 0 < d → numbers d i j k ≡ i ∷ numbers (d - 1) j k 0
numbers_more zero i j k h = absurd (omega arith)
numbers_more (suc d) i j k h = rw (sub-one (suc d))

-- `depth` of them, and those past the third are 0
pub how_many : (d i j k : ℕ) → length (numbers d i j k) ≡ d
how_many zero i j k = refl
how_many (suc d) i j k = let e = how_many d j k 0 in omega arith

pub first : (d i j k : ℕ) → 0 < d → get_or (numbers d i j k) 0 0 ≡ i
first zero i j k h = absurd (omega arith)
first (suc d) i j k h = refl

pub second : (d i j k : ℕ) → 1 < d → get_or (numbers d i j k) 1 0 ≡ j
second zero i j k h = absurd (omega arith)
second (suc zero) i j k h = absurd (omega arith)
second (suc (suc d)) i j k h = refl

pub third : (d i j k : ℕ) → 2 < d → get_or (numbers d i j k) 2 0 ≡ k
third zero i j k h = absurd (omega arith)
third (suc zero) i j k h = absurd (omega arith)
third (suc (suc zero)) i j k h = absurd (omega arith)
third (suc (suc (suc d))) i j k h = refl

zeros : (d n : ℕ) → get_or (numbers d 0 0 0) n 0 ≡ 0
zeros zero n = refl
zeros (suc d) zero = refl
zeros (suc d) (suc n) = zeros d n

pub further : (d i j k n : ℕ) → 2 < n → get_or (numbers d i j k) n 0 ≡ 0
further zero i j k n h = refl
further (suc d) i j k zero h = absurd (omega arith)
further (suc zero) i j k (suc n) h = refl
further (suc (suc d)) i j k (suc zero) h = absurd (omega arith)
further (suc (suc zero)) i j k (suc (suc n)) h = refl
further (suc (suc (suc d))) i j k (suc (suc zero)) h = absurd (omega arith)
further (suc (suc (suc d))) i j k (suc (suc (suc n))) h = zeros d n

-- one of these numbers, from that of a level on: there is no such entry, or those after it lead on
module _ (row : LayoutRow) (is s : List ℕ) (p level : ℕ) (h : level < length is) where
  pub level_stop : (n : ℕ) (vs : List ℕ) → child_at (row_layout row) (get_or is level 0) s p ≡ refuses n vs → find_entry_lem (row_layout row) (drop level is) s p ≡ refuses n vs
  level_stop n vs x = rw (drop-cons is level 0 h) (find_stop (row_layout row) (get_or is level 0) s p (drop (suc level) is) n vs x)

  pub level_on : (under : LayoutRow) (q : ℕ) → under ≡ row_below_lem row → child_at (row_layout row) (get_or is level 0) s p ≡ gives q →
      find_entry_lem (row_layout row) (drop level is) s p ≡ find_entry_lem (row_layout under) (drop (level + 1) is) s q
  level_on under q u x =
      let down = below_row row (child_level row (get_or is level 0) s p q x) in
      rw (u, drop-cons is level 0 h, ← down, add-one level) (find_on (row_layout row) (get_or is level 0) s p (drop (suc level) is) q x)

-- a path with a number asks for an entry
pub span_none : (l : Layout) (d i j k : ℕ) (s : List ℕ) → d ≡ 0 → span_of l (numbers d i j k) s ≡ refuses 6 []
unfolding span_of
span_none l d i j k s e = rw e

pub span_some : (l : Layout) (d i j k : ℕ) (s : List ℕ) → (d ≡ 0 → ⊥) →
    span_of l (numbers d i j k) s ≡ and_then (find_entry_lem l (numbers d i j k) s 0) (λ f. mapped (λ q. record { start = f.start; end = q }) (end_of f.layout s f.start))
unfolding span_of
span_some l zero i j k s f = absurd (f refl)
span_some l (suc d) i j k s f = refl
