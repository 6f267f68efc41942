-- What a value that reads came of, and what was asked of one: the layout, its list and its end.
use mathlib.Core.Path.{◌≡◌, refl, sym, ap, ◌∙◌}
use mathlib.Core.Bool.{Bool, true, false, cond}
use mathlib.Core.List.{List, []}
use Prim.Native.Nat.{ℕ, ◌-◌, ◌≤◌}
use native.Mathlib.Omega.{arith}
use lib.ListN.{length}
use lib.Dec.{ltb}
use borrow.Author.Tests.{ltb-false}
use Rattle.numbers.specs.Numbers.{Answer, gives, refuses, and_then}
use Rattle.numbers.proofs.Firm.{never}
use Rattle.numbers.proofs.Answers.{given, gave, follows}
use Rattle.layouts.specs.Layouts.{Counting, c1, to_end, Layout, layout_of}
use Rattle.layouts.specs.declared.ListAt.{ListAt}
use Rattle.layouts.specs.declared.Consumed.{Consumed}
use Rattle.layouts.specs.Reading.{counting_of_lem, list_of, end_of, consumed_to_lem, read_as_lem}
use Rattle.layouts.specs.declared.Span.{Span}
use Rattle.layouts.specs.Access.{span_of, of_value_lem, locate_entry}
use Rattle.layouts.proofs.Within.{Within, end_within}
use Rattle.layouts.proofs.Reached.{span_inside}

record To (w : Counting) (e n : ℕ) (s : List ℕ) (r : Consumed) : Type 0 where
  end : e ≡ r.consumed
  many : n ≡ r.entries
  left : r.rest ≡ length s - e
  all : w ≡ to_end → length s ≤ e

to : (w : Counting) (e n : ℕ) (s : List ℕ) (r : Consumed) → consumed_to_lem w e n s ≡ gives r → To w e n s r
unfolding consumed_to_lem
to c1 e n s r x =
    let y = given _ r x in
    record { end = ap (λ r. r.consumed) y; many = ap (λ r. r.entries) y; left = sym (ap (λ r. r.rest) y); all = λ z. let w : ◌≡◌ {A = ℕ} 0 1 = cc in absurd (omega arith) }
to to_end e n s r x = go (ltb e (length s)) refl x where
  go : (t : Bool) → ltb e (length s) ≡ t → cond t (refuses 4 []) (gives (record { consumed = e; rest = 0; entries = n })) ≡ gives r → To to_end e n s r
  go true t x = never r 4 [] (sym x)
  go false t x =
      let y = given _ r x in
      let l = ltb-false e (length s) t in
      let none : 0 ≡ r.rest = ap (λ r. r.rest) y in
      record { end = ap (λ r. r.consumed) y; many = ap (λ r. r.entries) y; left = omega arith; all = λ z. l }

-- a value that reads: its list and its end, and what the answer says
pub record Ended (l : Layout) (s : List ℕ) (r : Consumed) : Type 0 where
  pub list : ListAt
  pub has : list_of l s 0 ≡ gives list
  pub ends : end_of l s 0 ≡ gives r.consumed
  pub many : list.many ≡ r.entries
  pub left : r.rest ≡ length s - r.consumed
  pub all : counting_of_lem l ≡ to_end → length s ≤ r.consumed

pub ended : (l : Layout) (s : List ℕ) (r : Consumed) → read_as_lem l s ≡ gives r → Ended l s r
unfolding read_as_lem
ended l s r x =
    let m = gave (list_of l s 0) (λ m. and_then (end_of l s 0) (λ e. consumed_to_lem (counting_of_lem l) e m.many s)) r x in
    let e = gave (end_of l s 0) (λ e. consumed_to_lem (counting_of_lem l) e m.first.many s) r m.then in
    let t = to (counting_of_lem l) e.first m.first.many s r e.then in
    record {
      list = m.first;
      has = m.is;
      ends = e.is ∙ ap gives t.end;
      many = t.many;
      left = t.left ∙ ap (λ e. length s - e) t.end;
      all = λ z. rw t.end at (t.all z);
    }

-- what was asked of a value
pub record Asked (A : Type 0) (f : Layout → List ℕ → Answer A) (code : ℕ) (s : List ℕ) (v : A) : Type 0 where
  pub layout : Layout
  pub is : layout_of code ≡ gives layout
  pub value : Consumed
  pub reads : read_as_lem layout s ≡ gives value
  pub says : f layout s ≡ gives v

pub asked : {A : Type 0} (f : Layout → List ℕ → Answer A) (code : ℕ) (s : List ℕ) (v : A) → and_then (layout_of code) (λ l. of_value_lem f l s) ≡ gives v → Asked A f code s v
unfolding of_value_lem
asked f code s v x =
    let a = gave (layout_of code) (λ l. of_value_lem f l s) v x in
    let b = gave (read_as_lem a.first s) (λ r. f a.first s) v a.then in
    record { layout = a.first; is = a.is; value = b.first; reads = b.is; says = b.then }

pub answers : {A : Type 0} (f : Layout → List ℕ → Answer A) (code : ℕ) (s : List ℕ) (l : Layout) (r : Consumed) → layout_of code ≡ gives l → read_as_lem l s ≡ gives r →
    and_then (layout_of code) (λ l. of_value_lem f l s) ≡ f l s
unfolding of_value_lem
answers f code s l r x y = follows (layout_of code) l (λ l. of_value_lem f l s) x ∙ follows (read_as_lem l s) r (λ r. f l s) y

-- a part lies in the value
pub located_within : (code : ℕ) (is s : List ℕ) (r : Span) → locate_entry code is s ≡ gives r → Within r.start r.end s
unfolding locate_entry
located_within code is s r x =
    let a = asked (λ l t. span_of l is t) code s r x in
    let e = ended a.layout s a.value a.reads in
    let w = end_within a.layout s 0 a.value.consumed e.ends in
    let b = span_inside a.layout is s a.value.consumed r e.ends a.says in
    (b.0, omega arith)

pub located_ordered : (code : ℕ) (is s : List ℕ) (r : Span) → locate_entry code is s ≡ gives r → r.start ≤ r.end
located_ordered code is s r x = (located_within code is s r x).0

pub located_inside : (code : ℕ) (is s : List ℕ) (r : Span) → locate_entry code is s ≡ gives r → r.end ≤ length s
located_inside code is s r x = (located_within code is s r x).1
