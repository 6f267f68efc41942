-- The claims of specs/Claims.antt, proved.
use mathlib.Core.Path.{◌≡◌, refl, sym, ap, ◌∙◌}
use mathlib.Core.List.{List, [], ◌∷◌, ◌++◌}
use Prim.Native.Nat.{ℕ, ◌+◌, ◌-◌, ◌<◌, ◌≤◌}
use native.Mathlib.Omega.{arith}
use lib.ListN.{length, take, drop, length-drop, take-append-drop}
use lib.Seq.{take_all, length-take-le, take-append-le, drop-append-le}
use lib.Dec.{leb, T, leb→le}
use Rattle.numbers.specs.Numbers.{Answer, gives, refuses}
use Rattle.numbers.proofs.Firm.{by_equation, by_answer, both, never}
use Rattle.numbers.proofs.Answers.{given, gave, follows, mapped_given}
use Rattle.layouts.specs.Layouts.{Counting, c1, to_end, Layout, layout_of}
use Rattle.layouts.specs.declared.Consumed.{Consumed}
use Rattle.layouts.specs.Reading.{counting_of_lem, consumed_to_lem, read_as_lem, read_value_lem}
use Rattle.layouts.specs.declared.Span.{Span}
use Rattle.layouts.specs.Access.{span_of, length_at, locate_entry, part_of, count_entries}
use Rattle.layouts.specs.Claims.{Firmness, levels_of, Shown, Below, ListValues, ListAlone, ListsAlone, Claims}
use Rattle.layouts.proofs.Within.{end_within}
use Rattle.layouts.proofs.Laws.{read_to}
use Rattle.layouts.proofs.Finding.{find_here}
use Rattle.layouts.proofs.Table.{all_counted, each, inner_counted}
use Rattle.layouts.proofs.Reached.{reached, only, span_inside}
use Rattle.layouts.proofs.Local.{Agree, taken, end_local, list_alike, span_alike, length_alike}
use Rattle.layouts.proofs.Parts.{parts_of_entries, plain}
use Rattle.layouts.proofs.Values.{Ended, ended, asked, answers}

firmness : Firmness
firmness = record {
  list_at = λ row s at. by_answer _;
  read_list = λ row n s at. by_answer _;
  is_list = λ code. by_equation _;
  read_value = λ code s. by_answer _;
  locate = λ code path s. by_answer _;
  entry = λ code path s. both _ _ (by_equation _) (by_equation _);
  count = λ code path s. by_answer _;
  pass = λ code level enter s at. by_answer _;
}

-- the layout of a code whose value reads
record Read (code : ℕ) (s : List ℕ) (r : Consumed) : Type 0 where
  layout : Layout
  is : layout_of code ≡ gives layout
  reads : read_as_lem layout s ≡ gives r
  done : Ended layout s r

read : (code : ℕ) (s : List ℕ) (r : Consumed) → read_value_lem code s ≡ gives r → Read code s r
unfolding read_value_lem
read code s r x =
    let a = gave (layout_of code) (λ l. read_as_lem l s) r x in
    record { layout = a.first; is = a.is; reads = a.then; done = ended a.first s r a.then }

levels_3 : (code : ℕ) (l : Layout) → layout_of code ≡ gives l → levels_of l ≤ 3
levels_3 code l x = leb→le (levels_of l) 3 (each (λ l. leb (levels_of l) 3) tt code l x)

consumed_within : (code : ℕ) (s : List ℕ) (r : Consumed) → read_value_lem code s ≡ gives r → (r.consumed ≤ length s) × (r.consumed + r.rest ≡ length s)
consumed_within code s r x =
    let a = read code s r x in
    let w = end_within a.layout s 0 r.consumed a.done.ends in
    let l = a.done.left in
    (w.1, omega arith)

own_count : (code : ℕ) (s : List ℕ) (r : Consumed) → read_value_lem code s ≡ gives r → count_entries code [] s ≡ gives r.entries
unfolding count_entries length_at
own_count code s r x =
    let a = read code s r x in
    answers (λ l t. length_at l [] t) code s a.layout r a.is a.reads ∙
    follows _ _ _ (find_here a.layout s 0) ∙ mapped_given _ _ a.done.list a.done.has ∙ ap gives a.done.many

every_entry : (code : ℕ) (is s : List ℕ) (r : Consumed) (n i : ℕ) → read_value_lem code s ≡ gives r → count_entries code is s ≡ gives n → i < n →
    Shown (locate_entry code (is ++ i ∷ []) s) r.consumed
unfolding count_entries locate_entry read_value_lem
every_entry code is s r n i x y h =
    let a = asked (λ l t. length_at l is t) code s n y in
    let same : a.value ≡ r = given a.value r (sym (follows (layout_of code) a.layout (λ l. read_as_lem l s) a.is ∙ a.reads) ∙ x) in
    let e = ended a.layout s r (a.reads ∙ ap gives same) in
    let b = reached a.layout is s r.consumed n i e.ends a.says h in
    record {
      span = b.span;
      is = answers (λ l t. span_of l (is ++ i ∷ []) t) code s a.layout a.value a.is a.reads ∙ b.is;
      ordered = b.ordered;
      inside = b.inside;
    }

no_other : (code : ℕ) (is s : List ℕ) (i : ℕ) (r : Span) → locate_entry code (is ++ i ∷ []) s ≡ gives r → Below (count_entries code is s) i
unfolding count_entries locate_entry
no_other code is s i r x =
    let a = asked (λ l t. span_of l (is ++ i ∷ []) t) code s r x in
    let b = only a.layout is s i r a.says in
    record { many = b.many; counts = answers (λ l t. length_at l is t) code s a.layout a.value a.is a.reads ∙ b.counts; less = b.less }

no_numbers : (code : ℕ) (s : List ℕ) (r : Span) → locate_entry code [] s ≡ gives r → ⊥
unfolding locate_entry span_of
no_numbers code s r x = let a = asked (λ l t. span_of l [] t) code s r x in never r 6 [] (sym a.says)

pub values : ListValues
values = record { levels_3 = levels_3; consumed_within = consumed_within; own_count = own_count; every_entry = every_entry; no_other = no_other; no_numbers = no_numbers }

-- a part of the first q bytes is the same part of all
pub part_alone : (s : List ℕ) (p q e : ℕ) → p ≤ e → e ≤ q → q ≤ length s → take (e - p) (drop p (take q s)) ≡ take (e - p) (drop p s)
part_alone s p q e a b c =
    let n = length-take-le q s c in
    let m = length-drop p (take q s) in
    sym (ap (λ t. take (e - p) (drop p t)) (sym (take-append-drop q s)) ∙ ap (take (e - p)) (drop-append-le p (take q s) (drop q s) (omega arith)) ∙
    take-append-le (e - p) (drop p (take q s)) (drop q s) (omega arith))

module _ (code : ℕ) (s : List ℕ) (r : Consumed) (x : read_value_lem code s ≡ gives r) where
  abbrev t : List ℕ
  t = take r.consumed s

  a : Read code s r
  a = read code s r x

  short : r.consumed ≤ length s
  short = (consumed_within code s r x).0

  -- a list to the end leaves no byte
  whole : counting_of_lem a.layout ≡ to_end → ListAlone code s r
  whole e =
      let all : t ≡ s = take_all r.consumed s (a.done.all e) in
      let l = a.done.all e in
      let n = a.done.left in
      let none : r.rest ≡ 0 = omega arith in
      record {
        reads = ap (read_value_lem code) all ∙ x ∙ ap (λ z. gives (record { consumed = r.consumed; rest = z; entries = r.entries })) none;
        counts = λ is. ap (count_entries code is) all;
        located = λ is. ap (locate_entry code is) all;
        parts = λ is. ap (λ t. part_of (locate_entry code is t) t) all;
      }

  -- in another value every list is counted
  module _ (e : counting_of_lem a.layout ≡ c1) where
    abbrev l : Layout
    l = a.layout

    c : T (all_counted l)
    c = inner_counted code a.layout a.is e

    agree : Agree r.consumed s t
    agree = taken r.consumed s short

    same : r.consumed ≤ r.consumed
    same = omega arith

    reads_as : read_as_lem a.layout t ≡ gives (record { consumed = r.consumed; rest = 0; entries = r.entries })
    unfolding consumed_to_lem
    reads_as =
        let list = list_alike s t r.consumed agree l 0 r.consumed c same a.done.ends ∙ a.done.has in
        let stop = end_local s t r.consumed agree l 0 r.consumed c same a.done.ends in
        let n = length-take-le r.consumed s short in
        let none : length t - r.consumed ≡ 0 = omega arith in
        read_to a.layout t a.done.list r.consumed list stop ∙ rw (e, none, a.done.many)

    counts : (is : List ℕ) → count_entries code is t ≡ count_entries code is s
    unfolding count_entries
    counts is =
        answers (λ l t. length_at l is t) code t a.layout _ a.is reads_as ∙ length_alike s t r.consumed agree l r.consumed c same a.done.ends is ∙
        sym (answers (λ l t. length_at l is t) code s a.layout r a.is a.reads)

    spans : (is : List ℕ) → locate_entry code is s ≡ span_of l is s
    unfolding locate_entry
    spans is = answers (λ l t. span_of l is t) code s a.layout r a.is a.reads

    located : (is : List ℕ) → locate_entry code is t ≡ locate_entry code is s
    unfolding locate_entry
    located is =
        answers (λ l t. span_of l is t) code t a.layout _ a.is reads_as ∙ span_alike s t r.consumed agree l r.consumed c same a.done.ends is ∙ sym (spans is)

    parts : (is : List ℕ) → part_of (locate_entry code is t) t ≡ part_of (locate_entry code is s) s
    parts is = ap (λ y. part_of y t) (located is) ∙ go (locate_entry code is s) refl where
      go : (y : Answer Span) → locate_entry code is s ≡ y → part_of y t ≡ part_of y s
      go (gives v) y =
          let b = span_inside l is s r.consumed v a.done.ends (sym (spans is) ∙ y) in
          part_alone s v.start r.consumed v.end b.0 b.1 short
      go (refuses n vs) y = refl

    counted : ListAlone code s r
    unfolding read_value_lem
    counted = record { reads = follows (layout_of code) a.layout (λ l. read_as_lem l t) a.is ∙ reads_as; counts = counts; located = located; parts = parts }

  alone : ListAlone code s r
  alone = go (counting_of_lem a.layout) refl where
    go : (w : Counting) → counting_of_lem a.layout ≡ w → ListAlone code s r
    go c1 e = counted e
    go to_end e = whole e

pub consumed_alone : ListsAlone
consumed_alone = alone

pub claims : Claims
claims = record { firmness = firmness; values = values; consumed_alone = consumed_alone; parts_of_entries = parts_of_entries; plain = plain }
