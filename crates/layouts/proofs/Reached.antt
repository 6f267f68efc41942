-- Of a value that reads, every entry reads, can be asked for, and lies in the consumed bytes; and no other can be asked
-- for: the numbers that lead to an entry are those below the counts.
use mathlib.Core.Path.{◌≡◌, refl, sym, ap, ◌∙◌}
use mathlib.Core.List.{List, [], ◌∷◌, ◌++◌}
use Prim.Native.Nat.{ℕ, ◌<◌, ◌≤◌}
use native.Mathlib.Omega.{arith}
use Rattle.numbers.specs.Numbers.{Answer, gives, and_then, mapped}
use Rattle.numbers.proofs.Firm.{never}
use Rattle.numbers.proofs.Answers.{given, follows, gave, mapped_given, mapped_gave, alike, regrouped}
use Rattle.layouts.specs.Layouts.{Layout}
use Rattle.layouts.specs.declared.ListAt.{ListAt}
use Rattle.layouts.specs.Reading.{list_of, end_of}
use Rattle.layouts.specs.declared.Span.{Span}
use Rattle.layouts.specs.Access.{child_at, below, Spot, find_entry_lem, span_of, length_at}
use Rattle.layouts.specs.Claims.{Shown, Below}
use Rattle.layouts.proofs.Within.{list_within, end_within, among}
use Rattle.layouts.proofs.Spans.{Placed, listed, Lies, Nth, nth}
use Rattle.layouts.proofs.Finding.{child_there}

-- entry i of the list of an entry that reads
pub record Child (l : Layout) (s : List ℕ) (m : ListAt) (q i : ℕ) : Type 0 where
  pub list : Placed (end_of (below l) s) m.many m.first q
  pub nth : Nth (end_of (below l) s) m.first list.spans i

pub child_reads : (l : Layout) (s : List ℕ) (p q i : ℕ) (m : ListAt) → end_of l s p ≡ gives q → list_of l s p ≡ gives m → i < m.many → Child l s m q i
child_reads l s p q i m x y h =
    let r = listed l s p q m x y in
    record { list = r; nth = nth (end_of (below l) s) s (end_within (below l) s) m.many m.first r.spans i h r.are }

-- an entry that was found in the list of one that reads, reads and lies in it
pub child_lies : (l : Layout) (i : ℕ) (s : List ℕ) (p q a : ℕ) → end_of l s p ≡ gives q → child_at l i s p ≡ gives a → Lies (end_of (below l) s) p q a
child_lies l i s p q a x y =
    let m = among l i s p a y in
    let t = child_reads l s p q i m.list x m.has m.less in
    let n = t.nth in
    let b = n.lies in
    let same : n.start ≡ a = given n.start a (sym n.starts ∙ m.starts) in
    let w = list_within l s p m.list m.has in
    record { stop = b.stop; reads = ap (end_of (below l) s) (sym same) ∙ b.reads; low = omega arith; high = omega arith }

-- and so do those that numbers lead to
pub find_lies : (l : Layout) (is s : List ℕ) (p q : ℕ) (f : Spot) → end_of l s p ≡ gives q → find_entry_lem l is s p ≡ gives f → Lies (end_of f.layout s) p q f.start
unfolding find_entry_lem
find_lies l [] s p q f x y =
    let e = given _ f y in
    let a : p ≡ f.start = ap (λ f. f.start) e in
    record { stop = q; reads = rw (← e) x; low = omega arith; high = omega arith }
find_lies l (i ∷ is) s p q f x y =
    let g = gave (child_at l i s p) (λ a. find_entry_lem (below l) is s a) f y in
    let c = child_lies l i s p q g.first x g.is in
    let d = find_lies (below l) is s g.first c.stop f c.reads g.then in
    record { stop = d.stop; reads = d.reads; low = omega arith; high = omega arith }

-- one number more
abbrev pub under : ℕ → List ℕ → Spot → Answer Spot
under i s f = and_then (child_at f.layout i s f.start) (λ q. gives (record { layout = below f.layout; start = q }))

pub find_last : (l : Layout) (is s : List ℕ) (i p : ℕ) → find_entry_lem l (is ++ i ∷ []) s p ≡ and_then (find_entry_lem l is s p) (under i s)
unfolding find_entry_lem
find_last l [] s i p = refl
find_last l (j ∷ is) s i p =
    alike (child_at l j s p) _ _ (λ a. find_last (below l) is s i a) ∙ sym (regrouped (child_at l j s p) (λ a. find_entry_lem (below l) is s a) (under i s))

abbrev pub ending : List ℕ → Spot → Answer Span
ending s f = mapped (λ q. record { start = f.start; end = q }) (end_of f.layout s f.start)

pub span_last : (l : Layout) (is s : List ℕ) (i : ℕ) → span_of l (is ++ i ∷ []) s ≡ and_then (find_entry_lem l (is ++ i ∷ []) s 0) (ending s)
unfolding span_of
span_last l [] s i = refl
span_last l (j ∷ is) s i = refl

-- every number below the count asks for an entry
pub reached : (l : Layout) (is s : List ℕ) (q n i : ℕ) → end_of l s 0 ≡ gives q → length_at l is s ≡ gives n → i < n → Shown (span_of l (is ++ i ∷ []) s) q
unfolding length_at
reached l is s q n i x y h =
    let g = gave (find_entry_lem l is s 0) (λ f. mapped (λ m. m.many) (list_of f.layout s f.start)) n y in
    let f = g.first in
    let m = mapped_gave (λ m. m.many) (list_of f.layout s f.start) n g.then in
    let many : m.first.many ≡ n = given m.first.many n m.then in
    let b = find_lies l is s 0 q f x g.is in
    let t = child_reads f.layout s f.start b.stop i m.first b.reads m.is (omega arith) in
    let c = t.nth in
    let d = c.lies in
    let w = end_within (below f.layout) s c.start d.stop d.reads in
    let there = child_there f.layout i s f.start m.first m.is (omega arith) ∙ c.starts in
    let found = find_last l is s i 0 ∙ follows (find_entry_lem l is s 0) f (under i s) g.is ∙ follows _ c.start _ there in
    record {
      span = record { start = c.start; end = d.stop };
      is = span_last l is s i ∙ follows (find_entry_lem l (is ++ i ∷ []) s 0) _ (ending s) found ∙ mapped_given _ _ d.stop d.reads;
      ordered = w.0;
      inside = omega arith;
    }

-- and no other does
pub only : (l : Layout) (is s : List ℕ) (i : ℕ) (r : Span) → span_of l (is ++ i ∷ []) s ≡ gives r → Below (length_at l is s) i
unfolding length_at
only l is s i r x =
    let g = gave (find_entry_lem l (is ++ i ∷ []) s 0) (ending s) r (sym (span_last l is s i) ∙ x) in
    let f = gave (find_entry_lem l is s 0) (under i s) g.first (sym (find_last l is s i 0) ∙ g.is) in
    let c = gave (child_at f.first.layout i s f.first.start) (λ q. gives (record { layout = below f.first.layout; start = q })) g.first f.then in
    let a = among f.first.layout i s f.first.start c.first c.is in
    record { many = a.list.many; counts = follows (find_entry_lem l is s 0) f.first (λ f. mapped (λ m. m.many) (list_of f.layout s f.start)) f.is ∙ mapped_given (λ m. m.many) _ a.list a.has; less = a.less }

-- a part lies in the bytes that were read, and so in all bytes
pub span_inside : (l : Layout) (is s : List ℕ) (q : ℕ) (r : Span) → end_of l s 0 ≡ gives q → span_of l is s ≡ gives r → (r.start ≤ r.end) × (r.end ≤ q)
unfolding span_of
span_inside l [] s q r x y = never r 6 [] (sym y)
span_inside l (i ∷ is) s q r x y =
    let g = gave (find_entry_lem l (i ∷ is) s 0) (ending s) r y in
    let f = g.first in
    let e = mapped_gave (λ q. record { start = f.start; end = q }) (end_of f.layout s f.start) r g.then in
    let same = given _ r e.then in
    let start : f.start ≡ r.start = ap (λ r. r.start) same in
    let end : e.first ≡ r.end = ap (λ r. r.end) same in
    let b = find_lies l (i ∷ is) s 0 q f x g.is in
    let stop : b.stop ≡ e.first = given b.stop e.first (sym b.reads ∙ e.is) in
    let w = end_within f.layout s f.start e.first e.is in
    (omega arith, omega arith)
