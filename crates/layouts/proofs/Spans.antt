-- Entries as a list of their places: what a list of one more came of, which one has a number, and what all of them are
-- together.
use mathlib.Core.Path.{◌≡◌, refl, sym, ap, ◌∙◌}
use mathlib.Core.List.{List, [], ◌∷◌, ◌++◌, map, flatten}
use Prim.Native.Nat.{ℕ, zero, suc, ◌+◌, ◌-◌, ◌*◌, ◌<◌, ◌≤◌}
use native.Mathlib.Nat.{le_of_suc-le-suc}
use native.Mathlib.Omega.{arith}
use lib.ListN.{length, take, drop}
use lib.Seq.{take-add, drop-drop}
use Rattle.numbers.specs.Numbers.{Answer, gives, refuses, and_then, mapped}
use Rattle.numbers.proofs.Answers.{given, gave, mapped_gave, mapped_twice, follows}
use Rattle.layouts.specs.Layouts.{Layout, bytes, entry}
use Rattle.layouts.specs.declared.ListAt.{ListAt}
use Rattle.layouts.specs.Reading.{reaching, list_of, entries_end, end_of}
use Rattle.layouts.specs.declared.Span.{Span}
use Rattle.layouts.specs.Access.{below, part_of, nth_of, Spans, before, spans_from}
use Rattle.layouts.proofs.Within.{Within, reached, leafless, ends_in}

abbrev pub span : ℕ → ℕ → Span
span p q = record { start = p; end = q }

-- they end where all end
pub spans_end : (f : ℕ → Answer ℕ) (n p : ℕ) → mapped (λ r. r.end) (spans_from f n p) ≡ entries_end f n p
unfolding spans_from entries_end
spans_end f zero p = refl
spans_end f (suc n) p = go (λ q. spans_end f n q) (f p) where
  go : ((q : ℕ) → mapped (λ r. r.end) (spans_from f n q) ≡ entries_end f n q) →
      (x : Answer ℕ) → mapped (λ r. r.end) (and_then x (λ q. mapped (before (span p q)) (spans_from f n q))) ≡ and_then x (λ q. entries_end f n q)
  go on (gives q) = mapped_twice (before (span p q)) (λ r. r.end) (spans_from f n q) ∙ on q
  go on (refuses k vs) = refl

pub record Placed (f : ℕ → Answer ℕ) (n p q : ℕ) : Type 0 where
  pub spans : Spans
  pub are : spans_from f n p ≡ gives spans
  pub end : spans.end ≡ q

pub placed : (f : ℕ → Answer ℕ) (n p q : ℕ) → entries_end f n p ≡ gives q → Placed f n p q
placed f n p q x =
    let m = mapped_gave (λ r. r.end) (spans_from f n p) q (spans_end f n p ∙ x) in
    record { spans = m.first; are = m.is; end = given _ q m.then }

-- the entries of the list of an entry that reads
pub listed : (l : Layout) (s : List ℕ) (p q : ℕ) (m : ListAt) → end_of l s p ≡ gives q → list_of l s p ≡ gives m → Placed (end_of (below l) s) m.many m.first q
listed (bytes n) s p q m x y = leafless n s p m y
listed (entry n w e) s p q m x y =
    let g = ends_in n w e s p q x in
    let same : g.list ≡ m = given g.list m (sym g.has ∙ y) in
    placed (end_of e s) m.many m.first q (rw same at g.ends)

-- one more: the first, and the others after it
pub record Cons (f : ℕ → Answer ℕ) (n p : ℕ) (r : Spans) : Type 0 where
  pub stop : ℕ
  pub reads : f p ≡ gives stop
  pub others : Spans
  pub are : spans_from f n stop ≡ gives others
  pub all : before (span p stop) others ≡ r

pub cons : (f : ℕ → Answer ℕ) (n p : ℕ) (r : Spans) → spans_from f (suc n) p ≡ gives r → Cons f n p r
unfolding spans_from
cons f n p r x =
    let g = gave (f p) (λ q. mapped (before (span p q)) (spans_from f n q)) r x in
    let m = mapped_gave (before (span p g.first)) (spans_from f n g.first) r g.then in
    record { stop = g.first; reads = g.is; others = m.first; are = m.is; all = given _ r m.then }

pub none : (f : ℕ → Answer ℕ) (p : ℕ) (r : Spans) → spans_from f 0 p ≡ gives r → record { each = []; end = p } ≡ r
unfolding spans_from
none f p r x = given _ r x

pub spans_many : (f : ℕ → Answer ℕ) (n p : ℕ) (r : Spans) → spans_from f n p ≡ gives r → length r.each ≡ n
spans_many f zero p r x = rw (← (none f p r x))
spans_many f (suc n) p r x = let c = cons f n p r x in rw (← c.all) (ap suc (spans_many f n c.stop c.others c.are))

-- beyond the last there is none
pub nth_past : {A : Type 0} (xs : List A) (i : ℕ) → length xs ≤ i → nth_of xs i ≡ refuses 6 []
nth_past [] i l = refl
nth_past (x ∷ xs) zero l = absurd (omega arith)
nth_past (x ∷ xs) (suc i) l = nth_past xs i (le_of_suc-le-suc l)

pub nth_map : {A B : Type 0} (g : A → B) (xs : List A) (i : ℕ) → nth_of (map g xs) i ≡ mapped g (nth_of xs i)
nth_map g [] i = refl
nth_map g (x ∷ xs) zero = refl
nth_map g (x ∷ xs) (suc i) = nth_map g xs i

-- an entry at `start` that reads and lies between p and q
pub record Lies (f : ℕ → Answer ℕ) (p q start : ℕ) : Type 0 where
  pub stop : ℕ
  pub reads : f start ≡ gives stop
  pub low : p ≤ start
  pub high : stop ≤ q

pub record Nth (f : ℕ → Answer ℕ) (p : ℕ) (r : Spans) (i : ℕ) : Type 0 where
  pub start : ℕ
  pub starts : entries_end f i p ≡ gives start
  pub lies : Lies f p r.end start
  pub is : nth_of r.each i ≡ gives (span start lies.stop)

-- of a reader that stays in the bytes
module _ (f : ℕ → Answer ℕ) (s : List ℕ) (w : (p q : ℕ) → f p ≡ gives q → Within p q s) where
  pub spans_within : (n p : ℕ) (r : Spans) → p ≤ length s → spans_from f n p ≡ gives r → Within p r.end s
  spans_within zero p r l x = let y : p ≡ r.end = ap (λ r. r.end) (none f p r x) in omega arith
  spans_within (suc n) p r l x =
      let c = cons f n p r x in
      let a = w p c.stop c.reads in
      let b = spans_within n c.stop c.others a.1 c.are in
      let y : c.others.end ≡ r.end = ap (λ r. r.end) c.all in
      omega arith

  -- joined they are the bytes from the first to the last
  pub spans_all : (n p : ℕ) (r : Spans) → spans_from f n p ≡ gives r → flatten (map (λ e. part_of (gives e) s) r.each) ≡ take (r.end - p) (drop p s)
  unfolding flatten
  spans_all zero p r x = let y : p ≡ r.end = ap (λ r. r.end) (none f p r x) in let z : r.end - p ≡ 0 = omega arith in rw (z, ← (none f p r x))
  spans_all (suc n) p r x =
      let c = cons f n p r x in
      let a = w p c.stop c.reads in
      let b = spans_within n c.stop c.others a.1 c.are in
      let y : c.others.end ≡ r.end = ap (λ r. r.end) c.all in
      let step : p + (c.stop - p) ≡ c.stop = omega arith in
      let sum : r.end - p ≡ (c.stop - p) + (c.others.end - c.stop) = omega arith in
      ap (λ r. flatten (map (λ e. part_of (gives e) s) r.each)) (sym c.all) ∙ ap (λ t. take (c.stop - p) (drop p s) ++ t) (spans_all n c.stop c.others c.are) ∙
      rw (sum, take-add, drop-drop, step)

  -- entry i of those that read, from p on
  pub nth : (n p : ℕ) (r : Spans) (i : ℕ) → i < n → spans_from f n p ≡ gives r → Nth f p r i
  unfolding entries_end
  nth zero p r i h x = absurd (omega arith)
  nth (suc n) p r zero h x =
      let c = cons f n p r x in
      let a = w p c.stop c.reads in
      let b = spans_within n c.stop c.others a.1 c.are in
      let y : c.others.end ≡ r.end = ap (λ r. r.end) c.all in
      record { start = p; starts = refl; is = ap (λ r. nth_of r.each 0) (sym c.all); lies = record { stop = c.stop; reads = c.reads; low = omega arith; high = omega arith } }
  nth (suc n) p r (suc i) h x =
      let c = cons f n p r x in
      let a = w p c.stop c.reads in
      let t = nth n c.stop c.others i (le_of_suc-le-suc h) c.are in
      let b = t.lies in
      let y : c.others.end ≡ r.end = ap (λ r. r.end) c.all in
      record {
        start = t.start;
        starts = follows (f p) c.stop (λ r. entries_end f i r) c.reads ∙ t.starts;
        is = ap (λ r. nth_of r.each (suc i)) (sym c.all) ∙ t.is;
        lies = record { stop = b.stop; reads = b.reads; low = omega arith; high = omega arith };
      }

-- entries of h bytes each
pub plain_start : (h : ℕ) (s : List ℕ) (n p q : ℕ) → entries_end (end_of (bytes h) s) n p ≡ gives q → q ≡ p + n * h
unfolding entries_end end_of
plain_start h s zero p q x = let y : p ≡ q = given p q x in omega arith
plain_start h s (suc n) p q x =
    let g = gave (reaching (p + h) s (p + h)) (λ r. entries_end (end_of (bytes h) s) n r) q x in
    let y : p + h ≡ g.first = (reached (p + h) s (p + h) g.first g.is).1 in
    let z = plain_start h s n g.first q g.then in
    omega arith
