-- How the definitions of reading go on by a byte and by an entry, and that what is read lies in the value.
use mathlib.Core.Path.{◌≡◌, refl, sym, ap, ◌∙◌}
use mathlib.Core.Bool.{Bool, true, false, cond}
use mathlib.Core.List.{List, [], ◌∷◌}
use Prim.Native.Nat.{ℕ, suc, ◌+◌, ◌-◌, ◌<◌, ◌≤◌}
use native.Mathlib.Nat.{sub-zero}
use native.Mathlib.Omega.{arith}
use Rattle.std.specs.Prelude.{Some, None, unwrap_or}
use Rattle.std.specs.List.{position, position_or_len}
use Rattle.std.proofs.lemmas.List.Recursion.{is_position_or_len}
use lib.ListN.{length, take, drop, length-drop}
use lib.Seq.{length-take-le}
use lib.Dec.{eqb, ltb}
use borrow.Author.Tests.{lt-ltb, le-ltb, ltb-true, ltb-false}
use Rattle.numbers.specs.Numbers.{Answer, gives, refuses, and_then, mapped}
use Rattle.numbers.proofs.Firm.{never}
use Rattle.numbers.proofs.Answers.{given, follows, stops, mapped_given}
use Rattle.layouts.specs.Layouts.{Counting, c1, to_end, Layout, bytes, entry}
use Rattle.layouts.specs.declared.ListAt.{ListAt}
use Rattle.layouts.specs.Reading.{count_at_lem, list_of, entries_end, end_of}
use Rattle.layouts.specs.declared.Span.{Span}
use Rattle.layouts.specs.Access.{nth_of, Spans, before, spans_from}
use Rattle.layouts.proofs.Laws.{one_entry}
use Rattle.layouts.proofs.Within.{reached, behind_head, list_within, entries_within, ends_in, end_within}
use Rattle.layouts.proofs.Spans.{span, spans_many, nth_past, nth}
use Rattle.utf8.specs.Utf8.{is_utf8_lem}
use Rattle.texts.specs.Reading.{until_zero_lem, count_size_lem, text_span_lem, text_in_lem}
use Rattle.texts.specs.PrivateSteps.{valid_in, nth_at}

pub until_within : (s : List ℕ) → until_zero_lem s ≤ length s
unfolding until_zero_lem
until_within [] = omega arith
until_within (b ∷ s) = go (eqb b 0) (until_within s) where
  go : (t : Bool) → until_zero_lem s ≤ length s → cond t 0 (suc (until_zero_lem s)) ≤ suc (length s)
  go true h = omega arith
  go false h = omega arith

-- it is where the first zero byte stands, or the length
until_position : (s : List ℕ) → until_zero_lem s ≡ position_or_len (λ b. eqb b 0) s
unfolding until_zero_lem
until_position s = is_position_or_len until_zero_lem (λ b. eqb b 0) refl (λ b s. ways (eqb b 0) (until_zero_lem s)) s where
  ways : (t : Bool) (n : ℕ) → cond t 0 (suc n) ≡ cond t 0 (1 + n)
  ways true n = refl
  ways false n = omega arith

pub until_zero_found : (s : List ℕ) → unwrap_or (position (λ b. eqb b 0) s) (length s) ≡ until_zero_lem s
until_zero_found s = rw (← (until_position s)) (go (ltb (until_zero_lem s) (length s)) refl) where
  go : (t : Bool) → ltb (until_zero_lem s) (length s) ≡ t → unwrap_or (cond t (Some (until_zero_lem s)) None) (length s) ≡ until_zero_lem s
  go true e = refl
  go false e = let l = ltb-false (until_zero_lem s) (length s) e in let w = until_within s in omega arith

-- a list starts after the head and the count
list_first : (n : ℕ) (w : Counting) (e : Layout) (s : List ℕ) (p : ℕ) (m : ListAt) → list_of (entry n w e) s p ≡ gives m → m.first ≡ p + n + count_size_lem w
unfolding count_at_lem
list_first n c1 e s p m x = let r = reached _ s _ m (behind_head n c1 e s p m x).counts in sym (ap (λ m. m.first) r.1)
list_first n to_end e s p m x = let y : p + n ≡ m.first = ap (λ m. m.first) (given _ m (behind_head n to_end e s p m x).counts) in omega arith

-- the text of an entry that reads lies in it
pub record TextLies (p q : ℕ) (t : Span) : Type 0 where
  pub low : p ≤ t.start
  pub ordered : t.start ≤ t.end
  pub high : t.end ≤ q

pub text_lies : (l : Layout) (s : List ℕ) (p q : ℕ) → end_of l s p ≡ gives q → TextLies p q (text_span_lem l s (span p q))
unfolding text_span_lem
text_lies (bytes n) s p q x =
    let w = end_within (bytes n) s p q x in
    let d = length-drop p s in
    let t = length-take-le (q - p) (drop p s) (omega arith) in
    let u = until_within (take (q - p) (drop p s)) in
    record { low = omega arith; ordered = omega arith; high = omega arith }
text_lies (entry n w e) s p q x =
    let g = ends_in n w e s p q x in
    let f = list_first n w e s p g.list g.has in
    let v = list_within (entry n w e) s p g.list g.has in
    let u = entries_within (end_of e s) s (end_within e s) g.list.many g.list.first q v.1 g.ends in
    record { low = omega arith; ordered = omega arith; high = omega arith }

-- of one that was read, the start and the end lie in the bytes, and so does its text
module _ (l : Layout) (s : List ℕ) (p q : ℕ) (e : entries_end (end_of l s) 1 p ≡ gives q) where
  has : end_of l s p ≡ gives q
  has = sym (one_entry (end_of l s) p) ∙ e

  pub entry_ordered : p ≤ q
  entry_ordered = (end_within l s p q has).0

  pub entry_inside : q ≤ length s
  entry_inside = (end_within l s p q has).1

  module _ (t : Span) (x : t ≡ text_span_lem l s (span p q)) where
    pub text_ordered : t.start ≤ t.end
    text_ordered = rw x (text_lies l s p q has).ordered

    pub text_inside : t.end ≤ length s
    text_inside = let h = (text_lies l s p q has).high in let w = entry_inside in rw x (omega arith)

-- A loop over n entries that start at `at`, which finds out whether their texts are valid: those from i on, the next of
-- which starts at p, say what all do.
module _ (l : Layout) (s : List ℕ) where
  abbrev pub Left : ℕ → ℕ → ℕ → ℕ → Type 0
  Left n at i p = (i ≤ n) × (valid_in l s (spans_from (end_of l s) n at) ≡ valid_in l s (spans_from (end_of l s) (n - i) p))

  pub left_all : (n at : ℕ) → Left n at 0 at
  left_all n at = (omega arith, rw sub-zero)

  module _ (n at i p : ℕ) (left : Left n at i p) where
    pub left_none : n ≤ i → true ≡ valid_in l s (spans_from (end_of l s) n at)
    unfolding spans_from
    left_none h = let e : n - i ≡ 0 = omega arith in sym (left.1 ∙ rw e)

    next : i < n → valid_in l s (spans_from (end_of l s) n at) ≡ valid_in l s (and_then (end_of l s p) (λ q. mapped (before (span p q)) (spans_from (end_of l s) (n - (i + 1)) q)))
    unfolding spans_from
    next h = let e : n - i ≡ suc (n - (i + 1)) = omega arith in left.1 ∙ rw e

    pub left_cut : (m : ℕ) (vs : List ℕ) → i < n → end_of l s p ≡ refuses m vs → false ≡ valid_in l s (spans_from (end_of l s) n at)
    left_cut m vs h e = sym (next h ∙ ap (valid_in l s) (stops _ m vs _ e))

    module _ (q : ℕ) (h : i < n) (e : end_of l s p ≡ gives q) where
      on : valid_in l s (spans_from (end_of l s) n at) ≡ valid_in l s (mapped (before (span p q)) (spans_from (end_of l s) (n - (i + 1)) q))
      on = next h ∙ ap (valid_in l s) (follows _ q _ e)

      pub left_bad : is_utf8_lem (text_in_lem l s (span p q)) ≡ false → false ≡ valid_in l s (spans_from (end_of l s) n at)
      left_bad bad = sym (on ∙ go (spans_from (end_of l s) (n - (i + 1)) q)) where
        go : (y : Answer Spans) → valid_in l s (mapped (before (span p q)) y) ≡ false
        go (gives r) = rw bad
        go (refuses m vs) = refl

      pub left_more : is_utf8_lem (text_in_lem l s (span p q)) ≡ true → Left n at (i + 1) q
      left_more good = (omega arith, on ∙ go (spans_from (end_of l s) (n - (i + 1)) q)) where
        go : (y : Answer Spans) → valid_in l s (mapped (before (span p q)) y) ≡ valid_in l s y
        go (gives r) = rw good
        go (refuses m vs) = refl

-- an entry that reads and lies between p and q
pub record Among (l : Layout) (s : List ℕ) (p q : ℕ) (a : Span) : Type 0 where
  pub low : p ≤ a.start
  pub reads : end_of l s a.start ≡ gives a.end
  pub high : a.end ≤ q

-- entry i of n: there is none, or those before it are passed
module _ (l : Layout) (n i : ℕ) (s : List ℕ) (p : ℕ) where
  pub nth_none : n ≤ i → nth_at l n i s p ≡ refuses 6 []
  unfolding nth_at
  nth_none h = rw (le-ltb i n h)

  pub nth_after : i < n → nth_at l n i s p ≡ and_then (entries_end (end_of l s) i p) (λ a. mapped (span a) (end_of l s a))
  unfolding nth_at
  nth_after h = rw (lt-ltb i n h)

  -- of entries that are there, it is the one with this number
  module _ (r : Spans) (e : spans_from (end_of l s) n p ≡ gives r) where
    pub nth_held : nth_at l n i s p ≡ nth_of r.each i
    nth_held = go (ltb i n) refl where
      go : (t : Bool) → ltb i n ≡ t → nth_at l n i s p ≡ nth_of r.each i
      go true t =
          let h = ltb-true i n t in
          let a = nth (end_of l s) s (end_within l s) n p r i h e in
          nth_after h ∙ follows _ a.start _ a.starts ∙ mapped_given _ _ a.lies.stop a.lies.reads ∙ sym a.is
      go false t = let h = ltb-false i n t in let m = spans_many (end_of l s) n p r e in nth_none h ∙ sym (nth_past r.each i (omega arith))

    -- and lies among them
    pub among : (a : Span) → nth_of r.each i ≡ gives a → Among l s p r.end a
    among a x = go (ltb i n) refl where
      go : (t : Bool) → ltb i n ≡ t → Among l s p r.end a
      go true t =
          let b = nth (end_of l s) s (end_within l s) n p r i (ltb-true i n t) e in
          let c = b.lies in
          rw (← (given _ a (sym b.is ∙ x))) (record { low = c.low; reads = c.reads; high = c.high })
      go false t =
          let h = ltb-false i n t in
          let m = spans_many (end_of l s) n p r e in
          never a 6 [] (sym x ∙ nth_past r.each i (omega arith))
