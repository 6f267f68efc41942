-- The parts of the entries of a value's own list, of any layout.
use mathlib.Core.Path.{◌≡◌, refl, sym, ap, ◌∙◌}
use mathlib.Core.Bool.{Bool, true, false}
use mathlib.Core.List.{List, [], ◌∷◌, ◌++◌, map}
use Prim.Native.Nat.{ℕ, ◌+◌, ◌-◌, ◌<◌, ◌≤◌}
use native.Mathlib.Nat.{zero-add}
use native.Mathlib.Omega.{arith}
use lib.ListN.{take, length-map}
use lib.Seq.{take-add}
use lib.Dec.{ltb}
use borrow.Author.Tests.{ltb-true, ltb-false}
use Rattle.numbers.specs.Numbers.{gives, refuses, mapped}
use Rattle.numbers.proofs.Answers.{given, follows, stops, mapped_given}
use Rattle.layouts.specs.Layouts.{to_end, Layout, bytes, entry}
use Rattle.layouts.specs.declared.ListAt.{ListAt}
use Rattle.layouts.specs.Reading.{count_at_lem, list_of, end_of}
use Rattle.layouts.specs.Access.{below, part_of, span_of, nth_of, spans_in, parts_in}
use Rattle.layouts.specs.Claims.{Parts, PartsOfEntries, Plain}
use Rattle.layouts.proofs.Within.{reached, behind_head, list_within, end_within}
use Rattle.layouts.proofs.Spans.{span, Placed, listed, spans_many, nth_past, nth_map, spans_within, spans_all, Nth, nth, plain_start}
use Rattle.layouts.proofs.Finding.{child_there, child_past, find_on, find_stop, find_here}

module _ (l : Layout) (s : List ℕ) (m : ListAt) (q : ℕ) (has : list_of l s 0 ≡ gives m) (ends : end_of l s 0 ≡ gives q) where
  own : Placed (end_of (below l) s) m.many m.first q
  own = listed l s 0 q m ends has

  there : (i : ℕ) → i < m.many → Nth (end_of (below l) s) m.first own.spans i
  there i h = nth (end_of (below l) s) s (end_within (below l) s) m.many m.first own.spans i h own.are

  span_there : (i : ℕ) (h : i < m.many) → span_of l (i ∷ []) s ≡ gives (span (there i h).start (there i h).lies.stop)
  unfolding span_of
  span_there i h =
      let n = there i h in
      let down = child_there l i s 0 m has h ∙ n.starts in
      follows _ _ _ (find_on l i s 0 [] n.start down ∙ find_here (below l) s n.start) ∙ mapped_given _ _ n.lies.stop n.lies.reads

  span_past : (i : ℕ) → m.many ≤ i → span_of l (i ∷ []) s ≡ refuses 6 []
  unfolding span_of
  span_past i h = stops _ 6 [] _ (find_stop l i s 0 [] 6 [] (child_past l i s 0 m has h))

  -- entry i of the list is the one that number i asks for
  numbered : (i : ℕ) → nth_of own.spans.each i ≡ span_of l (i ∷ []) s
  numbered i = go (ltb i m.many) refl where
    go : (t : Bool) → ltb i m.many ≡ t → nth_of own.spans.each i ≡ span_of l (i ∷ []) s
    go true t = let h = ltb-true i m.many t in (there i h).is ∙ sym (span_there i h)
    go false t =
        let h = ltb-false i m.many t in
        let n = spans_many _ _ _ own.spans own.are in
        nth_past own.spans.each i (omega arith) ∙ sym (span_past i h)

  parts : Parts l s m q
  unfolding parts_in spans_in
  parts =
      let f = end_of (below l) s in
      let r = own in
      let w = list_within l s 0 m has in
      let v = spans_within f s (end_within (below l) s) m.many m.first r.spans w.1 r.are in
      let sum : m.first + (r.spans.end - m.first) ≡ q = omega arith in
      record {
        parts = map (λ e. part_of (gives e) s) r.spans.each;
        are = mapped_given _ _ r.spans (follows _ m _ has ∙ r.are);
        many = length-map r.spans.each _ ∙ spans_many f m.many m.first r.spans r.are;
        by_number = λ i. nth_map _ r.spans.each i ∙ ap (mapped _) (numbered i);
        all =
            ap (λ t. take m.first s ++ t) (spans_all f s (end_within (below l) s) m.many m.first r.spans r.are) ∙
            sym (take-add m.first (r.spans.end - m.first) s) ∙ ap (λ n. take n s) sum;
      }

pub parts_of_entries : PartsOfEntries
parts_of_entries = parts

pub plain : Plain
unfolding count_at_lem end_of
plain = record {
  runs = λ n w h s m q i has ends less.
      let l = entry n w (bytes h) in
      let t = there l s m q has ends i less in
      let a = plain_start h s i m.first t.start t.starts in
      let b : t.start + h ≡ t.lies.stop = (reached (t.start + h) s (t.start + h) t.lies.stop t.lies.reads).1 in
      span_there l s m q has ends i less ∙ rw (← b, a);
  after_head = λ n e s m has. let b = behind_head n to_end e s 0 m has in sym (ap (λ m. m.first) (given _ m b.counts)) ∙ zero-add n;
}
