-- What a counted layout reads depends on the consumed bytes alone: in other bytes that agree up to its end, it and
-- every entry in it read the same.
use mathlib.Core.Path.{◌≡◌, refl, sym, ap, ◌∙◌}
use mathlib.Core.Bool.{Bool, true, false, cond}
use mathlib.Core.List.{List, [], ◌∷◌}
use Prim.Native.Nat.{ℕ, zero, suc, ◌+◌, ◌<◌, ◌≤◌}
use native.Mathlib.Omega.{arith}
use lib.ListN.{length, get_or, take}
use lib.Seq.{get_or-take, length-take-le}
use lib.Dec.{ltb, T}
use borrow.Author.Tests.{ltb-true}
use Rattle.numbers.specs.Numbers.{Answer, gives, refuses, and_then}
use Rattle.numbers.proofs.Answers.{given, gave, follows, mapped_given}
use Rattle.layouts.specs.Layouts.{c1, to_end, Layout, bytes, entry}
use Rattle.layouts.specs.declared.ListAt.{ListAt}
use Rattle.layouts.specs.Reading.{head_of, count_at_lem, list_of, entries_end, end_of}
use Rattle.layouts.specs.Access.{child_at, below, Spot, find_entry_lem, span_of, length_at, Spans, spans_from}
use Rattle.layouts.proofs.Within.{Within, reaches, reached, count_within, behind_head, list_leaf, list_within, entries_within, ends_in, end_within}
use Rattle.layouts.proofs.Spans.{spans_end, placed, cons, spans_within}
use Rattle.layouts.proofs.Reached.{child_reads, child_lies, find_lies}
use Rattle.layouts.proofs.Table.{all_counted}

-- the first m bytes of t are those of s
pub record Agree (m : ℕ) (s t : List ℕ) : Type 0 where
  pub long : m ≤ length t
  pub same : (i : ℕ) → i < m → get_or t i 0 ≡ get_or s i 0

-- the consumed bytes agree with the value
pub taken : (q : ℕ) (s : List ℕ) → q ≤ length s → Agree q s (take q s)
taken q s h = record { long = omega (arith, length-take-le q s h); same = λ i l. get_or-take q s i 0 l }

counted_below : (l : Layout) → T (all_counted l) → T (all_counted (below l))
counted_below (bytes n) c = c
counted_below (entry k c1 e) c = c
counted_below (entry k to_end e) c = absurd c

module _ (s t : List ℕ) (m : ℕ) (g : Agree m s t) where
  count_local : (h p : ℕ) (x : ListAt) → x.first ≤ m → count_at_lem c1 h s p ≡ gives x → count_at_lem c1 h t p ≡ gives x
  unfolding count_at_lem
  count_local h p x l y =
      let a = reached (p + 1) s _ x y in
      let z : p + 1 ≡ x.first = ap (λ x. x.first) a.1 in
      let long = g.long in
      rw (g.same p (omega arith)) (reaches (p + 1) t _ (omega arith) ∙ ap gives a.1)

  pub list_local : (l : Layout) (p : ℕ) (x : ListAt) → T (all_counted l) → x.first ≤ m → list_of l s p ≡ gives x → list_of l t p ≡ gives x
  unfolding list_of
  list_local (bytes k) p x c b y = y
  list_local (entry k to_end e) p x c b y = absurd c
  list_local (entry k c1 e) p x c b y =
      let a = behind_head k c1 e s p x y in
      let z = count_within c1 (head_of e) s (p + k) x a.head a.counts in
      let long = g.long in
      rw (reaches (p + k) t (p + k) (omega arith)) (count_local (head_of e) (p + k) x b a.counts)

  pub spans_local : (f f' : ℕ → Answer ℕ) → ((p q : ℕ) → f p ≡ gives q → Within p q s) → ((p q : ℕ) → q ≤ m → f p ≡ gives q → f' p ≡ gives q) →
      (n p : ℕ) (r : Spans) → r.end ≤ m → spans_from f n p ≡ gives r → spans_from f' n p ≡ gives r
  unfolding spans_from
  spans_local f f' w same zero p r b x = x
  spans_local f f' w same (suc n) p r b x =
      let c = cons f n p r x in
      let v = spans_within f s w n c.stop c.others (w p c.stop c.reads).1 c.are in
      let y : c.others.end ≡ r.end = ap (λ r. r.end) c.all in
      follows (f' p) c.stop _ (same p c.stop (omega arith) c.reads) ∙
      mapped_given _ _ c.others (spans_local f f' w same n c.stop c.others (omega arith) c.are) ∙ ap gives c.all

  entries_local : (f f' : ℕ → Answer ℕ) → ((p q : ℕ) → f p ≡ gives q → Within p q s) → ((p q : ℕ) → q ≤ m → f p ≡ gives q → f' p ≡ gives q) →
      (n p q : ℕ) → q ≤ m → entries_end f n p ≡ gives q → entries_end f' n p ≡ gives q
  entries_local f f' w same n p q b x =
      let r = placed f n p q x in
      let e = r.end in
      sym (spans_end f' n p) ∙ mapped_given _ _ r.spans (spans_local f f' w same n p r.spans (omega arith) r.are) ∙ ap gives e

  pub end_local : (l : Layout) (p q : ℕ) → T (all_counted l) → q ≤ m → end_of l s p ≡ gives q → end_of l t p ≡ gives q
  unfolding end_of
  end_local (bytes n) p q c b x =
      let a = reached (p + n) s (p + n) q x in
      let y = a.1 in
      let long = g.long in
      reaches (p + n) t (p + n) (omega arith) ∙ ap gives y
  end_local (entry n w e) p q c b x =
      let a = ends_in n w e s p q x in
      let v = list_within (entry n w e) s p a.list a.has in
      let u = entries_within (end_of e s) s (end_within e s) a.list.many a.list.first q v.1 a.ends in
      rw (list_local (entry n w e) p a.list c (omega arith) a.has)
      (entries_local (end_of e s) (end_of e t) (end_within e s) (λ a b. end_local e a b (counted_below (entry n w e) c)) a.list.many a.list.first q b a.ends)

  -- of an entry that reads in s: its list, each of its entries, and each that numbers lead to
  module _ (l : Layout) (p q : ℕ) (c : T (all_counted l)) (b : q ≤ m) (x : end_of l s p ≡ gives q) where
    pub list_alike : list_of l t p ≡ list_of l s p
    list_alike = go l c x where
      go : (l : Layout) → T (all_counted l) → end_of l s p ≡ gives q → list_of l t p ≡ list_of l s p
      go (bytes n) c x = list_leaf n t p ∙ sym (list_leaf n s p)
      go (entry n w e) c x =
          let a = ends_in n w e s p q x in
          let v = list_within (entry n w e) s p a.list a.has in
          let u = entries_within (end_of e s) s (end_within e s) a.list.many a.list.first q v.1 a.ends in
          list_local (entry n w e) p a.list c (omega arith) a.has ∙ sym a.has

    child_alike : (i : ℕ) → child_at l i t p ≡ child_at l i s p
    unfolding child_at
    child_alike i = rw list_alike (go (list_of l s p) refl) where
      some : (y : ListAt) → list_of l s p ≡ gives y → (d : Bool) → ltb i y.many ≡ d →
          cond d (entries_end (end_of (below l) t) i y.first) (refuses 6 []) ≡ cond d (entries_end (end_of (below l) s) i y.first) (refuses 6 [])
      some y e true d =
          let r = child_reads l s p q i y x e (ltb-true i y.many d) in
          let n = r.nth in
          let z = n.lies in
          let w = end_within (below l) s n.start z.stop z.reads in
          entries_local (end_of (below l) s) (end_of (below l) t) (end_within (below l) s) (λ a b. end_local (below l) a b (counted_below l c)) i y.first n.start (omega arith) n.starts ∙ sym n.starts
      some y e false d = refl

      go : (y : Answer ListAt) → list_of l s p ≡ y →
          and_then y (λ m. cond (ltb i m.many) (entries_end (end_of (below l) t) i m.first) (refuses 6 [])) ≡
          and_then y (λ m. cond (ltb i m.many) (entries_end (end_of (below l) s) i m.first) (refuses 6 []))
      go (gives y) e = some y e (ltb i y.many) refl
      go (refuses n vs) e = refl

  find_alike : (l : Layout) (is : List ℕ) (p q : ℕ) → T (all_counted l) → q ≤ m → end_of l s p ≡ gives q → find_entry_lem l is t p ≡ find_entry_lem l is s p
  unfolding find_entry_lem
  find_alike l [] p q c b x = refl
  find_alike l (i ∷ is) p q c b x = rw (child_alike l p q c b x i) (go (λ a r. find_alike (below l) is a r) (child_at l i s p) refl) where
    go : ((a r : ℕ) → T (all_counted (below l)) → r ≤ m → end_of (below l) s a ≡ gives r → find_entry_lem (below l) is t a ≡ find_entry_lem (below l) is s a) →
        (y : Answer ℕ) → child_at l i s p ≡ y → and_then y (λ a. find_entry_lem (below l) is t a) ≡ and_then y (λ a. find_entry_lem (below l) is s a)
    go rest (gives a) e = let z = child_lies l i s p q a x e in rest a z.stop (counted_below l c) (omega arith) z.reads
    go rest (refuses n vs) e = refl

  find_counted : (l : Layout) (is : List ℕ) (p : ℕ) (f : Spot) → T (all_counted l) → find_entry_lem l is s p ≡ gives f → T (all_counted f.layout)
  unfolding find_entry_lem
  find_counted l [] p f c x = rw (← (given _ f x)) c
  find_counted l (i ∷ is) p f c x =
      let a = gave (child_at l i s p) (λ q. find_entry_lem (below l) is s q) f x in
      find_counted (below l) is a.first f (counted_below l c) a.then

  -- so what is asked of a value that reads is the same
  module _ (l : Layout) (q : ℕ) (c : T (all_counted l)) (b : q ≤ m) (x : end_of l s 0 ≡ gives q) where
    asked_alike : {A : Type 0} (is : List ℕ) (ask ask' : Spot → Answer A) →
        ((f : Spot) (r : ℕ) → T (all_counted f.layout) → r ≤ m → end_of f.layout s f.start ≡ gives r → ask' f ≡ ask f) →
        and_then (find_entry_lem l is t 0) ask' ≡ and_then (find_entry_lem l is s 0) ask
    asked_alike is ask ask' same = rw (find_alike l is 0 q c b x) (go (find_entry_lem l is s 0) refl) where
      go : (y : Answer Spot) → find_entry_lem l is s 0 ≡ y → and_then y ask' ≡ and_then y ask
      go (gives f) e = let z = find_lies l is s 0 q f x e in same f z.stop (find_counted l is 0 f c e) (omega arith) z.reads
      go (refuses n vs) e = refl

    pub span_alike : (is : List ℕ) → span_of l is t ≡ span_of l is s
    unfolding span_of
    span_alike [] = refl
    span_alike (i ∷ is) = asked_alike (i ∷ is) _ _ (λ f r d e y. rw (end_local f.layout f.start r d e y, y))

    pub length_alike : (is : List ℕ) → length_at l is t ≡ length_at l is s
    unfolding length_at
    length_alike is = asked_alike is _ _ (λ f r d e y. rw (list_alike f.layout f.start r d e y))
