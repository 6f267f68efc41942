-- What is read lies within the bytes: an entry ends at or after its start, and not after the end.
use mathlib.Core.Path.{◌≡◌, refl, sym, ap}
use mathlib.Core.Bool.{Bool, true, false, cond}
use mathlib.Core.List.{List, []}
use Prim.Native.Nat.{ℕ, zero, suc, ◌+◌, ◌<◌, ◌≤◌}
use native.Mathlib.Omega.{arith}
use lib.ListN.{length}
use lib.Dec.{leb, ltb}
use borrow.Author.Tests.{leb-true, le-leb, lt-leb, ltb-true}
use Rattle.numbers.specs.Numbers.{Answer, gives, refuses}
use Rattle.numbers.proofs.Firm.{never}
use Rattle.numbers.proofs.Answers.{given, gave}
use Rattle.layouts.specs.Layouts.{Counting, c1, to_end, Layout, bytes, entry}
use Rattle.layouts.specs.declared.ListAt.{ListAt}
use Rattle.layouts.specs.Reading.{reaching, head_of, count_at_lem, list_of, entries_end, end_of}
use Rattle.layouts.specs.Access.{child_at, below}

abbrev pub Within : ℕ → ℕ → List ℕ → Type 0
Within p q s = (p ≤ q) × (q ≤ length s)

-- the bytes reach to q, or not
pub reaches : {A : Type 0} (q : ℕ) (s : List ℕ) (a : A) → q ≤ length s → reaching q s a ≡ gives a
reaches q s a h = rw (le-leb q (length s) h)

pub cut : {A : Type 0} (q : ℕ) (s : List ℕ) (a : A) → length s < q → reaching q s a ≡ refuses 3 []
cut q s a h = rw (lt-leb q (length s) h)

pub reached : {A : Type 0} (q : ℕ) (s : List ℕ) (a b : A) → reaching q s a ≡ gives b → (q ≤ length s) × (a ≡ b)
reached q s a b x = go (leb q (length s)) refl x where
  go : (t : Bool) → leb q (length s) ≡ t → cond t (gives a) (refuses 3 []) ≡ gives b → (q ≤ length s) × (a ≡ b)
  go true e x = (leb-true q (length s) e, given a b x)
  go false e x = never b 3 [] (sym x)

pub count_within : (w : Counting) (h : ℕ) (s : List ℕ) (p : ℕ) (m : ListAt) → p ≤ length s → count_at_lem w h s p ≡ gives m → Within p m.first s
unfolding count_at_lem
count_within c1 h s p m b x = let a = reached (p + 1) s _ m x in let e : p + 1 ≡ m.first = ap (λ m. m.first) a.1 in omega arith
count_within to_end h s p m b x = let e : p ≡ m.first = ap (λ m. m.first) (given _ m x) in omega arith

-- the list of an entry that has one stands after its head
pub record Behind (n : ℕ) (w : Counting) (e : Layout) (s : List ℕ) (p : ℕ) (m : ListAt) : Type 0 where
  pub head : p + n ≤ length s
  pub counts : count_at_lem w (head_of e) s (p + n) ≡ gives m

pub behind_head : (n : ℕ) (w : Counting) (e : Layout) (s : List ℕ) (p : ℕ) (m : ListAt) → list_of (entry n w e) s p ≡ gives m → Behind n w e s p m
unfolding list_of
behind_head n w e s p m x =
    let g = gave (reaching (p + n) s (p + n)) (λ q. count_at_lem w (head_of e) s q) m x in
    let r = reached (p + n) s (p + n) g.first g.is in
    record { head = r.0; counts = rw r.1 g.then }

-- an entry of bytes alone has no list
pub list_leaf : (n : ℕ) (s : List ℕ) (p : ℕ) → list_of (bytes n) s p ≡ refuses 6 []
unfolding list_of
list_leaf n s p = refl

pub leafless : {B : Type 0} (n : ℕ) (s : List ℕ) (p : ℕ) (m : ListAt) → list_of (bytes n) s p ≡ gives m → B
leafless n s p m x = never m 6 [] (cc (list_leaf n s p))

pub list_within : (l : Layout) (s : List ℕ) (p : ℕ) (m : ListAt) → list_of l s p ≡ gives m → Within p m.first s
list_within (bytes n) s p m x = leafless n s p m x
list_within (entry n w e) s p m x =
    let b = behind_head n w e s p m x in
    let c = count_within w (head_of e) s (p + n) m b.head b.counts in
    omega arith

pub entries_within : (f : ℕ → Answer ℕ) (s : List ℕ) → ((p q : ℕ) → f p ≡ gives q → Within p q s) →
    (n p q : ℕ) → p ≤ length s → entries_end f n p ≡ gives q → Within p q s
unfolding entries_end
entries_within f s w zero p q l x = let y : p ≡ q = given p q x in omega arith
entries_within f s w (suc n) p q l x =
    let g = gave (f p) (λ r. entries_end f n r) q x in
    let a = w p g.first g.is in
    let b = entries_within f s w n g.first q a.1 g.then in
    omega arith

-- an entry that reads and has a list ends in it
pub record Ends (e : Layout) (s : List ℕ) (x : Answer ListAt) (q : ℕ) : Type 0 where
  pub list : ListAt
  pub has : x ≡ gives list
  pub ends : entries_end (end_of e s) list.many list.first ≡ gives q

pub ends_in : (n : ℕ) (w : Counting) (e : Layout) (s : List ℕ) (p q : ℕ) → end_of (entry n w e) s p ≡ gives q → Ends e s (list_of (entry n w e) s p) q
unfolding end_of
ends_in n w e s p q x =
    let g = gave (list_of (entry n w e) s p) (λ m. entries_end (end_of e s) m.many m.first) q x in
    record { list = g.first; has = g.is; ends = g.then }

pub end_within : (l : Layout) (s : List ℕ) (p q : ℕ) → end_of l s p ≡ gives q → Within p q s
unfolding end_of
end_within (bytes n) s p q x = let r = reached (p + n) s (p + n) q x in let y = r.1 in omega arith
end_within (entry n w e) s p q x =
    let g = ends_in n w e s p q x in
    let c = list_within (entry n w e) s p g.list g.has in
    let d = entries_within (end_of e s) s (end_within e s) g.list.many g.list.first q c.1 g.ends in
    omega arith

-- entry i of a list that has it
pub record Among (l : Layout) (i : ℕ) (s : List ℕ) (p q : ℕ) : Type 0 where
  pub list : ListAt
  pub has : list_of l s p ≡ gives list
  pub less : i < list.many
  pub starts : entries_end (end_of (below l) s) i list.first ≡ gives q

pub among : (l : Layout) (i : ℕ) (s : List ℕ) (p q : ℕ) → child_at l i s p ≡ gives q → Among l i s p q
unfolding child_at
among l i s p q x =
    let g = gave (list_of l s p) (λ m. cond (ltb i m.many) (entries_end (end_of (below l) s) i m.first) (refuses 6 [])) q x in
    go g.first g.is (ltb i g.first.many) refl g.then where
      go : (m : ListAt) → list_of l s p ≡ gives m → (t : Bool) → ltb i m.many ≡ t →
          cond t (entries_end (end_of (below l) s) i m.first) (refuses 6 []) ≡ gives q → Among l i s p q
      go m y true t x = record { list = m; has = y; less = ltb-true i m.many t; starts = x }
      go m y false t x = never q 6 [] (sym x)
