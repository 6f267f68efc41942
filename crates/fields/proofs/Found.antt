-- An entry that numbers lead to has its fields, and its text ends where it does.
use mathlib.Core.Path.{◌≡◌, refl, sym, ap, ◌∙◌}
use mathlib.Core.Bool.{Bool, true, false, ◌&&◌}
use mathlib.Core.List.{List, [], ◌∷◌}
use Prim.Native.Nat.{ℕ, zero, suc, ◌+◌, ◌<◌, ◌≤◌}
use native.Mathlib.Omega.{arith}
use borrow.Author.Tests.{eqb-true, le-leb}
use lib.Dec.{eqb, T}
use lib.ListN.{length, take, drop, get_or}
use Rattle.numbers.specs.Numbers.{Answer, gives, refuses, mapped}
use Rattle.numbers.proofs.Firm.{never}
use Rattle.numbers.proofs.Bytes.{both_true}
use Rattle.numbers.proofs.Answers.{given, gave, mapped_gave}
use Rattle.layouts.specs.Layouts.{c1, to_end, Layout, bytes, entry, size_of, layout_of}
use Rattle.layouts.specs.declared.Consumed.{Consumed}
use Rattle.layouts.specs.Reading.{head_of, count_at_lem, end_of, read_as_lem, read_value_lem}
use Rattle.layouts.specs.declared.Span.{Span}
use Rattle.layouts.specs.Access.{child_at, below, Spot, find_entry_lem, span_of, locate_entry}
use Rattle.layouts.proofs.Within.{reached, behind_head, ends_in, end_within}
use Rattle.layouts.proofs.Spans.{plain_start}
use Rattle.layouts.proofs.Values.{asked, ended}
use Rattle.texts.specs.Texts.{inventory_code}
use Rattle.texts.specs.Access.{radio_in_lem, locate_radio}
use Rattle.texts.proofs.Asked as texts
use Rattle.fields.specs.declared.parts.TextPlace.{TextPlace}
use Rattle.fields.specs.Fields.{fields_at, text_at, nothing_there, entry_at, Fielded, row_for, fields_for, entry_for}
use Rattle.fields.proofs.Laws.{text_there, tested, every, each}

-- the layout so many levels down
abbrev pub down : ℕ → Layout → Layout
down zero l = l
down (suc k) l = down k (below l)

find_layout : (l : Layout) (is s : List ℕ) (p : ℕ) (f : Spot) → find_entry_lem l is s p ≡ gives f → f.layout ≡ down (length is) l
unfolding find_entry_lem
find_layout l [] s p f x = ap (λ f. f.layout) (sym (given _ f x))
find_layout l (i ∷ is) s p f x =
    let g = gave (child_at l i s p) (λ q. find_entry_lem (below l) is s q) f x in
    find_layout (below l) is s g.first f g.then

-- an entry that is found reads by the layout of its level
pub record Reads (code : ℕ) (is s : List ℕ) (e : Span) : Type 0 where
  pub layout : Layout
  pub is_layout : layout_of code ≡ gives layout
  pub ends : end_of (down (length is) layout) s e.start ≡ gives e.end

pub reads : (code : ℕ) (is s : List ℕ) (e : Span) → locate_entry code is s ≡ gives e → Reads code is s e
unfolding locate_entry span_of
reads code is s e x =
    let a = asked (λ l t. span_of l is t) code s e x in
    record { layout = a.layout; is_layout = a.is; ends = by_span a.layout is a.says }
  where
    by_span : (l : Layout) (is : List ℕ) → span_of l is s ≡ gives e → end_of (down (length is) l) s e.start ≡ gives e.end
    by_span l [] x = never e 6 [] (sym x)
    by_span l (i ∷ is) x =
        let f = gave (find_entry_lem l (i ∷ is) s 0) (λ f. mapped (λ q. record { start = f.start; end = q }) (end_of f.layout s f.start)) e x in
        let m = mapped_gave (λ q. record { start = f.first.start; end = q }) (end_of f.first.layout s f.first.start) e f.then in
        rw (← given _ e m.then, ← find_layout l (i ∷ is) s 0 f.first f.is) m.is

-- its head is there
pub head_inside : (l : Layout) (s : List ℕ) (p q : ℕ) → end_of l s p ≡ gives q → p + head_of l ≤ length s
unfolding end_of
head_inside (bytes n) s p q x = (reached (p + n) s (p + n) q x).0
head_inside (entry n w e) s p q x = let g = ends_in n w e s p q x in (behind_head n w e s p g.list g.has).head

-- and so is its text, which is a list of bytes
pub record Texted (n : ℕ) (s : List ℕ) (p q : ℕ) : Type 0 where
  pub inside : p + n ≤ length s
  pub text : text_at s (p + n) ≡ gives (record { start = p + n + 1; length = get_or s (p + n) 0 })
  pub ends : p + n + 1 + get_or s (p + n) 0 ≡ q

pub texted : (n : ℕ) (s : List ℕ) (p q : ℕ) → end_of (entry n c1 (bytes 1)) s p ≡ gives q → Texted n s p q
unfolding count_at_lem
texted n s p q x =
    let g = ends_in n c1 (bytes 1) s p q x in
    let b = behind_head n c1 (bytes 1) s p g.list g.has in
    let r = reached (p + n + 1) s (record { many = get_or s (p + n) 0; first = p + n + 1 }) g.list b.counts in
    let many : get_or s (p + n) 0 ≡ g.list.many = ap (λ m. m.many) r.1 in
    let first : p + n + 1 ≡ g.list.first = ap (λ m. m.first) r.1 in
    let end = plain_start 1 s g.list.many g.list.first q g.ends in
    let within = (end_within (entry n c1 (bytes 1)) s p q x).1 in
    let ends : p + n + 1 + get_or s (p + n) 0 ≡ q = omega (arith, many, first, end) in
    let room : p + n < length s = omega (arith, r.0) in
    record {
      inside = b.head;
      text = text_there s (p + n) (get_or s (p + n) 0) room refl (le-leb (p + n + 1 + get_or s (p + n) 0) (length s) (omega (arith, ends, within)));
      ends = ends;
    }

-- a row says the head of the entries that its kind has at its level; a text follows where they are bytes with a list of
-- bytes
abbrev fitting : (Layout → ℕ → Bool) → Answer Layout → Fielded → Bool
fitting t (gives l) f = t (down f.level l) (size_of f.sizes)
fitting t (refuses n vs) f = true

abbrev is_head : Layout → ℕ → Bool
is_head l n = eqb (head_of l) n

abbrev has_text_lem : Layout → ℕ → Bool
has_text_lem (bytes n) m = false
has_text_lem (entry n to_end e) m = false
has_text_lem (entry n c1 (entry k w e)) m = false
has_text_lem (entry n c1 (bytes h)) m = eqb n m && eqb h 1

is_texted : (l : Layout) (m : ℕ) → T (has_text_lem l m) → l ≡ entry m c1 (bytes 1)
is_texted (bytes n) m h = absurd h
is_texted (entry n to_end e) m h = absurd h
is_texted (entry n c1 (entry k w e)) m h = absurd h
is_texted (entry n c1 (bytes k)) m h =
    let o = both_true (eqb n m) (eqb k 1) (tested (eqb n m && eqb k 1) h) in
    λ i. entry (eqb-true n m o.0 i) c1 (bytes (eqb-true k 1 o.1 i))

module _ (t : Layout → ℕ → Bool) (fs : List Fielded) (fit : T (every (λ f. fitting t (layout_of f.code) f) fs)) where
  fits : (code : ℕ) (f : Fielded) (l : Layout) → row_for fs code ≡ gives f → layout_of code ≡ gives l → T (t (down f.level l) (size_of f.sizes))
  fits code f l x y =
      let h = each (λ f. fitting t (layout_of f.code) f) fs fit code f x in
      let same : layout_of f.code ≡ gives l = ap layout_of (sym h.0) ∙ y in
      rw same at h.1

-- what is given of entries that are there
module _ (fs : List Fielded) (code : ℕ) (f : Fielded) (s : List ℕ) (p : ℕ) (row : row_for fs code ≡ gives f) (inside : p + size_of f.sizes ≤ length s) where
  abbrev own : List ℕ
  own = take (size_of f.sizes) (drop p s)

  pub fields_there : fields_for fs code s p ≡ gives own
  unfolding fields_for fields_at
  fields_there = rw (row, le-leb (p + size_of f.sizes) (length s) inside)

  pub entry_there : entry_for false fs code s p ≡ gives (record { own = own; text = nothing_there.text })
  unfolding entry_for entry_at fields_at
  entry_there = rw (row, le-leb (p + size_of f.sizes) (length s) inside)

  pub text_follows : (t : TextPlace) → text_at s (p + size_of f.sizes) ≡ gives t → entry_for true fs code s p ≡ gives (record { own = own; text = t })
  unfolding entry_for entry_at fields_at
  text_follows t e = rw (row, le-leb (p + size_of f.sizes) (length s) inside, e)

-- the fields of an entry that is found, and its text, by what the rows say of their kinds
abbrev pub heads : Fielded → Bool
heads f = fitting is_head (layout_of f.code) f

abbrev pub texts_follow : Fielded → Bool
texts_follow f = fitting has_text_lem (layout_of f.code) f

module _ (fs : List Fielded) (code : ℕ) (is s : List ℕ) (f : Fielded) (e : Span) (row : row_for fs code ≡ gives f) (level : length is ≡ f.level) (is-there : locate_entry code is s ≡ gives e) where
  abbrev r : Reads code is s e
  r = reads code is s e is-there

  pub found_inside : T (every heads fs) → e.start + size_of f.sizes ≤ length s
  found_inside fit =
      let h = tested (is_head (down f.level r.layout) (size_of f.sizes)) (fits is_head fs fit code f r.layout row r.is_layout) in
      rw (level, eqb-true (head_of (down f.level r.layout)) (size_of f.sizes) h) at (head_inside (down (length is) r.layout) s e.start e.end r.ends)

  pub found_texted : T (every texts_follow fs) → Texted (size_of f.sizes) s e.start e.end
  found_texted fit =
      let h = is_texted (down f.level r.layout) (size_of f.sizes) (fits has_text_lem fs fit code f r.layout row r.is_layout) in
      texted (size_of f.sizes) s e.start e.end (rw (level, h) at r.ends)

-- what stands before the list of a value that reads
pub front_inside : (fs : List Fielded) (code : ℕ) (s : List ℕ) (f : Fielded) (v : Consumed) → row_for fs code ≡ gives f → f.level ≡ 0 →
    read_value_lem code s ≡ gives v → T (every heads fs) → 0 + size_of f.sizes ≤ length s
unfolding read_value_lem
front_inside fs code s f v row level x fit =
    let g = gave (layout_of code) (λ l. read_as_lem l s) v x in
    let h = tested (is_head (down f.level g.first) (size_of f.sizes)) (fits is_head fs fit code f g.first row g.is) in
    let same : head_of g.first ≡ size_of f.sizes = ap (λ k. head_of (down k g.first)) (sym level) ∙ eqb-true (head_of (down f.level g.first)) (size_of f.sizes) h in
    rw same at (head_inside g.first s 0 v.consumed (ended g.first s v g.then).ends)

-- a radio of DeviceInventory
pub radio_texted : (is s : List ℕ) (e : Span) → locate_radio inventory_code is s ≡ gives e → Texted 6 s e.start e.end
unfolding locate_radio
radio_texted is s e x =
    let a = texts.asked inventory_code (λ k v. radio_in_lem is v) s e x in
    let f = texts.one_radio is a.value e a.says in
    texted 6 s e.start e.end (texts.radio_among a.kind s a.value a.reads f.number e f.is).reads
