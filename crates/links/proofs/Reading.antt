-- A value that reads: its pairs are the parts of its entries, one after the other, after two addresses.
use mathlib.Core.Path.{◌≡◌, refl, sym, ap, ◌∙◌}
use mathlib.Core.List.{List, [], ◌∷◌}
use Prim.Native.Nat.{ℕ, zero, suc, ◌+◌, ◌*◌, ◌-◌, ◌<◌, ◌≤◌}
use native.Mathlib.Omega.{arith}
use borrow.Author.Tests.{le-leb, lt-leb}
use lib.ListN.{length, take, drop, get_or, length-drop}
use lib.Seq.{length-take-le}
use Rattle.numbers.specs.Numbers.{Answer, gives, refuses, and_then, mapped}
use Rattle.numbers.proofs.Firm.{never}
use Rattle.numbers.proofs.Answers.{given, gave, follows, stops, mapped_given, mapped_refused}
use Rattle.layouts.specs.Layouts.{to_end, Layout, bytes, entry, layout_of}
use Rattle.layouts.specs.declared.Consumed.{Consumed}
use Rattle.layouts.specs.Reading.{read_as_lem, read_value_lem}
use Rattle.layouts.specs.declared.Span.{Span}
use Rattle.layouts.specs.Access.{span_of, of_value_lem, part_of, nth_of, parts_in, locate_entry}
use Rattle.layouts.proofs.Claims as lists
use Rattle.layouts.proofs.Within.{end_within, ends_in}
use Rattle.layouts.proofs.Spans.{plain_start}
use Rattle.layouts.proofs.Values.{ended}
use Rattle.links.specs.declared.LinkKind.{LinkKind}
use Rattle.links.specs.declared.LinkKind.TheVariants.{Tx, Rx}
use Rattle.links.specs.Pairs.{link_code, pairs_in, pair_at}
use Rattle.links.specs.Reports.{most_pairs, report_over, report_if_few, report_of}
use Rattle.links.specs.PrivatePairs.{pair_bytes}

abbrev pub link_layout : LinkKind → Layout
link_layout k = entry 12 to_end (bytes (pair_bytes k))

layout_is : (k : LinkKind) → layout_of (link_code k) ≡ gives (link_layout k)
unfolding layout_of
layout_is Tx = refl
layout_is Rx = refl

-- where pair i lies
abbrev pub pair_span : LinkKind → ℕ → Span
pair_span k i = record { start = 12 + i * pair_bytes k; end = 12 + i * pair_bytes k + pair_bytes k }

-- the pairs of a value that reads
pub record Laid (k : LinkKind) (s : List ℕ) (r : Consumed) : Type 0 where
  pub pairs : List (List ℕ)
  pub are : parts_in (link_layout k) s ≡ gives pairs
  pub many : length pairs ≡ r.entries
  pub inside : 12 + length pairs * pair_bytes k ≤ length s
  pub by_number : (i : ℕ) → nth_of pairs i ≡ mapped (λ e. part_of (gives e) s) (span_of (link_layout k) (i ∷ []) s)
  pub spans : (i : ℕ) → i < length pairs → span_of (link_layout k) (i ∷ []) s ≡ gives (pair_span k i)

laid : (k : LinkKind) (s : List ℕ) (r : Consumed) → read_as_lem (link_layout k) s ≡ gives r → Laid k s r
laid k s r x =
    let e = ended (link_layout k) s r x in
    let first : e.list.first ≡ 12 = (lists.claims).plain.after_head 12 (bytes (pair_bytes k)) s e.list e.has in
    let p = (lists.claims).parts_of_entries (link_layout k) s e.list r.consumed e.has e.ends in
    let g = ends_in 12 to_end (bytes (pair_bytes k)) s 0 r.consumed e.ends in
    let same : g.list ≡ e.list = given g.list e.list (sym g.has ∙ e.has) in
    let end : r.consumed ≡ e.list.first + e.list.many * pair_bytes k =
    plain_start (pair_bytes k) s e.list.many e.list.first r.consumed (rw same at g.ends) in
    let within : r.consumed ≤ length s = (end_within (link_layout k) s 0 r.consumed e.ends).1 in
    record {
      pairs = p.parts;
      are = p.are;
      many = p.many ∙ e.many;
      inside = up_to (length p.parts) e.list.many e.list.first r.consumed p.many first end within;
      by_number = p.by_number;
      spans = λ i h. (lists.claims).plain.runs 12 to_end (pair_bytes k) s e.list r.consumed i e.has e.ends (rw p.many at h) ∙
          ap (λ f. gives (record { start = f + i * pair_bytes k; end = f + i * pair_bytes k + pair_bytes k })) first;
    }
  where
    up_to : (n m f q : ℕ) → n ≡ m → f ≡ 12 → q ≡ f + m * pair_bytes k → q ≤ length s → 12 + n * pair_bytes k ≤ length s
    up_to n m f q e d g w = rw (e, ← d, ← g) w

-- what is asked of a value of this kind, by whether it reads
module _ {A : Type 0} (f : Layout → List ℕ → Answer A) (k : LinkKind) (s : List ℕ) where
  asks : and_then (layout_of (link_code k)) (λ l. of_value_lem f l s) ≡ of_value_lem f (link_layout k) s
  asks = follows (layout_of (link_code k)) (link_layout k) (λ l. of_value_lem f l s) (layout_is k)

  pub asked : (r : Consumed) → read_as_lem (link_layout k) s ≡ gives r → and_then (layout_of (link_code k)) (λ l. of_value_lem f l s) ≡ f (link_layout k) s
  unfolding of_value_lem
  asked r x = asks ∙ follows (read_as_lem (link_layout k) s) r (λ r. f (link_layout k) s) x

  refused_all : (n : ℕ) (vs : List ℕ) → read_as_lem (link_layout k) s ≡ refuses n vs → and_then (layout_of (link_code k)) (λ l. of_value_lem f l s) ≡ refuses n vs
  unfolding of_value_lem
  refused_all n vs x = asks ∙ stops (read_as_lem (link_layout k) s) n vs (λ r. f (link_layout k) s) x

reads : (k : LinkKind) (s : List ℕ) → read_value_lem (link_code k) s ≡ read_as_lem (link_layout k) s
unfolding read_value_lem
reads k s = follows (layout_of (link_code k)) (link_layout k) (λ l. read_as_lem l s) (layout_is k)

-- a value that reads has pairs, and one that doesn't refuses
pub pairs_refused : (k : LinkKind) (s : List ℕ) (n : ℕ) (vs : List ℕ) → read_value_lem (link_code k) s ≡ refuses n vs → pairs_in k s ≡ refuses n vs
unfolding pairs_in
pairs_refused k s n vs x = refused_all parts_in k s n vs (sym (reads k s) ∙ x)

pub record Got (k : LinkKind) (s : List ℕ) (r : Consumed) : Type 0 where
  pub lie : Laid k s r
  pub are : pairs_in k s ≡ gives lie.pairs

pub got : (k : LinkKind) (s : List ℕ) (r : Consumed) → read_value_lem (link_code k) s ≡ gives r → Got k s r
unfolding pairs_in
got k s r x =
    let y = sym (reads k s) ∙ x in
    let l = laid k s r y in
    record { lie = l; are = asked parts_in k s r y ∙ l.are }

-- a value that has pairs reads
pub record Read (k : LinkKind) (s : List ℕ) (ps : List (List ℕ)) : Type 0 where
  pub value : Consumed
  pub lie : Laid k s value
  pub same : lie.pairs ≡ ps

pub read : (k : LinkKind) (s : List ℕ) (ps : List (List ℕ)) → pairs_in k s ≡ gives ps → Read k s ps
unfolding pairs_in of_value_lem
read k s ps x =
    let g = gave (read_as_lem (link_layout k) s) (λ r. parts_in (link_layout k) s) ps (sym (asks parts_in k s) ∙ x) in
    let l = laid k s g.first g.is in
    record { value = g.first; lie = l; same = given l.pairs ps (sym l.are ∙ g.then) }

-- asking for a pair is asking for the entry
pub by_entry : (k : LinkKind) (s : List ℕ) (i : ℕ) → pair_at k s i ≡ mapped (λ e. part_of (gives e) s) (locate_entry (link_code k) (i ∷ []) s)
unfolding pair_at pairs_in locate_entry
by_entry k s i = go (read_as_lem (link_layout k) s) refl
  where
    go : (x : Answer Consumed) → read_as_lem (link_layout k) s ≡ x → and_then (pairs_in k s) (λ ps. nth_of ps i) ≡ mapped (λ e. part_of (gives e) s) (locate_entry (link_code k) (i ∷ []) s)
    go (gives r) x =
        let l = laid k s r x in
        follows (pairs_in k s) l.pairs (λ ps. nth_of ps i) (asked parts_in k s r x ∙ l.are) ∙ l.by_number i ∙
        sym (ap (mapped (λ e. part_of (gives e) s)) (asked (λ l t. span_of l (i ∷ []) t) k s r x))
    go (refuses n vs) x =
        stops (pairs_in k s) n vs (λ ps. nth_of ps i) (refused_all parts_in k s n vs x) ∙
        sym (mapped_refused (λ e. part_of (gives e) s) (locate_entry (link_code k) (i ∷ []) s) n vs (refused_all (λ l t. span_of l (i ∷ []) t) k s n vs x))

-- pair i of n ends in the value
pub below : (k : LinkKind) (i n : ℕ) (s : List ℕ) → i < n → 12 + n * pair_bytes k ≤ length s → 12 + i * pair_bytes k + pair_bytes k ≤ length s
below Tx i n s h g = omega (arith, h, g)
below Rx i n s h g = omega (arith, h, g)

-- an entry that is found is a whole pair in the value
pub record Whole (k : LinkKind) (s : List ℕ) (e : Span) : Type 0 where
  pub long : e.end ≡ e.start + pair_bytes k
  pub inside : e.end ≤ length s

pub whole : (k : LinkKind) (s : List ℕ) (i : ℕ) (e : Span) → locate_entry (link_code k) (i ∷ []) s ≡ gives e → Whole k s e
unfolding locate_entry of_value_lem
whole k s i e x =
    let g = gave (read_as_lem (link_layout k) s) (λ r. span_of (link_layout k) (i ∷ []) s) e (sym (asks (λ l t. span_of l (i ∷ []) t) k s) ∙ x) in
    let l = laid k s g.first g.is in
    let is = l.by_number i ∙ mapped_given (λ e. part_of (gives e) s) (span_of (link_layout k) (i ∷ []) s) e g.then in
    let less : i < length l.pairs = found l.pairs i (part_of (gives e) s) is in
    let at : pair_span k i ≡ e = given (pair_span k i) e (sym (l.spans i less) ∙ g.then) in
    record { long = rw (← at); inside = rw (← at) (below k i (length l.pairs) s less l.inside) }
  where
    found : (ps : List (List ℕ)) (i : ℕ) (p : List ℕ) → nth_of ps i ≡ gives p → i < length ps
    found [] i p x = never p 6 [] (sym x)
    found (q ∷ ps) zero p x = omega arith
    found (q ∷ ps) (suc i) p x = omega (arith, found ps i p x)

-- pair i, as code reads it
pub each_part : (k : LinkKind) (s : List ℕ) (r : Consumed) (l : Laid k s r) (i : ℕ) → i < length l.pairs →
    get_or l.pairs i [] ≡ take (pair_bytes k) (drop (12 + i * pair_bytes k) s)
each_part k s r l i h =
    given (get_or l.pairs i []) (take (pair_bytes k) (drop (12 + i * pair_bytes k) s))
    (sym (nth_get l.pairs i h) ∙ l.by_number i ∙ mapped_given (λ e. part_of (gives e) s) (span_of (link_layout k) (i ∷ []) s) (pair_span k i) (l.spans i h) ∙ long)
  where
    nth_get : (ps : List (List ℕ)) (i : ℕ) → i < length ps → nth_of ps i ≡ gives (get_or ps i [])
    nth_get [] i h = absurd (omega (arith, h))
    nth_get (p ∷ ps) zero h = refl
    nth_get (p ∷ ps) (suc i) h = nth_get ps i (omega (arith, h))

    size : 12 + i * pair_bytes k + pair_bytes k - (12 + i * pair_bytes k) ≡ pair_bytes k
    size = omega arith

    long : gives (part_of (gives (pair_span k i)) s) ≡ gives (take (pair_bytes k) (drop (12 + i * pair_bytes k) s))
    long = ap (λ n. gives (take n (drop (12 + i * pair_bytes k) s))) size

-- a pair that is asked for, by where it is found
pub pair_given : (k : LinkKind) (s : List ℕ) (i : ℕ) (e : Span) → locate_entry (link_code k) (i ∷ []) s ≡ gives e →
    pair_at k s i ≡ gives (part_of (gives e) s)
pair_given k s i e x = by_entry k s i ∙ mapped_given (λ e. part_of (gives e) s) (locate_entry (link_code k) (i ∷ []) s) e x

pub pair_refused : (k : LinkKind) (s : List ℕ) (i n : ℕ) (vs : List ℕ) → locate_entry (link_code k) (i ∷ []) s ≡ refuses n vs →
    pair_at k s i ≡ refuses n vs
pair_refused k s i n vs x = by_entry k s i ∙ mapped_refused (λ e. part_of (gives e) s) (locate_entry (link_code k) (i ∷ []) s) n vs x

pub long_part : (k : LinkKind) (s : List ℕ) (e : Span) → Whole k s e → pair_bytes k ≤ length (part_of (gives e) s)
long_part k s e w =
    let n = length-take-le (e.end - e.start) (drop e.start s) (rw length-drop (omega (arith, w.long, w.inside))) in
    omega (arith, n, w.long)

-- the report over a value, by its pairs
pub few_reported : (k : LinkKind) (s : List ℕ) (ps : List (List ℕ)) → pairs_in k s ≡ gives ps → length ps ≤ most_pairs →
    report_of k s ≡ gives (report_over k ps)
unfolding report_of report_if_few
few_reported k s ps x few = rw (x, le-leb (length ps) most_pairs few)

pub too_many : (k : LinkKind) (s : List ℕ) (ps : List (List ℕ)) → pairs_in k s ≡ gives ps → most_pairs < length ps →
    report_of k s ≡ refuses 19 []
unfolding report_of report_if_few
too_many k s ps x many = rw (x, lt-leb (length ps) most_pairs many)

pub not_reported : (k : LinkKind) (s : List ℕ) (n : ℕ) (vs : List ℕ) → pairs_in k s ≡ refuses n vs → report_of k s ≡ refuses n vs
unfolding report_of
not_reported k s n vs x = rw x
