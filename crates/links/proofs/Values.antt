-- A value made of pairs: 12 bytes in front, then the pairs joined. These are its pairs.
use mathlib.Core.Path.{◌≡◌, refl, sym, ap, ◌∙◌}
use mathlib.Core.List.{List, [], ◌∷◌, ◌++◌, map, flatten}
use Prim.Native.Nat.{ℕ, zero, suc, ◌+◌, ◌*◌, ◌-◌, ◌/◌, ◌≤◌, ◌<◌}
use native.Mathlib.Omega.{arith}
use borrow.Author.Tests.{le-ltb}
use lib.ListN.{length, take, drop, get_or, length-append, length-drop}
use lib.Seq.{take_at, drop_at, drop-drop}
use Rattle.numbers.specs.Bytes.{AllBytes}
use Rattle.numbers.specs.Numbers.{gives, mapped}
use Rattle.numbers.proofs.Answers.{follows, mapped_given}
use Rattle.layouts.specs.Layouts.{to_end, bytes}
use Rattle.layouts.specs.declared.ListAt.{ListAt}
use Rattle.layouts.specs.Reading.{reaching, list_of, count_at_lem, entries_end, end_of, consumed_to_lem, read_as_lem}
use Rattle.layouts.specs.Access.{Spans, before, part_of, spans_from, spans_in, parts_in}
use Rattle.layouts.proofs.Within.{reaches}
use Rattle.layouts.proofs.Laws.{read_to}
use Rattle.layouts.proofs.Spans.{spans_end}
use Rattle.links.specs.declared.LinkKind.{LinkKind}
use Rattle.links.specs.declared.LinkKind.TheVariants.{Tx, Rx}
use Rattle.links.specs.Pairs.{pairs_in}
use Rattle.links.specs.PrivatePairs.{pair_bytes}
use Rattle.links.proofs.Passing.{AllPairs}
use Rattle.links.proofs.Witness.{zeros, zeros_bytes, no_bytes}
use Rattle.links.proofs.Reading.{link_layout, asked}

abbrev pub value_of : List (List ℕ) → List ℕ
value_of ps = zeros 12 (flatten ps)

append_bytes : (a b : List ℕ) → AllBytes a → AllBytes b → AllBytes (a ++ b)
append_bytes [] b h g i = g i
append_bytes (x ∷ a) b h g zero = h 0
append_bytes (x ∷ a) b h g (suc i) = append_bytes a b (λ i. h (suc i)) g i

flatten_bytes : (ps : List (List ℕ)) → AllPairs ps → AllBytes (flatten ps)
unfolding flatten
flatten_bytes [] h = no_bytes
flatten_bytes (p ∷ ps) h = append_bytes p (flatten ps) (h 0) (flatten_bytes ps (λ i. h (suc i)))

pub value_bytes : (ps : List (List ℕ)) → AllPairs ps → AllBytes (value_of ps)
value_bytes ps h = zeros_bytes 12 (flatten ps) (flatten_bytes ps h)

-- entries of h bytes each that are all the bytes from p on
record Spread (h : ℕ) (s : List ℕ) (p : ℕ) (ps : List (List ℕ)) : Type 0 where
  spans : Spans
  are : spans_from (end_of (bytes h) s) (length ps) p ≡ gives spans
  parts : map (λ e. part_of (gives e) s) spans.each ≡ ps
  end : spans.end ≡ p + length ps * h
  all : length s ≡ p + length ps * h

spread : (h : ℕ) (s : List ℕ) (p : ℕ) (ps : List (List ℕ)) → p ≤ length s → drop p s ≡ flatten ps →
    ((i : ℕ) → i < length ps → length (get_or ps i []) ≡ h) → Spread h s p ps
unfolding spans_from flatten end_of
spread h s p [] inside rest long = record {
  spans = record { each = []; end = p };
  are = refl;
  parts = refl;
  end = omega arith;
  all = omega (arith, inside, sym (length-drop p s) ∙ ap length rest);
}
spread h s p (x ∷ ps) inside rest long =
    let size : length x ≡ h = long 0 (omega arith) in
    let left : length s - p ≡ h + length (flatten ps) = sym (length-drop p s) ∙ ap length rest ∙ length-append x (flatten ps) ∙ ap (λ n. n + length (flatten ps)) size in
    let reach : p + h ≤ length s = omega (arith, inside, left) in
    let next : drop (p + h) s ≡ flatten ps = sym (drop-drop h p s) ∙ ap (drop h) rest ∙ drop_at x (flatten ps) h size in
    let r = spread h s (p + h) ps reach next (λ i less. long (suc i) (omega (arith, less))) in
    let first : end_of (bytes h) s p ≡ gives (p + h) = reaches (p + h) s (p + h) reach in
    let wide : p + h - p ≡ h = omega arith in
    let own : take (p + h - p) (drop p s) ≡ x = ap (λ n. take n (drop p s)) wide ∙ ap (take h) rest ∙ take_at x (flatten ps) h size in
    record {
      spans = before (record { start = p; end = p + h }) r.spans;
      are = follows (end_of (bytes h) s p) (p + h) (λ q. mapped (before (record { start = p; end = q })) (spans_from (end_of (bytes h) s) (length ps) q)) first ∙
          mapped_given (before (record { start = p; end = p + h })) (spans_from (end_of (bytes h) s) (length ps) (p + h)) r.spans r.are;
      parts = λ i. own i ∷ r.parts i;
      end = r.end ∙ omega arith;
      all = r.all ∙ omega arith;
    }

module _ (k : LinkKind) (ps : List (List ℕ)) (long : (i : ℕ) → i < length ps → length (get_or ps i []) ≡ pair_bytes k) where
  abbrev s : List ℕ
  s = value_of ps

  lies : Spread (pair_bytes k) s 12 ps
  lies = spread (pair_bytes k) s 12 ps (omega arith) refl long

  abbrev list : ListAt
  list = record { many = length ps; first = 12 }

  has : list_of (link_layout k) s 0 ≡ gives list
  unfolding list_of count_at_lem
  has = follows (reaching (0 + 12) s (0 + 12)) 12 (λ q. count_at_lem to_end (pair_bytes k) s q) (reaches (0 + 12) s (0 + 12) (omega arith)) ∙
      ap (λ n. gives (record { many = n; first = 12 })) (count k (length ps) (length s) lies.all)
    where
      count : (k : LinkKind) (n m : ℕ) → m ≡ 12 + n * pair_bytes k → (m - 12) / pair_bytes k ≡ n
      count Tx n m e = omega (arith, e)
      count Rx n m e = omega (arith, e)

  ends : end_of (link_layout k) s 0 ≡ gives (12 + length ps * pair_bytes k)
  unfolding end_of
  ends = follows (list_of (link_layout k) s 0) list (λ m. entries_end (end_of (bytes (pair_bytes k)) s) m.many m.first) has ∙
      sym (spans_end (end_of (bytes (pair_bytes k)) s) (length ps) 12) ∙
      mapped_given (λ r. r.end) (spans_from (end_of (bytes (pair_bytes k)) s) (length ps) 12) lies.spans lies.are ∙ ap gives lies.end

  reads : read_as_lem (link_layout k) s ≡ gives (record { consumed = 12 + length ps * pair_bytes k; rest = 0; entries = length ps })
  unfolding consumed_to_lem
  reads = read_to (link_layout k) s list (12 + length ps * pair_bytes k) has ends ∙ rw (le-ltb (12 + length ps * pair_bytes k) (length s) (omega (arith, lies.all)))

  pub pairs_of_value : pairs_in k s ≡ gives ps
  unfolding pairs_in parts_in spans_in
  pairs_of_value = asked parts_in k s _ reads ∙
      mapped_given (λ r. map (λ e. part_of (gives e) s) r.each) (spans_in (link_layout k) s 0) lies.spans
      (follows (list_of (link_layout k) s 0) list (λ m. spans_from (end_of (bytes (pair_bytes k)) s) m.many m.first) has ∙ lies.are) ∙ ap gives lies.parts
