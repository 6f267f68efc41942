-- The report over the pairs of a value, as a loop makes it, pair after pair.
use mathlib.Core.Path.{◌≡◌, sym, ap, subst, ◌∙◌}
use mathlib.Core.List.{List, [], ◌∷◌}
use Prim.Native.Nat.{ℕ, zero, suc, ◌+◌, ◌*◌, ◌-◌, ◌<◌, ◌≤◌}
use native.Mathlib.Omega.{arith}
use native.Mathlib.Numerals.{add-one}
use lib.ListN.{length, take, drop, get_or}
use lib.Seq.{take-suc, take_all, length-take-le}
use Rattle.numbers.specs.Bytes.{AllBytes}
use Rattle.numbers.specs.Numbers.{Answer, gives, refuses, mapped}
use Rattle.numbers.proofs.Bytes.{part_bytes}
use Rattle.numbers.proofs.Answers.{given, mapped_gave, mapped_given}
use Rattle.links.specs.declared.LinkKind.{LinkKind}
use Rattle.links.specs.declared.LinkReport.{LinkReport}
use Rattle.links.specs.Pairs.{pairs_in}
use Rattle.links.specs.Reports.{one_pair_lem, added, report_over, most_pairs}
use Rattle.links.specs.PrivatePairs.{pair_bytes}
use Rattle.links.proofs.Joining.{over_next}
use Rattle.links.proofs.Passing.{AllPairs}
use Rattle.links.proofs.Merging.{Fit, over_fits}
use Rattle.links.proofs.Reading.{Whole, below, read, each_part}

abbrev pub listed : Answer (List (List ℕ)) → List (List ℕ)
listed (gives ps) = ps
listed (refuses n vs) = []

-- over the first i pairs
abbrev pub so_far : LinkKind → List ℕ → ℕ → LinkReport
so_far k s i = report_over k (take i (listed (pairs_in k s)))

-- the bytes of pair i
abbrev pub part_at : LinkKind → List ℕ → ℕ → List ℕ
part_at k s i = take (pair_bytes k) (drop (12 + i * pair_bytes k) s)

all_of : (ps : List (List ℕ)) → ((i : ℕ) → i < length ps → AllBytes (get_or ps i [])) → AllPairs ps
all_of [] h i = λ j. omega arith
all_of (p ∷ ps) h zero = h 0 (omega arith)
all_of (p ∷ ps) h (suc i) = all_of ps (λ i less. h (suc i) (omega (arith, less))) i

all_taken : (n : ℕ) (ps : List (List ℕ)) → AllPairs ps → AllPairs (take n ps)
all_taken zero ps h i = λ j. omega arith
all_taken (suc n) [] h i = h i
all_taken (suc n) (p ∷ ps) h zero = h 0
all_taken (suc n) (p ∷ ps) h (suc i) = all_taken n ps (λ i. h (suc i)) i

-- the pairs of a value of bytes are bytes
pub pairs_are_bytes : (k : LinkKind) (s : List ℕ) (ps : List (List ℕ)) → AllBytes s → pairs_in k s ≡ gives ps → AllPairs ps
pairs_are_bytes k s ps bytes x =
    let r = read k s ps x in
    subst AllPairs r.same
    (all_of r.lie.pairs (λ i h. subst AllBytes (sym (each_part k s r.value r.lie i h)) (part_bytes (pair_bytes k) (12 + i * pair_bytes k) s bytes)))

module _ (k : LinkKind) (s : List ℕ) (n : ℕ) (few : n ≤ most_pairs) (counts : mapped length (pairs_in k s) ≡ gives n) where
  abbrev ps : List (List ℕ)
  ps = listed (pairs_in k s)

  have : pairs_in k s ≡ gives ps
  have = let g = mapped_gave length (pairs_in k s) n counts in g.is ∙ ap gives (sym (ap listed g.is))

  many : length ps ≡ n
  many = given (length ps) n (sym (mapped_given length (pairs_in k s) ps have) ∙ counts)

  each : (i : ℕ) → i < n → get_or ps i [] ≡ part_at k s i
  each i h =
      let r = read k s ps have in
      ap (λ ps. get_or ps i []) (sym r.same) ∙ each_part k s r.value r.lie i (rw (r.same, many) h)

  pub inside : 12 + n * pair_bytes k ≤ length s
  inside = let r = read k s ps have in rw (← many, ← r.same) r.lie.inside

  -- pair i lies in the value, and the part that code takes is this pair
  here : (i size : ℕ) → size ≡ pair_bytes k → 12 + i * size ≡ 12 + i * pair_bytes k
  here i size sized = ap (λ n. 12 + i * n) sized

  pub turn : (i size : ℕ) → i < n → size ≡ pair_bytes k → Whole k s (record { start = 12 + i * size; end = 12 + i * size + size })
  turn i size h sized = record { long = rw sized; inside = rw sized (below k i n s h inside) }

  taken : (i size : ℕ) → size ≡ pair_bytes k → take (12 + i * size + size - (12 + i * size)) (drop (12 + i * size) s) ≡ part_at k s i
  taken i size sized =
      let long : 12 + i * size + size - (12 + i * size) ≡ pair_bytes k = omega (arith, sized) in
      λ j. take (long j) (drop (here i size sized j) s)

  step : (i : ℕ) → i < n → added (so_far k s i) (one_pair_lem k (part_at k s i)) ≡ so_far k s (i + 1)
  step i h =
      ap (λ p. added (so_far k s i) (one_pair_lem k p)) (sym (each i h)) ∙
      sym (ap (λ i. so_far k s i) (add-one i) ∙ ap (report_over k) (take-suc ps i [] (rw many h)) ∙ over_next k (take i ps) (get_or ps i []))

  -- what one turn adds
  pub added_next : (i size : ℕ) (total one : LinkReport) → i < n → size ≡ pair_bytes k → total ≡ so_far k s i →
      one ≡ one_pair_lem k (take (12 + i * size + size - (12 + i * size)) (drop (12 + i * size) s)) → added total one ≡ so_far k s (i + 1)
  added_next i size total one h sized e is = (λ j. added (e j) ((is ∙ ap (one_pair_lem k) (taken i size sized)) j)) ∙ step i h

  pub fits : AllBytes s → (i : ℕ) → i ≤ n → Fit (so_far k s i)
  fits bytes i h =
      over_fits k (take i ps) (all_taken i ps (pairs_are_bytes k s ps bytes have)) (omega (arith, few, h, length-take-le i ps (rw many h)))

  pub done : gives (so_far k s n) ≡ mapped (report_over k) (pairs_in k s)
  done = ap (λ qs. gives (report_over k qs)) (take_all n ps (omega (arith, many))) ∙ sym (mapped_given (report_over k) (pairs_in k s) ps have)
