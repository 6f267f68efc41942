-- One report made from two: what the test says, and that the sums fit the machine's numbers.
use mathlib.Core.Path.{◌≡◌, refl, sym, ap, subst, ◌∙◌}
use mathlib.Core.Bool.{true, false, cond, ◌&&◌, false≢true}
use mathlib.Core.List.{List, [], ◌∷◌, ◌++◌}
use Prim.Native.Nat.{ℕ, zero, suc, ◌+◌, ◌≤◌, ◌<◌}
use native.Mathlib.Omega.{arith}
use borrow.Author.Tests.{leb-true}
use lib.Dec.{leb}
use lib.ListN.{length, length-append}
use mir.Syntax.{w32}
use mir.Val.{SFits}
use Rattle.numbers.specs.Numbers.{Answer, gives, refuses}
use Rattle.links.specs.declared.LinkKind.{LinkKind}
use Rattle.links.specs.declared.LinkKind.TheVariants.{Tx, Rx}
use Rattle.links.specs.declared.LinkReport.{LinkReport}
use Rattle.links.specs.Reports.{added, report_over, some_value_gives_lem, most_pairs, same_kind_lem, mergeable, merged}
use Rattle.links.proofs.Joining.{over_append}
use Rattle.links.proofs.Passing.{AllPairs, of_errors, of_packets, pairs_are, total_fits, sum_fits}
use Rattle.links.proofs.Witness.{two, list_length, some_list}

-- every field fits where it is kept
abbrev pub Fit : LinkReport → Type 0
Fit r = ((r.pairs < 65536) × (r.errors < 18446744073709551616)) × ((r.packets < 18446744073709551616) × SFits w32 r.sum)

pub over_fits : (k : LinkKind) (ps : List (List ℕ)) → AllPairs ps → length ps ≤ most_pairs → Fit (report_over k ps)
over_fits k ps h few = (
  (omega (arith, pairs_are k ps, few), omega (arith, total_fits of_errors k ps h, few)),
  (omega (arith, total_fits of_packets k ps h, few), sum_fits k ps h few),
)

all_append : (ps qs : List (List ℕ)) → AllPairs ps → AllPairs qs → AllPairs (ps ++ qs)
all_append [] qs h g i = g i
all_append (p ∷ ps) qs h g zero = h 0
all_append (p ∷ ps) qs h g (suc i) = all_append ps qs (λ i. h (suc i)) g i

same_kinds : (j k : LinkKind) → same_kind_lem j k ≡ true → k ≡ j
same_kinds Tx Tx h = refl
same_kinds Tx Rx h = absurd (false≢true h)
same_kinds Rx Tx h = absurd (false≢true h)
same_kinds Rx Rx h = refl

-- the two are reports over lists, and what is made of them is that over both
pub added_fits : (a b : LinkReport) → mergeable a b ≡ true → Fit (added a b)
added_fits a b h =
    let kinds = two (same_kind_lem a.kind b.kind) (leb (a.pairs + b.pairs) most_pairs && (some_value_gives_lem a && some_value_gives_lem b)) h in
    let few = two (leb (a.pairs + b.pairs) most_pairs) (some_value_gives_lem a && some_value_gives_lem b) kinds.1 in
    let given = two (some_value_gives_lem a) (some_value_gives_lem b) few.1 in
    let x = some_list a given.0 in
    let y = some_list b given.1 in
    let y-is : report_over a.kind y.list ≡ b = ap (λ k. report_over k y.list) (sym (same_kinds a.kind b.kind kinds.0)) ∙ y.is in
    let is : report_over a.kind (x.list ++ y.list) ≡ added a b = over_append a.kind x.list y.list ∙ (λ i. added (x.is i) (y-is i)) in
    let all : length (x.list ++ y.list) ≤ most_pairs =
    omega (arith, list_length a x, list_length b y, length-append x.list y.list, leb-true (a.pairs + b.pairs) most_pairs few.0) in
    subst Fit is (over_fits a.kind (x.list ++ y.list) (all_append x.list y.list x.bytes y.bytes) all)

-- by the test
pub merged_gives : (a b : LinkReport) → mergeable a b ≡ true → merged a b ≡ gives (added a b)
unfolding merged
merged_gives a b h = ap (λ c. cond {A = Answer LinkReport} c (gives (added a b)) (refuses 19 [])) h

pub merged_refuses : (a b : LinkReport) → mergeable a b ≡ false → merged a b ≡ refuses 19 []
unfolding merged
merged_refuses a b h = ap (λ c. cond {A = Answer LinkReport} c (gives (added a b)) (refuses 19 [])) h
