-- `links::totals::over_pairs` meets its contract. The loop's invariant: the total is that of the pairs passed.
use Rattle.std.proofs.Common.{◌≡◌, ◌+◌, sym, ap, subst, ◌∙◌, arith, rules}
use Rattle.numbers.specs.Numbers.{gives}
use Rattle.links.specs.Reports.{report_over}
use Rattle.links.proofs.Merging.{Fit}
use Rattle.links.proofs.Loop.{so_far, turn, added_next, fits, done}
use Rattle.links.proofs.totals.over_pairs.Goals as goal

pub loop-i-init : goal.loop-i-init
unfolding report_over
loop-i-init c = c.no_pairs-total.ensures

pub returns : goal.returns
returns c =
    let all : c.loop-i.i ≡ c.args.n = omega arith in
    ap gives (c.loop-i.invariant ∙ ap (so_far c.args.kind c.args.value.now) all) ∙ done c.args.kind c.args.value.now c.args.n c.requires.0 c.requires.1

pub slice_bounds-one_pair-end : goal.slice_bounds-one_pair-end
slice_bounds-one_pair-end c =
    let size = c.size_of-size.result in
    let w = (turn c.args.kind c.args.value.now c.args.n c.requires.0 c.requires.1 c.loop-i.i size c.loop-i-test.true c.size_of-size.ensures).inside in
    search rules

pub add-total-requires : goal.add-total-requires
add-total-requires c =
    let size = c.size_of-size.result in
    let next = added_next c.args.kind c.args.value.now c.args.n c.requires.0 c.requires.1 c.loop-i.i size c.loop-i.total c.one_pair.result c.loop-i-test.true c.size_of-size.ensures c.loop-i.invariant c.one_pair.ensures in
    let whole = subst Fit (sym next) (fits c.args.kind c.args.value.now c.args.n c.requires.0 c.requires.1 (λ j. (c.type_inv.value j).fits) (c.loop-i.i + 1) (omega arith)) in
    record { pairs_bound = whole.0; packets_bound = whole.1 }

pub loop-i-preserved : goal.loop-i-preserved
loop-i-preserved c =
    let size = c.size_of-size.result in
    let next = added_next c.args.kind c.args.value.now c.args.n c.requires.0 c.requires.1 c.loop-i.i size c.loop-i.total c.one_pair.result c.loop-i-test.true c.size_of-size.ensures c.loop-i.invariant c.one_pair.ensures in
    c.add-total.ensures ∙ next
