-- `links::totals::sum_between` meets its contract: what it multiplies and adds up fits in 32 bits.
use mathlib.Core.Path.{◌∙◌}
use mathlib.Core.Bool.{true, false}
use Rattle.links.proofs.Machine.{widens}
use Rattle.links.proofs.Between.{product_in, others_in, top_in, high_test, by_first}
use Rattle.links.proofs.totals.sum_between.Goals as goal

pub overflow_cast-lowest : goal.overflow_cast-lowest
overflow_cast-lowest c = widens c.args.l c.ranges.l

pub overflow_mul-n : goal.overflow_mul-n
overflow_mul-n c = product_in c.args.n c.args.l c.requires.1 c.ranges.l

pub overflow_mul-result : goal.overflow_mul-result
overflow_mul-result c = others_in c.args.n c.args.l c.requires.1 c.ranges.l

pub overflow_add-result : goal.overflow_add-result
overflow_add-result c = top_in c.args.n c.args.l c.requires.1 c.ranges.l

pub returns-then-n-lowest : goal.returns-then-n-lowest
returns-then-n-lowest c =
    let x = c.args in
    high_test x.n x.l c.requires.1 c.ranges.l x.sum c.ranges.sum ∙
    by_first x.n x.l c.requires.1 c.ranges.l x.sum c.ranges.sum true c.requires.0 c.if-n-lowest.true

pub returns-else-n-lowest : goal.returns-else-n-lowest
returns-else-n-lowest c =
    let x = c.args in
    c.if-n-lowest.false ∙
    by_first x.n x.l c.requires.1 c.ranges.l x.sum c.ranges.sum false c.requires.0 c.if-n-lowest.false
