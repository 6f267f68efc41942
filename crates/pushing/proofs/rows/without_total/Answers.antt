-- A list of 16 has no row from 16 on.
use mathlib.Core.Path.{◌≡◌, sym}
use native.Mathlib.Omega.{arith}
use lib.ListN.{length}
use lib.Seq.{set_out}
use borrow.Author.Rules.{rules}
use Rattle.pushing.proofs.rows.without_total.Goals as goal

pub returns-else-row-lt-KEYS : goal.returns-else-row-lt-KEYS
returns-else-row-lt-KEYS c =
    let a = c.args in
    let long : length a.totals ≡ 16 = search rules in
    sym (set_out a.totals a.row 0 (omega arith))
