-- What the loop keeps is `Telling`.
use Rattle.std.proofs.Common.{◌≡◌, ℕ, List, refl, ap, ◌∙◌, subst, length, arith}
use Rattle.table.specs.declared.Table.{Table}
use Rattle.table.specs.Rows.{fresh_table}
use Rattle.stations.specs.Rows.{Stations}
use Rattle.pushing.proofs.Calls.{fresh_made}
use Rattle.house.specs.House.{House, house_of}
use Rattle.watch.specs.Turns.{ByWindows}
use Rattle.watch.proofs.Turning.{Telling, begins, turned_so, ends}
use Rattle.watch.proofs.told_file.Goals as goal

-- the table was fresh
from-fresh : (n : ℕ) (t : Table) (store : List ℕ) (held : Stations) (z : House) (w : List ℕ) → t ≡ fresh_table → Telling n (house_of t store held) z w → ByWindows n (house_of fresh_table store held) z
from-fresh n t store held z w e h = subst (λ (x : Table). ByWindows n (house_of x store held) z) e (ends n (house_of t store held) z w h)

pub loop-init : goal.loop-init
loop-init g c = ((fresh_made _ c.fresh-watch.ensures, omega (arith, c.if-seen-lt-HEADER.false, ap length c.seen.ensures)), (refl, begins _ _ _))

pub returns-then-turn : goal.returns-then-turn
returns-then-turn g c =
    let kept = c.loop.invariant in
    from-fresh _ _ _ _ _ _ c.fresh-watch.ensures (turned_so _ _ _ _ _ _ kept.0.1 kept.1.1 _ kept.1.0 c.turn.ensures.turned)

pub loop-preserved : goal.loop-preserved
loop-preserved g c =
    let kept = c.loop.invariant in
    let did = c.turn.ensures in
    (did.made, (did.long ∙ kept.1.0, turned_so _ _ _ _ _ _ kept.0.1 kept.1.1 _ kept.1.0 did.turned))

pub returns : goal.returns
returns g c = from-fresh _ _ _ _ _ _ c.fresh-watch.ensures c.loop.invariant.1.1
