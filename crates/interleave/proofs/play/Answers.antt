-- The table stays one that these calls made.
use Rattle.pushing.proofs.Calls.{fresh_made}
use Rattle.interleave.proofs.play.Goals as goal

pub loop-k-init : goal.loop-k-init
loop-k-init c = fresh_made _ c.fresh-t.ensures
