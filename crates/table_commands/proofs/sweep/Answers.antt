-- After a sweep the table is one that the table's calls made.
use Rattle.pushing.proofs.Calls.{sweep_made}
use Rattle.table_commands.proofs.sweep.Goals as goal

pub returns : goal.returns
returns c = sweep_made _ _ _ _ c.requires c.sweep-dropped.ensures
