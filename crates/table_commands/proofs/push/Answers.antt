-- After a push the table is one that the table's calls made.
use Rattle.pushing.proofs.Calls.{push_made}
use Rattle.table_commands.proofs.push.Goals as goal

pub returns : goal.returns
returns c = push_made _ _ _ _ _ _ _ _ _ c.requires c.arrival_in-arrival.ensures c.push.ensures
