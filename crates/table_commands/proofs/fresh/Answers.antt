-- A fresh table is one that the table's calls made.
use Rattle.pushing.proofs.Calls.{fresh_made}
use Rattle.table_commands.proofs.fresh.Goals as goal

pub returns : goal.returns
returns c = fresh_made _ c.fresh.ensures
