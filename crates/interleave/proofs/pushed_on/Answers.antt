-- `pushed_on` meets its contract: push keeps a table that these calls made.
use Rattle.pushing.proofs.Byte.{number_byte}
use Rattle.pushing.proofs.Calls.{push_made}
use Rattle.interleave.proofs.pushed_on.Goals as goal

pub returns : goal.returns
returns c = push_made _ _ _ _ _ _ _ _ _ c.requires (number_byte c.args.a _ c.well_formed.1.1.1.0) c.push_step.ensures
