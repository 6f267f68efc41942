-- `header_bytes` meets its contract: each number of two bytes by its quotient and its rest.
use borrow.Author.Rules.{rules}
use Rattle.framing.proofs.Heading.{header_made}
use Rattle.framing.proofs.header_bytes.Goals as goal

pub returns : goal.returns
returns c = header_made c.args.fields _ (search rules) (search rules) c.flags_for.ensures
