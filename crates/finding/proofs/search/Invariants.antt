-- `search` meets its contract: what the loop keeps is `Searching`, and what is left of the payload falls.
use Prim.Native.Nat.{◌-◌}
use lib.ListN.{length}
use Rattle.finding.proofs.Searching.{Searching}
use Rattle.finding.proofs.search.Given as goal

abbrev pub invariant-loop-tlv : goal.invariant-loop-tlv
invariant-loop-tlv l = Searching l.code l.payload l.from l.offset l.before l.at l.looked

abbrev pub decreases-loop-tlv : goal.decreases-loop-tlv
decreases-loop-tlv l = length l.payload - l.at
