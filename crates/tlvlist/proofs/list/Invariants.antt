-- Each turn goes on in the payload.
use Rattle.std.proofs.Common.{◌-◌, ◌≤◌, length}
use Rattle.tlvlist.proofs.list.Given as goal

abbrev pub invariant-loop-tlv : goal.invariant-loop-tlv
invariant-loop-tlv g l = l.at ≤ length l.payload

abbrev pub decreases-loop-tlv : goal.decreases-loop-tlv
decreases-loop-tlv g l = length l.payload - l.at
