-- A TLV that does not end the message takes at least a byte of the payload.
use Rattle.std.proofs.Common.{arith}
use Rattle.walking.proofs.Stepping.{is_found, passes}
use Rattle.tlvlist.proofs.list.Goals as goal

pub loop-tlv-smaller : goal.loop-tlv-smaller
loop-tlv-smaller g c =
    let o = passes _ _ _ _ (is_found c.in-Tlv.is c.in_ok-step.ensures) in
    omega (arith, o.behind, o.inside)

pub loop-tlv-preserved : goal.loop-tlv-preserved
loop-tlv-preserved g c = (passes _ _ _ _ (is_found c.in-Tlv.is c.in_ok-step.ensures)).inside
