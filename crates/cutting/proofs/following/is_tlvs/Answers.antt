-- `is_tlvs` meets its contract, by what is said of the payload alone.
use Rattle.cutting.proofs.Whole.{are_tlvs, no_tlvs}
use Rattle.cutting.proofs.following.is_tlvs.Goals as goal

pub returns-in-Ok : goal.returns-in-Ok
returns-in-Ok c = are_tlvs _ c.in-Ok.ensures

pub returns-in-Err-Unwalked : goal.returns-in-Err-Unwalked
returns-in-Err-Unwalked c = no_tlvs _ c.in-Err-Unwalked.field-0 c.in-Err-Unwalked.ensures

pub returns-in-Err-Refused : goal.returns-in-Err-Refused
returns-in-Err-Refused c = no_tlvs _ c.in-Err-Refused.field-0 c.in-Err-Refused.ensures
