-- The claims of specs/Claims.antt, proved.
use Rattle.numbers.proofs.Firm.{by_answer}
use Rattle.finding.specs.Claims.{Firmness, OverAWalk, Claims}
use Rattle.walking.proofs.Firm.{by_payload_answer}
use Rattle.finding.proofs.First.{is_first, none_there}
use Rattle.finding.proofs.All.{every_one}
use Rattle.finding.proofs.OfWalk as walk
use Rattle.finding.proofs.Onward.{by_offset}
use Rattle.finding.proofs.Padded.{not_in_padding}

firmness : Firmness
firmness = record {
  find = λ list payload code from. by_answer _;
  find_place = λ list payload code from. by_answer _;
  find_in_payload = λ payload code from. by_payload_answer _;
  find_onward = λ payload code offset looked. by_payload_answer _;
}

over_a_walk : OverAWalk
over_a_walk = record {
  found_is_tlv = walk.found_is_tlv;
  none_is_tlv = walk.none_is_tlv;
  in_filled_list = walk.in_filled_list;
  without_list = walk.without_list;
  not_in_padding = not_in_padding;
}

pub claims : Claims
claims = record {
  firmness = firmness;
  finds_the_first = is_first;
  finds_none = none_there;
  going_on = every_one;
  over_a_walk = over_a_walk;
  going_on_by_offset = λ payload code padding through. by_offset payload padding through code;
}
