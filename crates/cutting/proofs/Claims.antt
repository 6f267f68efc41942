-- The claims of specs/Claims.antt, proved.
use lib.ListN.{length}
use Rattle.numbers.specs.Numbers.{mapped}
use Rattle.numbers.proofs.Firm.{by_equation, both}
use Rattle.cutting.specs.Cuts.{check_of}
use Rattle.cutting.specs.Greedy.{cut_into, with_ends}
use Rattle.cutting.specs.Claims.{Firmness, Claims}
use Rattle.cutting.proofs.Exactly.{always_passes, none_exactly, fewest_of_all, none_cut}
use Rattle.walking.proofs.Firm.{by_payload_answer}

firmness : Firmness
firmness = record {
  check = λ message fragments payloads. by_payload_answer (check_of message fragments payloads);
  cut = λ message list. both _ _ (by_payload_answer (mapped length (cut_into message (length list)))) (by_equation (with_ends (cut_into message (length list)) list));
}

pub claims : Claims
claims = record {
  firmness = firmness;
  always_passes = always_passes;
  none_exactly = none_exactly;
  fewest = fewest_of_all;
  none_cut = none_cut;
}
