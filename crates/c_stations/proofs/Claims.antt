-- The claims of specs/Claims.antt, proved.
use Rattle.numbers.proofs.Firm.{by_equation}
use Rattle.c_stations.specs.Claims.{Firmness, Claims}

firmness : Firmness
firmness = record {
  association_with = λ station point joined. by_equation _;
  no_address = by_equation _;
  event_numbers = λ heard. by_equation _;
  applied_numbers = λ size taken. by_equation _;
  where_numbers = λ place. by_equation _;
  row_numbers = λ seat. by_equation _;
  ashlar_heard_from_heard = λ heard. by_equation _;
  ashlar_heard_from_refusal = λ refusal. by_equation _;
}

pub claims : Claims
claims = record { firmness = firmness }
