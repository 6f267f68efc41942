-- The claims of specs/Claims.antt, proved.
use Rattle.numbers.proofs.Firm.{by_equation, by_answer}
use Rattle.records.specs.Claims.{Firmness, Inside, Claims}
use Rattle.records.proofs.Ways.{by_kind}
use Rattle.records.proofs.Given.{consumed_within}

firmness : Firmness
firmness = record {
  read_record = λ code s. by_answer _;
  read_client_association = λ s. by_answer _;
  from_u8 = λ input. by_equation _;
  supported_freq_band_from_u8 = λ input. by_equation _;
  u8_from_supported_freq_band = λ code. by_equation _;
  ieee1905_profile_version_from_u8 = λ input. by_equation _;
  u8_from_ieee1905_profile_version = λ code. by_equation _;
  link_metric_result_code_from_u8 = λ input. by_equation _;
  u8_from_link_metric_result_code = λ code. by_equation _;
  u8_from_association_state = λ state. by_equation _;
  multi_ap_profile_from_u8 = λ input. by_equation _;
  u8_from_multi_ap_profile = λ code. by_equation _;
  code_of = λ item. by_equation _;
  is_record = λ code. by_equation _;
  measure = λ code s. by_answer _;
}

pub inside : Inside
inside = consumed_within

pub claims : Claims
claims = record { firmness = firmness; own_codes = by_kind; inside = inside }
