-- The claims of specs/Claims.antt, proved.
use Rattle.numbers.proofs.Firm.{by_equation, by_answer, both}
use Rattle.c_records.specs.Claims.{Firmness, Claims}
use Rattle.c_records.proofs.OneByte.{bytes_by_code}
use Rattle.c_records.proofs.Back.{fields_write_back, fields_read_back}

firmness : Firmness
firmness = record {
  address_numbers = λ answer length. by_equation _;
  byte_numbers = λ answer length. by_equation _;
  query_numbers = λ answer length. by_equation _;
  association_numbers = λ answer length. by_equation _;
  capability_numbers = λ answer length. by_equation _;
  address_record = λ code address. by_answer _;
  byte_record = λ code byte. by_answer _;
  query_record = λ query. by_answer _;
  association_record = λ association. by_answer _;
  capability_record = λ capability. by_answer _;
  write_meant = λ meant out. both _ _ (by_answer _) (by_equation _);
  ashlar_query_from_link_metric_query = λ query. by_equation _;
  ashlar_association_from_client_association = λ association. by_equation _;
  ashlar_capability_from_profile2_ap_capability = λ capability. by_equation _;
}

pub claims : Claims
claims = record { firmness = firmness; fields_write_back = fields_write_back; fields_read_back = fields_read_back; bytes_by_code = bytes_by_code }
