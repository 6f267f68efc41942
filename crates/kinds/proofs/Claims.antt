-- The claims of specs/Claims.antt, proved.
use mathlib.Core.Path.{sym}
use Rattle.numbers.proofs.Firm.{by_equation, by_answer, both}
use Rattle.kinds.specs.Claims.{Firmness, Claims}
use Rattle.kinds.proofs.Apart.{apart}
use Rattle.kinds.proofs.RoundTrip.{reads_back, record_reads_back, value_writes_back, tlv_writes_back}
use Rattle.kinds.proofs.Laws.{within}

firmness : Firmness
firmness = record {
  is_kind = λ code. by_equation _;
  read_kind = λ code s. by_answer _;
  measure = λ code s. by_answer _;
  locate = λ code path s. by_answer _;
  entry = λ code path s. both _ _ (by_equation _) (by_equation _);
  count = λ code path s. by_answer _;
  locate_text = λ code number s. by_answer _;
  write_kind = λ code bytes out. both _ _ (by_answer _) (by_equation _);
}

pub claims : Claims
claims = record {
  firmness = firmness;
  apart = apart;
  all_of_it = λ code s t e. within code s t (sym e);
  reads_back = reads_back;
  record_reads_back = record_reads_back;
  value_writes_back = value_writes_back;
  tlv_writes_back = tlv_writes_back;
}
