-- The claims of specs/Claims.antt, proved.
use lib.ListN.{length}
use Rattle.numbers.specs.Parts.{behind}
use Rattle.numbers.proofs.Firm.{by_equation, by_answer, both}
use Rattle.framing.specs.Tlv.{read_tlv_lem, value_in_lem, value_from, header, tlv_bytes, write_size, leaves}
use Rattle.framing.specs.Cmdu.{read_header, header_bytes_lem, header_size}
use Rattle.framing.specs.Claims.{Firmness, RoundTrip, Claims}
use Rattle.framing.proofs.Heading.{header_back}
use Rattle.framing.proofs.RoundTrip.{read_written, value_written, written_read}
use Rattle.framing.proofs.Shortfall.{of_tlv, of_header}

firmness : Firmness
firmness = record {
  read_tlv = λ s. by_answer (read_tlv_lem s);
  value = λ s. both _ _ (by_equation (value_in_lem (read_tlv_lem s.now) s.now)) (by_equation (behind (value_from (read_tlv_lem s.now)) s));
  write_header = λ t n out. both _ _ (by_answer (write_size n (length out))) (by_equation (leaves (write_size n (length out)) (header t n) out));
  write_tlv = λ t bytes out. both _ _ (by_answer (write_size (length bytes) (length out))) (by_equation (leaves (write_size (length bytes) (length out)) (tlv_bytes t bytes) out));
  read_cmdu_header = λ s. by_answer (read_header s);
  write_cmdu_header = λ fields out. both _ _ (by_answer (header_size (length out))) (by_equation (leaves (header_size (length out)) (header_bytes_lem fields) out));
}

pub round_trip : RoundTrip
round_trip = record { read_written = read_written; value_written = value_written; written_read = written_read }

pub claims : Claims
claims = record { firmness = firmness; round_trip = round_trip; header_back = header_back; shortfalls = record { of_tlv = of_tlv; of_header = of_header } }
