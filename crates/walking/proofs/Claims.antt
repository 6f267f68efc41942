-- The claims of specs/Claims.antt, proved.
use lib.ListN.{length}
use Rattle.numbers.proofs.Firm.{by_equation, by_telling, both}
use Rattle.walking.specs.Walk.{stepped_of, step_at, walk_of, counted, listed, filled}
use Rattle.walking.specs.Claims.{Firmness, Claims, tlv_of_lem}
use Rattle.walking.proofs.Chained.{of_walk}
use Rattle.walking.proofs.Firm.{stepped_one, by_answer_at}
use Rattle.walking.proofs.Marked.{marker_ends, no_marker}
use Rattle.walking.proofs.Pieces.{in_pieces}
use Rattle.walking.proofs.Room.{room_needed}
use Rattle.walking.proofs.Shortfall.{exact}
use Rattle.walking.proofs.Written.{as_written, all_told}

firmness : Firmness
firmness = record {
  step = λ p at. by_telling stepped_of stepped_one (step_at p at);
  walk = λ p. by_answer_at (counted (walk_of p));
  walk_into = λ list p. both _ _ (by_answer_at (listed (length list) (walk_of p))) (by_equation (filled (listed (length list) (walk_of p)) (walk_of p).items list));
  payload_error_from_unwalked = λ stopped. by_equation _;
  payload_error_from_refusal = λ refusal. by_equation _;
}

pub claims : Claims
claims = record {
  firmness = firmness;
  walk_written = λ p bytes. all_told p (tlv_of_lem p) (as_written p bytes) (of_walk p);
  marker_ends = marker_ends;
  no_marker = no_marker;
  walk_shortfall = exact;
  in_pieces = in_pieces;
  room_needed = room_needed;
}
