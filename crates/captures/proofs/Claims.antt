-- The claims of specs/Claims.antt, proved.
use mathlib.Core.Path.{sym, ◌∙◌}
use mathlib.Core.Bool.{true, false}
use lib.ListN.{length}
use Rattle.numbers.specs.Parts.{behind}
use Rattle.numbers.proofs.Firm.{by_equation, by_telling, by_answer, both}
use Rattle.framing.specs.Tlv.{leaves}
use Rattle.captures.specs.Writing.{our_header, file_header_size, frame_record, frame_size}
use Rattle.captures.specs.Reading.{file_step, reached_of, capture_in, frames_counted, with_room_lem, frames_left, frame_payload, payload_from, arrival_of_lem}
use Rattle.captures.specs.Claims.{Firmness, Claims}
use Rattle.captures.proofs.Accepted.{no_other}
use Rattle.captures.proofs.Faults.{no_late_fault}
use Rattle.captures.proofs.Firm.{reached_one}
use Rattle.captures.proofs.Forms.{form_is}
use Rattle.captures.proofs.Returned.{of_form}
use Rattle.captures.proofs.Pushes.{time_kept, pushes_back}

firmness : Firmness
firmness = record {
  write_file_header = λ out. both _ _ (by_answer (file_header_size (length out))) (by_equation (leaves (file_header_size (length out)) our_header out));
  write_frame = λ a payload out. both _ _ (by_answer (frame_size a.time (length payload) (length out))) (by_equation (leaves (frame_size a.time (length payload) (length out)) (frame_record a payload) out));
  no_frame = by_equation _;
  step = λ file at. by_telling reached_of reached_one (file_step file at);
  check = λ file. by_answer (frames_counted (capture_in file));
  frames_into = λ list file. both _ _ (by_answer (frames_counted (with_room_lem (length list) (capture_in file)))) (by_equation (frames_left (with_room_lem (length list) (capture_in file)) list));
  payload = λ file frame. both _ _ (by_equation (frame_payload file.now frame)) (by_equation (behind (payload_from file.now frame) file));
  arrival_of = λ frame. by_equation (arrival_of_lem frame);
}

pub claims : Claims
claims = record {
  firmness = firmness;
  time_kept = time_kept;
  either_order = λ u v rs fits. form_is true u rs fits ∙ sym (form_is false v rs fits);
  form_read = record { of_form = of_form; no_other = no_other };
  pushes_back = pushes_back;
  no_late_fault = no_late_fault;
}
