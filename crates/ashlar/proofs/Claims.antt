-- The claims of specs/Claims.antt, proved.
use mathlib.Core.Path.{sym, ap, ◌∙◌}
use Rattle.numbers.proofs.Firm.{by_equation, both}
use Rattle.reassembler.proofs.Claims as reassembler
use Rattle.c_answers.specs.Numbers.{push_numbers_lem}
use Rattle.ashlar.specs.Claims.{Firmness, Claims}

firmness : Firmness
firmness = record {
  ashlar_version = by_equation _;
  ashlar_read_header = λ bytes. by_equation _;
  ashlar_write_header = λ fields out. both _ _ (by_equation _) (by_equation _);
  ashlar_walk = λ payload. by_equation _;
  ashlar_walk_into = λ list payload. both _ _ (by_equation _) (by_equation _);
  ashlar_step = λ payload at. by_equation _;
  ashlar_read_kind = λ code value. by_equation _;
  ashlar_find = λ list payload code from. by_equation _;
  ashlar_text = λ code number value. by_equation _;
  ashlar_key = λ sender message_id. by_equation _;
  ashlar_fragments_fresh = by_equation _;
  ashlar_fragments_push = λ t store out a payload p q x y i.
      ((x.crosses ∙ ap push_numbers_lem (x.goes.answers ∙ sym y.goes.answers) ∙ sym y.crosses) i, (x.goes.keeps ∙ sym y.goes.keeps) i, (x.goes.stores ∙ sym y.goes.stores) i, (x.goes.puts ∙ sym y.goes.puts) i);
  ashlar_fragments_show = λ pushed payload out. by_equation _;
  ashlar_fragments_sweep = (reassembler.firmness).sweep;
  ashlar_check = λ message fragments payloads. by_equation _;
  ashlar_cut = λ message ends. both _ _ (by_equation _) (by_equation _);
  ashlar_stations_fresh = by_equation _;
  ashlar_stations_event = λ t station point joined. both _ _ (by_equation _) (by_equation _);
  ashlar_stations_event_from = λ t value. both _ _ (by_equation _) (by_equation _);
  ashlar_stations_at = λ t station. by_equation _;
  ashlar_stations_count = λ t. by_equation _;
  ashlar_stations_row = λ t n. by_equation _;
  ashlar_link_report_tx = λ value. by_equation _;
  ashlar_link_report_rx = λ value. by_equation _;
  ashlar_link_merge = λ one other. by_equation _;
  ashlar_capture_header = λ out. both _ _ (by_equation _) (by_equation _);
  ashlar_capture_frame = λ a payload out. both _ _ (by_equation _) (by_equation _);
  ashlar_capture_check = λ file. by_equation _;
  ashlar_capture_step = λ file at. by_equation _;
  ashlar_capture_frames = λ list file. both _ _ (by_equation _) (by_equation _);
  ashlar_capture_arrival = λ frame. by_equation _;
  ashlar_front = λ code value. by_equation _;
  ashlar_entry_neighbour = λ code value at. by_equation _;
  ashlar_entry_interface = λ code value at. by_equation _;
  ashlar_entry_ipv4 = λ value at. by_equation _;
  ashlar_entry_ipv6 = λ value at. by_equation _;
  ashlar_entry_byte = λ code value at. by_equation _;
  ashlar_entry_radio = λ code value at. by_equation _;
  ashlar_entry_bss = λ code value at. by_equation _;
  ashlar_entry_tx_pair = λ value at. by_equation _;
  ashlar_entry_rx_pair = λ value at. by_equation _;
  ashlar_entries = λ code depth value. by_equation _;
  ashlar_entry_next = λ cursor value. both _ _ (by_equation _) (by_equation _);
  ashlar_entry_at = λ code path value. by_equation _;
  ashlar_entry_count = λ code path value. by_equation _;
  ashlar_read_address = λ code value. by_equation _;
  ashlar_read_byte = λ code value. by_equation _;
  ashlar_read_query = λ value. by_equation _;
  ashlar_read_association = λ value. by_equation _;
  ashlar_read_capability = λ value. by_equation _;
  ashlar_write_tlv = λ tlv_type value out. both _ _ (by_equation _) (by_equation _);
  ashlar_write_kind = λ code bytes out. both _ _ (by_equation _) (by_equation _);
  ashlar_write_address = λ code address out. both _ _ (by_equation _) (by_equation _);
  ashlar_write_byte = λ code byte out. both _ _ (by_equation _) (by_equation _);
  ashlar_write_query = λ query out. both _ _ (by_equation _) (by_equation _);
  ashlar_write_association = λ association out. both _ _ (by_equation _) (by_equation _);
  ashlar_write_capability = λ capability out. both _ _ (by_equation _) (by_equation _);
  ashlar_put_count = λ n out. both _ _ (by_equation _) (by_equation _);
  ashlar_put_front = λ code local neighbour out. both _ _ (by_equation _) (by_equation _);
  ashlar_put_neighbour = λ code neighbour out. both _ _ (by_equation _) (by_equation _);
  ashlar_put_interface = λ code interface out. both _ _ (by_equation _) (by_equation _);
  ashlar_put_ipv4 = λ ipv4 out. both _ _ (by_equation _) (by_equation _);
  ashlar_put_ipv6 = λ ipv6 out. both _ _ (by_equation _) (by_equation _);
  ashlar_put_byte = λ code byte out. both _ _ (by_equation _) (by_equation _);
  ashlar_put_radio = λ code id text out. both _ _ (by_equation _) (by_equation _);
  ashlar_put_bss = λ code bss name out. both _ _ (by_equation _) (by_equation _);
  ashlar_put_tx_pair = λ pair out. both _ _ (by_equation _) (by_equation _);
  ashlar_put_rx_pair = λ pair out. both _ _ (by_equation _) (by_equation _);
  ashlar_fresh = by_equation _;
  ashlar_push = λ t store out a payload p q x y i.
      ((x.crosses ∙ ap push_numbers_lem (x.goes.answers ∙ sym y.goes.answers) ∙ sym y.crosses) i, (x.goes.keeps ∙ sym y.goes.keeps) i, (x.goes.stores ∙ sym y.goes.stores) i, (x.goes.puts ∙ sym y.goes.puts) i);
  ashlar_show = λ pushed payload out. by_equation _;
  ashlar_sweep = (reassembler.firmness).sweep;
  ashlar_station_event = λ t station point joined. both _ _ (by_equation _) (by_equation _);
  ashlar_station_event_from = λ t value. both _ _ (by_equation _) (by_equation _);
  ashlar_station_at = λ t station. by_equation _;
  ashlar_station_count = λ t. by_equation _;
  ashlar_station_row = λ t n. by_equation _;
  ashlar_radio = λ number value. by_equation _;
  ashlar_radio_text = λ number value. by_equation _;
}

pub claims : Claims
claims = record { firmness = firmness }
