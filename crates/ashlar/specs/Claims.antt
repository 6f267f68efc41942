-- What is claimed of the exported calls; proofs/Claims.antt proves it.
use Rattle.std.specs.Prelude.{◌≡◌, Bool, List, [], ◌∷◌, ℕ, length}
use Rattle.numbers.specs.Numbers.{mapped}
use Rattle.numbers.specs.Firmness.{Firm}
use Rattle.framing.specs.Tlv.{write_size, tlv_bytes, leaves}
use Rattle.framing.specs.declared.CmduFields.{CmduFields}
use Rattle.framing.specs.Cmdu.{read_header, header_bytes_lem, header_size}
use Rattle.walking.specs.declared.Tlv.{Tlv}
use Rattle.walking.specs.Walk.{walk_of, counted, listed, filled, step_at}
use Rattle.kinds.specs.Kinds.{read_kind_lem, locate_kind, count_kind, locate_text_in}
use Rattle.layouts.specs.declared.Path.{Path}
use Rattle.layouts.specs.Access.{numbers_of}
use Rattle.entries.specs.declared.Cursor.{Cursor}
use Rattle.entries.specs.Entries.{beginning, gone_on_lem}
use Rattle.finding.specs.Finding.{find_from}
use Rattle.fields.specs.Answers.{front_of_lem, neighbour_at, interface_at, ipv4_at, ipv6_at, byte_at, radio_at, bss_at}
use Rattle.fields.specs.declared.AshlarNeighbour.{AshlarNeighbour}
use Rattle.fields.specs.declared.AshlarInterface.{AshlarInterface}
use Rattle.fields.specs.declared.AshlarIpv4.{AshlarIpv4}
use Rattle.fields.specs.declared.AshlarIpv6.{AshlarIpv6}
use Rattle.fields.specs.declared.AshlarBss.{AshlarBss}
use Rattle.fields.specs.Writing.{front_made, neighbour_made, interface_made, ipv4_made, ipv6_made, byte_made, radio_made, bss_made, count_made, put_size, made_bytes}
use Rattle.kinds.specs.Writing.{write_kind_lem, kind_bytes}
use Rattle.keys.specs.Keys.{key_of}
use Rattle.table.specs.declared.Table.{Table}
use Rattle.texts.specs.Texts.{inventory_code}
use Rattle.texts.specs.Access.{locate_radio, locate_radio_text_lem}
use Rattle.table.specs.Rows.{fresh_table}
use Rattle.sweeping.specs.Sweep.{swept, swept_as}
use Rattle.pushing.specs.declared.Arrival.{Arrival}
use Rattle.pushing.specs.Push.{way}
use Rattle.cutting.specs.declared.Proposed.{Proposed}
use Rattle.cutting.specs.Cuts.{check_of}
use Rattle.cutting.specs.Greedy.{cut_into, with_ends}
use Rattle.c_answers.specs.declared.AshlarWalk.{AshlarWalk}
use Rattle.c_answers.specs.declared.AshlarPushed.{AshlarPushed}
use Rattle.c_answers.specs.declared.AshlarCutting.{AshlarCutting}
use Rattle.c_answers.specs.Numbers.{header_numbers_lem, walk_numbers_lem, step_numbers_lem, kind_numbers_lem, found_numbers_lem, part_numbers_lem, Numbered, shown_in_lem, check_numbers_lem, cut_numbers_lem}
use Rattle.records.specs.declared.MacAddr.{MacAddr}
use Rattle.records.specs.declared.RecordKind.{RecordKind}
use Rattle.records.specs.Values.{octets}
use Rattle.records.specs.Kinds.{code_of}
use Rattle.records.specs.Reading.{read_record_lem}
use Rattle.stations.specs.Addresses.{address_number}
use Rattle.stations.specs.Whereabouts.{event_of}
use Rattle.stations.specs.Rows.{Stations, fresh_stations, where_of, answer_to, table_after, row_at, count_of, where_shown, row_shown}
use Rattle.stations.specs.Events.{answer_from, table_from}
use Rattle.c_stations.specs.declared.AshlarHeard.{AshlarHeard}
use Rattle.c_stations.specs.declared.AshlarApplied.{AshlarApplied}
use Rattle.c_stations.specs.Numbers.{association_with_lem, event_numbers_lem, applied_numbers_lem, where_numbers_lem, row_numbers_lem}
use Rattle.links.specs.declared.LinkKind.TheVariants.{Tx, Rx}
use Rattle.links.specs.Pairs.{tx_pair_at_lem, rx_pair_at_lem}
use Rattle.links.specs.declared.AshlarTxPair.{AshlarTxPair}
use Rattle.links.specs.declared.AshlarRxPair.{AshlarRxPair}
use Rattle.links.specs.Writing.{tx_made, rx_made}
use Rattle.links.specs.Reports.{report_of}
use Rattle.c_links.specs.declared.AshlarReport.{AshlarReport}
use Rattle.c_links.specs.Numbers.{report_numbers_lem, merged_from}
use Rattle.captures.specs.declared.Frame.{Frame}
use Rattle.captures.specs.Writing.{our_header, file_header_size, frame_record, frame_size}
use Rattle.captures.specs.Reading.{file_step, capture_in, frames_counted, with_room_lem, frames_left, arrival_of_lem}
use Rattle.c_captures.specs.declared.AshlarWritten.{AshlarWritten}
use Rattle.c_captures.specs.declared.AshlarCapture.{AshlarCapture}
use Rattle.c_captures.specs.Numbers.{written_numbers_lem, reached_numbers_lem, checked_numbers_lem}
use Rattle.c_entries.specs.declared.AshlarEntry.{AshlarEntry}
use Rattle.c_entries.specs.Numbers.{begun_numbers_lem, entry_numbers_lem, cursor_after_lem, count_numbers_lem}
use Rattle.c_records.specs.declared.AshlarQuery.{AshlarQuery}
use Rattle.c_records.specs.declared.AshlarAssociation.{AshlarAssociation}
use Rattle.c_records.specs.declared.AshlarCapability.{AshlarCapability}
use Rattle.c_records.specs.Shapes.{address_fields, byte_fields, query_fields, association_fields, capability_fields}
use Rattle.c_records.specs.Reading.{read_in_shape, address_numbers_lem, byte_numbers_lem, query_numbers_lem, association_numbers_lem, capability_numbers_lem}
use Rattle.c_records.specs.Writing.{address_record_lem, byte_record_lem, query_record_lem, association_record_lem, capability_record_lem, meant_size, meant_bytes}

-- Rule A4: for each call, by its name, any two answers that its contract allows are one. What the call leaves in the
-- list, the tables, the cursor, the store and the output is part of the answer.
pub record Firmness : Type 0 where
  pub ashlar_version : Firm {A = ℕ} (λ r. r ≡ 10400)
  pub ashlar_read_header : (bytes : List ℕ) → Firm (λ r. r ≡ header_numbers_lem (read_header bytes))
  pub ashlar_write_header : (fields : CmduFields) (out : List ℕ)
      → Firm {A = AshlarWritten × List ℕ} (λ o. (o.0 ≡ written_numbers_lem (header_size (length out))) × (o.1 ≡ leaves (header_size (length out)) (header_bytes_lem fields) out))
  pub ashlar_walk : (payload : List ℕ) → Firm (λ r. r ≡ walk_numbers_lem (counted (walk_of payload)))
  pub ashlar_walk_into : (list : List Tlv) (payload : List ℕ)
      → Firm {A = AshlarWalk × List Tlv} (λ o.
      (o.0 ≡ walk_numbers_lem (listed (length list) (walk_of payload)))
      × (o.1 ≡ filled (listed (length list) (walk_of payload)) (walk_of payload).items list))
  pub ashlar_step : (payload : List ℕ) (at : ℕ) → Firm (λ r. r ≡ step_numbers_lem (step_at payload at))
  pub ashlar_read_kind : (code : ℕ) (value : List ℕ) → Firm (λ r. r ≡ kind_numbers_lem (read_kind_lem code value))
  pub ashlar_find : (list : List Tlv) (payload : List ℕ) (code from : ℕ)
      → Firm (λ r. r ≡ found_numbers_lem (mapped (λ h. h.looked) (find_from code list payload from)))
  pub ashlar_text : (code number : ℕ) (value : List ℕ) → Firm (λ r. r ≡ part_numbers_lem (locate_text_in code number value))
  pub ashlar_key : (sender : MacAddr) (message_id : ℕ) → Firm (λ r. r ≡ key_of (octets sender) message_id)
  pub ashlar_fragments_fresh : Firm {A = Table} (λ t'. t' ≡ fresh_table)
  pub ashlar_fragments_push : (t : Table) (store out : List ℕ) (a : Arrival) (payload : List ℕ)
      → Firm {A = AshlarPushed × Table × List ℕ × List ℕ} (λ o.
      Numbered (way t store a payload (length out)) t store out a payload o.0 o.1 o.2 o.3)
  pub ashlar_fragments_show : (pushed : AshlarPushed) (payload out : List ℕ)
      → Firm (λ r. r ≡ shown_in_lem pushed (length payload) (length out))
  pub ashlar_fragments_sweep : (t : Table) (time : ℕ) → Firm {A = ℕ × Table} (λ o. swept_as o.1 o.0 ≡ swept t time)
  pub ashlar_check : (message : List ℕ) (fragments : List Proposed) (payloads : List ℕ)
      → Firm (λ r. r ≡ check_numbers_lem (check_of message fragments payloads))
  pub ashlar_cut : (message ends : List ℕ)
      → Firm {A = AshlarCutting × List ℕ} (λ o.
      (o.0 ≡ cut_numbers_lem (mapped length (cut_into message (length ends))))
      × (o.1 ≡ with_ends (cut_into message (length ends)) ends))
  pub ashlar_stations_fresh : Firm {A = Stations} (λ t'. t' ≡ fresh_stations)
  pub ashlar_stations_event : (t : Stations) (station point : MacAddr) (joined : Bool)
      → Firm {A = AshlarHeard × Stations} (λ o.
      (o.0 ≡ event_numbers_lem (answer_to t (event_of (association_with_lem station point joined))))
      × (o.1 ≡ table_after t (event_of (association_with_lem station point joined))))
  pub ashlar_stations_event_from : (t : Stations) (value : List ℕ)
      → Firm {A = AshlarApplied × Stations} (λ o.
      (o.0 ≡ applied_numbers_lem (length value) (answer_from t value)) × (o.1 ≡ table_from t value))
  pub ashlar_stations_at : (t : Stations) (station : MacAddr)
      → Firm (λ r. r ≡ where_numbers_lem (where_shown (where_of t (address_number station))))
  pub ashlar_stations_count : (t : Stations) → Firm (λ r. r ≡ count_of t)
  pub ashlar_stations_row : (t : Stations) (n : ℕ) → Firm (λ r. r ≡ row_numbers_lem (row_shown (row_at t n)))
  pub ashlar_link_report_tx : (value : List ℕ) → Firm (λ r. r ≡ report_numbers_lem (report_of Tx value))
  pub ashlar_link_report_rx : (value : List ℕ) → Firm (λ r. r ≡ report_numbers_lem (report_of Rx value))
  pub ashlar_link_merge : (one other : AshlarReport) → Firm (λ r. r ≡ report_numbers_lem (merged_from one other))
  pub ashlar_capture_header : (out : List ℕ)
      → Firm {A = AshlarWritten × List ℕ} (λ o. (o.0 ≡ written_numbers_lem (file_header_size (length out))) × (o.1 ≡ leaves (file_header_size (length out)) our_header out))
  pub ashlar_capture_frame : (a : Arrival) (payload out : List ℕ)
      → Firm {A = AshlarWritten × List ℕ} (λ o.
      (o.0 ≡ written_numbers_lem (frame_size a.time (length payload) (length out)))
      × (o.1 ≡ leaves (frame_size a.time (length payload) (length out)) (frame_record a payload) out))
  pub ashlar_capture_check : (file : List ℕ) → Firm (λ r. r ≡ checked_numbers_lem (frames_counted (capture_in file)))
  pub ashlar_capture_step : (file : List ℕ) (at : ℕ) → Firm (λ r. r ≡ reached_numbers_lem (file_step file at))
  pub ashlar_capture_frames : (list : List Frame) (file : List ℕ)
      → Firm {A = AshlarCapture × List Frame} (λ o.
      (o.0 ≡ checked_numbers_lem (frames_counted (with_room_lem (length list) (capture_in file))))
      × (o.1 ≡ frames_left (with_room_lem (length list) (capture_in file)) list))
  pub ashlar_capture_arrival : (frame : Frame) → Firm (λ r. r ≡ arrival_of_lem frame)
  pub ashlar_front : (code : ℕ) (value : List ℕ) → Firm (λ r. r ≡ front_of_lem code value)
  pub ashlar_entry_neighbour : (code : ℕ) (value : List ℕ) (at : ℕ) → Firm (λ r. r ≡ neighbour_at code value at)
  pub ashlar_entry_interface : (code : ℕ) (value : List ℕ) (at : ℕ) → Firm (λ r. r ≡ interface_at code value at)
  pub ashlar_entry_ipv4 : (value : List ℕ) (at : ℕ) → Firm (λ r. r ≡ ipv4_at value at)
  pub ashlar_entry_ipv6 : (value : List ℕ) (at : ℕ) → Firm (λ r. r ≡ ipv6_at value at)
  pub ashlar_entry_byte : (code : ℕ) (value : List ℕ) (at : ℕ) → Firm (λ r. r ≡ byte_at code value at)
  pub ashlar_entry_radio : (code : ℕ) (value : List ℕ) (at : ℕ) → Firm (λ r. r ≡ radio_at code value at)
  pub ashlar_entry_bss : (code : ℕ) (value : List ℕ) (at : ℕ) → Firm (λ r. r ≡ bss_at code value at)
  pub ashlar_entry_tx_pair : (value : List ℕ) (at : ℕ) → Firm (λ r. r ≡ tx_pair_at_lem value at)
  pub ashlar_entry_rx_pair : (value : List ℕ) (at : ℕ) → Firm (λ r. r ≡ rx_pair_at_lem value at)
  pub ashlar_entries : (code depth : ℕ) (value : List ℕ) → Firm (λ r. r ≡ begun_numbers_lem (beginning code depth value))
  pub ashlar_entry_next : (cursor : Cursor) (value : List ℕ)
      → Firm {A = AshlarEntry × Cursor} (λ o.
      (o.0 ≡ entry_numbers_lem (gone_on_lem cursor value)) × (o.1 ≡ cursor_after_lem cursor (gone_on_lem cursor value)))
  pub ashlar_entry_at : (code : ℕ) (path : Path) (value : List ℕ)
      → Firm (λ r. r ≡ part_numbers_lem (locate_kind code (numbers_of path) value))
  pub ashlar_entry_count : (code : ℕ) (path : Path) (value : List ℕ)
      → Firm (λ r. r ≡ count_numbers_lem (count_kind code (numbers_of path) value))
  pub ashlar_read_address : (code : ℕ) (value : List ℕ)
      → Firm (λ r. r ≡ address_numbers_lem (read_in_shape address_fields (length value) (read_record_lem code value)))
  pub ashlar_read_byte : (code : ℕ) (value : List ℕ)
      → Firm (λ r. r ≡ byte_numbers_lem (read_in_shape byte_fields (length value) (read_record_lem code value)))
  pub ashlar_read_query : (value : List ℕ)
      → Firm (λ r. r ≡ query_numbers_lem (read_in_shape query_fields (length value) (read_record_lem (code_of RecordKind.LinkMetricQuery) value)))
  pub ashlar_read_association : (value : List ℕ)
      → Firm (λ r. r ≡ association_numbers_lem (read_in_shape association_fields (length value) (read_record_lem (code_of RecordKind.ClientAssociation) value)))
  pub ashlar_read_capability : (value : List ℕ)
      → Firm (λ r. r ≡ capability_numbers_lem (read_in_shape capability_fields (length value) (read_record_lem (code_of RecordKind.Profile2ApCapability) value)))
  pub ashlar_write_tlv : (tlv_type : ℕ) (value out : List ℕ)
      → Firm {A = AshlarWritten × List ℕ} (λ o.
      (o.0 ≡ written_numbers_lem (write_size (length value) (length out)))
      × (o.1 ≡ leaves (write_size (length value) (length out)) (tlv_bytes tlv_type value) out))
  pub ashlar_write_kind : (code : ℕ) (bytes out : List ℕ)
      → Firm {A = AshlarWritten × List ℕ} (λ o.
      (o.0 ≡ written_numbers_lem (write_kind_lem code bytes (length out)))
      × (o.1 ≡ leaves (write_kind_lem code bytes (length out)) (kind_bytes code bytes) out))
  pub ashlar_write_address : (code : ℕ) (address : MacAddr) (out : List ℕ)
      → Firm {A = AshlarWritten × List ℕ} (λ o.
      (o.0 ≡ written_numbers_lem (meant_size (address_record_lem code address) (length out)))
      × (o.1 ≡ leaves (meant_size (address_record_lem code address) (length out)) (meant_bytes (address_record_lem code address)) out))
  pub ashlar_write_byte : (code byte : ℕ) (out : List ℕ)
      → Firm {A = AshlarWritten × List ℕ} (λ o.
      (o.0 ≡ written_numbers_lem (meant_size (byte_record_lem code byte) (length out)))
      × (o.1 ≡ leaves (meant_size (byte_record_lem code byte) (length out)) (meant_bytes (byte_record_lem code byte)) out))
  pub ashlar_write_query : (query : AshlarQuery) (out : List ℕ)
      → Firm {A = AshlarWritten × List ℕ} (λ o.
      (o.0 ≡ written_numbers_lem (meant_size (query_record_lem query) (length out)))
      × (o.1 ≡ leaves (meant_size (query_record_lem query) (length out)) (meant_bytes (query_record_lem query)) out))
  pub ashlar_write_association : (association : AshlarAssociation) (out : List ℕ)
      → Firm {A = AshlarWritten × List ℕ} (λ o.
      (o.0 ≡ written_numbers_lem (meant_size (association_record_lem association) (length out)))
      × (o.1 ≡ leaves (meant_size (association_record_lem association) (length out)) (meant_bytes (association_record_lem association)) out))
  pub ashlar_write_capability : (capability : AshlarCapability) (out : List ℕ)
      → Firm {A = AshlarWritten × List ℕ} (λ o.
      (o.0 ≡ written_numbers_lem (meant_size (capability_record_lem capability) (length out)))
      × (o.1 ≡ leaves (meant_size (capability_record_lem capability) (length out)) (meant_bytes (capability_record_lem capability)) out))
  pub ashlar_put_count : (n : ℕ) (out : List ℕ)
      → Firm {A = AshlarWritten × List ℕ} (λ o.
      (o.0 ≡ written_numbers_lem (put_size (count_made n) (length out)))
      × (o.1 ≡ leaves (put_size (count_made n) (length out)) (made_bytes (count_made n)) out))
  pub ashlar_put_front : (code : ℕ) (local neighbour : MacAddr) (out : List ℕ)
      → Firm {A = AshlarWritten × List ℕ} (λ o.
      (o.0 ≡ written_numbers_lem (put_size (front_made code local neighbour) (length out)))
      × (o.1 ≡ leaves (put_size (front_made code local neighbour) (length out)) (made_bytes (front_made code local neighbour)) out))
  pub ashlar_put_neighbour : (code : ℕ) (neighbour : AshlarNeighbour) (out : List ℕ)
      → Firm {A = AshlarWritten × List ℕ} (λ o.
      (o.0 ≡ written_numbers_lem (put_size (neighbour_made code neighbour) (length out)))
      × (o.1 ≡ leaves (put_size (neighbour_made code neighbour) (length out)) (made_bytes (neighbour_made code neighbour)) out))
  pub ashlar_put_interface : (code : ℕ) (interface : AshlarInterface) (out : List ℕ)
      → Firm {A = AshlarWritten × List ℕ} (λ o.
      (o.0 ≡ written_numbers_lem (put_size (interface_made code interface) (length out)))
      × (o.1 ≡ leaves (put_size (interface_made code interface) (length out)) (made_bytes (interface_made code interface)) out))
  pub ashlar_put_ipv4 : (ipv4 : AshlarIpv4) (out : List ℕ)
      → Firm {A = AshlarWritten × List ℕ} (λ o.
      (o.0 ≡ written_numbers_lem (put_size (ipv4_made ipv4) (length out)))
      × (o.1 ≡ leaves (put_size (ipv4_made ipv4) (length out)) (made_bytes (ipv4_made ipv4)) out))
  pub ashlar_put_ipv6 : (ipv6 : AshlarIpv6) (out : List ℕ)
      → Firm {A = AshlarWritten × List ℕ} (λ o.
      (o.0 ≡ written_numbers_lem (put_size (ipv6_made ipv6) (length out)))
      × (o.1 ≡ leaves (put_size (ipv6_made ipv6) (length out)) (made_bytes (ipv6_made ipv6)) out))
  pub ashlar_put_byte : (code byte : ℕ) (out : List ℕ)
      → Firm {A = AshlarWritten × List ℕ} (λ o.
      (o.0 ≡ written_numbers_lem (put_size (byte_made code byte) (length out)))
      × (o.1 ≡ leaves (put_size (byte_made code byte) (length out)) (made_bytes (byte_made code byte)) out))
  pub ashlar_put_radio : (code : ℕ) (id : MacAddr) (text out : List ℕ)
      → Firm {A = AshlarWritten × List ℕ} (λ o.
      (o.0 ≡ written_numbers_lem (put_size (radio_made code id text) (length out)))
      × (o.1 ≡ leaves (put_size (radio_made code id text) (length out)) (made_bytes (radio_made code id text)) out))
  pub ashlar_put_bss : (code : ℕ) (bss : AshlarBss) (name out : List ℕ)
      → Firm {A = AshlarWritten × List ℕ} (λ o.
      (o.0 ≡ written_numbers_lem (put_size (bss_made code bss name) (length out)))
      × (o.1 ≡ leaves (put_size (bss_made code bss name) (length out)) (made_bytes (bss_made code bss name)) out))
  pub ashlar_put_tx_pair : (pair : AshlarTxPair) (out : List ℕ)
      → Firm {A = AshlarWritten × List ℕ} (λ o.
      (o.0 ≡ written_numbers_lem (put_size (tx_made pair) (length out)))
      × (o.1 ≡ leaves (put_size (tx_made pair) (length out)) (made_bytes (tx_made pair)) out))
  pub ashlar_put_rx_pair : (pair : AshlarRxPair) (out : List ℕ)
      → Firm {A = AshlarWritten × List ℕ} (λ o.
      (o.0 ≡ written_numbers_lem (put_size (rx_made pair) (length out)))
      × (o.1 ≡ leaves (put_size (rx_made pair) (length out)) (made_bytes (rx_made pair)) out))
  -- by the names that these calls had first
  pub ashlar_fresh : Firm (λ r. r ≡ fresh_table)
  pub ashlar_push : (t : Table) (store out : List ℕ) (a : Arrival) (payload : List ℕ)
      → Firm {A = AshlarPushed × Table × List ℕ × List ℕ} (λ o.
      Numbered (way t store a payload (length out)) t store out a payload o.0 o.1 o.2 o.3)
  pub ashlar_show : (pushed : AshlarPushed) (payload out : List ℕ)
      → Firm (λ r. r ≡ shown_in_lem pushed (length payload) (length out))
  pub ashlar_sweep : (t : Table) (time : ℕ) → Firm {A = ℕ × Table} (λ o. swept_as o.1 o.0 ≡ swept t time)
  pub ashlar_station_event : (t : Stations) (station point : MacAddr) (joined : Bool)
      → Firm {A = AshlarHeard × Stations} (λ o.
      (o.0 ≡ event_numbers_lem (answer_to t (event_of (association_with_lem station point joined))))
      × (o.1 ≡ table_after t (event_of (association_with_lem station point joined))))
  pub ashlar_station_event_from : (t : Stations) (value : List ℕ)
      → Firm {A = AshlarApplied × Stations} (λ o.
      (o.0 ≡ applied_numbers_lem (length value) (answer_from t value)) × (o.1 ≡ table_from t value))
  pub ashlar_station_at : (t : Stations) (station : MacAddr)
      → Firm (λ r. r ≡ where_numbers_lem (where_shown (where_of t (address_number station))))
  pub ashlar_station_count : (t : Stations) → Firm (λ r. r ≡ count_of t)
  pub ashlar_station_row : (t : Stations) (n : ℕ) → Firm (λ r. r ≡ row_numbers_lem (row_shown (row_at t n)))
  pub ashlar_radio : (number : ℕ) (value : List ℕ) → Firm (λ r. r ≡ part_numbers_lem (locate_radio inventory_code (number ∷ []) value))
  pub ashlar_radio_text : (number : ℕ) (value : List ℕ) → Firm (λ r. r ≡ part_numbers_lem (locate_radio_text_lem number value))

-- everything that is claimed of this crate
pub record Claims : Type 0 where
  pub firmness : Firmness
