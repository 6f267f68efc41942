-- Worked examples of the rules, proved as one table. There is a row for each choice that code and definition could get
-- wrong alike: where both are wrong in the same way no contract notices, and these rows do. A row is an equation
-- between what a definition gives and what the rule says.
use Rattle.std.specs.Prelude.{◌≡◌, true, false, List, [], ◌∷◌, ◌++◌, ℕ, ◌+◌, length, take, drop, replicate, pos, negsuc, Some, None}
use Rattle.numbers.specs.Numbers.{gives, refuses}
use Rattle.machines.specs.Machine.{those}
use Rattle.framing.specs.Tlv.{read_tlv_lem, value_in_lem, header, write_size, tlv_bytes, leaves}
use Rattle.framing.specs.Cmdu.{read_header}
use Rattle.walking.specs.Steps.{passed, last, ended}
use Rattle.walking.specs.Claims.{short_tlvs}
use Rattle.walking.specs.Walk.{step_at, walk_of, counted, listed, filled}
use Rattle.records.specs.declared.Record.{Record}
use Rattle.records.specs.declared.SupportedFreqBand.{SupportedFreqBand}
use Rattle.records.specs.declared.Ieee1905ProfileVersion.{Ieee1905ProfileVersion}
use Rattle.records.specs.declared.LinkMetricResultCode.{LinkMetricResultCode}
use Rattle.records.specs.declared.AssociationState.{AssociationState}
use Rattle.records.specs.declared.MultiApProfile.{MultiApProfile}
use Rattle.records.specs.Reading.{read_record_lem}
use Rattle.record_writing.specs.Writing.{record_size_lem}
use Rattle.layouts.specs.Access.{part_of}
use Rattle.utf8.specs.Utf8.{is_utf8_lem}
use Rattle.texts.specs.Access.{locate_radio_text_lem}
use Rattle.kinds.specs.declared.Contents.{Contents}
use Rattle.kinds.specs.Kinds.{read_kind_lem, locate_kind, count_kind, locate_text_in}
use Rattle.kinds.specs.Writing.{write_kind_lem, kind_bytes}
use Rattle.entries.specs.Entries.{beginning, next_is, none_left_lem, gone_on_lem}
use Rattle.entries.specs.Claims.{by_numbers}
use Rattle.finding.specs.Finding.{find_from, find_in_payload_lem, find_onward_lem}
use Rattle.pushing.specs.Push.{Way, refuse, duplicate, keep_at, open_at, end, waiting, duplicated, inconsistent, missing, missing_last, single, joined as joinedAs, way_by, keep_way, message_way}
use Rattle.orders.specs.Runs.{Push, push, sweep, pushed, dropped, after, reply_to, start, holding, holds_nothing, replies_to}
use Rattle.stations.specs.declared.Heard.{Heard}
use Rattle.stations.specs.Rows.{fresh_stations, answer_to, table_after, held_row, count_of}
use Rattle.stations.specs.Events.{answer_from, table_from}
use Rattle.captures.specs.Form.{is1905}
use Rattle.captures.specs.Writing.{our_header, frame_record, frame_size}
use Rattle.captures.specs.Reading.{capture_in, frame_payload, arrival_of_lem}
use Rattle.examples.specs.Captured.{low_header, high_header, an_arrival, a_frame, low_record, high_record, as_read}
use Rattle.c_answers.specs.Numbers.{header_numbers_lem, walk_numbers_lem, tlv_at_lem, step_numbers_lem, kind_numbers_lem, found_numbers_lem, part_numbers_lem, push_numbers_lem, shown_in_lem, check_numbers_lem, cut_numbers_lem}
use Rattle.links.specs.declared.LinkKind.TheVariants.{Tx, Rx}
use Rattle.links.specs.Pairs.{signed}
use Rattle.links.specs.Reports.{report_of, signals_fit_lem, merged, no_pairs_lem}
use Rattle.cutting.specs.Cuts.{check_of}
use Rattle.cutting.specs.Greedy.{ends_over, cut_into, with_ends}
use Rattle.c_links.specs.Numbers.{report_numbers_lem, report_from_lem}
use Rattle.c_stations.specs.Numbers.{no_address_lem, event_numbers_lem, applied_numbers_lem, where_numbers_lem, row_numbers_lem}
use Rattle.c_records.specs.Shapes.{address_fields, byte_fields, query_fields, association_fields, capability_fields}
use Rattle.c_records.specs.Reading.{read_in_shape, address_numbers_lem, byte_numbers_lem, query_numbers_lem, association_numbers_lem, capability_numbers_lem}
use Rattle.c_records.specs.Writing.{address_record_lem, byte_record_lem, query_record_lem, association_record_lem, capability_record_lem, meant_size, meant_bytes}
use Rattle.examples.specs.Given.{even_mac, association_of_law, associated, padded, able, codes_below, one_record_lem, a_list, and_more, entry_of_lem, mac, kept_mac, home, services, plain_neighbours, neighbours, sent_over, received_over, links_sent, links_received, static, ipv4, by_itself, ipv6, bridges, operational, among, entry_at_lem, configured, beyond, e_acute, identification, inventory, text_of, on_the_edge, past_the_edge, with_a_byte, with_none, two_tlvs, join_of, leave_of, with_7, with_128, rows_below, LetIn, ZeroThenLastOne, marker, proposal}

pub record OfFraming : Type 0 where
  -- Rule B3: no byte, and two bytes, are fewer than three: 1 with the shortfall.
  pub empty : read_tlv_lem [] ≡ refuses 1 (3 ∷ [])
  pub two_bytes : read_tlv_lem (0x01 ∷ 0x00 ∷ []) ≡ refuses 1 (1 ∷ [])
  -- Rule B3: an empty value; the three bytes are consumed.
  pub end_marker : read_tlv_lem (0x00 ∷ 0x00 ∷ 0x00 ∷ []) ≡ gives (record { tlv_type = 0; value_length = 0; consumed = 3 })
  -- Rule B3: a value of two bytes of which one is there: 2 with the shortfall.
  pub runs_past : read_tlv_lem (0x01 ∷ 0x00 ∷ 0x02 ∷ 0xAA ∷ []) ≡ refuses 2 (1 ∷ [])
  -- Rule B3: of six bytes five are consumed, and the value is the last two of these.
  pub read : read_tlv_lem (0x01 ∷ 0x00 ∷ 0x02 ∷ 0xAA ∷ 0xBB ∷ 0xCC ∷ []) ≡ gives (record { tlv_type = 1; value_length = 2; consumed = 5 })
  pub value : value_in_lem (read_tlv_lem (0x01 ∷ 0x00 ∷ 0x02 ∷ 0xAA ∷ 0xBB ∷ 0xCC ∷ [])) (0x01 ∷ 0x00 ∷ 0x02 ∷ 0xAA ∷ 0xBB ∷ 0xCC ∷ []) ≡ 0xAA ∷ 0xBB ∷ []
  -- Rule B3: the largest length, and no byte of the value: all of it is missing.
  pub runs_far_past : read_tlv_lem (0x01 ∷ 0xFF ∷ 0xFF ∷ []) ≡ refuses 2 (65535 ∷ [])
  -- Rule B6: the fields of a CMDU header in their order. Bit 7 alone of the flags is the last mark.
  pub header_of : read_header (0x01 ∷ 0x02 ∷ 0x80 ∷ 0x03 ∷ 0x12 ∷ 0x34 ∷ 0x05 ∷ 0x80 ∷ [])
      ≡ gives (record { message_version = 1; reserved = 2; message_type = 0x8003; message_id = 0x1234; fragment = 5; flags = 0x80; last_fragment = true })
  pub not_the_last : read_header (replicate 7 0x00 ++ (0x7F ∷ []))
      ≡ gives (record { message_version = 0; reserved = 0; message_type = 0; message_id = 0; fragment = 0; flags = 0x7F; last_fragment = false })
  -- Rule B6: fewer than 8 bytes: 1 with the shortfall.
  pub no_header : read_header [] ≡ refuses 1 (8 ∷ [])
  pub seven_bytes : read_header (replicate 7 0x80) ≡ refuses 1 (1 ∷ [])
  -- Rule B5: the longest value in room that is just enough; 8 comes before 7.
  pub longest : write_size 65535 65538 ≡ gives 65538
  pub a_byte_too_long : write_size 65536 0 ≡ refuses 8 []
  pub a_byte_of_room_too_few : write_size 65535 65537 ≡ refuses 7 []
  -- Rules B1 and B2: the type, and then the length with its higher byte first.
  pub header_bytes : header 0x92 0x1234 ≡ 0x92 ∷ 0x12 ∷ 0x34 ∷ []
  -- Rule B5: room past the TLV keeps what it held. Rule A3: a refusal changes nothing.
  pub past_it : leaves (write_size 0 5) (header 2 0) (1 ∷ 2 ∷ 3 ∷ 4 ∷ 5 ∷ []) ≡ 2 ∷ 0 ∷ 0 ∷ 4 ∷ 5 ∷ []
  pub as_lent : leaves (write_size 0 2) (header 2 0) (1 ∷ 2 ∷ []) ≡ 1 ∷ 2 ∷ []

pub record OfWalks : Type 0 where
  -- Rule W3: no byte, no TLV.
  pub no_tlvs : counted (walk_of []) ≡ gives (record { count = 0; padding = 0 })
  -- Rule W3: a topology query has a header of 8 bytes and the end marker. With 35 zero bytes after it, it has the 46
  -- that Ethernet asks for: one TLV, and 35 bytes of padding.
  pub padded_to : length (padded 35) ≡ 46
  pub padded_walk : counted (walk_of (drop 8 (padded 35))) ≡ gives (record { count = 1; padding = 35 })
  pub unpadded_walk : counted (walk_of (drop 8 (padded 0))) ≡ gives (record { count = 1; padding = 0 })
  -- Rule W2: the marker is the last three of seven bytes; and a TLV of type 0 with a value is no marker.
  pub end_7 : counted (walk_of (0x01 ∷ 0x00 ∷ 0x01 ∷ 0x7F ∷ 0x00 ∷ 0x00 ∷ 0x00 ∷ [])) ≡ gives (record { count = 2; padding = 0 })
  pub type_0_with_a_length : counted (walk_of (0x00 ∷ 0x00 ∷ 0x01 ∷ 0x7F ∷ 0x01 ∷ 0x00 ∷ 0x00 ∷ [])) ≡ gives (record { count = 2; padding = 0 })
  -- Rule W6: a step over a TLV, over the marker, and at the end.
  pub step_over : step_at two_tlvs 0 ≡ gives (passed with_a_byte 4)
  pub step_at_the_marker : step_at (0x00 ∷ 0x00 ∷ 0x00 ∷ 0x01 ∷ []) 0 ≡ gives (last (record { tlv_type = 0; length = 0; offset = 0 }) 3)
  pub step_at_the_end : step_at two_tlvs 7 ≡ gives ended
  -- Rule W4: the offset of the TLV that can't be read, and then the shortfall.
  pub cut_header : counted (walk_of (two_tlvs ++ (0x03 ∷ 0x00 ∷ []))) ≡ refuses 1 (7 ∷ 1 ∷ [])
  pub cut_value : counted (walk_of (two_tlvs ++ (0x03 ∷ 0x00 ∷ 0x05 ∷ 0x09 ∷ []))) ≡ refuses 2 (7 ∷ 4 ∷ [])
  -- Rule W5: 14 with the offset of the first TLV that has no element; 1 and 2 come before 14; a list that is just long
  -- enough; and an element that keeps what it held.
  pub list_too_short : listed 1 (walk_of two_tlvs) ≡ refuses 14 (4 ∷ [])
  pub no_list : listed 0 (walk_of two_tlvs) ≡ refuses 14 (0 ∷ [])
  pub fault_before_14 : listed 0 (walk_of (two_tlvs ++ (0x03 ∷ 0x00 ∷ []))) ≡ refuses 1 (7 ∷ 1 ∷ [])
  pub just_enough : listed 2 (walk_of two_tlvs) ≡ gives (record { count = 2; padding = 0 })
  pub list_filled : filled (listed 3 (walk_of two_tlvs)) (walk_of two_tlvs).items (with_none ∷ with_none ∷ with_a_byte ∷ []) ≡ with_a_byte ∷ with_none ∷ with_a_byte ∷ []
  -- Rule W7: 496 TLVs of type 1 without a value, and one with a value of 1 byte. They are 1,492 bytes, and 497 TLVs.
  pub as_many_as_fit : length (short_tlvs 496 1) ≡ 1492
  pub each_counted : counted (walk_of (short_tlvs 496 1)) ≡ gives (record { count = 497; padding = 0 })
  pub list_long_enough : listed 497 (walk_of (short_tlvs 496 1)) ≡ counted (walk_of (short_tlvs 496 1))

pub record OfKinds : Type 0 where
  -- Rule K2: all codes that a kind has.
  pub all_codes : codes_below 256 ≡ 0xD4 ∷ 0xB7 ∷ 0xB4 ∷ 0xB3 ∷ 0x92 ∷ 0x83 ∷ 0x80 ∷ 26 ∷ 24 ∷ 23 ∷ 22 ∷ 21 ∷ 16 ∷ 15 ∷ 13 ∷ 12 ∷ 10 ∷ 9 ∷ 8 ∷ 7 ∷ 6 ∷ 4 ∷ 2 ∷ 1 ∷ 0 ∷ []
  -- Rules K2 and K5: 0x80 says joined, 0x00 left, and any other byte is refused by 5.
  pub joined : read_kind_lem 0x92 (association_of_law 0x80) ≡ one_record_lem (associated AssociationState.JoinedBss) 13 0
  pub left : read_kind_lem 0x92 (association_of_law 0x00) ≡ one_record_lem (associated AssociationState.LeftBss) 13 0
  pub neither : read_kind_lem 0x92 (association_of_law 0x81) ≡ refuses 5 []
  -- Rules K2 and K5: profile 0 is refused by 5, and 4 is kept as reserved.
  pub no_profile : read_kind_lem 0xB3 (0x00 ∷ []) ≡ refuses 5 []
  pub reserved_profile : read_kind_lem 0xB3 (0x04 ∷ []) ≡ one_record_lem (Record.MultiApProfile (MultiApProfile.Reserved 4)) 1 0
  -- Rule K6: in the third byte 0xA8, the units are MiB, and prioritization and traffic separation are set.
  pub capability : read_kind_lem 0xB4 (0x00 ∷ 0x00 ∷ 0xA8 ∷ 0x02 ∷ []) ≡ one_record_lem able 4 0
  -- Rule K4: an address and five bytes of an entry, which count as left over.
  pub cut_entry : read_kind_lem 6 (replicate 11 0x02) ≡ refuses 4 []
  -- Rule K1: seven bytes are an address and a rest of one.
  pub al_mac_address : read_kind_lem 1 (and_more (mac 1)) ≡ one_record_lem (Record.AlMacAddress (kept_mac 1)) 6 1
  -- Rules K2 and K4: each other kind by a value and a byte more, which is the rest or is refused. For a list also the
  -- last entry of the deepest level (rule E1).
  pub end_of_message : read_kind_lem 0 [] ≡ one_record_lem Record.EndOfMessage 0 0
  pub no_end_of_message : read_kind_lem 0 (0x78 ∷ []) ≡ refuses 4 []
  pub mac_address : read_kind_lem 2 (and_more (mac 2)) ≡ one_record_lem (Record.MacAddress (kept_mac 2)) 6 1
  pub searched_role : read_kind_lem 13 (and_more (0x00 ∷ [])) ≡ one_record_lem (Record.SearchedRole 0) 1 1
  pub supported_role : read_kind_lem 15 (and_more (0x00 ∷ [])) ≡ one_record_lem (Record.SupportedRole 0) 1 1
  pub band : read_kind_lem 16 (and_more (0x01 ∷ [])) ≡ one_record_lem (Record.SupportedFreqBand SupportedFreqBand.Band_802_11_5) 1 1
  pub version : read_kind_lem 26 (and_more (0x01 ∷ [])) ≡ one_record_lem (Record.Ieee1905ProfileVersion Ieee1905ProfileVersion.Ieee1905_1a) 1 1
  pub result_code : read_kind_lem 12 (and_more (0x00 ∷ [])) ≡ one_record_lem (Record.LinkMetricResultCode LinkMetricResultCode.InvalidNeighbor) 1 1
  pub query_of_all : read_kind_lem 8 (and_more (0x00 ∷ 0x02 ∷ [])) ≡ one_record_lem (Record.LinkMetricQuery (record { neighbor_type = 0; neighbor_mac = None; requested_metrics = 2 })) 2 1
  pub query_of_one : read_kind_lem 8 (and_more (0x01 ∷ (mac 2 ++ (0x02 ∷ []))))
      ≡ one_record_lem (Record.LinkMetricQuery (record { neighbor_type = 1; neighbor_mac = Some (kept_mac 2); requested_metrics = 2 })) 8 1
  pub association_left_over : read_kind_lem 0x92 (and_more (association_of_law 0x80)) ≡ one_record_lem (associated AssociationState.JoinedBss) 13 1
  pub profile : read_kind_lem 0xB3 (and_more (0x02 ∷ [])) ≡ one_record_lem (Record.MultiApProfile MultiApProfile.Profile2) 1 1
  pub capability_left_over : read_kind_lem 0xB4 (and_more (0x00 ∷ 0x00 ∷ 0xA8 ∷ 0x02 ∷ [])) ≡ one_record_lem able 4 1
  pub supported_service : read_kind_lem 0x80 (and_more services) ≡ a_list 2 3 1
  pub agent : entry_of_lem 0x80 (1 ∷ []) services ≡ 0x01 ∷ []
  pub non_1905_neighbours : read_kind_lem 6 plain_neighbours ≡ a_list 2 18 0
  pub last_plain_neighbour : entry_of_lem 6 (1 ∷ []) plain_neighbours ≡ mac 3
  pub ieee1905_neighbours : read_kind_lem 7 neighbours ≡ a_list 2 20 0
  pub cut_neighbour : read_kind_lem 7 (and_more neighbours) ≡ refuses 4 []
  pub last_neighbour : entry_of_lem 7 (1 ∷ []) neighbours ≡ mac 3 ++ (0x80 ∷ [])
  pub sent_links : read_kind_lem 9 links_sent ≡ a_list 2 70 0
  pub cut_sent_link : read_kind_lem 9 (and_more links_sent) ≡ refuses 4 []
  pub last_sent_link : entry_of_lem 9 (1 ∷ []) links_sent ≡ sent_over 5 6
  pub received_links : read_kind_lem 10 links_received ≡ a_list 2 58 0
  pub cut_received_link : read_kind_lem 10 (and_more links_received) ≡ refuses 4 []
  pub last_received_link : entry_of_lem 10 (1 ∷ []) links_received ≡ received_over 5 6
  pub no_links : read_kind_lem 10 (mac 1 ++ mac 2) ≡ a_list 0 12 0
  pub ipv4_interfaces : read_kind_lem 23 (and_more ipv4) ≡ a_list 1 26 1
  pub last_ipv4 : entry_of_lem 23 (0 ∷ 1 ∷ []) ipv4 ≡ static
  pub ipv6_interfaces : read_kind_lem 24 (and_more ipv6) ≡ a_list 1 57 1
  pub last_ipv6 : entry_of_lem 24 (0 ∷ 0 ∷ []) ipv6 ≡ by_itself
  pub bridging : read_kind_lem 4 (and_more bridges) ≡ a_list 2 21 1
  pub last_bridged : entry_of_lem 4 (1 ∷ 0 ∷ []) bridges ≡ mac 3
  pub operational_radios : read_kind_lem 0x83 (and_more operational) ≡ a_list 1 31 1
  pub last_letter : entry_of_lem 0x83 (0 ∷ 1 ∷ 4 ∷ []) operational ≡ 0x74 ∷ []
  pub configured_radios : read_kind_lem 0xB7 (and_more configured) ≡ a_list 1 35 1
  pub last_letter_configured : entry_of_lem 0xB7 (0 ∷ 1 ∷ 4 ∷ []) configured ≡ 0x74 ∷ []
  -- Rules K1, K4 and E2: a code that no kind has, a value cut short, and entries that no list has.
  pub unknown_kind : read_kind_lem 30 beyond ≡ refuses 16 []
  pub cut_record : read_kind_lem 1 (0x02 ∷ []) ≡ refuses 3 []
  pub cut_list : read_kind_lem 23 (0x01 ∷ mac 1) ≡ refuses 3 []
  pub cut_front : read_kind_lem 6 (0x02 ∷ []) ≡ refuses 3 []
  pub cut_sent_front : read_kind_lem 9 (replicate 11 0x02) ≡ refuses 3 []
  pub cut_received_front : read_kind_lem 10 (replicate 11 0x02) ≡ refuses 3 []
  pub no_such_entry : locate_kind 0x80 (2 ∷ []) services ≡ refuses 6 []
  pub no_numbers : locate_kind 0x80 [] services ≡ refuses 6 []
  pub one_number_too_many : locate_kind 0x80 (1 ∷ 0 ∷ []) services ≡ refuses 6 []
  pub entry_in_a_sent_link : locate_kind 9 (0 ∷ 0 ∷ []) links_sent ≡ refuses 6 []
  pub entry_in_a_received_link : locate_kind 10 (0 ∷ 0 ∷ []) links_received ≡ refuses 6 []
  pub entry_of_a_record : locate_kind 1 (0 ∷ []) (mac 1) ≡ refuses 6 []
  pub entry_of_a_cut_record : locate_kind 1 (0 ∷ []) (0x02 ∷ []) ≡ refuses 3 []
  pub entry_of_no_kind : locate_kind 30 (0 ∷ []) beyond ≡ refuses 16 []
  -- Rule E3: how many entries the list in an entry has; a record kind has no list.
  pub entries_counted : count_kind 0x83 (0 ∷ []) operational ≡ gives 2
  pub letters_counted : count_kind 0x83 (0 ∷ 1 ∷ []) operational ≡ gives 5
  pub none_counted_in_a_record : count_kind 1 [] (mac 1) ≡ refuses 6 []
  -- Rules O1 to O3: each refusal on writing, but for 8; the rest is not written.
  pub written_without_its_rest : kind_bytes 0x80 (and_more services) ≡ 0x80 ∷ 0x00 ∷ 0x03 ∷ services
  pub size_written : write_kind_lem 0x80 (and_more services) 6 ≡ gives 6
  pub no_room_for_it : write_kind_lem 0x80 services 5 ≡ refuses 7 []
  pub unknown_kind_written : write_kind_lem 30 beyond 32 ≡ refuses 16 []
  pub cut_value_written : write_kind_lem 0x80 (0x02 ∷ []) 0 ≡ refuses 3 []
  pub left_over_written : write_kind_lem 0 (0x78 ∷ []) 0 ≡ refuses 4 []
  pub bad_value_written : write_kind_lem 0xB3 (0x00 ∷ []) 0 ≡ refuses 5 []
  pub no_text_written : write_kind_lem 22 (0xFF ∷ []) 0 ≡ refuses 18 []
  pub record_written : record_size_lem (Record.MacAddress (kept_mac 1)) 9 ≡ gives 9
  pub no_room_for_a_record : record_size_lem (Record.MacAddress (kept_mac 1)) 8 ≡ refuses 7 []
  pub never_read : record_size_lem (Record.SupportedFreqBand (SupportedFreqBand.Reserved 2)) 0 ≡ refuses 9 []
  pub role_never_read : record_size_lem (Record.SearchedRole 1) 0 ≡ refuses 9 []
  pub stray_address : record_size_lem (Record.LinkMetricQuery (record { neighbor_type = 0; neighbor_mac = Some (kept_mac 2); requested_metrics = 2 })) 0 ≡ refuses 9 []

pub record OfTexts : Type 0 where
  -- Rules K2 and E6 to E8: the kinds that hold text, and their texts.
  pub device_identification : read_kind_lem 21 (and_more identification) ≡ a_list 0 192 1
  pub model_name : text_of 21 0 identification ≡ e_acute
  pub no_name : text_of 21 1 identification ≡ []
  pub all_64 : text_of 21 2 identification ≡ replicate 64 0x61
  pub control_url : read_kind_lem 22 (and_more e_acute) ≡ a_list 0 3 0
  pub zero_in_a_url : text_of 22 0 (0x00 ∷ e_acute) ≡ 0x00 ∷ e_acute
  pub device_inventory : read_kind_lem 0xD4 (and_more inventory) ≡ a_list 2 36 1
  pub second_string : text_of 0xD4 1 inventory ≡ 0x67 ∷ 0x75 ∷ 0x65 ∷ 0x73 ∷ 0x74 ∷ []
  pub last_radio : entry_of_lem 0xD4 (1 ∷ []) inventory ≡ mac 2 ++ home
  pub no_byte_of_it : locate_kind 0xD4 (1 ∷ 0 ∷ []) inventory ≡ refuses 6 []
  pub last_chip : part_of (locate_radio_text_lem 1 inventory) inventory ≡ 0x68 ∷ 0x6F ∷ 0x6D ∷ 0x65 ∷ []
  -- Rule E5: every character on the edge of a line of RFC 3629's grammar is UTF-8, and none of its neighbours outside.
  pub accepted : those is_utf8_lem on_the_edge ≡ on_the_edge
  pub refused : those is_utf8_lem past_the_edge ≡ []
  pub no_text : read_kind_lem 22 (0xC0 ∷ 0x80 ∷ []) ≡ refuses 18 []
  -- Rule K7: 3 comes before 18, where the first text is bad and there is no second one.
  pub cut_wins : read_kind_lem 0xD4 (0x01 ∷ 0xFF ∷ []) ≡ refuses 3 []
  -- Rules E7 and E8: no such text, and a text of a kind that is no text kind: 6, once the value has read.
  pub no_fourth_text : locate_text_in 21 3 identification ≡ refuses 6 []
  pub text_of_a_record : locate_text_in 1 0 (mac 1) ≡ refuses 6 []
  pub no_third_radio : locate_radio_text_lem 2 inventory ≡ refuses 6 []
  -- Rule E3: the radios are counted; kinds 21 and 22 have no entries; a radio has no list.
  pub radios_counted : count_kind 0xD4 [] inventory ≡ gives 2
  pub no_radios_counted : count_kind 21 [] identification ≡ gives 0
  pub no_entries_of_a_url : count_kind 22 [] e_acute ≡ gives 0
  pub no_list_in_a_radio : count_kind 0xD4 (0 ∷ []) inventory ≡ refuses 6 []
  pub no_list_in_a_url : count_kind 22 (0 ∷ []) e_acute ≡ refuses 6 []

pub record OfEntries : Type 0 where
  -- Rule E9: one radio with two networks, gone over two levels down. The letters of a network's name are counted, and
  -- passed.
  pub begun : beginning 0x83 2 (and_more operational) ≡ gives (record { cursor = among 2 1 1 0 0; entries = 1; consumed = 31; rest = 1 })
  pub radio : gone_on_lem (among 2 1 1 0 0) operational ≡ gives (next_is (entry_at_lem 1 2 1) (among 2 8 0 2 0))
  pub network : gone_on_lem (among 2 8 0 2 0) operational ≡ gives (next_is (entry_at_lem 8 4 2) (among 2 19 0 1 0))
  pub last_network : gone_on_lem (among 2 19 0 1 0) operational ≡ gives (next_is (entry_at_lem 19 5 2) (among 2 31 0 0 0))
  pub none_left : gone_on_lem (among 2 31 0 0 0) operational ≡ gives none_left_lem
  -- With a level more, the letters come after their network.
  pub its_letters : gone_on_lem (among 3 8 0 2 0) operational ≡ gives (next_is (entry_at_lem 8 4 2) (among 3 15 0 1 4))
  pub no_level : beginning 0x83 0 operational ≡ gives (record { cursor = among 0 1 0 0 0; entries = 1; consumed = 31; rest = 0 })
  -- Rule E10: the same entries by their numbers. A radio of an inventory has no entries (rule E8).
  pub by_number : by_numbers 2 0x83 operational [] ≡ entry_at_lem 1 2 1 ∷ entry_at_lem 8 4 2 ∷ entry_at_lem 19 5 2 ∷ []
  pub radios_by_number : by_numbers 3 0xD4 inventory [] ≡ entry_at_lem 13 0 1 ∷ entry_at_lem 25 0 1 ∷ []
  -- Rule E9: 6 for a record and for a level that there isn't, 3 where the value ends inside, 16 for another code.
  pub begun_in_a_record : beginning 1 1 (mac 1) ≡ refuses 6 []
  pub no_such_level : gone_on_lem (record { at = 1; left1 = 0; left2 = 1; left3 = 0; code = 0x80; depth = 1 }) services ≡ refuses 6 []
  pub past_the_end : gone_on_lem (among 2 31 0 1 0) operational ≡ refuses 3 []
  pub of_no_list : gone_on_lem (record { at = 0; left1 = 1; left2 = 0; left3 = 0; code = 1; depth = 1 }) (mac 1) ≡ refuses 16 []

pub record OfFinding : Type 0 where
  -- Rule F1: of three records, the one at place 0 doesn't read as kind 2, and the next one is of kind 1.
  pub found_at : find_from 2 (with_none ∷ with_a_byte ∷ record { tlv_type = 2; length = 6; offset = 4 } ∷ []) (two_tlvs ++ mac 3) 0
      ≡ gives (record { looked = 3; tlv = record { tlv_type = 2; length = 6; offset = 4 }; reading = record { held = Contents.One (Record.MacAddress (kept_mac 3)); consumed = 6; rest = 0 } })
  -- 15 carries the list's length, wherever the search starts, and 0 for an empty list
  pub none_found : find_from 2 (with_none ∷ with_a_byte ∷ []) two_tlvs 0 ≡ refuses 15 (2 ∷ [])
  pub none_from_the_second : find_from 2 (with_none ∷ with_a_byte ∷ []) two_tlvs 1 ≡ refuses 15 (2 ∷ [])
  pub none_beyond_the_list : find_from 2 (with_none ∷ with_a_byte ∷ []) two_tlvs 9 ≡ refuses 15 (2 ∷ [])
  pub none_in_no_list : find_from 2 [] two_tlvs 0 ≡ refuses 15 (0 ∷ [])
  pub no_kind_to_find : find_from 30 (record { tlv_type = 30; length = 29; offset = 0 } ∷ []) (tlv_bytes 30 beyond) 0 ≡ refuses 16 []
  -- Rule F4: in a payload 16 comes first, then the walk's own refusal, then 15.
  pub none_in_a_payload : find_in_payload_lem 2 two_tlvs 0 ≡ refuses 15 (2 ∷ [])
  pub unwalked : find_in_payload_lem 2 (0x02 ∷ []) 0 ≡ refuses 1 (0 ∷ 2 ∷ [])
  pub no_kind_in_a_payload : find_in_payload_lem 30 (0x02 ∷ []) 0 ≡ refuses 16 []
  -- Rule F5: going on after two TLVs, at offset 7. A step that is refused gives its offset, 15 the number of all TLVs;
  -- and more TLVs than bytes before the offset count as the offset.
  pub none_onward : find_onward_lem 2 two_tlvs 7 2 ≡ refuses 15 (2 ∷ [])
  pub onward_over_both : find_onward_lem 2 two_tlvs 0 0 ≡ refuses 15 (2 ∷ [])
  pub fault_onward : find_onward_lem 2 (two_tlvs ++ (0x03 ∷ 0x00 ∷ [])) 4 1 ≡ refuses 1 (7 ∷ 1 ∷ [])
  pub no_kind_onward : find_onward_lem 3 (0x02 ∷ []) 0 0 ≡ refuses 16 []
  pub too_many_before : find_onward_lem 2 two_tlvs 4 100 ≡ refuses 15 (5 ∷ [])

pub record OfTheTable : Type 0 where
  -- Rules T4 to T7: push's steps in their order. 11, then 12, then a number that is held, then the last mark.
  pub store_too_small : (keeps joins : Way) → way_by 47743 1493 0 false keeps joins ≡ refuse 11 []
  pub payload_too_long : (keeps joins : Way) → way_by 47744 1493 0 false keeps joins ≡ refuse 12 []
  pub held_already : (keeps joins : Way) → way_by 47744 1492 31 true keeps joins ≡ duplicate
  pub kept_if_not_last : (keeps joins : Way) → way_by 47744 1492 32 false keeps joins ≡ keeps
  pub joined_if_last : (keeps joins : Way) → way_by 47744 1492 32 true keeps joins ≡ joins
  -- Rule T6: 10 where no place is free, or no row for a new key. A key that has a row needs none.
  pub no_place_free : keep_way (record { row = 0; place = 32; free = 32; spare = 0; first = 0 }) (record { keys = 1; places = 7 }) ≡ refuse 10 []
  pub no_row_free : keep_way (record { row = 16; place = 32; free = 31; spare = 16; first = 16 }) (record { keys = 0; places = 0 }) ≡ refuse 10 []
  pub row_of_its_own : keep_way (record { row = 15; place = 32; free = 31; spare = 16; first = 15 }) (record { keys = 4; places = 7 }) ≡ keep_at 31
  pub new_row : keep_way (record { row = 16; place = 32; free = 0; spare = 15; first = 3 }) (record { keys = 3; places = 7 }) ≡ open_at 0 15
  pub eight_places : keep_way (record { row = 3; place = 32; free = 0; spare = 15; first = 3 }) (record { keys = 1; places = 8 }) ≡ refuse 20 []
  pub four_keys : keep_way (record { row = 16; place = 32; free = 0; spare = 15; first = 3 }) (record { keys = 4; places = 4 }) ≡ refuse 20 []
  pub share_before_room : keep_way (record { row = 16; place = 32; free = 32; spare = 16; first = 3 }) (record { keys = 4; places = 4 }) ≡ refuse 20 []
  -- Rule T9: 13 carries the length of a message of two fragments or more. A message of one needs no output.
  pub output_too_small : message_way 2 (1 ∷ 2 ∷ 3 ∷ []) 2 ≡ refuse 13 (3 ∷ [])
  pub output_just_enough : message_way 2 (1 ∷ 2 ∷ 3 ∷ []) 3 ≡ end (joinedAs 3) (1 ∷ 2 ∷ 3 ∷ [])
  pub single_needs_none : message_way 1 (1 ∷ 2 ∷ 3 ∷ []) 0 ≡ end (single 3) []
  -- Rule S1: a fragment that is not marked last is pushed. A sweep 2,999 milliseconds later drops nothing, and one
  -- 3,000 milliseconds later drops its key.
  pub stays : (store : List ℕ) (p : Push) → LetIn store p → p.arrival.fragment.last ≡ false
      → (reply_to (after (start store) (push p)) (sweep (p.arrival.time + 2999)) ≡ dropped 0)
      × (holding p.arrival.key (after (after (start store) (push p)) (sweep (p.arrival.time + 2999))) ≡ holding p.arrival.key (after (start store) (push p)))
  pub goes : (store : List ℕ) (p : Push) → LetIn store p → p.arrival.fragment.last ≡ false
      → (reply_to (after (start store) (push p)) (sweep (p.arrival.time + 3000)) ≡ dropped 1)
      × (holding p.arrival.key (after (after (start store) (push p)) (sweep (p.arrival.time + 3000))) ≡ holds_nothing)
  -- Rules T6 and T9: fragment 0, and then fragment 1 with the last mark, are a whole message.
  pub completes : (store : List ℕ) (p q : Push) → LetIn store p → LetIn store q → ZeroThenLastOne p q
      → replies_to q.arrival.key (start store) (push p ∷ push q ∷ [])
      ≡ pushed (gives waiting) [] ∷ pushed (gives (joinedAs (length (p.payload ++ q.payload)))) (p.payload ++ q.payload) ∷ []
  -- Rule T8: fragment 1 with the last mark, without fragment 0, is answered by "missing".
  pub alone : (store : List ℕ) (p : Push) → LetIn store p → p.arrival.fragment.number ≡ 1 → p.arrival.fragment.last ≡ true
      → reply_to (start store) (push p) ≡ pushed (gives missing) []

-- Rules P2 to P6: each answer of an event, with the stations that the table holds after it.
pub record OfStations : Type 0 where
  pub placed : (answer_to fresh_stations (join_of 7 1) ≡ gives Heard.New) × (rows_below 128 with_7 ≡ held_row 7 1 ∷ [])
  -- Rule P2: a move says where the station was.
  pub moved : (answer_to with_7 (join_of 7 2) ≡ gives (Heard.Moved (record { b0 = 0; b1 = 0; b2 = 0; b3 = 0; b4 = 0; b5 = 1 })))
      × (rows_below 128 (table_after with_7 (join_of 7 2)) ≡ held_row 7 2 ∷ [])
  pub same : (answer_to with_7 (join_of 7 1) ≡ gives Heard.There) × (rows_below 128 (table_after with_7 (join_of 7 1)) ≡ held_row 7 1 ∷ [])
  pub second : (answer_to with_7 (join_of 0 1) ≡ gives Heard.New) × (rows_below 128 (table_after with_7 (join_of 0 1)) ≡ held_row 0 1 ∷ held_row 7 1 ∷ [])
  pub removed : (answer_to with_7 (leave_of 7 1) ≡ gives Heard.Removed) × (rows_below 128 (table_after with_7 (leave_of 7 1)) ≡ [])
  -- Rule P3: a late leave, and a leave of a station that is not held.
  pub late : (answer_to with_7 (leave_of 7 2) ≡ gives Heard.Stale) × (rows_below 128 (table_after with_7 (leave_of 7 2)) ≡ held_row 7 1 ∷ [])
  pub not_held : (answer_to with_7 (leave_of 8 1) ≡ gives Heard.Stale) × (rows_below 128 (table_after with_7 (leave_of 8 1)) ≡ held_row 7 1 ∷ [])
  -- Rule P4: with 128 held, another station's join is refused by 17, and a station that is held moves. Rule P7: a leave
  -- makes room.
  pub held_128 : count_of with_128 ≡ 128
  pub unknown_refused : (answer_to with_128 (join_of 128 1) ≡ refuses 17 []) × (rows_below 128 (table_after with_128 (join_of 128 1)) ≡ rows_below 128 with_128)
  pub known_moves : (answer_to with_128 (join_of 5 2) ≡ gives (Heard.Moved (record { b0 = 0; b1 = 0; b2 = 0; b3 = 0; b4 = 0; b5 = 1 }))) × (count_of (table_after with_128 (join_of 5 2)) ≡ 128)
  pub leave_frees : (answer_to with_128 (leave_of 5 1) ≡ gives Heard.Removed) × (answer_to (table_after with_128 (leave_of 5 1)) (join_of 128 1) ≡ gives Heard.New)
  -- Rule P6: an event in a value of kind 0x92. The bytes consumed, or the reader's refusal, which changes nothing.
  pub event_read : answer_from fresh_stations (and_more (association_of_law 0x80)) ≡ gives (record { heard = Heard.New; consumed = 13 })
  pub event_cut : (answer_from with_7 (0x02 ∷ []) ≡ refuses 3 []) × (rows_below 128 (table_from with_7 (0x02 ∷ [])) ≡ held_row 7 1 ∷ [])
  pub event_unreadable : (answer_from with_7 (association_of_law 0x81) ≡ refuses 5 []) × (rows_below 128 (table_from with_7 (association_of_law 0x81)) ≡ held_row 7 1 ∷ [])

-- Rules Q2 to Q7: signal strengths at both ends, reports over the values above, and which sums two signals can have.
pub record OfLinks : Type 0 where
  pub signals : (signed 0x7F ≡ pos 127) × (signed 0x80 ≡ negsuc 127) × (signed 0xFF ≡ negsuc 0)
  pub over_sent : report_of Tx links_sent ≡ gives (record { kind = Tx; pairs = 2; errors = 14; packets = 2000; low = None; sum = pos 0 })
  pub over_received : report_of Rx links_received ≡ gives (record { kind = Rx; pairs = 2; errors = 14; packets = 2000; low = Some (negsuc 59); sum = negsuc 119 })
  pub no_sent_pairs : report_of Tx (replicate 12 0) ≡ gives (no_pairs_lem Tx)
  pub no_received_pairs : report_of Rx (replicate 12 0) ≡ gives (no_pairs_lem Rx)
  pub short_front : report_of Rx (replicate 11 0) ≡ refuses 3 []
  pub cut_pair : report_of Rx (replicate 13 0) ≡ refuses 4 []
  pub two_kinds : merged (no_pairs_lem Tx) (no_pairs_lem Rx) ≡ refuses 19 []
  pub lowest_sum : (signals_fit_lem Rx 2 (Some (negsuc 4)) (negsuc 10) ≡ false) × (signals_fit_lem Rx 2 (Some (negsuc 4)) (negsuc 9) ≡ true)
  pub highest_sum : (signals_fit_lem Rx 2 (Some (negsuc 4)) (pos 122) ≡ true) × (signals_fit_lem Rx 2 (Some (negsuc 4)) (pos 123) ≡ false)
  pub sent_has_none : signals_fit_lem Tx 1 (Some (pos 0)) (pos 0) ≡ false

-- Rule C1: each answer as C gets it, in the fields of the structs of include/ashlar.h.
pub record OfCutting : Type 0 where
  -- Rule M3: a marker alone is one fragment, and two TLVs may be two. A cut inside a value, an id that differs, a mark
  -- too early, a number that is not the next and a payload outside the lent slice are not accepted.
  pub marker_alone : check_of marker (proposal 7 0 true 0 3 ∷ []) marker ≡ gives true
  pub two_fragments : check_of two_tlvs (proposal 7 0 false 0 4 ∷ proposal 7 1 true 4 3 ∷ []) two_tlvs ≡ gives true
  pub cut_inside_a_value : check_of two_tlvs (proposal 7 0 false 0 3 ∷ proposal 7 1 true 3 4 ∷ []) two_tlvs ≡ gives false
  pub two_ids : check_of two_tlvs (proposal 7 0 false 0 4 ∷ proposal 8 1 true 4 3 ∷ []) two_tlvs ≡ gives false
  pub marked_too_early : check_of two_tlvs (proposal 7 0 true 0 4 ∷ proposal 7 1 true 4 3 ∷ []) two_tlvs ≡ gives false
  pub numbers_swapped : check_of two_tlvs (proposal 7 1 false 0 4 ∷ proposal 7 0 true 4 3 ∷ []) two_tlvs ≡ gives false
  pub outside_the_slice : check_of marker (proposal 7 0 true 1 3 ∷ []) marker ≡ gives false
  pub empty_among_others : check_of marker (proposal 7 0 false 0 0 ∷ proposal 7 1 true 0 3 ∷ []) marker ≡ gives false
  -- Rule M3: the empty message is one empty fragment, not none and not two.
  pub empty_message : check_of [] (proposal 7 0 true 0 0 ∷ []) [] ≡ gives true
  pub no_fragment_lem : check_of [] [] [] ≡ gives false
  pub two_empty_ones : check_of [] (proposal 7 0 false 0 0 ∷ proposal 7 1 true 0 0 ∷ []) [] ≡ gives false
  -- Rule M1: the message's own refusals, whatever the fragments are.
  pub padded_message : check_of (marker ++ (0x00 ∷ [])) [] [] ≡ refuses 4 []
  pub cut_message : check_of (0x01 ∷ 0x00 ∷ 0x02 ∷ 0xAA ∷ []) [] [] ≡ refuses 2 (0 ∷ 1 ∷ [])
  -- Rule M5: the ends, over TLVs of these lengths. A fragment is filled to 1,492 bytes, and not to 1,493.
  pub filled_up : ends_over (1489 ∷ 3 ∷ 3 ∷ []) ≡ gives (1492 ∷ 1495 ∷ [])
  pub one_byte_over : ends_over (1490 ∷ 3 ∷ []) ≡ gives (1490 ∷ 1493 ∷ [])
  pub longest_tlv : ends_over (1492 ∷ []) ≡ gives (1492 ∷ [])
  pub tlv_too_long : ends_over (1493 ∷ []) ≡ refuses 21 []
  pub nine_full : ends_over (replicate 9 1492)
      ≡ gives (1492 ∷ 2984 ∷ 4476 ∷ 5968 ∷ 7460 ∷ 8952 ∷ 10444 ∷ 11936 ∷ 13428 ∷ [])
  pub nine_full_and_a_marker : ends_over (replicate 9 1492 ++ (3 ∷ [])) ≡ refuses 21 []
  -- Rule M5: the empty message has one end. A list without a place: 7, and it stays as lent.
  pub end_of_none : cut_into [] 1 ≡ gives (0 ∷ [])
  pub no_place : cut_into [] 0 ≡ refuses 7 []
  pub ends_listed : with_ends (cut_into two_tlvs 2) (9 ∷ 9 ∷ []) ≡ 7 ∷ 9 ∷ []
  pub list_as_lent : with_ends (cut_into (marker ++ (0x00 ∷ [])) 2) (9 ∷ 9 ∷ []) ≡ 9 ∷ 9 ∷ []

pub record OfC : Type 0 where
  pub c_header : header_numbers_lem (gives (record { message_version = 1; reserved = 2; message_type = 3; message_id = 4; fragment = 5; flags = 0x86; last_fragment = true }))
      ≡ record { shortfall = 0; version = 1; reserved = 2; message_type = 3; message_id = 4; number = 5; flags = 0x86; last = true; refusal = 0 }
  pub c_no_header : header_numbers_lem (refuses 1 (8 ∷ []))
      ≡ record { shortfall = 8; version = 0; reserved = 0; message_type = 0; message_id = 0; number = 0; flags = 0; last = false; refusal = 1 }
  pub c_walk : walk_numbers_lem (gives (record { count = 2; padding = 3 })) ≡ record { count = 2; padding = 3; at = 0; shortfall = 0; refusal = 0 }
  pub c_cut_walk : walk_numbers_lem (refuses 2 (7 ∷ 4 ∷ [])) ≡ record { count = 0; padding = 0; at = 7; shortfall = 4; refusal = 2 }
  pub c_list_too_short : walk_numbers_lem (refuses 14 (4 ∷ [])) ≡ record { count = 0; padding = 0; at = 4; shortfall = 0; refusal = 14 }
  pub c_record : kind_numbers_lem (one_record_lem Record.EndOfMessage 6 1) ≡ record { entries = 0; consumed = 6; rest = 1; is_list = false; refusal = 0 }
  pub c_list : kind_numbers_lem (a_list 2 18 1) ≡ record { entries = 2; consumed = 18; rest = 1; is_list = true; refusal = 0 }
  pub c_no_value : kind_numbers_lem {R = Record} (refuses 18 []) ≡ record { entries = 0; consumed = 0; rest = 0; is_list = false; refusal = 18 }
  pub c_found : found_numbers_lem (gives 3) ≡ record { looked = 3; refusal = 0 }
  pub c_none_found : found_numbers_lem (refuses 15 (4 ∷ [])) ≡ record { looked = 4; refusal = 15 }
  pub c_no_kind_to_find : found_numbers_lem (refuses 16 []) ≡ record { looked = 0; refusal = 16 }
  pub c_part : part_numbers_lem (gives (record { start = 5; end = 9 })) ≡ record { start = 5; length = 4; refusal = 0 }
  pub c_accepted : check_numbers_lem (gives true) ≡ record { at = 0; shortfall = 0; accepted = true; refusal = 0 }
  pub c_not_accepted : check_numbers_lem (gives false) ≡ record { at = 0; shortfall = 0; accepted = false; refusal = 0 }
  pub c_unchecked : check_numbers_lem (refuses 2 (7 ∷ 4 ∷ [])) ≡ record { at = 7; shortfall = 4; accepted = false; refusal = 2 }
  pub c_cut : cut_numbers_lem (gives 3) ≡ record { count = 3; at = 0; shortfall = 0; refusal = 0 }
  pub c_uncut : cut_numbers_lem (refuses 21 []) ≡ record { count = 0; at = 0; shortfall = 0; refusal = 21 }
  pub c_no_part : part_numbers_lem (refuses 6 []) ≡ record { start = 0; length = 0; refusal = 6 }
  pub c_waiting : push_numbers_lem (gives waiting) ≡ record { length = 0; answer = 1; refusal = 0 }
  pub c_duplicated : push_numbers_lem (gives duplicated) ≡ record { length = 0; answer = 2; refusal = 0 }
  pub c_inconsistent : push_numbers_lem (gives inconsistent) ≡ record { length = 0; answer = 3; refusal = 0 }
  pub c_missing : push_numbers_lem (gives missing) ≡ record { length = 0; answer = 4; refusal = 0 }
  pub c_missing_last : push_numbers_lem (gives missing_last) ≡ record { length = 0; answer = 5; refusal = 0 }
  pub c_single : push_numbers_lem (gives (single 9)) ≡ record { length = 9; answer = 6; refusal = 0 }
  pub c_joined : push_numbers_lem (gives (joinedAs 9)) ≡ record { length = 9; answer = 7; refusal = 0 }
  pub c_output_too_small : push_numbers_lem (refuses 13 (9 ∷ [])) ≡ record { length = 9; answer = 0; refusal = 13 }
  -- Rule T10: where the message lies, in a payload of 9 bytes or in an output of 10. A length beyond either shows
  -- nothing.
  pub c_shown_in_payload : shown_in_lem (record { length = 9; answer = 6; refusal = 0 }) 9 0 ≡ record { length = 9; in_output = false }
  pub c_shown_in_output : shown_in_lem (record { length = 10; answer = 7; refusal = 0 }) 0 10 ≡ record { length = 10; in_output = true }
  pub c_shown_beyond : shown_in_lem (record { length = 10; answer = 7; refusal = 0 }) 99 9 ≡ record { length = 0; in_output = true }
  pub c_shown_nothing : shown_in_lem (record { length = 9; answer = 1; refusal = 0 }) 9 9 ≡ record { length = 0; in_output = false }
  pub c_placed : event_numbers_lem (gives Heard.New) ≡ record { from = no_address_lem; answer = 1; refusal = 0 }
  pub c_moved : event_numbers_lem (gives (Heard.Moved (kept_mac 1))) ≡ record { from = kept_mac 1; answer = 2; refusal = 0 }
  pub c_same : event_numbers_lem (gives Heard.There) ≡ record { from = no_address_lem; answer = 3; refusal = 0 }
  pub c_removed : event_numbers_lem (gives Heard.Removed) ≡ record { from = no_address_lem; answer = 4; refusal = 0 }
  pub c_stale : event_numbers_lem (gives Heard.Stale) ≡ record { from = no_address_lem; answer = 5; refusal = 0 }
  pub c_no_station_room : event_numbers_lem (refuses 17 []) ≡ record { from = no_address_lem; answer = 0; refusal = 17 }
  -- Rule P6: an event from a value of 20 bytes, of which it took 13.
  pub c_applied : applied_numbers_lem 20 (gives (record { heard = Heard.Stale; consumed = 13 })) ≡ record { consumed = 13; rest = 7; heard = record { from = no_address_lem; answer = 5; refusal = 0 } }
  pub c_not_applied : applied_numbers_lem 20 (refuses 5 []) ≡ record { consumed = 0; rest = 0; heard = record { from = no_address_lem; answer = 0; refusal = 5 } }
  pub c_at : where_numbers_lem (Some (kept_mac 1)) ≡ record { point = kept_mac 1; held = true }
  pub c_nowhere : where_numbers_lem None ≡ record { point = no_address_lem; held = false }
  pub c_row : row_numbers_lem (Some (record { station = kept_mac 1; point = kept_mac 2 })) ≡ record { station = kept_mac 1; point = kept_mac 2; held = true }
  pub c_free_row : row_numbers_lem None ≡ record { station = no_address_lem; point = no_address_lem; held = false }
  pub c_report : report_numbers_lem (gives (record { kind = Rx; pairs = 2; errors = 3; packets = 4; low = Some (negsuc 4); sum = negsuc 6 }))
      ≡ record { errors = 3; packets = 4; sum = negsuc 6; count = 2; kind = 10; low = negsuc 4; has_low = true; refusal = 0 }
  pub c_report_without_lowest : report_numbers_lem (gives (record { kind = Tx; pairs = 2; errors = 3; packets = 4; low = None; sum = pos 0 }))
      ≡ record { errors = 3; packets = 4; sum = pos 0; count = 2; kind = 9; low = pos 0; has_low = false; refusal = 0 }
  pub c_no_report : report_numbers_lem (refuses 19 [])
      ≡ record { errors = 0; packets = 0; sum = pos 0; count = 0; kind = 0; low = pos 0; has_low = false; refusal = 19 }
  pub c_lent : report_from_lem (record { errors = 3; packets = 4; sum = negsuc 6; count = 2; kind = 10; low = negsuc 4; has_low = true; refusal = 7 })
      ≡ gives (record { kind = Rx; pairs = 2; errors = 3; packets = 4; low = Some (negsuc 4); sum = negsuc 6 })
  pub c_no_kind : report_from_lem (record { errors = 3; packets = 4; sum = pos 0; count = 2; kind = 8; low = pos 0; has_low = false; refusal = 0 }) ≡ refuses 19 []
  pub c_no_flag : report_from_lem (record { errors = 3; packets = 4; sum = pos 0; count = 2; kind = 9; low = pos 1; has_low = false; refusal = 0 }) ≡ refuses 19 []

-- The calls for C that step, and records by their fields (part C).
pub record OfRecordsInC : Type 0 where
  -- Rule W6: what a step finds. A refusal has the offset of the TLV, and the shortfall.
  pub c_step_at_the_end : step_numbers_lem (gives ended) ≡ record { tlv = tlv_at_lem 0; next = 0; shortfall = 0; answer = 1; refusal = 0 }
  pub c_step : step_numbers_lem (gives (passed (tlv_at_lem 3) 9)) ≡ record { tlv = tlv_at_lem 3; next = 9; shortfall = 0; answer = 2; refusal = 0 }
  pub c_last_step : step_numbers_lem (gives (last (tlv_at_lem 9) 12)) ≡ record { tlv = tlv_at_lem 9; next = 12; shortfall = 0; answer = 3; refusal = 0 }
  pub c_cut_step : step_numbers_lem (refuses 2 (9 ∷ 4 ∷ [])) ≡ record { tlv = tlv_at_lem 9; next = 0; shortfall = 4; answer = 0; refusal = 2 }
  -- Rule C6: records by their fields.
  pub c_address : address_numbers_lem (read_in_shape address_fields 7 (read_record_lem 1 (and_more (mac 1)))) ≡ record { consumed = 6; rest = 1; address = kept_mac 1; refusal = 0 }
  pub c_cut_address : address_numbers_lem (read_in_shape address_fields 5 (read_record_lem 2 (take 5 (mac 1)))) ≡ record { consumed = 0; rest = 0; address = no_address_lem; refusal = 3 }
  pub c_no_address : address_numbers_lem (read_in_shape address_fields 1 (read_record_lem 16 (0x00 ∷ []))) ≡ record { consumed = 0; rest = 0; address = no_address_lem; refusal = 16 }
  pub c_named : byte_numbers_lem (read_in_shape byte_fields 2 (read_record_lem 16 (and_more (0x02 ∷ []))))
      ≡ record { consumed = 1; rest = 1; byte = 2; reserved = false; refusal = 0 }
  pub c_reserved : byte_numbers_lem (read_in_shape byte_fields 1 (read_record_lem 16 (0x03 ∷ []))) ≡ record { consumed = 1; rest = 0; byte = 3; reserved = true; refusal = 0 }
  pub c_profile : byte_numbers_lem (read_in_shape byte_fields 1 (read_record_lem 0xB3 (0x03 ∷ []))) ≡ record { consumed = 1; rest = 0; byte = 3; reserved = false; refusal = 0 }
  pub c_no_role : byte_numbers_lem (read_in_shape byte_fields 1 (read_record_lem 13 (0x01 ∷ []))) ≡ record { consumed = 0; rest = 0; byte = 0; reserved = false; refusal = 5 }
  pub c_query : query_numbers_lem (read_in_shape query_fields 8 (read_record_lem 8 (0x01 ∷ (mac 1 ++ (0x02 ∷ [])))))
      ≡ record { consumed = 8; rest = 0; query = record { neighbor = kept_mac 1; neighbor_type = 1; has_neighbor = true; metrics = 2 }; refusal = 0 }
  pub c_query_of_all : query_numbers_lem (read_in_shape query_fields 2 (read_record_lem 8 (0x00 ∷ 0x02 ∷ [])))
      ≡ record { consumed = 2; rest = 0; query = record { neighbor = no_address_lem; neighbor_type = 0; has_neighbor = false; metrics = 2 }; refusal = 0 }
  pub c_joined : association_numbers_lem (read_in_shape association_fields 13 (read_record_lem 0x92 (association_of_law 0x80)))
      ≡ record { consumed = 13; rest = 0; association = record { station = even_mac 0x02; point = even_mac 0x0A; joined = true }; state = 0x80; refusal = 0 }
  pub c_capability : capability_numbers_lem (read_in_shape capability_fields 4 (read_record_lem 0xB4 (0x01 ∷ 0x02 ∷ 0xA9 ∷ 0x04 ∷ [])))
      ≡ record { consumed = 4; rest = 0; capability = record { max_prioritization_rules = 1; reserved = 2; byte_counter_units = 2; prioritization = true; dpp_onboarding = false; traffic_separation = true; flags_reserved = 1; max_vids = 4 }; flags = 0xA9; refusal = 0 }
  -- Rules O1 and C6: what is written of them.
  pub c_address_written : meant_bytes (address_record_lem 2 (kept_mac 1)) ≡ 0x02 ∷ 0x00 ∷ 0x06 ∷ mac 1
  pub c_no_kind_of_address : meant_size (address_record_lem 16 (kept_mac 1)) 0 ≡ refuses 16 []
  pub c_byte_written : meant_bytes (byte_record_lem 26 1) ≡ 0x1A ∷ 0x00 ∷ 0x01 ∷ 0x01 ∷ []
  pub c_byte_never_read : meant_size (byte_record_lem 0xB3 0) 0 ≡ refuses 9 []
  pub c_no_kind_of_byte : meant_size (byte_record_lem 0 0) 0 ≡ refuses 16 []
  pub c_no_room : meant_size (byte_record_lem 26 1) 3 ≡ refuses 7 []
  pub c_query_of_type_1 : meant_size (query_record_lem (record { neighbor = no_address_lem; neighbor_type = 1; has_neighbor = false; metrics = 2 })) 0 ≡ refuses 9 []
  pub c_stray_neighbor : query_record_lem (record { neighbor = kept_mac 1; neighbor_type = 0; has_neighbor = false; metrics = 2 }) ≡ refuses 9 []
  pub c_left_written : meant_bytes (association_record_lem (record { station = even_mac 0x02; point = even_mac 0x0A; joined = false }))
      ≡ 0x92 ∷ 0x00 ∷ 0x0D ∷ association_of_law 0x00
  pub c_capability_written : meant_bytes (capability_record_lem (record { max_prioritization_rules = 1; reserved = 2; byte_counter_units = 3; prioritization = false; dpp_onboarding = true; traffic_separation = false; flags_reserved = 5; max_vids = 4 }))
      ≡ 0xB4 ∷ 0x00 ∷ 0x04 ∷ 0x01 ∷ 0x02 ∷ 0xD5 ∷ 0x04 ∷ []
  pub c_no_units : capability_record_lem (record { max_prioritization_rules = 0; reserved = 0; byte_counter_units = 4; prioritization = false; dpp_onboarding = false; traffic_separation = false; flags_reserved = 0; max_vids = 0 })
      ≡ refuses 9 []

-- Captures (part G): what is written, byte for byte, what is read, and each refusal.
pub record OfCaptures : Type 0 where
  pub file_header_written : our_header ≡ low_header
  pub frame_written : frame_record an_arrival (0xA0 ∷ 0xA1 ∷ []) ≡ low_record
  pub latest_time : frame_size 4294967295999 1492 1530 ≡ gives 1530
  pub too_late : frame_size 4294967296000 1492 1530 ≡ refuses 23 []
  pub too_long_before_too_late : frame_size 4294967296000 1493 0 ≡ refuses 12 []
  pub frame_room : frame_size 0 1492 1529 ≡ refuses 7 []
  pub no_frames : capture_in low_header ≡ gives (record { frames = []; others = 0 })
  pub low_capture : capture_in (low_header ++ low_record) ≡ gives (record { frames = as_read ∷ []; others = 0 })
  pub high_capture : capture_in (high_header ++ high_record) ≡ gives (record { frames = as_read ∷ []; others = 0 })
  pub its_payload : frame_payload (low_header ++ low_record) as_read ≡ 0xA0 ∷ 0xA1 ∷ []
  pub its_arrival : arrival_of_lem as_read ≡ an_arrival
  -- a frame of 22 bytes is 1905's, and one of 21 is passed over
  pub of_22_bytes : is1905 (take 22 a_frame) ≡ true
  pub of_21_bytes : is1905 (take 21 a_frame) ≡ false
  pub empty_file : capture_in [] ≡ refuses 2 (24 ∷ [])
  pub cut_file_header : capture_in (take 23 low_header) ≡ refuses 2 (1 ∷ [])
  pub cut_record_header : capture_in (low_header ++ take 15 low_record) ≡ refuses 2 (1 ∷ [])
  pub cut_frame : capture_in (low_header ++ take 39 low_record) ≡ refuses 2 (1 ∷ [])
  pub other_magic : capture_in (0x4D ∷ 0x3C ∷ drop 2 low_header) ≡ refuses 22 []
  pub other_link_type : capture_in (take 22 low_header ++ (0x01 ∷ 0x00 ∷ [])) ≡ refuses 22 []
  pub stored_in_part : capture_in (low_header ++ (take 12 low_record ++ (0x19 ∷ drop 13 low_record))) ≡ refuses 23 []

-- everything that is claimed of this crate
pub record Claims : Type 0 where
  pub framing : OfFraming
  pub walks : OfWalks
  pub kinds : OfKinds
  pub texts : OfTexts
  pub entries : OfEntries
  pub finding : OfFinding
  pub table : OfTheTable
  pub stations : OfStations
  pub links : OfLinks
  pub cutting : OfCutting
  pub captures : OfCaptures
  pub c : OfC
  pub c_records : OfRecordsInC
