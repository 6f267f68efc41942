-- Every row of the table holds: both sides compute to the same. Four rows on the table of fragments are theorems about
-- runs.
use mathlib.Core.Path.{◌≡◌, refl}
use mathlib.Core.List.{flatten}
use native.Mathlib.Omega.{arith}
use lib.ListN.{length}
use Rattle.searching.specs.Search.{lowest}
use Rattle.machines.specs.Machine.{those}
use Rattle.framing.specs.Tlv.{read_tlv_lem, write_size}
use Rattle.framing.specs.Cmdu.{read_header}
use Rattle.walking.specs.Steps.{walk_from}
use Rattle.numbers.specs.Numbers.{gives}
use Rattle.walking.specs.Claims.{short_tlvs}
use Rattle.walking.specs.Walk.{step_at, walk_of, walk_on, counted, listed}
use Rattle.walking.proofs.Claims as of-walking
use Rattle.records.specs.Reading.{empty, fixed, read_record_lem}
use Rattle.record_writing.specs.Writing.{record_size_lem}
use Rattle.layouts.specs.Layouts.{layout_of, is_list_lem}
use Rattle.layouts.specs.Reading.{count_at_lem, list_of, entries_end, end_of, consumed_to_lem, read_as_lem, read_value_lem}
use Rattle.layouts.specs.Access.{child_at, find_entry_lem, span_of, length_at, spans_from, spans_in, parts_in, of_value_lem, locate_entry, count_entries, at_level, gone_over, pass_entry}
use Rattle.utf8.specs.Utf8.{accepts}
use Rattle.texts.specs.Texts.{text_kind, is_text_lem}
use Rattle.texts.specs.Reading.{until_zero_lem, text_span_lem, radio_list_lem, radios_in_lem, laid_of, valid_of, whole_of, read_text}
use Rattle.texts.specs.Access.{of_text, locate_radio, count_radios, radios_of, locate_text_lem, locate_radio_text_lem}
use Rattle.kinds.specs.Kinds.{read_kind_lem, locate_kind, count_kind, locate_text_in}
use Rattle.kinds.specs.Writing.{write_kind_lem, kind_bytes}
use Rattle.entries.specs.Entries.{entries_in_lem, beginning, pass_radio_lem, pass_in_lem, next_level_lem, moved, gone_on_lem}
use Rattle.entries.specs.Claims.{by_numbers}
use Rattle.finding.specs.Finding.{reads_as_lem, first_of, find_from, find_in_payload_lem, find_onward_lem}
use Rattle.pushing.specs.Push.{way_by, keep_way, message_way}
use Rattle.searching.specs.Count.{how_many}
use Rattle.stations.specs.Addresses.{address_of}
use Rattle.stations.specs.Rows.{where_of, all_held, after_join, after_leave}
use Rattle.links.specs.Pairs.{pairs_in}
use Rattle.links.specs.Reports.{report_over, report_if_few, report_of, merged}
use Rattle.cutting.specs.Cuts.{tlvs_of, is_tlvs_lem, is_fragment, is_cutting_lem, check_of}
use Rattle.cutting.specs.Greedy.{ends_from, ends_over, ends_of_lem, cut_into}
use Rattle.captures.specs.Writing.{frame_size}
use Rattle.captures.specs.Reading.{file_order, record_at_lem, capture_in}
use Rattle.c_answers.specs.Numbers.{shown_in_lem}
use Rattle.c_links.specs.Numbers.{report_from_lem}
use Rattle.c_records.specs.Writing.{address_record_lem, query_record_lem}
use Rattle.orders.proofs.Examples.{stays_at_2999, goes_at_3000, zero_then_last_one, last_one_alone}
use Rattle.examples.specs.Claims.{Claims, OfFraming, OfWalks, OfKinds, OfTexts, OfEntries, OfFinding, OfTheTable, OfStations, OfLinks, OfCutting, OfCaptures, OfC, OfRecordsInC}

of_framing : OfFraming
unfolding read_tlv_lem read_header write_size
of_framing = record {
  empty = refl;
  two_bytes = refl;
  end_marker = refl;
  runs_past = refl;
  read = refl;
  value = refl;
  runs_far_past = refl;
  header_of = refl;
  not_the_last = refl;
  no_header = refl;
  seven_bytes = refl;
  longest = refl;
  a_byte_too_long = refl;
  a_byte_of_room_too_few = refl;
  header_bytes = refl;
  past_it = refl;
  as_lent = refl;
}

-- 1,492 bytes have 497 TLVs by a theorem, which no computing is needed for
full : (length (short_tlvs 496 1) ≡ 1492) × (counted (walk_of (short_tlvs 496 1)) ≡ gives (record { count = 497; padding = 0 }))
full = (of-walking.claims).room_needed.reached 1492 (omega arith)

long_enough : listed 497 (walk_of (short_tlvs 496 1)) ≡ counted (walk_of (short_tlvs 496 1))
long_enough = (of-walking.claims).room_needed.enough (short_tlvs 496 1) 497 (omega (arith, full.0))

of_walks : OfWalks
unfolding read_tlv_lem step_at walk_from walk_of
of_walks = record {
  no_tlvs = refl;
  padded_to = refl;
  padded_walk = refl;
  unpadded_walk = refl;
  end_7 = refl;
  type_0_with_a_length = refl;
  step_over = refl;
  step_at_the_marker = refl;
  step_at_the_end = refl;
  cut_header = refl;
  cut_value = refl;
  list_too_short = refl;
  no_list = refl;
  fault_before_14 = refl;
  just_enough = refl;
  list_filled = refl;
  as_many_as_fit = full.0;
  each_counted = full.1;
  list_long_enough = long_enough;
}

of_kinds : OfKinds
unfolding empty fixed read_record_lem layout_of is_list_lem count_at_lem list_of entries_end end_of consumed_to_lem read_as_lem read_value_lem child_at find_entry_lem span_of length_at spans_from of_value_lem locate_entry count_entries text_kind is_text_lem until_zero_lem text_span_lem radio_list_lem laid_of valid_of whole_of read_text accepts read_kind_lem locate_kind count_kind write_size write_kind_lem kind_bytes record_size_lem
of_kinds = record {
  all_codes = refl;
  joined = refl;
  left = refl;
  neither = refl;
  no_profile = refl;
  reserved_profile = refl;
  capability = refl;
  cut_entry = refl;
  al_mac_address = refl;
  end_of_message = refl;
  no_end_of_message = refl;
  mac_address = refl;
  searched_role = refl;
  supported_role = refl;
  band = refl;
  version = refl;
  result_code = refl;
  query_of_all = refl;
  query_of_one = refl;
  association_left_over = refl;
  profile = refl;
  capability_left_over = refl;
  supported_service = refl;
  agent = refl;
  non_1905_neighbours = refl;
  last_plain_neighbour = refl;
  ieee1905_neighbours = refl;
  cut_neighbour = refl;
  last_neighbour = refl;
  sent_links = refl;
  cut_sent_link = refl;
  last_sent_link = refl;
  received_links = refl;
  cut_received_link = refl;
  last_received_link = refl;
  no_links = refl;
  ipv4_interfaces = refl;
  last_ipv4 = refl;
  ipv6_interfaces = refl;
  last_ipv6 = refl;
  bridging = refl;
  last_bridged = refl;
  operational_radios = refl;
  last_letter = refl;
  configured_radios = refl;
  last_letter_configured = refl;
  unknown_kind = refl;
  cut_record = refl;
  cut_list = refl;
  cut_front = refl;
  cut_sent_front = refl;
  cut_received_front = refl;
  no_such_entry = refl;
  no_numbers = refl;
  one_number_too_many = refl;
  entry_in_a_sent_link = refl;
  entry_in_a_received_link = refl;
  entry_of_a_record = refl;
  entry_of_a_cut_record = refl;
  entry_of_no_kind = refl;
  entries_counted = refl;
  letters_counted = refl;
  none_counted_in_a_record = refl;
  written_without_its_rest = refl;
  size_written = refl;
  no_room_for_it = refl;
  unknown_kind_written = refl;
  cut_value_written = refl;
  left_over_written = refl;
  bad_value_written = refl;
  no_text_written = refl;
  record_written = refl;
  no_room_for_a_record = refl;
  never_read = refl;
  role_never_read = refl;
  stray_address = refl;
}

of_texts : OfTexts
unfolding empty fixed read_record_lem layout_of is_list_lem count_at_lem list_of entries_end end_of consumed_to_lem read_as_lem read_value_lem child_at find_entry_lem span_of length_at spans_from of_value_lem locate_entry count_entries text_kind is_text_lem until_zero_lem text_span_lem radio_list_lem laid_of valid_of whole_of read_text of_text locate_radio count_radios locate_text_lem locate_radio_text_lem accepts read_kind_lem locate_kind count_kind locate_text_in those
of_texts = record {
  device_identification = refl;
  model_name = refl;
  no_name = refl;
  all_64 = refl;
  control_url = refl;
  zero_in_a_url = refl;
  device_inventory = refl;
  second_string = refl;
  last_radio = refl;
  no_byte_of_it = refl;
  last_chip = refl;
  accepted = refl;
  refused = refl;
  no_text = refl;
  cut_wins = refl;
  no_fourth_text = refl;
  text_of_a_record = refl;
  no_third_radio = refl;
  radios_counted = refl;
  no_radios_counted = refl;
  no_entries_of_a_url = refl;
  no_list_in_a_radio = refl;
  no_list_in_a_url = refl;
}

of_entries : OfEntries
unfolding empty fixed read_record_lem layout_of is_list_lem count_at_lem list_of entries_end end_of consumed_to_lem read_as_lem read_value_lem child_at find_entry_lem span_of length_at spans_from of_value_lem locate_entry count_entries at_level gone_over pass_entry text_kind is_text_lem text_span_lem radio_list_lem radios_in_lem laid_of valid_of whole_of read_text of_text locate_radio count_radios radios_of accepts read_kind_lem locate_kind count_kind entries_in_lem beginning pass_radio_lem pass_in_lem next_level_lem moved gone_on_lem by_numbers
of_entries = record {
  begun = refl;
  radio = refl;
  network = refl;
  last_network = refl;
  none_left = refl;
  its_letters = refl;
  no_level = refl;
  by_number = refl;
  radios_by_number = refl;
  begun_in_a_record = refl;
  no_such_level = refl;
  past_the_end = refl;
  of_no_list = refl;
}

of_finding : OfFinding
unfolding read_tlv_lem step_at walk_from walk_of fixed read_record_lem layout_of is_list_lem text_kind is_text_lem read_kind_lem reads_as_lem first_of find_from find_in_payload_lem walk_on find_onward_lem
of_finding = record {
  found_at = refl;
  none_found = refl;
  none_from_the_second = refl;
  none_beyond_the_list = refl;
  none_in_no_list = refl;
  no_kind_to_find = refl;
  none_in_a_payload = refl;
  unwalked = refl;
  no_kind_in_a_payload = refl;
  none_onward = refl;
  onward_over_both = refl;
  fault_onward = refl;
  no_kind_onward = refl;
  too_many_before = refl;
}

of_the_table : OfTheTable
unfolding way_by keep_way message_way
of_the_table = record {
  store_too_small = λ keeps joins. refl;
  payload_too_long = λ keeps joins. refl;
  held_already = λ keeps joins. refl;
  kept_if_not_last = λ keeps joins. refl;
  joined_if_last = λ keeps joins. refl;
  no_place_free = refl;
  no_row_free = refl;
  row_of_its_own = refl;
  new_row = refl;
  eight_places = refl;
  four_keys = refl;
  share_before_room = refl;
  output_too_small = refl;
  output_just_enough = refl;
  single_needs_none = refl;
  stays = λ store p i more. stays_at_2999 store i.long p i.lent i.small more;
  goes = λ store p i more. goes_at_3000 store i.long p i.lent i.small more;
  completes = λ store p q i j z.
      zero_then_last_one store i.long p q i.lent j.lent i.small j.small z.key z.version z.message_type z.numbers.0 z.numbers.1 z.marks.0 z.marks.1 z.room;
  alone = λ store p i number last. last_one_alone store i.long p i.lent i.small number last;
}

of_stations : OfStations
unfolding lowest where_of all_held after_join after_leave address_of how_many empty fixed read_record_lem
of_stations = record {
  placed = (refl, refl);
  moved = (refl, refl);
  same = (refl, refl);
  second = (refl, refl);
  removed = (refl, refl);
  late = (refl, refl);
  not_held = (refl, refl);
  held_128 = refl;
  unknown_refused = (refl, refl);
  known_moves = (refl, refl);
  leave_frees = (refl, refl);
  event_read = refl;
  event_cut = (refl, refl);
  event_unreadable = (refl, refl);
}

of_links : OfLinks
unfolding layout_of count_at_lem list_of entries_end end_of consumed_to_lem read_as_lem spans_from spans_in parts_in of_value_lem pairs_in report_over report_if_few report_of merged
of_links = record {
  signals = (refl, refl, refl);
  over_sent = refl;
  over_received = refl;
  no_sent_pairs = refl;
  no_received_pairs = refl;
  short_front = refl;
  cut_pair = refl;
  two_kinds = refl;
  lowest_sum = (refl, refl);
  highest_sum = (refl, refl);
  sent_has_none = refl;
}

of_cutting : OfCutting
unfolding read_tlv_lem step_at walk_from walk_of tlvs_of is_tlvs_lem is_fragment is_cutting_lem check_of ends_from ends_over ends_of_lem cut_into flatten
of_cutting = record {
  marker_alone = refl;
  two_fragments = refl;
  cut_inside_a_value = refl;
  two_ids = refl;
  marked_too_early = refl;
  numbers_swapped = refl;
  outside_the_slice = refl;
  empty_among_others = refl;
  empty_message = refl;
  no_fragment_lem = refl;
  two_empty_ones = refl;
  padded_message = refl;
  cut_message = refl;
  filled_up = refl;
  one_byte_over = refl;
  longest_tlv = refl;
  tlv_too_long = refl;
  nine_full = refl;
  nine_full_and_a_marker = refl;
  end_of_none = refl;
  no_place = refl;
  ends_listed = refl;
  list_as_lent = refl;
}

of_c : OfC
unfolding shown_in_lem report_from_lem
of_c = record {
  c_header = refl;
  c_no_header = refl;
  c_walk = refl;
  c_cut_walk = refl;
  c_list_too_short = refl;
  c_record = refl;
  c_list = refl;
  c_no_value = refl;
  c_found = refl;
  c_none_found = refl;
  c_no_kind_to_find = refl;
  c_part = refl;
  c_accepted = refl;
  c_not_accepted = refl;
  c_unchecked = refl;
  c_cut = refl;
  c_uncut = refl;
  c_no_part = refl;
  c_waiting = refl;
  c_duplicated = refl;
  c_inconsistent = refl;
  c_missing = refl;
  c_missing_last = refl;
  c_single = refl;
  c_joined = refl;
  c_output_too_small = refl;
  c_shown_in_payload = refl;
  c_shown_in_output = refl;
  c_shown_beyond = refl;
  c_shown_nothing = refl;
  c_placed = refl;
  c_moved = refl;
  c_same = refl;
  c_removed = refl;
  c_stale = refl;
  c_no_station_room = refl;
  c_applied = refl;
  c_not_applied = refl;
  c_at = refl;
  c_nowhere = refl;
  c_row = refl;
  c_free_row = refl;
  c_report = refl;
  c_report_without_lowest = refl;
  c_no_report = refl;
  c_lent = refl;
  c_no_kind = refl;
  c_no_flag = refl;
}

of_records_in_c : OfRecordsInC
unfolding empty fixed read_record_lem write_size record_size_lem address_record_lem query_record_lem
of_records_in_c = record {
  c_step_at_the_end = refl;
  c_step = refl;
  c_last_step = refl;
  c_cut_step = refl;
  c_address = refl;
  c_cut_address = refl;
  c_no_address = refl;
  c_named = refl;
  c_reserved = refl;
  c_profile = refl;
  c_no_role = refl;
  c_query = refl;
  c_query_of_all = refl;
  c_joined = refl;
  c_capability = refl;
  c_address_written = refl;
  c_no_kind_of_address = refl;
  c_byte_written = refl;
  c_byte_never_read = refl;
  c_no_kind_of_byte = refl;
  c_no_room = refl;
  c_query_of_type_1 = refl;
  c_stray_neighbor = refl;
  c_left_written = refl;
  c_capability_written = refl;
  c_no_units = refl;
}

of_captures : OfCaptures
unfolding frame_size file_order record_at_lem walk_from capture_in
of_captures = record {
  file_header_written = refl;
  frame_written = refl;
  latest_time = refl;
  too_late = refl;
  too_long_before_too_late = refl;
  frame_room = refl;
  no_frames = refl;
  low_capture = refl;
  high_capture = refl;
  its_payload = refl;
  its_arrival = refl;
  of_22_bytes = refl;
  of_21_bytes = refl;
  empty_file = refl;
  cut_file_header = refl;
  cut_record_header = refl;
  cut_frame = refl;
  other_magic = refl;
  other_link_type = refl;
  stored_in_part = refl;
}

pub claims : Claims
claims = record {
  framing = of_framing;
  walks = of_walks;
  kinds = of_kinds;
  texts = of_texts;
  entries = of_entries;
  finding = of_finding;
  table = of_the_table;
  stations = of_stations;
  links = of_links;
  cutting = of_cutting;
  captures = of_captures;
  c = of_c;
  c_records = of_records_in_c;
}
