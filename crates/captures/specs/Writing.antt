-- Writing a capture (rule G5): its file header, and a frame from what push takes.
use Rattle.std.specs.Prelude.{false, cond, List, [], ◌∷◌, ◌++◌, ℕ, ◌+◌, leb, ltb}
use Rattle.numbers.specs.Numbers.{Answer, gives, refuses}
use Rattle.numbers.specs.Bytes.{in_bytes}
use Rattle.framing.specs.declared.CmduFields.{CmduFields}
use Rattle.framing.specs.Cmdu.{header_bytes_lem}
use Rattle.keys.specs.Keys.{sender_of_lem, id_of, sender_bytes}
use Rattle.table.specs.Rows.{place_size}
use Rattle.pushing.specs.declared.Arrival.{Arrival}
use Rattle.captures.specs.Form.{file_header_lem, Stored, record_bytes_lem, seconds_in, microseconds_in, ether_type}

-- Rule G5: the file header that is written. Its lowest bytes come first, and no frame is longer than 65,535 bytes.
abbrev pub our_header : List ℕ
our_header = file_header_lem false (record { zone = 0; accuracy = 0; snap = 65535 })

-- Rule G5: room for fewer than 24 bytes is refused by 7. Otherwise the answer is the number of bytes written.
unfoldable pub file_header_size : ℕ → Answer ℕ
file_header_size room = cond (ltb room 24) (refuses 7 []) (gives 24)

-- Rule G5: the multicast address of IEEE 1905.1, 01:80:C2:00:00:13.
abbrev pub multicast : List ℕ
multicast = 1 ∷ 128 ∷ 194 ∷ 0 ∷ 0 ∷ 19 ∷ []

-- Rules G4 and G5: the Ethernet header of a frame from this sender.
abbrev pub ethernet_header_lem : List ℕ → List ℕ
ethernet_header_lem sender = multicast ++ (sender ++ in_bytes 2 ether_type)

-- Rules T2 and T3: what an arrival says of the CMDU header that it came with.
abbrev pub fields_of : Arrival → CmduFields
fields_of a = record {
  message_version = a.fragment.version;
  message_type = a.fragment.message_type;
  message_id = id_of a.key;
  fragment = a.fragment.number;
  last_fragment = a.fragment.last;
}

-- Rule G5: the record of an arrival and its payload. The frame is not padded.
abbrev pub stored_of : Arrival → List ℕ → Stored
stored_of a payload = record {
  seconds = seconds_in a.time;
  microseconds = microseconds_in a.time;
  frame = ethernet_header_lem (sender_bytes (sender_of_lem a.key)) ++ (header_bytes_lem (fields_of a) ++ payload);
}

abbrev pub frame_record : Arrival → List ℕ → List ℕ
frame_record a payload = record_bytes_lem false (stored_of a payload)

-- Rule G5: a payload above 1,492 bytes is refused by 12. Then come seconds that don't fit four bytes, by 23, and room
-- that is too small, by 7. Otherwise the answer is the number of bytes written: the two headers of the frame and the
-- record header have 38.
unfoldable pub frame_size : ℕ → ℕ → ℕ → Answer ℕ
frame_size time n room =
    cond (ltb place_size n) (refuses 12 [])
    (cond (leb 4294967296 (seconds_in time)) (refuses 23 [])
    (cond (ltb room (38 + n)) (refuses 7 [])
    (gives (38 + n))))
