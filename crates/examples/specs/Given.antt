-- What the examples are made of: bytes as they come off the wire, field by field, and the records and tables that they
-- stand for.
use Rattle.std.specs.Prelude.{◌≡◌, Bool, true, false, cond, List, [], ◌∷◌, ◌++◌, ℕ, zero, suc, ◌-◌, ◌≤◌, length, replicate}
use Rattle.numbers.specs.Numbers.{Answer, gives}
use Rattle.records.specs.declared.Record.{Record}
use Rattle.records.specs.declared.MacAddr.{MacAddr}
use Rattle.records.specs.declared.AssociationState.{AssociationState}
use Rattle.records.specs.declared.ByteCounterUnits.{ByteCounterUnits}
use Rattle.layouts.specs.Access.{part_of}
use Rattle.texts.specs.Access.{locate_text_lem}
use Rattle.kinds.specs.declared.Contents.{Contents}
use Rattle.kinds.specs.declared.Typed.{Typed}
use Rattle.kinds.specs.Kinds.{is_kind_lem, locate_kind}
use Rattle.entries.specs.declared.Cursor.{Cursor}
use Rattle.entries.specs.declared.EntryAt.{EntryAt}
use Rattle.walking.specs.declared.Tlv.{Tlv}
use Rattle.cutting.specs.declared.Proposed.{Proposed}
use Rattle.table.specs.Rows.{place_size, store_size}
use Rattle.orders.specs.Runs.{Push}
use Rattle.stations.specs.Whereabouts.{Event}
use Rattle.stations.specs.Rows.{Stations, fresh_stations, table_after, StationRow, free_row, held_row, row_at}

-- an address of six equal octets, and the bytes of an association of two such with a last byte
abbrev pub even_mac : ℕ → MacAddr
even_mac b = record { b0 = b; b1 = b; b2 = b; b3 = b; b4 = b; b5 = b }

abbrev pub association_of_law : ℕ → List ℕ
association_of_law last = replicate 6 0x02 ++ (replicate 6 0x0A ++ (last ∷ []))

abbrev pub associated : AssociationState → Record
associated state = Record.ClientAssociation (record { sta_mac = even_mac 0x02; ap_mac = even_mac 0x0A; association_state = state })

-- A topology query as it leaves an Ethernet bridge: version 0, type 2, id 1, fragment number 0, marked last; the end
-- marker; and then zero bytes, as many as the number says.
abbrev pub padded : ℕ → List ℕ
padded zeros = (0x00 ∷ 0x00 ∷ 0x00 ∷ 0x02 ∷ 0x00 ∷ 0x01 ∷ 0x00 ∷ 0x80 ∷ []) ++ ((0x00 ∷ 0x00 ∷ 0x00 ∷ []) ++ replicate zeros 0x00)

-- Rule K6: the units MiB, prioritization without DPP onboarding, traffic separation, and at most 2 VLAN ids.
abbrev pub able : Record
able = Record.Profile2ApCapability (record {
  max_prioritization_rules = 0;
  reserved = 0;
  byte_counter_units = ByteCounterUnits.MiB;
  prioritization = true;
  dpp_onboarding = false;
  traffic_separation = true;
  flags_reserved = 0;
  max_vids = 2;
})

-- the codes below n that are a kind's, the highest first
abbrev pub codes_below : ℕ → List ℕ
codes_below zero = []
codes_below (suc n) = cond (is_kind_lem n) (n ∷ codes_below n) (codes_below n)

-- A record or a list that was read, with the number of bytes consumed and the number of bytes after them.
abbrev pub one_record_lem : Record → ℕ → ℕ → Answer (Typed Record)
one_record_lem r n m = gives (record { held = Contents.One r; consumed = n; rest = m })

abbrev pub a_list : ℕ → ℕ → ℕ → Answer (Typed Record)
a_list entries n m = gives (record { held = Contents.List entries; consumed = n; rest = m })

-- A value with a byte after it.
abbrev pub and_more : List ℕ → List ℕ
and_more value = value ++ (0x78 ∷ [])

-- the part that is the entry with these numbers
abbrev pub entry_of_lem : ℕ → List ℕ → List ℕ → List ℕ
entry_of_lem code numbers value = part_of (locate_kind code numbers value) value

-- The values of the kinds, field by field, by the layouts of the standards (rule K2). The address 02:00:5E:10:20:n, in
-- bytes and as it is kept:
abbrev pub mac : ℕ → List ℕ
mac n = 0x02 ∷ 0x00 ∷ 0x5E ∷ 0x10 ∷ 0x20 ∷ n ∷ []

abbrev pub kept_mac : ℕ → MacAddr
kept_mac n = record { b0 = 0x02; b1 = 0x00; b2 = 0x5E; b3 = 0x10; b4 = 0x20; b5 = n }

-- The names of the networks "home" and "guest": a length, and as many bytes (rule E4).
abbrev pub home : List ℕ
home = 0x04 ∷ 0x68 ∷ 0x6F ∷ 0x6D ∷ 0x65 ∷ []

abbrev pub guest : List ℕ
guest = 0x05 ∷ 0x67 ∷ 0x75 ∷ 0x65 ∷ 0x73 ∷ 0x74 ∷ []

-- Multi-AP: two services, of a controller and of an agent
abbrev pub services : List ℕ
services = 0x02 ∷ 0x00 ∷ 0x01 ∷ []

-- IEEE 1905.1: the address of the own interface, and two neighbours that don't speak 1905
abbrev pub plain_neighbours : List ℕ
plain_neighbours = mac 1 ++ (mac 2 ++ mac 3)

-- IEEE 1905.1: the address of the own interface, and two neighbours, each with a byte whose bit 7 says that bridges
-- stand between.
abbrev pub neighbours : List ℕ
neighbours = mac 1 ++ (mac 2 ++ (0x00 ∷ (mac 3 ++ (0x80 ∷ []))))

-- IEEE 1905.1: errors and packets of a link, 7 of 1,000
abbrev pub seven_errors : List ℕ
seven_errors = (0x00 ∷ 0x00 ∷ 0x00 ∷ 0x07 ∷ []) ++ (0x00 ∷ 0x00 ∷ 0x03 ∷ 0xE8 ∷ [])

-- Rule Q1: pairs of a link over 802.11ac (0x0105) between two interfaces. Of what was sent, with no bridge between, and
-- then throughput, availability and rate; of what was received, and then a signal strength of -60.
abbrev pub sent_over : ℕ → ℕ → List ℕ
sent_over own other = mac own ++ (mac other ++ (0x01 ∷ 0x05 ∷ 0x00 ∷ (seven_errors ++ (0x02 ∷ 0x58 ∷ 0x00 ∷ 0x5A ∷ 0x03 ∷ 0x62 ∷ []))))

abbrev pub received_over : ℕ → ℕ → List ℕ
received_over own other = mac own ++ (mac other ++ (0x01 ∷ 0x05 ∷ (seven_errors ++ (0xC4 ∷ []))))

-- the addresses of two devices, and two links between them
abbrev pub links_sent : List ℕ
links_sent = mac 1 ++ (mac 2 ++ (sent_over 3 4 ++ sent_over 5 6))

abbrev pub links_received : List ℕ
links_received = mac 1 ++ (mac 2 ++ (received_over 3 4 ++ received_over 5 6))

-- IEEE 1905.1a: how an address was had (1 by DHCP, 2 static), the address, and the server that gave it
abbrev pub by_dhcp : List ℕ
by_dhcp = 0x01 ∷ (192 ∷ 168 ∷ 1 ∷ 23 ∷ (192 ∷ 168 ∷ 1 ∷ 1 ∷ []))

abbrev pub static : List ℕ
static = 0x02 ∷ (10 ∷ 0 ∷ 0 ∷ 7 ∷ (0 ∷ 0 ∷ 0 ∷ 0 ∷ []))

-- one interface by its address, with two such
abbrev pub ipv4 : List ℕ
ipv4 = 0x01 ∷ (mac 1 ++ (0x02 ∷ (by_dhcp ++ static)))

-- IEEE 1905.1a: FE80::n; and how an address was had (3 by itself), the address 2001:DB8::5, and where it comes from
abbrev pub link_local_lem : ℕ → List ℕ
link_local_lem n = 0xFE ∷ 0x80 ∷ (replicate 13 0x00 ++ (n ∷ []))

abbrev pub by_itself : List ℕ
by_itself = 0x03 ∷ (0x20 ∷ 0x01 ∷ 0x0D ∷ 0xB8 ∷ (replicate 11 0x00 ++ (0x05 ∷ link_local_lem 9)))

-- one interface by its address and its link-local address, with one such
abbrev pub ipv6 : List ℕ
ipv6 = 0x01 ∷ (mac 1 ++ (link_local_lem 1 ++ (0x01 ∷ by_itself)))

-- IEEE 1905.1: two bridges, of two interfaces and of one
abbrev pub bridges : List ℕ
bridges = 0x02 ∷ ((0x02 ∷ (mac 1 ++ mac 2)) ++ (0x01 ∷ mac 3))

-- Multi-AP: one radio by its address, with two networks, each its address and its name
abbrev pub operational : List ℕ
operational = 0x01 ∷ (mac 1 ++ (0x02 ∷ (mac 2 ++ (home ++ (mac 3 ++ guest)))))

-- a cursor at p over such a value, with so many entries left, and an entry that it gives
abbrev pub among : (depth p left1 left2 left3 : ℕ) → Cursor
among depth p left1 left2 left3 = record { at = p; left1 = left1; left2 = left2; left3 = left3; code = 0x83; depth = depth }

abbrev pub entry_at_lem : (start entries level : ℕ) → EntryAt
entry_at_lem start entries level = record { start = start; entries = entries; level = level }

-- Multi-AP: the same, with a byte of flags and a reserved byte before each name
abbrev pub configured : List ℕ
configured = 0x01 ∷ (mac 1 ++ (0x02 ∷ (mac 2 ++ (0x40 ∷ 0x00 ∷ (home ++ (mac 3 ++ (0x80 ∷ 0x00 ∷ guest)))))))

-- IEEE 1905.1a, L2NeighborDevice (30), which is none of the kinds: one interface by its address, with one neighbour by
-- its own, with the two addresses that it reaches.
abbrev pub beyond : List ℕ
beyond = 0x01 ∷ (mac 1 ++ (0x00 ∷ 0x01 ∷ (mac 2 ++ (0x00 ∷ 0x02 ∷ (mac 3 ++ mac 4)))))

-- Rule E6: a field of 64 bytes with a text, then a zero byte, and then what is not looked at. The letter é in two
-- bytes.
abbrev pub in_field : List ℕ → List ℕ
in_field text = text ++ (0x00 ∷ replicate (63 - length text) 0xFF)

abbrev pub e_acute : List ℕ
e_acute = 0xC3 ∷ 0xA9 ∷ []

-- three fields, the last one without a zero byte
abbrev pub identification : List ℕ
identification = in_field e_acute ++ (in_field [] ++ replicate 64 0x61)

-- Three texts and two radios, each its id and a text (rule E8): here the names from above.
abbrev pub inventory : List ℕ
inventory = home ++ (guest ++ (0x00 ∷ (0x02 ∷ (mac 1 ++ (guest ++ (mac 2 ++ home))))))

abbrev pub text_of : ℕ → ℕ → List ℕ → List ℕ
text_of code i value = part_of (locate_text_lem code i value) value

-- UTF-8 at the edges of each line of RFC 3629's grammar (section 4): the first and the last character of the line,
abbrev pub on_the_edge : List (List ℕ)
on_the_edge =
    (0x00 ∷ []) ∷ (0x7F ∷ []) ∷
    (0xC2 ∷ 0x80 ∷ []) ∷ (0xDF ∷ 0xBF ∷ []) ∷
    (0xE0 ∷ 0xA0 ∷ 0x80 ∷ []) ∷ (0xE0 ∷ 0xBF ∷ 0xBF ∷ []) ∷
    (0xE1 ∷ 0x80 ∷ 0x80 ∷ []) ∷ (0xEC ∷ 0xBF ∷ 0xBF ∷ []) ∷
    (0xED ∷ 0x80 ∷ 0x80 ∷ []) ∷ (0xED ∷ 0x9F ∷ 0xBF ∷ []) ∷
    (0xEE ∷ 0x80 ∷ 0x80 ∷ []) ∷ (0xEF ∷ 0xBF ∷ 0xBF ∷ []) ∷
    (0xF0 ∷ 0x90 ∷ 0x80 ∷ 0x80 ∷ []) ∷ (0xF0 ∷ 0xBF ∷ 0xBF ∷ 0xBF ∷ []) ∷
    (0xF1 ∷ 0x80 ∷ 0x80 ∷ 0x80 ∷ []) ∷ (0xF3 ∷ 0xBF ∷ 0xBF ∷ 0xBF ∷ []) ∷
    (0xF4 ∷ 0x80 ∷ 0x80 ∷ 0x80 ∷ []) ∷ (0xF4 ∷ 0x8F ∷ 0xBF ∷ 0xBF ∷ []) ∷
    []

-- and its neighbours outside: a first byte that begins none, a second byte one below or one above its range, a last
-- byte that is no tail, a character cut short
abbrev pub past_the_edge : List (List ℕ)
past_the_edge =
    (0x80 ∷ []) ∷ (0xBF ∷ []) ∷ (0xC0 ∷ 0x80 ∷ []) ∷ (0xC1 ∷ 0xBF ∷ []) ∷ (0xF5 ∷ 0x80 ∷ 0x80 ∷ 0x80 ∷ []) ∷ (0xFF ∷ []) ∷
    (0xC2 ∷ 0x7F ∷ []) ∷ (0xC2 ∷ 0xC0 ∷ []) ∷ (0xDF ∷ 0x7F ∷ []) ∷ (0xDF ∷ 0xC0 ∷ []) ∷ (0xDF ∷ []) ∷
    (0xE0 ∷ 0x9F ∷ 0x80 ∷ []) ∷ (0xE0 ∷ 0xC0 ∷ 0x80 ∷ []) ∷ (0xE0 ∷ 0xA0 ∷ 0x7F ∷ []) ∷ (0xE0 ∷ 0xBF ∷ 0xC0 ∷ []) ∷ (0xE0 ∷ 0xA0 ∷ []) ∷
    (0xE1 ∷ 0x7F ∷ 0x80 ∷ []) ∷ (0xE1 ∷ 0xC0 ∷ 0x80 ∷ []) ∷ (0xEC ∷ 0xBF ∷ 0x7F ∷ []) ∷ (0xEC ∷ 0xBF ∷ 0xC0 ∷ []) ∷ (0xEC ∷ 0xBF ∷ []) ∷
    (0xED ∷ 0x7F ∷ 0x80 ∷ []) ∷ (0xED ∷ 0xA0 ∷ 0x80 ∷ []) ∷ (0xED ∷ 0x80 ∷ 0x7F ∷ []) ∷ (0xED ∷ 0x9F ∷ 0xC0 ∷ []) ∷ (0xED ∷ 0x9F ∷ []) ∷
    (0xEE ∷ 0x7F ∷ 0x80 ∷ []) ∷ (0xEE ∷ 0xC0 ∷ 0x80 ∷ []) ∷ (0xEF ∷ 0xBF ∷ 0x7F ∷ []) ∷ (0xEF ∷ 0xBF ∷ 0xC0 ∷ []) ∷ (0xEF ∷ 0xBF ∷ []) ∷
    (0xF0 ∷ 0x80 ∷ 0x80 ∷ 0x80 ∷ []) ∷ (0xF0 ∷ 0x8F ∷ 0x80 ∷ 0x80 ∷ []) ∷ (0xF0 ∷ 0xC0 ∷ 0x80 ∷ 0x80 ∷ []) ∷
    (0xF0 ∷ 0x90 ∷ 0x7F ∷ 0x80 ∷ []) ∷ (0xF0 ∷ 0x90 ∷ 0x80 ∷ 0xC0 ∷ []) ∷ (0xF0 ∷ 0x90 ∷ 0x80 ∷ []) ∷
    (0xF1 ∷ 0x7F ∷ 0x80 ∷ 0x80 ∷ []) ∷ (0xF1 ∷ 0xC0 ∷ 0x80 ∷ 0x80 ∷ []) ∷ (0xF3 ∷ 0xBF ∷ 0x7F ∷ 0x80 ∷ []) ∷ (0xF3 ∷ 0xBF ∷ 0xBF ∷ 0xC0 ∷ []) ∷
    (0xF4 ∷ 0x7F ∷ 0x80 ∷ 0x80 ∷ []) ∷ (0xF4 ∷ 0x90 ∷ 0x80 ∷ 0x80 ∷ []) ∷ (0xF4 ∷ 0x80 ∷ 0x7F ∷ 0x80 ∷ []) ∷ (0xF4 ∷ 0x8F ∷ 0xBF ∷ 0xC0 ∷ []) ∷
    []

-- a TLV with a one-byte value, and one without a value, as a walk lists them
abbrev pub with_a_byte : Tlv
with_a_byte = record { tlv_type = 1; length = 1; offset = 0 }

abbrev pub with_none : Tlv
with_none = record { tlv_type = 2; length = 0; offset = 4 }

abbrev pub two_tlvs : List ℕ
two_tlvs = (0x01 ∷ 0x00 ∷ 0x01 ∷ 0x7F ∷ []) ++ (0x02 ∷ 0x00 ∷ 0x00 ∷ [])

-- an end marker; and a proposed fragment with this id, number, mark and payload
abbrev pub marker : List ℕ
marker = replicate 3 0x00

abbrev pub proposal : (id number : ℕ) (is_last : Bool) (from many : ℕ) → Proposed
proposal id number is_last from many =
    record { version = 0; message_type = 0; id = id; number = number; last = is_last; start = from; length = many }

-- station s joins access point p, and leaves it
abbrev pub join_of : ℕ → ℕ → Event
join_of s p = record { station = s; point = p; is_join = true }

abbrev pub leave_of : ℕ → ℕ → Event
leave_of s p = record { station = s; point = p; is_join = false }

-- A table with station 7 at access point 1, and one with the 128 stations 0 to 127 there: row n has the mark of station
-- n, which is n + 1.
abbrev pub with_7 : Stations
with_7 = table_after fresh_stations (join_of 7 1)

abbrev pub marks_to : ℕ → List ℕ
marks_to zero = []
marks_to (suc n) = marks_to n ++ (suc n ∷ [])

abbrev pub with_128 : Stations
with_128 = marks_to 128 ++ replicate 128 1

-- the rows below n that hold a station, the highest first
abbrev pub held_or : StationRow → List StationRow → List StationRow
held_or free_row rs = rs
held_or (held_row s p) rs = held_row s p ∷ rs

abbrev pub rows_below : ℕ → Stations → List StationRow
rows_below zero t = []
rows_below (suc n) t = held_or (row_at t n) (rows_below n t)

-- Rule T4: a push that is let in, with a long enough store and a payload that fits a place.
pub record LetIn (store : List ℕ) (p : Push) : Type 0 where
  pub long : store_size ≤ length store
  pub lent : store_size ≤ p.lent
  pub small : length p.payload ≤ place_size

-- Two pushes under one key with equal version and type: number 0, not marked last, and number 1, marked last, with room
-- for both payloads.
pub record ZeroThenLastOne (p q : Push) : Type 0 where
  pub key : p.arrival.key ≡ q.arrival.key
  pub version : p.arrival.fragment.version ≡ q.arrival.fragment.version
  pub message_type : p.arrival.fragment.message_type ≡ q.arrival.fragment.message_type
  pub numbers : (p.arrival.fragment.number ≡ 0) × (q.arrival.fragment.number ≡ 1)
  pub marks : (p.arrival.fragment.last ≡ false) × (q.arrival.fragment.last ≡ true)
  pub room : length (p.payload ++ q.payload) ≤ q.room
