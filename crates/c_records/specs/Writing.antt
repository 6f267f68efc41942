-- The record that a C caller's fields mean (rules K2, O1 and C6), and its TLV. Exactly the fields that reading gives
-- mean a record that is written: 16 for a code of another shape, then 9.
use Rattle.std.specs.Prelude.{cond, List, [], ◌∷◌, ℕ, eqb, ltb, Option, Some, None}
use Rattle.numbers.specs.Numbers.{Answer, gives, refuses, and_then}
use Rattle.numbers.specs.Bytes.{is_same_lem}
use Rattle.framing.specs.Tlv.{tlv_bytes}
use Rattle.records.specs.declared.MacAddr.{MacAddr}
use Rattle.records.specs.declared.LinkMetricQuery.{LinkMetricQuery}
use Rattle.records.specs.declared.Profile2ApCapability.{Profile2ApCapability}
use Rattle.records.specs.declared.RecordKind.{RecordKind}
use Rattle.records.specs.declared.Record.{Record}
use Rattle.records.specs.Values.{octets, units_of, bytes_of}
use Rattle.records.specs.Kinds.{code_of, kind_of}
use Rattle.records.specs.declared.RecordRead.{RecordRead}
use Rattle.records.specs.Reading.{read_record_lem}
use Rattle.record_writing.specs.Writing.{record_size_lem}
use Rattle.c_stations.specs.Numbers.{no_address_lem, association_with_lem}
use Rattle.c_records.specs.declared.AshlarQuery.{AshlarQuery}
use Rattle.c_records.specs.declared.AshlarAssociation.{AshlarAssociation}
use Rattle.c_records.specs.declared.AshlarCapability.{AshlarCapability}

-- Rule K2: an address under its code.
unfoldable pub address_record_lem : (code : ℕ) → MacAddr → Answer Record
address_record_lem code m =
    cond (eqb code (code_of RecordKind.AlMacAddress)) (gives (Record.AlMacAddress m))
    (cond (eqb code (code_of RecordKind.MacAddress)) (gives (Record.MacAddress m))
    (refuses 16 []))

-- Rules K5 and O1: a byte under its code means what it reads as. A byte that its kind's check refuses, by 5: 9. A code
-- of another shape reads no single byte: 16.
abbrev pub byte_meant : Answer RecordRead → Answer Record
byte_meant (gives x) = gives x.value
byte_meant (refuses n vs) = refuses (cond (eqb n 5) 9 16) []

abbrev pub byte_record_lem : (code byte : ℕ) → Answer Record
byte_record_lem code byte = byte_meant (read_record_lem code (byte ∷ []))

-- Rules K2 and O1: a query. A neighbour other than 0 without its flag: 9.
abbrev pub query_with_lem : AshlarQuery → Option MacAddr → LinkMetricQuery
query_with_lem q m = record { neighbor_type = q.neighbor_type; neighbor_mac = m; requested_metrics = q.metrics }

unfoldable pub query_record_lem : AshlarQuery → Answer Record
query_record_lem q =
    cond q.has_neighbor (gives (Record.LinkMetricQuery (query_with_lem q (Some q.neighbor))))
    (cond (is_same_lem (octets q.neighbor) (octets no_address_lem)) (gives (Record.LinkMetricQuery (query_with_lem q None)))
    (refuses 9 []))

-- Rule K5: an association.
abbrev pub association_record_lem : AshlarAssociation → Answer Record
association_record_lem a = gives (Record.ClientAssociation (association_with_lem a.station a.point a.joined))

-- Rules K6 and O1: a capability. Units above 3: 9.
abbrev pub capability_with : AshlarCapability → Profile2ApCapability
capability_with c = record {
  max_prioritization_rules = c.max_prioritization_rules;
  reserved = c.reserved;
  byte_counter_units = units_of c.byte_counter_units;
  prioritization = c.prioritization;
  dpp_onboarding = c.dpp_onboarding;
  traffic_separation = c.traffic_separation;
  flags_reserved = c.flags_reserved;
  max_vids = c.max_vids;
}

abbrev pub capability_record_lem : AshlarCapability → Answer Record
capability_record_lem c = cond (ltb 3 c.byte_counter_units) (refuses 9 []) (gives (Record.Profile2ApCapability (capability_with c)))

-- Rules O1 and O3: the TLV of what is meant, into room of `room` bytes. 16 and 9 come first, then what writing a record
-- refuses: 9, 8 and 7.
abbrev pub meant_size : Answer Record → (room : ℕ) → Answer ℕ
meant_size x room = and_then x (λ r. record_size_lem r room)

abbrev pub meant_bytes : Answer Record → List ℕ
meant_bytes (gives r) = tlv_bytes (code_of (kind_of r)) (bytes_of r)
meant_bytes (refuses n vs) = []
