-- A record's fields as they cross to C (rules K2, K5, K6 and C6): five shapes, with the raw byte beside a named value.
use Rattle.std.specs.Prelude.{Bool, true, false, [], ℕ, leb, length, Option, Some, None}
use Rattle.numbers.specs.Numbers.{Answer, gives, refuses}
use Rattle.records.specs.declared.MacAddr.{MacAddr}
use Rattle.records.specs.declared.LinkMetricQuery.{LinkMetricQuery}
use Rattle.records.specs.declared.ClientAssociation.{ClientAssociation}
use Rattle.records.specs.declared.Profile2ApCapability.{Profile2ApCapability}
use Rattle.records.specs.declared.Record.{Record}
use Rattle.records.specs.Values.{bands, band_byte_lem, versions, version_byte_lem, results, result_byte_lem, profiles, profile_byte_lem, state_byte_lem, units_code, flags_of}
use Rattle.stations.specs.Whereabouts.{is_joined}
use Rattle.c_stations.specs.Numbers.{no_address_lem}
use Rattle.c_records.specs.declared.AshlarQuery.{AshlarQuery}
use Rattle.c_records.specs.declared.AshlarAssociation.{AshlarAssociation}
use Rattle.c_records.specs.declared.AshlarCapability.{AshlarCapability}
use Rattle.c_records.specs.declared.Shape.{Shape}

-- Rule K2: a query's fields. Where it has no address, that field is 0.
abbrev pub neighbor_of : Option MacAddr → MacAddr
neighbor_of (Some m) = m
neighbor_of None = no_address_lem

abbrev pub has_neighbor_lem : Option MacAddr → Bool
has_neighbor_lem (Some m) = true
has_neighbor_lem None = false

abbrev pub crossed_query : LinkMetricQuery → AshlarQuery
crossed_query q = record {
  neighbor = neighbor_of q.neighbor_mac;
  neighbor_type = q.neighbor_type;
  has_neighbor = has_neighbor_lem q.neighbor_mac;
  metrics = q.requested_metrics;
}

-- Rule K5: the station, the access point, and whether the station joined.
abbrev pub crossed_association : ClientAssociation → AshlarAssociation
crossed_association a = record { station = a.sta_mac; point = a.ap_mac; joined = is_joined a.association_state }

-- Rule K6: a capability's fields, the units by their number.
abbrev pub crossed_capability : Profile2ApCapability → AshlarCapability
crossed_capability c = record {
  max_prioritization_rules = c.max_prioritization_rules;
  reserved = c.reserved;
  byte_counter_units = units_code c.byte_counter_units;
  prioritization = c.prioritization;
  dpp_onboarding = c.dpp_onboarding;
  traffic_separation = c.traffic_separation;
  flags_reserved = c.flags_reserved;
  max_vids = c.max_vids;
}

-- Rule K5: a byte, and whether it is reserved: the first codes, from 0 on, have names.
abbrev pub byte_of : (names byte : ℕ) → Shape
byte_of names byte = Shape.Byte byte (leb names byte)

-- Rules K2 and C6: what each record holds. A role is 0, the registrar.
abbrev pub shape_of : Record → Shape
shape_of Record.EndOfMessage = Shape.Nothing
shape_of (Record.AlMacAddress m) = Shape.Address m
shape_of (Record.MacAddress m) = Shape.Address m
shape_of (Record.SearchedRole role) = byte_of 1 role
shape_of (Record.SupportedRole role) = byte_of 1 role
shape_of (Record.SupportedFreqBand band) = byte_of (length bands) (band_byte_lem band)
shape_of (Record.Ieee1905ProfileVersion version) = byte_of (length versions) (version_byte_lem version)
shape_of (Record.LinkMetricResultCode result) = byte_of (length results) (result_byte_lem result)
shape_of (Record.LinkMetricQuery q) = Shape.Query (crossed_query q)
shape_of (Record.ClientAssociation a) = Shape.Association (crossed_association a) (state_byte_lem a.association_state)
shape_of (Record.MultiApProfile profile) = byte_of (length profiles) (profile_byte_lem profile)
shape_of (Record.Profile2ApCapability c) = Shape.Capability (crossed_capability c) (flags_of c)

-- Rule C6: the fields of the shape that is asked for. A record of another shape: 16.
abbrev pub address_fields : Shape → Answer MacAddr
address_fields Shape.Nothing = refuses 16 []
address_fields (Shape.Address m) = gives m
address_fields (Shape.Byte byte reserved) = refuses 16 []
address_fields (Shape.Query q) = refuses 16 []
address_fields (Shape.Association a state) = refuses 16 []
address_fields (Shape.Capability c flags) = refuses 16 []

abbrev pub byte_fields : Shape → Answer (ℕ × Bool)
byte_fields Shape.Nothing = refuses 16 []
byte_fields (Shape.Address m) = refuses 16 []
byte_fields (Shape.Byte byte reserved) = gives (byte, reserved)
byte_fields (Shape.Query q) = refuses 16 []
byte_fields (Shape.Association a state) = refuses 16 []
byte_fields (Shape.Capability c flags) = refuses 16 []

abbrev pub query_fields : Shape → Answer AshlarQuery
query_fields Shape.Nothing = refuses 16 []
query_fields (Shape.Address m) = refuses 16 []
query_fields (Shape.Byte byte reserved) = refuses 16 []
query_fields (Shape.Query q) = gives q
query_fields (Shape.Association a state) = refuses 16 []
query_fields (Shape.Capability c flags) = refuses 16 []

abbrev pub association_fields : Shape → Answer (AshlarAssociation × ℕ)
association_fields Shape.Nothing = refuses 16 []
association_fields (Shape.Address m) = refuses 16 []
association_fields (Shape.Byte byte reserved) = refuses 16 []
association_fields (Shape.Query q) = refuses 16 []
association_fields (Shape.Association a state) = gives (a, state)
association_fields (Shape.Capability c flags) = refuses 16 []

abbrev pub capability_fields : Shape → Answer (AshlarCapability × ℕ)
capability_fields Shape.Nothing = refuses 16 []
capability_fields (Shape.Address m) = refuses 16 []
capability_fields (Shape.Byte byte reserved) = refuses 16 []
capability_fields (Shape.Query q) = refuses 16 []
capability_fields (Shape.Association a state) = refuses 16 []
capability_fields (Shape.Capability c flags) = gives (c, flags)
