-- Each record and the bytes of its value, by the layouts of rule K2 (IEEE 1905.1, clause 6.4; IEEE 1905.1a; Multi-AP,
-- section 17.2). Bytes are counted from 0, bits from the lowest. Every byte of a layout is kept, also a reserved one
-- (rule K6).
use Rattle.std.specs.Prelude.{Bool, true, false, cond, List, [], ◌∷◌, ◌++◌, ℕ, ◌+◌, ◌*◌, ◌/◌, ◌%◌, eqb, get_or, Option, Some, None}
use Rattle.records.specs.declared.MacAddr.{MacAddr}
use Rattle.records.specs.declared.SupportedFreqBand.{SupportedFreqBand}
use Rattle.records.specs.declared.Ieee1905ProfileVersion.{Ieee1905ProfileVersion}
use Rattle.records.specs.declared.LinkMetricResultCode.{LinkMetricResultCode}
use Rattle.records.specs.declared.LinkMetricQuery.{LinkMetricQuery}
use Rattle.records.specs.declared.AssociationState.{AssociationState}
use Rattle.records.specs.declared.ClientAssociation.{ClientAssociation}
use Rattle.records.specs.declared.MultiApProfile.{MultiApProfile}
use Rattle.records.specs.declared.ByteCounterUnits.{ByteCounterUnits}
use Rattle.records.specs.declared.Profile2ApCapability.{Profile2ApCapability}
use Rattle.records.specs.declared.Record.{Record}

-- Rule K3: the six bytes of an address, and the address in the six bytes from p on.
abbrev pub octets : MacAddr → List ℕ
octets m = m.b0 ∷ m.b1 ∷ m.b2 ∷ m.b3 ∷ m.b4 ∷ m.b5 ∷ []

abbrev pub address_at_lem : List ℕ → ℕ → MacAddr
address_at_lem s p = record {
  b0 = get_or s p 0;
  b1 = get_or s (p + 1) 0;
  b2 = get_or s (p + 2) 0;
  b3 = get_or s (p + 3) 0;
  b4 = get_or s (p + 4) 0;
  b5 = get_or s (p + 5) 0;
}

-- Rule K5: a byte that is a code. The codes from 0 on have names, in this order. Any other is reserved, with its
-- number.
abbrev pub bands : List SupportedFreqBand
bands = SupportedFreqBand.Band_802_11_2_4 ∷ SupportedFreqBand.Band_802_11_5 ∷ SupportedFreqBand.Band_802_11_60 ∷ []

abbrev pub band_of_lem : ℕ → SupportedFreqBand
band_of_lem b = get_or bands b (SupportedFreqBand.Reserved b)

abbrev pub band_byte_lem : SupportedFreqBand → ℕ
band_byte_lem SupportedFreqBand.Band_802_11_2_4 = 0
band_byte_lem SupportedFreqBand.Band_802_11_5 = 1
band_byte_lem SupportedFreqBand.Band_802_11_60 = 2
band_byte_lem (SupportedFreqBand.Reserved b) = b

abbrev pub versions : List Ieee1905ProfileVersion
versions = Ieee1905ProfileVersion.Ieee1905_1 ∷ Ieee1905ProfileVersion.Ieee1905_1a ∷ []

abbrev pub version_of_lem : ℕ → Ieee1905ProfileVersion
version_of_lem b = get_or versions b (Ieee1905ProfileVersion.Reserved b)

abbrev pub version_byte_lem : Ieee1905ProfileVersion → ℕ
version_byte_lem Ieee1905ProfileVersion.Ieee1905_1 = 0
version_byte_lem Ieee1905ProfileVersion.Ieee1905_1a = 1
version_byte_lem (Ieee1905ProfileVersion.Reserved b) = b

abbrev pub results : List LinkMetricResultCode
results = LinkMetricResultCode.InvalidNeighbor ∷ []

abbrev pub result_of : ℕ → LinkMetricResultCode
result_of b = get_or results b (LinkMetricResultCode.UnknownCode b)

abbrev pub result_byte_lem : LinkMetricResultCode → ℕ
result_byte_lem LinkMetricResultCode.InvalidNeighbor = 0
result_byte_lem (LinkMetricResultCode.UnknownCode b) = b

-- Rule K5, for profiles. 0 is no profile: a value that has it is refused (rule K2).
abbrev pub profiles : List MultiApProfile
profiles = MultiApProfile.Reserved 0 ∷ MultiApProfile.Profile1 ∷ MultiApProfile.Profile2 ∷ MultiApProfile.Profile3 ∷ []

abbrev pub profile_of_lem : ℕ → MultiApProfile
profile_of_lem b = get_or profiles b (MultiApProfile.Reserved b)

abbrev pub profile_byte_lem : MultiApProfile → ℕ
profile_byte_lem MultiApProfile.Profile1 = 1
profile_byte_lem MultiApProfile.Profile2 = 2
profile_byte_lem MultiApProfile.Profile3 = 3
profile_byte_lem (MultiApProfile.Reserved b) = b

-- Rule K5: 0x80 says joined, 0x00 left. No other byte is accepted (rule K2).
abbrev pub state_of : ℕ → AssociationState
state_of b = cond (eqb b 128) AssociationState.JoinedBss AssociationState.LeftBss

abbrev pub state_byte_lem : AssociationState → ℕ
state_byte_lem AssociationState.LeftBss = 0
state_byte_lem AssociationState.JoinedBss = 128

-- Rule K6: the units, by the number that their two bits say.
abbrev pub units : List ByteCounterUnits
units = ByteCounterUnits.Bytes ∷ ByteCounterUnits.KiB ∷ ByteCounterUnits.MiB ∷ []

abbrev pub units_of : ℕ → ByteCounterUnits
units_of n = get_or units n ByteCounterUnits.Reserved

abbrev pub units_code : ByteCounterUnits → ℕ
units_code ByteCounterUnits.Bytes = 0
units_code ByteCounterUnits.KiB = 1
units_code ByteCounterUnits.MiB = 2
units_code ByteCounterUnits.Reserved = 3

abbrev pub bit : Bool → ℕ
bit true = 1
bit false = 0

-- Rule K6: byte 2 of a capability. From the highest bit on it holds the units, three flags and the reserved bits.
abbrev pub flags_of : Profile2ApCapability → ℕ
flags_of c =
    units_code c.byte_counter_units * 64
    + bit c.prioritization * 32
    + bit c.dpp_onboarding * 16
    + bit c.traffic_separation * 8
    + c.flags_reserved % 8

-- Rule K6: the capability in these bytes.
abbrev pub capability_in_lem : List ℕ → Profile2ApCapability
capability_in_lem s = record {
  max_prioritization_rules = get_or s 0 0;
  reserved = get_or s 1 0;
  byte_counter_units = units_of (get_or s 2 0 / 64);
  prioritization = eqb (get_or s 2 0 / 32 % 2) 1;
  dpp_onboarding = eqb (get_or s 2 0 / 16 % 2) 1;
  traffic_separation = eqb (get_or s 2 0 / 8 % 2) 1;
  flags_reserved = get_or s 2 0 % 8;
  max_vids = get_or s 3 0;
}

-- Rule K5: the station stands first, then the access point.
abbrev pub association_in_lem : List ℕ → ClientAssociation
association_in_lem s = record { sta_mac = address_at_lem s 0; ap_mac = address_at_lem s 6; association_state = state_of (get_or s 12 0) }

-- Rule K2: a query has an address only if its type byte is 1.
abbrev pub has_address : ℕ → Bool
has_address neighborType = eqb neighborType 1

abbrev pub query_in_lem : List ℕ → LinkMetricQuery
query_in_lem s =
    cond (has_address (get_or s 0 0))
    (record { neighbor_type = get_or s 0 0; neighbor_mac = Some (address_at_lem s 1); requested_metrics = get_or s 7 0 })
    (record { neighbor_type = get_or s 0 0; neighbor_mac = None; requested_metrics = get_or s 1 0 })

abbrev pub neighbor_octets : Option MacAddr → List ℕ
neighbor_octets (Some m) = octets m
neighbor_octets None = []

abbrev pub query_bytes : LinkMetricQuery → List ℕ
query_bytes q = q.neighbor_type ∷ (neighbor_octets q.neighbor_mac ++ (q.requested_metrics ∷ []))

abbrev pub association_bytes : ClientAssociation → List ℕ
association_bytes a = octets a.sta_mac ++ (octets a.ap_mac ++ (state_byte_lem a.association_state ∷ []))

abbrev pub capability_bytes : Profile2ApCapability → List ℕ
capability_bytes c = c.max_prioritization_rules ∷ c.reserved ∷ flags_of c ∷ c.max_vids ∷ []

-- Rules O1 and A6: the bytes of a record's value, as they are written.
abbrev pub bytes_of : Record → List ℕ
bytes_of Record.EndOfMessage = []
bytes_of (Record.AlMacAddress m) = octets m
bytes_of (Record.MacAddress m) = octets m
bytes_of (Record.SearchedRole role) = role ∷ []
bytes_of (Record.SupportedRole role) = role ∷ []
bytes_of (Record.SupportedFreqBand band) = band_byte_lem band ∷ []
bytes_of (Record.Ieee1905ProfileVersion version) = version_byte_lem version ∷ []
bytes_of (Record.LinkMetricResultCode result) = result_byte_lem result ∷ []
bytes_of (Record.LinkMetricQuery q) = query_bytes q
bytes_of (Record.ClientAssociation a) = association_bytes a
bytes_of (Record.MultiApProfile profile) = profile_byte_lem profile ∷ []
bytes_of (Record.Profile2ApCapability c) = capability_bytes c
