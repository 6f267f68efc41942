-- Which records can be written (rule O1), and what a writing call answers (rules O3 and O4).
use Rattle.std.specs.Prelude.{Bool, true, cond, not, [], ℕ, eqb, leb, ltb, length, Option, Some, None}
use Rattle.numbers.specs.Numbers.{Answer, gives, refuses}
use Rattle.framing.specs.Tlv.{write_size}
use Rattle.records.specs.declared.SupportedFreqBand.{SupportedFreqBand}
use Rattle.records.specs.declared.Ieee1905ProfileVersion.{Ieee1905ProfileVersion}
use Rattle.records.specs.declared.LinkMetricResultCode.{LinkMetricResultCode}
use Rattle.records.specs.declared.MacAddr.{MacAddr}
use Rattle.records.specs.declared.MultiApProfile.{MultiApProfile}
use Rattle.records.specs.declared.Record.{Record}
use Rattle.records.specs.Values.{band_byte_lem, version_byte_lem, result_byte_lem, profile_byte_lem, has_address, bytes_of}

-- Rules K5 and O1: the lowest byte that is read as each case of a code.
abbrev pub lowest_band_lem : SupportedFreqBand → ℕ
lowest_band_lem SupportedFreqBand.Band_802_11_2_4 = 0
lowest_band_lem SupportedFreqBand.Band_802_11_5 = 1
lowest_band_lem SupportedFreqBand.Band_802_11_60 = 2
lowest_band_lem (SupportedFreqBand.Reserved b) = 3

abbrev pub lowest_version_lem : Ieee1905ProfileVersion → ℕ
lowest_version_lem Ieee1905ProfileVersion.Ieee1905_1 = 0
lowest_version_lem Ieee1905ProfileVersion.Ieee1905_1a = 1
lowest_version_lem (Ieee1905ProfileVersion.Reserved b) = 2

abbrev pub lowest_result_lem : LinkMetricResultCode → ℕ
lowest_result_lem LinkMetricResultCode.InvalidNeighbor = 0
lowest_result_lem (LinkMetricResultCode.UnknownCode b) = 1

abbrev pub lowest_profile_lem : MultiApProfile → ℕ
lowest_profile_lem MultiApProfile.Profile1 = 1
lowest_profile_lem MultiApProfile.Profile2 = 2
lowest_profile_lem MultiApProfile.Profile3 = 3
lowest_profile_lem (MultiApProfile.Reserved b) = 4

-- Rule O1: a query of type 1 has an address, and no other query has one.
abbrev pub agrees : ℕ → Option MacAddr → Bool
agrees type (Some m) = has_address type
agrees type None = not (has_address type)

-- Rule O1: the records that reading can return. All others are refused by 9.
abbrev pub readable : Record → Bool
readable Record.EndOfMessage = true
readable (Record.AlMacAddress m) = true
readable (Record.MacAddress m) = true
readable (Record.SearchedRole role) = eqb role 0
readable (Record.SupportedRole role) = eqb role 0
readable (Record.SupportedFreqBand band) = leb (lowest_band_lem band) (band_byte_lem band)
readable (Record.Ieee1905ProfileVersion version) = leb (lowest_version_lem version) (version_byte_lem version)
readable (Record.LinkMetricResultCode result) = leb (lowest_result_lem result) (result_byte_lem result)
readable (Record.LinkMetricQuery q) = agrees q.neighbor_type q.neighbor_mac
readable (Record.ClientAssociation a) = true
readable (Record.MultiApProfile profile) = leb (lowest_profile_lem profile) (profile_byte_lem profile)
readable (Record.Profile2ApCapability c) = ltb c.flags_reserved 8

-- Rule O4: a record's value, into room of `room` bytes: 9, then 7. Otherwise the answer is the number of bytes written.
unfoldable pub value_size : Record → ℕ → Answer ℕ
value_size r room =
    cond (readable r)
    (cond (ltb room (length (bytes_of r))) (refuses 7 []) (gives (length (bytes_of r))))
    (refuses 9 [])

-- Rules O1 and O3: a record's TLV. 9 comes first, then 8 and 7 by rule B5. The other numbers of O3 can't come: a record
-- has a kind, and no bytes are read.
unfoldable pub record_size_lem : Record → ℕ → Answer ℕ
record_size_lem r room = cond (readable r) (write_size (length (bytes_of r)) room) (refuses 9 [])
