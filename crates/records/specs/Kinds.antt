-- The record kinds and their codes (rule K2).
use Rattle.std.specs.Prelude.{List, [], ◌∷◌, ℕ}
use Rattle.records.specs.declared.RecordKind.{RecordKind}
use Rattle.records.specs.declared.Record.{Record}

-- Rule K2: the kinds that have fields.
abbrev pub record_kinds : List RecordKind
record_kinds =
    RecordKind.EndOfMessage
    ∷ RecordKind.AlMacAddress
    ∷ RecordKind.MacAddress
    ∷ RecordKind.SearchedRole
    ∷ RecordKind.SupportedRole
    ∷ RecordKind.SupportedFreqBand
    ∷ RecordKind.Ieee1905ProfileVersion
    ∷ RecordKind.LinkMetricResultCode
    ∷ RecordKind.LinkMetricQuery
    ∷ RecordKind.ClientAssociation
    ∷ RecordKind.MultiApProfile
    ∷ RecordKind.Profile2ApCapability
    ∷ []

-- Rule K2: the code of a kind, from IEEE 1905.1, IEEE 1905.1a and Multi-AP (section 17.2).
abbrev pub code_of : RecordKind → ℕ
code_of RecordKind.EndOfMessage = 0
code_of RecordKind.AlMacAddress = 1
code_of RecordKind.MacAddress = 2
code_of RecordKind.SearchedRole = 13
code_of RecordKind.SupportedRole = 15
code_of RecordKind.SupportedFreqBand = 16
code_of RecordKind.Ieee1905ProfileVersion = 26
code_of RecordKind.LinkMetricResultCode = 12
code_of RecordKind.LinkMetricQuery = 8
code_of RecordKind.ClientAssociation = 146
code_of RecordKind.MultiApProfile = 179
code_of RecordKind.Profile2ApCapability = 180

-- the kind of a record
abbrev pub kind_of : Record → RecordKind
kind_of Record.EndOfMessage = RecordKind.EndOfMessage
kind_of (Record.AlMacAddress m) = RecordKind.AlMacAddress
kind_of (Record.MacAddress m) = RecordKind.MacAddress
kind_of (Record.SearchedRole role) = RecordKind.SearchedRole
kind_of (Record.SupportedRole role) = RecordKind.SupportedRole
kind_of (Record.SupportedFreqBand band) = RecordKind.SupportedFreqBand
kind_of (Record.Ieee1905ProfileVersion version) = RecordKind.Ieee1905ProfileVersion
kind_of (Record.LinkMetricResultCode result) = RecordKind.LinkMetricResultCode
kind_of (Record.LinkMetricQuery q) = RecordKind.LinkMetricQuery
kind_of (Record.ClientAssociation a) = RecordKind.ClientAssociation
kind_of (Record.MultiApProfile profile) = RecordKind.MultiApProfile
kind_of (Record.Profile2ApCapability c) = RecordKind.Profile2ApCapability
