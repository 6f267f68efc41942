-- What the calls answer to an event (rules P2 to P4), and to an event in a value (rule P6).
use Rattle.std.specs.Prelude.{List, [], ℕ}
use Rattle.numbers.specs.Numbers.{Answer, gives, refuses, and_then, mapped}
use Rattle.records.specs.declared.ClientAssociation.{ClientAssociation}
use Rattle.records.specs.declared.RecordKind.{RecordKind}
use Rattle.records.specs.declared.Record.{Record}
use Rattle.records.specs.Kinds.{code_of}
use Rattle.records.specs.Reading.{read_record_lem}
use Rattle.stations.specs.declared.Taken.{Taken}
use Rattle.stations.specs.declared.reading.AssociationRead.{AssociationRead}
use Rattle.stations.specs.Whereabouts.{event_of}
use Rattle.stations.specs.Rows.{Stations, answer_to, table_after}

-- The association in a record that was read. Any other record is of a kind that isn't asked for, 16. Reading 0x92 gives
-- no such record (see `reads_association`).
abbrev pub association_of_lem : Record → Answer ClientAssociation
association_of_lem (Record.ClientAssociation a) = gives a
association_of_lem Record.EndOfMessage = refuses 16 []
association_of_lem (Record.AlMacAddress m) = refuses 16 []
association_of_lem (Record.MacAddress m) = refuses 16 []
association_of_lem (Record.SearchedRole r) = refuses 16 []
association_of_lem (Record.SupportedRole r) = refuses 16 []
association_of_lem (Record.SupportedFreqBand b) = refuses 16 []
association_of_lem (Record.Ieee1905ProfileVersion v) = refuses 16 []
association_of_lem (Record.LinkMetricResultCode c) = refuses 16 []
association_of_lem (Record.LinkMetricQuery q) = refuses 16 []
association_of_lem (Record.MultiApProfile p) = refuses 16 []
association_of_lem (Record.Profile2ApCapability c) = refuses 16 []

abbrev pub association_code : ℕ
association_code = code_of RecordKind.ClientAssociation

-- Rule P6: the association in a value of kind 0x92, or reading's own 3 or 5 (rule K7), and how many bytes it took.
abbrev pub association_read : List ℕ → Answer AssociationRead
association_read value = and_then (read_record_lem association_code value) (λ x. mapped (λ a. record { client = a; consumed = x.consumed }) (association_of_lem x.value))

-- Rule P6: what the event that was read is answered, 17 too. A value that doesn't read leaves the table as it is.
abbrev pub answer_to_read : Stations → Answer AssociationRead → Answer Taken
answer_to_read t read = and_then read (λ x. mapped (λ h. record { heard = h; consumed = x.consumed }) (answer_to t (event_of x.client)))

abbrev pub table_after_read : Stations → Answer AssociationRead → Stations
table_after_read t (gives x) = table_after t (event_of x.client)
table_after_read t (refuses n vs) = t

abbrev pub answer_from : Stations → List ℕ → Answer Taken
answer_from t value = answer_to_read t (association_read value)

abbrev pub table_from : Stations → List ℕ → Stations
table_from t value = table_after_read t (association_read value)
