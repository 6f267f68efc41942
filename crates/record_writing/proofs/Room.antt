-- A law of `record_size_lem`, and how long a value can be.
use mathlib.Core.Path.{◌≡◌}
use mathlib.Core.Bool.{true}
use mathlib.Core.List.{[], ◌∷◌, ◌++◌}
use Prim.Native.Nat.{ℕ, ◌≤◌}
use native.Mathlib.Omega.{arith}
use lib.ListN.{length}
use Rattle.std.specs.Prelude.{Option, Some, None}
use Rattle.numbers.specs.Numbers.{Answer}
use Rattle.framing.specs.Tlv.{write_size}
use Rattle.records.specs.declared.MacAddr.{MacAddr}
use Rattle.records.specs.declared.Record.{Record}
use Rattle.records.specs.Values.{neighbor_octets, bytes_of}
use Rattle.record_writing.specs.Writing.{readable, record_size_lem}

-- a record that can be read is written as its TLV is
pub framed : (r : Record) (room : ℕ) (a : Answer ℕ) → readable r ≡ true → a ≡ write_size (length (bytes_of r)) room → a ≡ record_size_lem r room
unfolding record_size_lem
framed r room a f e = simp f e

address_or_none : (n k : ℕ) (m : Option MacAddr) → length (n ∷ (neighbor_octets m ++ (k ∷ []))) ≤ 13
address_or_none n k (Some m) = omega arith
address_or_none n k None = omega arith

-- no record's value is longer than an association's, so that 8 is never given
pub short_values : (r : Record) → length (bytes_of r) ≤ 13
short_values Record.EndOfMessage = omega arith
short_values (Record.AlMacAddress m) = omega arith
short_values (Record.MacAddress m) = omega arith
short_values (Record.SearchedRole role) = omega arith
short_values (Record.SupportedRole role) = omega arith
short_values (Record.SupportedFreqBand x) = omega arith
short_values (Record.Ieee1905ProfileVersion x) = omega arith
short_values (Record.LinkMetricResultCode x) = omega arith
short_values (Record.LinkMetricQuery q) = address_or_none q.neighbor_type q.requested_metrics q.neighbor_mac
short_values (Record.ClientAssociation a) = omega arith
short_values (Record.MultiApProfile x) = omega arith
short_values (Record.Profile2ApCapability c) = omega arith
