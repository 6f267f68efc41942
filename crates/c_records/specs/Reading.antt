-- Rule C6: what was read of a value of a record kind, in the structs that cross to C. `refusal` is the refusal's number
-- of part N, and 0 where nothing is refused. Where it is refused, every other field is 0.
use Rattle.std.specs.Prelude.{Bool, false, ℕ, ◌-◌}
use Rattle.numbers.specs.Numbers.{Answer, gives, refuses, and_then, mapped}
use Rattle.records.specs.declared.MacAddr.{MacAddr}
use Rattle.records.specs.declared.RecordRead.{RecordRead}
use Rattle.c_stations.specs.Numbers.{no_address_lem}
use Rattle.c_records.specs.declared.AshlarQuery.{AshlarQuery}
use Rattle.c_records.specs.declared.AshlarAssociation.{AshlarAssociation}
use Rattle.c_records.specs.declared.AshlarCapability.{AshlarCapability}
use Rattle.c_records.specs.declared.AshlarAddressRead.{AshlarAddressRead}
use Rattle.c_records.specs.declared.AshlarByteRead.{AshlarByteRead}
use Rattle.c_records.specs.declared.AshlarQueryRead.{AshlarQueryRead}
use Rattle.c_records.specs.declared.AshlarAssociationRead.{AshlarAssociationRead}
use Rattle.c_records.specs.declared.AshlarCapabilityRead.{AshlarCapabilityRead}
use Rattle.c_records.specs.declared.Shape.{Shape}
use Rattle.c_records.specs.Shapes.{shape_of}

-- the fields that a value holds, with how many bytes they took and how many follow these
pub record ShapeRead (A : Type 0) : Type 0 where
  pub fields : A
  pub consumed : ℕ
  pub rest : ℕ

abbrev pub in_shape : {A : Type 0} → (consumed rest : ℕ) → Answer A → Answer (ShapeRead A)
in_shape consumed rest x = mapped (λ f. record { fields = f; consumed = consumed; rest = rest }) x

-- Rule K1: what was read of a value of this size, in the shape that is asked for. The value's own refusals come first.
abbrev pub read_in_shape : {A : Type 0} → (Shape → Answer A) → (size : ℕ) → Answer RecordRead → Answer (ShapeRead A)
read_in_shape fieldsIn size x = and_then x (λ r. in_shape r.consumed (size - r.consumed) (fieldsIn (shape_of r.value)))

-- kinds 1 and 2
abbrev pub address_numbers_lem : Answer (ShapeRead MacAddr) → AshlarAddressRead
address_numbers_lem (gives h) = record { consumed = h.consumed; rest = h.rest; address = h.fields; refusal = 0 }
address_numbers_lem (refuses n vs) = record { consumed = 0; rest = 0; address = no_address_lem; refusal = n }

-- kinds 12, 13, 15, 16, 26 and 0xB3
abbrev pub byte_numbers_lem : Answer (ShapeRead (ℕ × Bool)) → AshlarByteRead
byte_numbers_lem (gives h) = record { consumed = h.consumed; rest = h.rest; byte = h.fields.0; reserved = h.fields.1; refusal = 0 }
byte_numbers_lem (refuses n vs) = record { consumed = 0; rest = 0; byte = 0; reserved = false; refusal = n }

-- kind 8
abbrev pub no_query_lem : AshlarQuery
no_query_lem = record { neighbor = no_address_lem; neighbor_type = 0; has_neighbor = false; metrics = 0 }

abbrev pub query_numbers_lem : Answer (ShapeRead AshlarQuery) → AshlarQueryRead
query_numbers_lem (gives h) = record { consumed = h.consumed; rest = h.rest; query = h.fields; refusal = 0 }
query_numbers_lem (refuses n vs) = record { consumed = 0; rest = 0; query = no_query_lem; refusal = n }

-- kind 0x92
abbrev pub no_association_lem : AshlarAssociation
no_association_lem = record { station = no_address_lem; point = no_address_lem; joined = false }

abbrev pub association_numbers_lem : Answer (ShapeRead (AshlarAssociation × ℕ)) → AshlarAssociationRead
association_numbers_lem (gives h) = record { consumed = h.consumed; rest = h.rest; association = h.fields.0; state = h.fields.1; refusal = 0 }
association_numbers_lem (refuses n vs) = record { consumed = 0; rest = 0; association = no_association_lem; state = 0; refusal = n }

-- kind 0xB4
abbrev pub no_capability_lem : AshlarCapability
no_capability_lem = record {
  max_prioritization_rules = 0;
  reserved = 0;
  byte_counter_units = 0;
  prioritization = false;
  dpp_onboarding = false;
  traffic_separation = false;
  flags_reserved = 0;
  max_vids = 0;
}

abbrev pub capability_numbers_lem : Answer (ShapeRead (AshlarCapability × ℕ)) → AshlarCapabilityRead
capability_numbers_lem (gives h) = record { consumed = h.consumed; rest = h.rest; capability = h.fields.0; flags = h.fields.1; refusal = 0 }
capability_numbers_lem (refuses n vs) = record { consumed = 0; rest = 0; capability = no_capability_lem; flags = 0; refusal = n }
