-- Rule C1: the answers of the station table (part P), in the numbers that cross to C. An address crosses as it is, six
-- bytes in their order.
use Rattle.std.specs.Prelude.{Bool, true, false, cond, ℕ, ◌-◌, Option, Some, None}
use Rattle.numbers.specs.Numbers.{Answer, gives, refuses}
use Rattle.records.specs.declared.MacAddr.{MacAddr}
use Rattle.records.specs.declared.AssociationState.{AssociationState}
use Rattle.records.specs.declared.ClientAssociation.{ClientAssociation}
use Rattle.stations.specs.declared.Heard.{Heard}
use Rattle.stations.specs.declared.Taken.{Taken}
use Rattle.stations.specs.declared.Seat.{Seat}
use Rattle.c_stations.specs.declared.AshlarHeard.{AshlarHeard}
use Rattle.c_stations.specs.declared.AshlarApplied.{AshlarApplied}
use Rattle.c_stations.specs.declared.AshlarAt.{AshlarAt}
use Rattle.c_stations.specs.declared.AshlarRow.{AshlarRow}

-- Rule P6: the event that a C caller reports. This station joined that access point, or left it.
abbrev pub association_with_lem : (station point : MacAddr) → (joined : Bool) → ClientAssociation
association_with_lem station point joined =
    let state = cond joined AssociationState.JoinedBss AssociationState.LeftBss in
    record { sta_mac = station; ap_mac = point; association_state = state }

-- what stands where there is no address to give
abbrev pub no_address_lem : MacAddr
no_address_lem = record { b0 = 0; b1 = 0; b2 = 0; b3 = 0; b4 = 0; b5 = 0 }

-- Rules P2 and P3: an event's answers are numbers from 1 on, and 0 for a refusal. "Moved" comes with the access point
-- where the station was.
abbrev pub heard_as_lem : ℕ → AshlarHeard
heard_as_lem answer = record { from = no_address_lem; answer = answer; refusal = 0 }

abbrev pub heard_numbers_lem : Heard → AshlarHeard
heard_numbers_lem Heard.New = heard_as_lem 1
heard_numbers_lem (Heard.Moved from) = record { from = from; answer = 2; refusal = 0 }
heard_numbers_lem Heard.There = heard_as_lem 3
heard_numbers_lem Heard.Removed = heard_as_lem 4
heard_numbers_lem Heard.Stale = heard_as_lem 5

abbrev pub refused_as_lem : ℕ → AshlarHeard
refused_as_lem n = record { from = no_address_lem; answer = 0; refusal = n }

abbrev pub event_numbers_lem : Answer Heard → AshlarHeard
event_numbers_lem (gives h) = heard_numbers_lem h
event_numbers_lem (refuses n vs) = refused_as_lem n

-- Rule P6: an event from a value of this size. The bytes after the event are the rest.
abbrev pub applied_numbers_lem : (size : ℕ) → Answer Taken → AshlarApplied
applied_numbers_lem size (gives x) =
    record { consumed = x.consumed; rest = size - x.consumed; heard = heard_numbers_lem x.heard }
applied_numbers_lem size (refuses n vs) = record { consumed = 0; rest = 0; heard = refused_as_lem n }

-- Rule P7: where a station is.
abbrev pub where_numbers_lem : Option MacAddr → AshlarAt
where_numbers_lem None = record { point = no_address_lem; held = false }
where_numbers_lem (Some point) = record { point = point; held = true }

-- Rule P7: what a row holds.
abbrev pub row_numbers_lem : Option Seat → AshlarRow
row_numbers_lem None = record { station = no_address_lem; point = no_address_lem; held = false }
row_numbers_lem (Some seat) = record { station = seat.station; point = seat.point; held = true }
