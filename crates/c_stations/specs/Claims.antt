-- What is claimed of this crate's calls; proofs/Claims.antt proves it.
use Rattle.std.specs.Prelude.{◌≡◌, Bool, ℕ, Option, Result}
use Rattle.numbers.specs.Firmness.{Firm}
use Rattle.numbers.specs.Numbers.{answered, number}
use Rattle.numbers.specs.declared.Refusal.{Refusal}
use Rattle.records.specs.declared.MacAddr.{MacAddr}
use Rattle.stations.specs.declared.Heard.{Heard}
use Rattle.stations.specs.declared.Taken.{Taken}
use Rattle.stations.specs.declared.Seat.{Seat}
use Rattle.c_stations.specs.Numbers.{association_with_lem, no_address_lem, heard_numbers_lem, refused_as_lem, event_numbers_lem, applied_numbers_lem, where_numbers_lem, row_numbers_lem}

-- Rule A4: for each public call, by its name, and each conversion, by its two types, any two answers that its contract allows are one.
pub record Firmness : Type 0 where
  pub association_with : (station point : MacAddr) (joined : Bool)
      → Firm (λ r. r ≡ association_with_lem station point joined)
  pub no_address : Firm (λ r. r ≡ no_address_lem)
  pub event_numbers : (heard : Result Heard Refusal) → Firm (λ r. r ≡ event_numbers_lem (answered heard))
  pub applied_numbers : (size : ℕ) (taken : Result Taken Refusal) → Firm (λ r. r ≡ applied_numbers_lem size (answered taken))
  pub where_numbers : (place : Option MacAddr) → Firm (λ r. r ≡ where_numbers_lem place)
  pub row_numbers : (seat : Option Seat) → Firm (λ r. r ≡ row_numbers_lem seat)
  pub ashlar_heard_from_heard : (heard : Heard) → Firm (λ r. r ≡ heard_numbers_lem heard)
  pub ashlar_heard_from_refusal : (refusal : Refusal) → Firm (λ r. r ≡ refused_as_lem (number refusal))

-- everything that is claimed of this crate
pub record Claims : Type 0 where
  pub firmness : Firmness
