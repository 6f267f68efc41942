-- The claims of specs/Claims.antt, proved.
use mathlib.Core.Path.{◌≡◌, refl, ap}
use mathlib.Core.Bool.{false, true≢false}
use mathlib.Core.List.{List, []}
use Prim.Native.Nat.{ℕ, ◌<◌, ◌/◌, ◌%◌}
use native.Mathlib.Omega.{arith}
use lib.ListN.{get_or}
use Rattle.numbers.specs.Numbers.{Answer, gives, refuses, mapped, is_given}
use Rattle.numbers.proofs.Firm.{by_equation, by_answer, both}
use Rattle.machines.specs.Machine.{run}
use Rattle.machines.specs.Happened.{and_steps}
use Rattle.records.specs.declared.MacAddr.{MacAddr}
use Rattle.records.specs.Values.{octets}
use Rattle.stations.specs.declared.Heard.{Heard}
use Rattle.stations.specs.declared.Taken.{Taken}
use Rattle.stations.specs.declared.reading.AssociationRead.{AssociationRead}
use Rattle.stations.specs.Addresses.{address_number, address_of}
use Rattle.stations.specs.Whereabouts.{Event, event_of}
use Rattle.stations.specs.Rows.{Stations, fresh_stations, answer_to, table_after}
use Rattle.stations.specs.Events.{association_read, answer_to_read, table_after_read, answer_from, table_from}
use Rattle.stations.specs.Runs.{of_value, event_read_lem, event_by}
use Rattle.stations.specs.Claims.{Firmness, Claims}
use Rattle.stations.proofs.Sound.{moves, why_refused, full_is_128, sound}
use Rattle.stations.proofs.Associations.{reads_association}
use Rattle.stations.proofs.Answers.{answered_when, stale_unaltered}
use Rattle.stations.proofs.Orders.{exactly_when, order_across_stations, swapped}

firmness : Firmness
firmness = record {
  fresh = by_equation fresh_stations;
  event = λ t e. both _ _ (by_answer (answer_to t (event_of e))) (by_equation (table_after t (event_of e)));
  event_from = λ t value. both _ _ (by_answer (answer_from t value)) (by_equation (table_from t value));
  where_is = λ t station. by_equation _;
  count = λ t. by_equation _;
  row = λ t n. by_equation _;
}

value_refused : (t : Stations) (value : List ℕ) → is_given (answer_from t value) ≡ false → table_from t value ≡ t
value_refused t value h = by_read (association_read value) h
  where
    by_event : (e : Event) (n : ℕ) (a : Answer Heard) → answer_to t e ≡ a → is_given {A = Taken} (mapped (λ k. record { heard = k; consumed = n }) a) ≡ false → table_after t e ≡ t
    by_event e n (gives k) q h = absurd (true≢false h)
    by_event e n (refuses m vs) q h = (why_refused t e (ap is_given q)).unaltered

    by_read : (x : Answer AssociationRead) → is_given (answer_to_read t x) ≡ false → table_after_read t x ≡ t
    by_read (gives x) h = by_event (event_of x.client) x.consumed (answer_to t (event_of x.client)) refl h
    by_read (refuses n vs) h = refl

event_in_value : (t : Stations) (value : List ℕ) → table_from t value ≡ run table_after t (and_steps (event_by (of_value value)) [])
unfolding run
event_in_value t value = by_read (association_read value)
  where
    by_read : (x : Answer AssociationRead) → table_after_read t x ≡ run table_after t (and_steps (event_read_lem x) [])
    by_read (gives x) = refl
    by_read (refuses n vs) = refl

address_kept : (m : MacAddr) → ((i : ℕ) → get_or (octets m) i 0 < 256) → address_of (address_number m) ≡ m
unfolding address_of
address_kept m h = λ i. record {
  b0 = e0 i;
  b1 = e1 i;
  b2 = e2 i;
  b3 = e3 i;
  b4 = e4 i;
  b5 = e5 i;
}
  where
    e0 : address_number m / 1099511627776 % 256 ≡ m.b0
    e0 = omega (arith, h 0, h 1, h 2, h 3, h 4, h 5)

    e1 : address_number m / 4294967296 % 256 ≡ m.b1
    e1 = omega (arith, h 0, h 1, h 2, h 3, h 4, h 5)

    e2 : address_number m / 16777216 % 256 ≡ m.b2
    e2 = omega (arith, h 0, h 1, h 2, h 3, h 4, h 5)

    e3 : address_number m / 65536 % 256 ≡ m.b3
    e3 = omega (arith, h 0, h 1, h 2, h 3, h 4, h 5)

    e4 : address_number m / 256 % 256 ≡ m.b4
    e4 = omega (arith, h 0, h 1, h 2, h 3, h 4, h 5)

    e5 : address_number m % 256 ≡ m.b5
    e5 = omega (arith, h 0, h 1, h 2, h 3, h 4, h 5)

pub claims : Claims
claims = record {
  firmness = firmness;
  moves = moves;
  why_refused = why_refused;
  answered_when = answered_when;
  stale_unaltered = stale_unaltered;
  full_is_128 = full_is_128;
  sound = sound;
  exactly_when = exactly_when;
  order_across_stations = order_across_stations;
  swapped = swapped;
  reads_association = reads_association;
  value_refused = value_refused;
  event_in_value = event_in_value;
  address_kept = address_kept;
}
