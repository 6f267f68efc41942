-- The table is a machine whose events act station by station: so each station's own events say where it is and what
-- they were answered. Calls that happened are a run of it.
use mathlib.Core.Path.{◌≡◌, refl, sym, ap, ◌∙◌, subst}
use mathlib.Core.Bool.{Bool, true, false, ◌||◌, or-false}
use mathlib.Core.List.{List, [], ◌∷◌, ◌++◌, map}
use Prim.Native.Nat.{ℕ}
use borrow.Author.Tests.{eqb-true, eqb-false}
use Rattle.numbers.specs.Numbers.{answered, Answer, gives, refuses, mapped, is_given}
use Rattle.machines.specs.Machine.{those, run, remaining, gathered, every}
use Rattle.machines.specs.Story.{Machine, story, view_after, ActsByKey}
use Rattle.machines.specs.Happened.{Happened, Asks, asks_for, asks_nothing, Leads, Tied, TestsStep, Tests}
use Rattle.machines.proofs.Lists.{those_append, every_remains, every_gathered}
use Rattle.machines.proofs.Story as Y
use Rattle.machines.proofs.TwoRuns as R
use Rattle.machines.proofs.Happened as H
use Rattle.stations.specs.declared.Heard.{Heard}
use Rattle.stations.specs.Whereabouts.{Whereabouts, nowhere, Event, event_of, where_after, answer_at}
use Rattle.stations.specs.Rows.{Stations, fresh_stations, where_of, answer_to, table_after}
use Rattle.stations.specs.declared.Taken.{Taken}
use Rattle.stations.specs.declared.reading.AssociationRead.{AssociationRead}
use Rattle.stations.specs.Events.{association_read, answer_to_read, table_after_read}
use Rattle.stations.specs.Runs.{EventAsked, EventGot, of_record, of_value, from_event, from_value, StationCall, event_meets, station_contract, event_read_lem, event_by, events_of, heard_in, heard_by, was_heard, NoneRefused, is_of_station, asks_of_station, brought_for, takes_event}
use Rattle.stations.specs.Claims.{StationsMade, ExactlyWhen, EventsReordered, SameStations}
use Rattle.stations.proofs.Written.{Kept}
use Rattle.stations.proofs.Effects.{acts, fresh_kept, fresh_place}
use Rattle.stations.proofs.Latest.{led, leads, led_only}

abbrev table : Machine Stations Event (Answer Heard) Whereabouts
table = record {
  step = table_after;
  says = answer_to;
  view = λ station t. where_of t station;
  own = is_of_station;
  common = λ e. false;
  tell = λ p e. where_after e p;
  answer = λ p e. answer_at false e p;
}

is_own_lem : (station : ℕ) (e : Event) → (is_of_station station e || false) ≡ true → e.station ≡ station
is_own_lem station e h = eqb-true _ _ (sym (or-false (is_of_station station e)) ∙ h)

local : ActsByKey table takes_event Kept
local = record {
  stays = λ t e k. (acts t k e).kept;
  no_effect = λ t e k h. (acts t k e).refused h;
  same = λ station t e k h own. subst (λ (s : ℕ). where_of (table_after t e) s ≡ where_after e (where_of t s)) (is_own_lem station e own) ((acts t k e).own h);
  other = λ station t e k own. (acts t k e).others station (λ q. eqb-false e.station station (sym (or-false (is_of_station station e)) ∙ own) (sym q));
  said = λ station t e k h own. subst (λ (s : ℕ). answer_to t e ≡ answer_at false e (where_of t s)) (eqb-true _ _ own) ((acts t k e).said h);
}

-- calls that happened are steps of this machine: those that read an event; the others alter nothing and are refused
taken_heard : (n : ℕ) (a : Answer Heard) → mapped (λ (x : Taken). x.heard) (mapped (λ h. record { heard = h; consumed = n }) a) ≡ a
taken_heard n (gives h) = refl
taken_heard n (refuses k vs) = refl

record Step (t : Stations) (a : Asks Event) (reply : Answer Heard) (t' : Stations) : Type 0 where
  leads : Leads table_after answer_to t a reply t'
  tests : TestsStep takes_event t a (is_given reply)

step_by : (t : Stations) (a : EventAsked) (g : EventGot) (t' : Stations) → event_meets t a g t' → Step t (event_by a) (heard_in g) t'
step_by t (of_record e) (from_event r) t' m = record { leads = (sym m.1, sym m.0); tests = ap is_given (sym m.0) }
step_by t (of_value value) (from_value r) t' m = by_read (association_read value) m.0 m.1
  where
    by_read : (x : Answer AssociationRead) → answered r ≡ answer_to_read t x → t' ≡ table_after_read t x → Step t (event_read_lem x) (mapped (λ (y : Taken). y.heard) (answered r)) t'
    by_read (gives x) p q =
        let same : answer_to t (event_of x.client) ≡ mapped (λ (y : Taken). y.heard) (answered r) = sym (taken_heard x.consumed (answer_to t (event_of x.client))) ∙ ap (mapped (λ (y : Taken). y.heard)) (sym p) in
        record { leads = (sym q, same); tests = ap is_given same }
    by_read (refuses n vs) p q = record { leads = sym q; tests = ap (λ (y : Answer Taken). is_given (mapped (λ (z : Taken). z.heard) y)) p }
step_by t (of_record e) (from_value r) t' m = absurd m
step_by t (of_value value) (from_event r) t' m = absurd m

tied : Tied station_contract table_after answer_to event_by heard_by
tied o m = (step_by o.was o.asked o.got o.became m).leads

heard_tests : Tests station_contract event_by takes_event was_heard
heard_tests o m = (step_by o.was o.asked o.got o.became m).tests

station_tests : (station : ℕ) → Tests station_contract event_by (λ t e. is_of_station station e) (brought_for station)
station_tests station o m = by_event (event_by o.asked)
  where
    by_event : (a : Asks Event) → TestsStep (λ t e. is_of_station station e) o.was a (asks_of_station station a)
    by_event (asks_for e) = refl
    by_event asks_nothing = refl

module _ (calls : List StationCall) (t : Stations) (h : Happened station_contract fresh_stations calls t) where
  ends_at : run table_after fresh_stations (events_of calls) ≡ t
  ends_at = H.ends_at station_contract table_after answer_to event_by heard_by tied h

  calls_kept : Kept t
  calls_kept = subst Kept ends_at (Y.good_run table takes_event Kept local (events_of calls) fresh_stations fresh_kept)

  remains : remaining table_after takes_event fresh_stations (events_of calls) ≡ events_of (those was_heard calls)
  remains = H.remains station_contract table_after answer_to event_by heard_by tied takes_event was_heard heard_tests h

  told_heard : (station : ℕ) → gathered table_after (λ s e. is_of_station station e) answer_to fresh_stations (events_of calls) ≡ map heard_by (those (brought_for station) calls)
  told_heard station = H.gathers station_contract table_after answer_to event_by heard_by tied (λ s e. is_of_station station e) (brought_for station) (station_tests station) h

  all_taken : NoneRefused calls → every table_after takes_event fresh_stations (events_of calls) ≡ true
  all_taken = H.all_pass station_contract table_after answer_to event_by heard_by tied takes_event was_heard heard_tests h

pub made_kept : (t : Stations) → StationsMade t → Kept t
made_kept t made = calls_kept made.calls t made.happened

-- where a station's own events lead
own_those : (station : ℕ) (events : List Event) → those (λ e. is_of_station station e || false) events ≡ those (is_of_station station) events
own_those station events = λ i. those (λ e. or-false (is_of_station station e) i) events

led_view : (p : Whereabouts) (events : List Event) → view_after table p events ≡ led p events
unfolding led view_after
led_view p [] = refl
led_view p (e ∷ events) = led_view (where_after e p) events

ends_led : (calls : List StationCall) (t : Stations) → Happened station_contract fresh_stations calls t → (station : ℕ) → where_of t station ≡ led nowhere (those (is_of_station station) (events_of (those was_heard calls)))
ends_led calls t h station =
    ap (λ (x : Stations). where_of x station) (sym (ends_at calls t h))
    ∙ Y.alone table takes_event Kept local station (events_of calls) fresh_stations fresh_kept
    ∙ led_view (where_of fresh_stations station) _
    ∙ (λ i. led (fresh_place station i) (own_those station (remains calls t h i) i))

-- rule P5
pub exactly_when : (calls : List StationCall) (t : Stations) → Happened station_contract fresh_stations calls t → (station point : ℕ) → ExactlyWhen station point calls t
exactly_when calls t h station point = record {
  only = λ is. led_only point _ (sym (ends_led calls t h station) ∙ is);
  if = λ l. ends_led calls t h station ∙ leads point nowhere _ l;
}

-- rule D4
module _ (calls : List StationCall) (t : Stations) (h : Happened station_contract fresh_stations calls t) (calls' : List StationCall) (t' : Stations) (h' : Happened station_contract fresh_stations calls' t') where
  pub order_across_stations : EventsReordered (events_of calls) (events_of calls') → NoneRefused calls → NoneRefused calls' → SameStations calls calls' t t'
  order_across_stations same none none' =
      let all = all_taken calls t h none in
      let all' = all_taken calls' t' h' none' in
      let stories : (station : ℕ) → story table takes_event station fresh_stations (events_of calls) ≡ story table takes_event station fresh_stations (events_of calls')
      = λ station.
      ap (those (λ e. is_of_station station e || false)) (every_remains table_after takes_event (events_of calls) fresh_stations all)
      ∙ own_those station (events_of calls)
      ∙ same station
      ∙ sym (own_those station (events_of calls'))
      ∙ sym (ap (those (λ e. is_of_station station e || false)) (every_remains table_after takes_event (events_of calls') fresh_stations all')) in
      record {
        heard = λ station.
            sym (told_heard calls t h station)
            ∙ sym (every_gathered table_after takes_event (λ s e. is_of_station station e) answer_to (events_of calls) fresh_stations all)
            ∙ R.alike_gathered table takes_event Kept local station (events_of calls) (events_of calls') fresh_stations fresh_stations fresh_kept fresh_kept refl (stories station)
            ∙ every_gathered table_after takes_event (λ s e. is_of_station station e) answer_to (events_of calls') fresh_stations all'
            ∙ told_heard calls' t' h' station;
        whereabouts = λ station.
            ap (λ (x : Stations). where_of x station) (sym (ends_at calls t h))
            ∙ R.alike_view table takes_event Kept local station (events_of calls) (events_of calls') fresh_stations fresh_stations fresh_kept fresh_kept refl (stories station)
            ∙ ap (λ (x : Stations). where_of x station) (ends_at calls' t' h');
      }

pub swapped : (before behind : List Event) (e f : Event) → (e.station ≡ f.station → ⊥) → EventsReordered (before ++ e ∷ f ∷ behind) (before ++ f ∷ e ∷ behind)
unfolding those
swapped before behind e f apart station =
    those_append (is_of_station station) before (e ∷ f ∷ behind)
    ∙ ap (λ (l : List Event). those (is_of_station station) before ++ l) (by_station (is_of_station station e) refl (is_of_station station f) refl)
    ∙ sym (those_append (is_of_station station) before (f ∷ e ∷ behind))
  where
    by_station : (b : Bool) → is_of_station station e ≡ b → (c : Bool) → is_of_station station f ≡ c → those (is_of_station station) (e ∷ f ∷ behind) ≡ those (is_of_station station) (f ∷ e ∷ behind)
    by_station true p true q = absurd (apart (eqb-true _ _ p ∙ sym (eqb-true _ _ q)))
    by_station true p false q = rw (p, q)
    by_station false p true q = rw (p, q)
    by_station false p false q = rw (p, q)
