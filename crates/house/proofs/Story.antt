-- The story (rule H5): the stations are where the events of the messages put them.
use mathlib.Core.Path.{◌≡◌, refl, sym, ap, ◌∙◌, subst}
use mathlib.Core.Bool.{Bool, true, false, cond, ◌&&◌, true≢false}
use mathlib.Core.List.{List, [], ◌∷◌, ◌++◌, map, flatten}
use Prim.Native.Nat.{ℕ}
use Rattle.std.specs.Prelude.{Result, Ok, Err}
use Rattle.numbers.specs.Numbers.{Answer, gives, refuses, answered}
use Rattle.numbers.specs.declared.Refusal.{Refusal}
use Rattle.numbers.specs.declared.Refusal.TheVariants.{NoStationRoom}
use Rattle.machines.specs.Machine.{those, run, remaining, gathered}
use Rattle.machines.specs.Happened.{Happened, no_call, next_call, Asks, asks_for, asks_nothing, and_steps, steps_of}
use Rattle.walking.specs.Steps.{walk_from}
use Rattle.walking.specs.Walk.{walk_of}
use Rattle.records.specs.declared.ClientAssociation.{ClientAssociation}
use Rattle.pushing.specs.Push.{PushAnswer, waiting, duplicated, inconsistent, missing, missing_last, single, joined, output_by, answer_by}
use Rattle.pushing.specs.Show.{shown}
use Rattle.stations.specs.Whereabouts.{Whereabouts, is_nowhere, heard_of, Event, event_of}
use Rattle.stations.specs.Rows.{Stations, fresh_stations, all_held, where_of, answer_to, table_after}
use Rattle.stations.specs.declared.Heard.{Heard}
use Rattle.stations.specs.declared.reading.AssociationRead.{AssociationRead}
use Rattle.stations.specs.Events.{association_read, table_from}
use Rattle.stations.specs.Runs.{StationCall, of_record, of_value, from_event, station_contract, event_read_lem, event_by, events_of, was_heard, takes_event}
use Rattle.stations.proofs.Claims.{claims}
use Rattle.captures.specs.HandedBack.{Arrived}
use Rattle.house.specs.House.{House, fresh_house, event_values, events_in, way_in, message_of_lem, after_arrival}
use Rattle.house.specs.Story.{after_all, is_whole, messages_in, events_from}
use Rattle.house.specs.Claims.{ExactlyAt, TheStory}

run_join : {S E : Type 0} (step : S → E → S) (s : S) (xs ys : List E) → run step s (xs ++ ys) ≡ run step (run step s xs) ys
unfolding run
run_join step s [] ys = refl
run_join step s (x ∷ xs) ys = run_join step (step s x) xs ys

-- no bytes bring no event; and where no message is whole, there are no bytes
pub none_in_nothing : events_in [] ≡ []
unfolding events_in event_values walk_of walk_from those
none_in_nothing = refl

no_bytes : (a : Answer PushAnswer) (payload out : List ℕ) → is_whole a ≡ false → shown a payload out ≡ []
no_bytes (gives waiting) payload out e = refl
no_bytes (gives duplicated) payload out e = refl
no_bytes (gives inconsistent) payload out e = refl
no_bytes (gives missing) payload out e = refl
no_bytes (gives missing_last) payload out e = refl
no_bytes (gives (single n)) payload out e = absurd (true≢false e)
no_bytes (gives (joined n)) payload out e = absurd (true≢false e)
no_bytes (refuses n vs) payload out e = refl

-- the values of all events, message by message
values_are : (room : ℕ) (z : House) (xs : List Arrived) → (after_all room z xs).stations ≡ run table_from z.stations (flatten (map events_in (messages_in room z xs)))
unfolding run gathered flatten
values_are room z [] = refl
values_are room z (x ∷ xs) = values_are room (after_arrival room z x) xs ∙ by_whole (is_whole (answer_by (way_in room z x))) refl
  where
    rest : List (List ℕ)
    rest = flatten (map events_in (messages_in room (after_arrival room z x) xs))

    by_whole : (b : Bool) → is_whole (answer_by (way_in room z x)) ≡ b
        → run table_from (run table_from z.stations (events_in (message_of_lem room z x))) rest
        ≡ run table_from z.stations (flatten (map events_in (cond b (message_of_lem room z x ∷ messages_in room (after_arrival room z x) xs) (messages_in room (after_arrival room z x) xs))))
    by_whole true e = sym (run_join table_from z.stations (events_in (message_of_lem room z x)) rest)
    by_whole false e =
        let none : events_in (message_of_lem room z x) ≡ [] = ap events_in (no_bytes (answer_by (way_in room z x)) x.payload (output_by (way_in room z x) []) e) ∙ none_in_nothing in
        ap (λ (vs : List (List ℕ)). run table_from (run table_from z.stations vs) rest) none

-- a value is its event, or none
steps_join : (t : Stations) (a : Asks Event) (es : List Event) → run table_after t (and_steps a es) ≡ run table_after (run table_after t (and_steps a [])) es
unfolding run
steps_join t (asks_for e) es = refl
steps_join t asks_nothing es = refl

events_are : (t : Stations) (vs : List (List ℕ)) → run table_from t vs ≡ run table_after t (events_from vs)
unfolding run
events_are t [] = refl
events_are t (v ∷ vs) =
    events_are (table_from t v) vs
    ∙ ap (λ (u : Stations). run table_after u (events_from vs)) (claims.event_in_value t v)
    ∙ sym (steps_join t (event_by (of_value v)) (events_from vs))

-- the records of these events, and the calls that bring them
abbrev client_by : Answer AssociationRead → List ClientAssociation → List ClientAssociation
client_by (gives x) cs = x.client ∷ cs
client_by (refuses n vs) cs = cs

abbrev clients_in : List (List ℕ) → List ClientAssociation
clients_in [] = []
clients_in (v ∷ vs) = client_by (association_read v) (clients_in vs)

clients_are : (vs : List (List ℕ)) → map event_of (clients_in vs) ≡ events_from vs
clients_are [] = refl
clients_are (v ∷ vs) = by_read (association_read v) (clients_are vs)
  where
    by_read : (r : Answer AssociationRead) → map event_of (clients_in vs) ≡ events_from vs → map event_of (client_by r (clients_in vs)) ≡ and_steps (event_read_lem r) (events_from vs)
    by_read (gives x) rest = ap (λ (es : List Event). event_of x.client ∷ es) rest
    by_read (refuses n us) rest = rest

abbrev answer_or : Bool → Event → Whereabouts → Result Heard Refusal
answer_or b e was = cond b (Err NoStationRoom) (Ok (heard_of e was))

abbrev answer_got : Stations → Event → Result Heard Refusal
answer_got t e = answer_or (e.is_join && (is_nowhere (where_of t e.station) && all_held t)) e (where_of t e.station)

got_is : (t : Stations) (e : Event) → answered (answer_got t e) ≡ answer_to t e
got_is t e = by_test (e.is_join && (is_nowhere (where_of t e.station) && all_held t))
  where
    by_test : (b : Bool) → answered (answer_or b e (where_of t e.station)) ≡ cond b (refuses 17 []) (gives (heard_of e (where_of t e.station)))
    by_test true = refl
    by_test false = refl

abbrev call_for : Stations → ClientAssociation → StationCall
call_for t a = record { was = t; asked = of_record a; got = from_event (answer_got t (event_of a)); became = table_after t (event_of a) }

abbrev station_calls : Stations → List ClientAssociation → List StationCall
station_calls t [] = []
station_calls t (a ∷ cs) = call_for t a ∷ station_calls (table_after t (event_of a)) cs

happened : (t : Stations) (cs : List ClientAssociation) → Happened station_contract t (station_calls t cs) (run table_after t (map event_of cs))
unfolding run
happened t [] = no_call
happened t (a ∷ cs) = next_call {o = call_for t a} (got_is t (event_of a), refl) (happened (table_after t (event_of a)) cs)

-- the events of the calls that were not refused are those that the table takes
remains : (t : Stations) (cs : List ClientAssociation) → events_of (those was_heard (station_calls t cs)) ≡ remaining table_after takes_event t (map event_of cs)
unfolding those gathered steps_of
remains t [] = refl
remains t (a ∷ cs) = rw (got_is t (event_of a)) (by_test (takes_event t (event_of a)) (remains (table_after t (event_of a)) cs))
  where
    later : List StationCall
    later = those was_heard (station_calls (table_after t (event_of a)) cs)

    taken : List Event
    taken = remaining table_after takes_event (table_after t (event_of a)) (map event_of cs)

    by_test : (b : Bool) → events_of later ≡ taken → events_of (cond b (call_for t a ∷ later) later) ≡ cond b (event_of a ∷ taken) taken
    by_test true rest = ap (λ (es : List Event). event_of a ∷ es) rest
    by_test false rest = rest

exactly_at : (vs : List (List ℕ)) (t : Stations) → t ≡ run table_after fresh_stations (events_from vs) → (station point : ℕ) → ExactlyAt station point (events_from vs) t
exactly_at vs t e station point =
    let cs = clients_in vs in
    let ends : run table_after fresh_stations (map event_of cs) ≡ t = ap (run table_after fresh_stations) (clients_are vs) ∙ sym e in
    let told : events_of (those was_heard (station_calls fresh_stations cs)) ≡ remaining table_after takes_event fresh_stations (events_from vs) = remains fresh_stations cs ∙ ap (remaining table_after takes_event fresh_stations) (clients_are vs) in
    let x = claims.exactly_when (station_calls fresh_stations cs) t (subst (λ (u : Stations). Happened station_contract fresh_stations (station_calls fresh_stations cs) u) ends (happened fresh_stations cs)) station point in
    record { only = rw told at x.only; if = rw told at x.if }

pub the_story : (room : ℕ) (store : List ℕ) (xs : List Arrived) → TheStory room store xs
the_story room store xs =
    let there = values_are room (fresh_house store) xs ∙ events_are fresh_stations (flatten (map events_in (messages_in room (fresh_house store) xs))) in
    record { put_there = there; exactly = exactly_at (flatten (map events_in (messages_in room (fresh_house store) xs))) (after_all room (fresh_house store) xs).stations there }
