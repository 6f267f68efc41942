-- What a fragment that comes in does, from what the sweep, the push and the taking of events ensure.
use mathlib.Core.Path.{◌≡◌, refl, ap, ◌∙◌, subst}
use mathlib.Core.List.{List}
use Prim.Native.Nat.{ℕ, ◌<◌}
use lib.ListN.{length}
use Rattle.std.specs.Prelude.{Option, Some, None, Result, Ok, Err}
use Rattle.numbers.specs.declared.Refusal.{Refusal}
use Rattle.machines.specs.Happened.{Asks, asks_for, asks_nothing}
use Rattle.table.specs.declared.Table.{Table}
use Rattle.pushing.specs.declared.Arrival.{Arrival}
use Rattle.pushing.specs.declared.Pushed.{Pushed}
use Rattle.pushing.specs.declared.Pushed.TheVariants.{WaitingForMoreFragments}
use Rattle.pushing.specs.Push.{pushed_of, way, Goes, output_by, answer_by}
use Rattle.pushing.specs.Show.{shown}
use Rattle.pushing.specs.Made.{Made, by_sweep}
use Rattle.pushing.proofs.Calls.{push_made}
use Rattle.pushing.proofs.Ways.{shown_same}
use Rattle.stations.specs.Rows.{Stations}
use Rattle.captures.specs.declared.Reached.{Reached}
use Rattle.captures.specs.declared.Frame.{Frame}
use Rattle.captures.specs.Reading.{file_step, reached_of, frame_payload, arrival_of_lem}
use Rattle.captures.specs.HandedBack.{Arrived, arrived_in}
use Rattle.house.specs.House.{House, swept_for, way_in, message_of_lem, after_message, after_arrival, frame_in_lem, brought_by, after_brought, answer_to_brought, output_after}

module _ (z : House) (x : Arrived) (out : List ℕ) (answer : Result Pushed Refusal) (kept table' : Table) (store' out' : List ℕ)
    (s : kept ≡ swept_for z x) (g : Goes (way kept z.store x.arrival x.payload (length out)) kept z.store out x.arrival x.payload answer table' store' out') where
  goes : Goes (way_in (length out) z x) (swept_for z x) z.store out x.arrival x.payload answer table' store' out'
  goes = rw s at g

  bytes : shown (pushed_of answer) x.payload out' ≡ message_of_lem (length out) z x
  bytes = rw (goes.answers, goes.puts) (shown_same (swept_for z x) z.store x.arrival x.payload (length out) out)

  pub arrived : Made z.table → x.arrival.fragment.number < 256 → (stations' : Stations) (m : List ℕ) → m ≡ shown (pushed_of answer) x.payload out' → stations' ≡ after_message z.stations m
      → (record { table = table'; store = store'; stations = stations' } ≡ after_arrival (length out) z x)
      × (((pushed_of answer ≡ answer_by (way_in (length out) z x)) × (out' ≡ output_by (way_in (length out) z x) out)) × Made table')
  arrived made byte stations' m e h =
      let is : stations' ≡ after_message z.stations (message_of_lem (length out) z x) = h ∙ ap (after_message z.stations) (e ∙ bytes) in
      (rw (goes.keeps, goes.stores, is) refl, ((goes.answers, goes.puts), push_made _ _ _ _ _ _ _ _ _ (by_sweep made x.arrival.time) byte goes))

-- the contract of `hear`, from what is brought
abbrev Heard : List ℕ → House → Asks Arrived → Result Pushed Refusal → Table → List ℕ → List ℕ → Stations → Type 0
Heard out z brought answer table' store' out' stations' =
    (record { table = table'; store = store'; stations = stations' } ≡ after_brought (length out) z brought)
    × (((pushed_of answer ≡ answer_to_brought (length out) z brought) × (out' ≡ output_after (length out) z brought out)) × Made table')

module _ (s : List ℕ) (at : ℕ) (out : List ℕ) (z : House) where
  abbrev Hears : Result Reached Refusal → Result Pushed Refusal → Table → List ℕ → List ℕ → Stations → Type 0
  Hears r answer table' store' out' stations' = (reached_of r ≡ file_step s at) × Heard out z (brought_by s (file_step s at)) answer table' store' out' stations'

  -- what a frame brings, or none
  abbrev brought_if : Option Frame → Asks Arrived
  brought_if (Some f) = asks_for (arrived_in s f)
  brought_if None = asks_nothing

  brought_is : (r : Result Reached Refusal) → brought_if (frame_in_lem r) ≡ brought_by s (reached_of r)
  brought_is (Ok Reached.FileEnd) = refl
  brought_is (Ok (Reached.Ours f next)) = refl
  brought_is (Ok (Reached.Other next)) = refl
  brought_is (Err r) = refl

  module _ (r : Result Reached Refusal) (e : reached_of r ≡ file_step s at) where
    brought : (o : Option Frame) → o ≡ frame_in_lem r → brought_if o ≡ brought_by s (file_step s at)
    brought o is = ap brought_if is ∙ brought_is r ∙ ap (brought_by s) e

    pub hears_frame : (f : Frame) → Some f ≡ frame_in_lem r → (a : Arrival) (payload : List ℕ) (answer : Result Pushed Refusal) (table' : Table) (store' out' : List ℕ) (stations' : Stations) → a ≡ arrival_of_lem f → payload ≡ frame_payload s f
        → Heard out z (asks_for (record { arrival = a; payload = payload })) answer table' store' out' stations' → Hears r answer table' store' out' stations'
    hears_frame f is a payload answer table' store' out' stations' ea ep h =
        let by : asks_for (record { arrival = a; payload = payload }) ≡ brought_by s (file_step s at) = rw (ea, ep) (brought (Some f) is) in
        (e, subst (λ (b : Asks Arrived). Heard out z b answer table' store' out' stations') by h)

    pub hears_nothing : None ≡ frame_in_lem r → Made z.table → Hears r (Ok WaitingForMoreFragments) z.table z.store out z.stations
    hears_nothing is made = (e, subst (λ (b : Asks Arrived). Heard out z b (Ok WaitingForMoreFragments) z.table z.store out z.stations) (brought None is) (refl, ((refl, refl), made)))
