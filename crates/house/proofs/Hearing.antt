-- What a loop over the records of a file keeps, and how a turn goes on or ends: the records from `at` on are not heard
-- yet.
use mathlib.Core.Path.{◌≡◌, refl, sym, ap, ◌∙◌}
use mathlib.Core.Bool.{false, true≢false}
use mathlib.Core.List.{List, [], ◌∷◌}
use Prim.Native.Nat.{ℕ}
use Rattle.numbers.specs.Numbers.{Answer, gives, refuses}
use Rattle.machines.specs.Machine.{run}
use Rattle.walking.specs.Steps.{Ahead, ended, passed, last}
use Rattle.captures.specs.Reading.{Captured, file_step}
use Rattle.house.specs.House.{House, brought_by, after_brought}
use Rattle.house.specs.Story.{after_one, after_records}
use Rattle.house.specs.Windows.{records_from, stop_of}
use Rattle.house.proofs.Windows.{one_ahead}
use Rattle.house.proofs.Stops.{goes_over_lem, stop_on, stopped, none_here}

module _ (room : ℕ) (s : List ℕ) where
  pub none_heard : (z : House) (cs : List Captured) → cs ≡ [] → after_records room s z cs ≡ z
  unfolding run
  none_heard z cs e = ap (after_records room s z) e

  pub one_heard : (z : House) (c : Captured) (cs : List Captured) → after_records room s z (c ∷ cs) ≡ after_records room s (after_one room s z c) cs
  unfolding run
  one_heard z c cs = refl

  module _ (z₀ : House) (from : ℕ) where
    pub record Hearing (at : ℕ) (z : House) : Type 0 where
      pub will : after_records room s z (records_from s at) ≡ after_records room s z₀ (records_from s from)
      pub stops : stop_of s at ≡ stop_of s from

    pub begins : Hearing from z₀
    begins = record { will = refl; stops = refl }

    -- `room'` is what the code takes the output's length for
    module _ (at : ℕ) (z z' : House) (h : Hearing at z) (room' : ℕ) (long : room' ≡ room) (x : Answer (Ahead Captured)) (e : x ≡ file_step s at) (heard : z' ≡ after_brought room' z (brought_by s (file_step s at))) where
      brought : z' ≡ after_brought room z (brought_by s x)
      brought = heard ∙ (λ i. after_brought (long i) z (brought_by s (sym e i)))

      -- a step that goes over no record is the last
      pub ends : goes_over_lem x ≡ false → (z' ≡ after_records room s z₀ (records_from s from)) × ((at ≡ stop_of s from) × (x ≡ file_step s (stop_of s from)))
      ends none = (
        by_step x none brought ∙ sym (none_heard z (records_from s at) (none_here s at (ap goes_over_lem (sym e) ∙ none))) ∙ h.will,
        stopped s at from h.stops x none e,
      )
        where
          by_step : (y : Answer (Ahead Captured)) → goes_over_lem y ≡ false → z' ≡ after_brought room z (brought_by s y) → z' ≡ z
          by_step (gives (passed c next)) k f = absurd (true≢false k)
          by_step (gives (last c to)) k f = f
          by_step (gives ended) k f = f
          by_step (refuses n vs) k f = f

    pub goes_on : (at : ℕ) (z z' : House) → Hearing at z → (room' : ℕ) → room' ≡ room → (c : Captured) (next : ℕ) → gives (passed c next) ≡ file_step s at → z' ≡ after_brought room' z (brought_by s (file_step s at)) → Hearing next z'
    goes_on at z z' h room' long c next e heard = record {
      will =
          ap (λ (y : House). after_records room s y (records_from s next)) (brought at z z' h room' long _ e heard)
          ∙ sym (one_heard z c (records_from s next))
          ∙ ap (after_records room s z) (sym (one_ahead s at c next e))
          ∙ h.will;
      stops = sym (stop_on s at c next e) ∙ h.stops;
    }
