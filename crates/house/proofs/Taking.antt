-- What the loop over a message's TLVs keeps, and how a turn goes on or ends: the events of the TLVs from `at` on are not
-- taken yet.
use mathlib.Core.Path.{◌≡◌, refl, sym, ap, ◌∙◌}
use mathlib.Core.Bool.{Bool, true, false, cond, true≢false}
use mathlib.Core.List.{List, [], ◌∷◌, map}
use Prim.Native.Nat.{ℕ, ◌+◌, ◌-◌}
use native.Mathlib.Omega.{arith}
use lib.Dec.{eqb}
use lib.ListN.{length, take, drop}
use borrow.Author.Tests.{eq-eqb, ne_eqb, eqb-true}
use Rattle.std.specs.Prelude.{Result, Ok, Err}
use Rattle.std.specs.Result.{is_ok}
use Rattle.numbers.specs.Numbers.{Answer, gives, refuses, mapped, is_given}
use Rattle.machines.specs.Machine.{those, run}
use Rattle.walking.specs.Steps.{ended as no_more, passed, last}
use Rattle.walking.specs.declared.Tlv.{Tlv}
use Rattle.walking.specs.declared.Stepped.{Stepped}
use Rattle.walking.specs.declared.Unwalked.{Unwalked}
use Rattle.walking.specs.declared.WalkCount.{WalkCount}
use Rattle.walking.specs.Walk.{is_marker_lem, answered_at, stepped_of, step_at, walk_of, counted}
use Rattle.walking.proofs.Chained.{Has, of_walk}
use Rattle.walking.proofs.Going.{turned}
use Rattle.walking.proofs.Stepping.{steps}
use Rattle.stations.specs.Rows.{Stations}
use Rattle.stations.specs.Events.{table_from}
use Rattle.house.specs.House.{is_event, event_value, event_values, events_by, events_in, after_message}

module _ (m : List ℕ) (t : Stations) (v : Tlv) where
  pub event : (next : ℕ) (value : List ℕ) (t' : Stations) → v.tlv_type ≡ 146 → next ≡ v.offset + 3 + v.length → value ≡ take (next - (v.offset + 3)) (drop (v.offset + 3) m) → t' ≡ table_from t value
      → t' ≡ run table_from t (event_values m (v ∷ []))
  unfolding event_values those run
  event next value t' k n e r =
      let width : next - (v.offset + 3) ≡ v.length = omega (arith, n) in
      let is : value ≡ event_value m v = e ∙ ap (λ (w : ℕ). take w (drop (v.offset + 3) m)) width in
      rw (eq-eqb v.tlv_type 146 k) (r ∙ ap (table_from t) is)

  pub no_event : (v.tlv_type ≡ 146 → ⊥) → t ≡ run table_from t (event_values m (v ∷ []))
  unfolding event_values those run
  no_event k = rw (ne_eqb v.tlv_type 146 k) refl

-- the first TLV's event, if it brings one, and then the others'
one_by_one : (m : List ℕ) (t : Stations) (v : Tlv) (vs : List Tlv) → run table_from t (event_values m (v ∷ vs)) ≡ run table_from (run table_from t (event_values m (v ∷ []))) (event_values m vs)
unfolding event_values those run
one_by_one m t v vs = by_type (is_event v)
  where
    by_type : (b : Bool) → run table_from t (map (event_value m) (cond b (v ∷ those is_event vs) (those is_event vs))) ≡ run table_from (run table_from t (map (event_value m) (cond b (v ∷ []) []))) (map (event_value m) (those is_event vs))
    by_type true = refl
    by_type false = refl

-- the marker brings none
first_test : (x y : Bool) → cond x y false ≡ true → x ≡ true
first_test true y e = refl
first_test false y e = e

marker_type : (v : Tlv) → is_marker_lem v ≡ true → v.tlv_type ≡ 0
marker_type v e = eqb-true v.tlv_type 0 (first_test (eqb v.tlv_type 0) (eqb v.length 0) e)

module _ (m : List ℕ) (t₀ : Stations) where
  -- the stations after all events of the message's TLVs
  abbrev all : Stations
  all = run table_from t₀ (event_values m (walk_of m).items)

  pub record Taking (at : ℕ) (t : Stations) : Type 0 where
    pub rest : List Tlv
    pub goes : Has m at rest (walk_of m).end
    pub will : run table_from t (event_values m rest) ≡ all

  pub begins : Taking 0 t₀
  begins = record { rest = (walk_of m).items; goes = of_walk m; will = refl }

  module _ (at : ℕ) (t : Stations) (w : Taking at t) where
    nothing_left : w.rest ≡ [] → t ≡ all
    unfolding event_values those run
    nothing_left e = ap (λ (vs : List Tlv). run table_from t (event_values m vs)) (sym e) ∙ w.will

    ends : gives no_more ≡ step_at m at → t ≡ all
    ends e = nothing_left (turned (step_at m) (length m) w.goes (gives no_more) e).0

    stops : (n : ℕ) (vs : List ℕ) → refuses n vs ≡ step_at m at → t ≡ all
    stops n vs e = nothing_left (turned (step_at m) (length m) w.goes (refuses n vs) e).0

    ends_at : (v : Tlv) (to : ℕ) → gives (last v to) ≡ step_at m at → t ≡ all
    ends_at v to e =
        let z = marker_type v (steps m at true v to e).marks in
        let is = (turned (step_at m) (length m) w.goes (gives (last v to)) e).0 in
        no_event m t v (λ k. let o : ◌≡◌ {A = ℕ} 0 146 = sym z ∙ k in absurd (omega arith))
        ∙ ap (λ (vs : List Tlv). run table_from t (event_values m vs)) (sym is)
        ∙ w.will

    -- a step that goes over no TLV but the marker is the last, and so is one that is refused
    pub ended : (s : Stepped) → ((v : Tlv) (next : ℕ) → s ≡ Stepped.Tlv v next → ⊥) → stepped_of (Ok s) ≡ step_at m at → t ≡ all
    ended Stepped.End other e = ends e
    ended (Stepped.Tlv v next) other e = absurd (other v next refl)
    ended (Stepped.Last v to) other e = ends_at v to e

    pub faulty : (u : Unwalked) → stepped_of (Err u) ≡ step_at m at → t ≡ all
    faulty u e = stops _ _ e

    pub goes_on : (v : Tlv) (next : ℕ) (t' : Stations) → gives (passed v next) ≡ step_at m at → t' ≡ run table_from t (event_values m (v ∷ [])) → Taking next t'
    goes_on v next t' e r =
        let split = turned (step_at m) (length m) w.goes (gives (passed v next)) e in
        record {
          rest = split.0;
          goes = split.1.1;
          will =
              ap (λ (x : Stations). run table_from x (event_values m split.0)) r
              ∙ sym (one_by_one m t v split.0)
              ∙ ap (λ (vs : List Tlv). run table_from t (event_values m vs)) (sym split.1.0)
              ∙ w.will;
        }

-- a message that walks to its end, and one that doesn't
module _ (m : List ℕ) where
  is_walked : (x : Answer WalkCount) → x ≡ counted (walk_of m) → is_given x ≡ is_given (walk_of m).end
  is_walked x e = ap is_given e ∙ by_end (walk_of m).end
    where
      by_end : (y : Answer ℕ) → is_given (mapped {B = WalkCount} (λ padding. record { count = length (walk_of m).items; padding = padding }) y) ≡ is_given y
      by_end (gives padding) = refl
      by_end (refuses n vs) = refl

  pub walked_ok : (r : Result WalkCount Unwalked) → answered_at r ≡ counted (walk_of m) → is_ok r ≡ is_given (walk_of m).end
  walked_ok (Ok c) e = is_walked _ e
  walked_ok (Err u) e = is_walked _ e

  module _ (t : Stations) where
    pub walked : true ≡ is_given (walk_of m).end → run table_from t (event_values m (walk_of m).items) ≡ after_message t m
    unfolding events_in
    walked = by_end (walk_of m).end
      where
        by_end : (x : Answer ℕ) → true ≡ is_given x → run table_from t (event_values m (walk_of m).items) ≡ run table_from t (events_by x (event_values m (walk_of m).items))
        by_end (gives padding) e = refl
        by_end (refuses n vs) e = absurd (true≢false e)

    pub not_walked : false ≡ is_given (walk_of m).end → t ≡ after_message t m
    unfolding events_in run
    not_walked = by_end (walk_of m).end
      where
        by_end : (x : Answer ℕ) → false ≡ is_given x → t ≡ run table_from t (events_by x (event_values m (walk_of m).items))
        by_end (gives padding) e = absurd (true≢false (sym e))
        by_end (refuses n vs) e = refl
