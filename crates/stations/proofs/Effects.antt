-- What an event does to a table that is kept: to its own station, to every other one, and what it answers.
use mathlib.Core.Path.{◌≡◌, refl, sym, ap, ◌∙◌, subst}
use mathlib.Core.Bool.{Bool, true, false, false≢true, true≢false}
use Prim.Native.Nat.{ℕ, ◌+◌, ◌<◌, ◌≤◌}
use native.Mathlib.Omega.{arith}
use lib.Dec.{eqb, ltb}
use lib.ListN.{get_or, set, length-replicate, get_or-replicate}
use borrow.Author.Tests.{ltb-true, ltb-false, ne_eqb}
use Rattle.searching.proofs.Search.{lowest_none}
use Rattle.numbers.specs.Numbers.{gives, is_given}
use Rattle.stations.specs.declared.Heard.{Heard}
use Rattle.stations.specs.Whereabouts.{Whereabouts, nowhere, at, Event, where_after, answer_at}
use Rattle.stations.specs.Rows.{Stations, fresh_stations, point_at, row_with_lem, with_row, where_of, answer_to, table_after}
use Rattle.stations.specs.Runs.{takes_event}
use Rattle.stations.proofs.Ways.{known_place, unknown_place, known, new, full, removed, late, not_held}
use Rattle.stations.proofs.Written.{Kept, has_mark, no_mark, row_written, point_written, stays, goes, gone, keeps}

-- a table after which the station is at a place, and all others are where they were
record Effect (t t' : Stations) (station : ℕ) (became : Whereabouts) : Type 0 where
  pub kept : Kept t'
  pub own : where_of t' station ≡ became
  pub others : (s : ℕ) → (s ≡ station → ⊥) → where_of t' s ≡ where_of t s

module _ (t : Stations) (k : Kept t) (station : ℕ) where
  abbrev row : ℕ
  row = row_with_lem t (station + 1)

  only_row : row < 128 → (i : ℕ) → i < 128 → (i ≡ row → ⊥) → get_or t i 0 ≡ station + 1 → ⊥
  only_row h i l ne e = ne (k.once i row l h (e ∙ sym (has_mark t (station + 1) h)) (λ z. absurd (omega arith)))

  known_effect : (point : ℕ) → row < 128 → Effect t (set t (128 + row) point) station (at point)
  known_effect point h =
      let w = point_written t row point k.long h in
      let is = has_mark t (station + 1) h in
      record {
        kept = keeps t _ row _ point w k (λ ne i l other e. only_row h i l other (e ∙ is)) (λ z. absurd (omega (arith, is)));
        own = goes t _ row _ point w station is (only_row h);
        others = λ s ne. stays t _ row _ point w s (λ q. ne (omega (arith, is))) (λ q. ne (omega (arith, is)));
      }

  new_effect : (point : ℕ) → 128 ≤ row → row_with_lem t 0 < 128 → Effect t (with_row t (row_with_lem t 0) (station + 1) point) station (at point)
  new_effect point none h =
      let w = row_written t (row_with_lem t 0) (station + 1) point k.long h in
      let free = has_mark t 0 h in
      record {
        kept = keeps t _ (row_with_lem t 0) (station + 1) point w k (λ ne i l other e. no_mark t (station + 1) none i l e) (λ z. absurd (omega arith));
        own = goes t _ (row_with_lem t 0) (station + 1) point w station refl (λ i l other e. no_mark t (station + 1) none i l e);
        others = λ s ne. stays t _ (row_with_lem t 0) (station + 1) point w s (λ q. absurd (omega (arith, free))) (λ q. ne (omega arith));
      }

  freed_effect : row < 128 → Effect t (with_row t row 0 0) station nowhere
  freed_effect h =
      let w = row_written t row 0 0 k.long h in
      let is = has_mark t (station + 1) h in
      record {
        kept = keeps t _ row 0 0 w k (λ ne. absurd (ne refl)) (λ z. refl);
        own = gone t _ row 0 0 w station (λ q. absurd (omega arith)) (only_row h);
        others = λ s ne. stays t _ row 0 0 w s (λ q. ne (omega (arith, is))) (λ q. absurd (omega arith));
      }

  same_effect : Effect t t station (where_of t station)
  same_effect = record { kept = k; own = refl; others = λ s ne. refl }

-- what an event does and answers
pub record Acts (t : Stations) (e : Event) : Type 0 where
  pub kept : Kept (table_after t e)
  pub own : takes_event t e ≡ true → where_of (table_after t e) e.station ≡ where_after e (where_of t e.station)
  pub others : (s : ℕ) → (s ≡ e.station → ⊥) → where_of (table_after t e) s ≡ where_of t s
  pub refused : takes_event t e ≡ false → table_after t e ≡ t
  pub said : takes_event t e ≡ true → answer_to t e ≡ answer_at false e (where_of t e.station)

module _ (t : Stations) (k : Kept t) (station point : ℕ) where
  abbrev join : Event
  join = record { station = station; point = point; is_join = true }

  abbrev leave : Event
  leave = record { station = station; point = point; is_join = false }

  -- by its effect, where it is accepted
  by_effect : (e : Event) (t' : Stations) (given : Heard) → t' ≡ table_after t e → gives given ≡ answer_to t e → gives given ≡ answer_at false e (where_of t e.station)
      → Effect t t' e.station (where_after e (where_of t e.station)) → Acts t e
  by_effect e t' given is answer same f =
      record {
        kept = subst Kept is f.kept;
        own = λ h. ap (λ (x : Stations). where_of x e.station) (sym is) ∙ f.own;
        others = λ s ne. ap (λ (x : Stations). where_of x s) (sym is) ∙ f.others s ne;
        refused = λ h. absurd (true≢false (ap is_given answer ∙ h));
        said = λ h. sym answer ∙ same;
      }

  join_acts : (a b : Bool) → ltb (row_with_lem t (station + 1)) 128 ≡ a → ltb (row_with_lem t 0) 128 ≡ b → Acts t join
  join_acts true b p q =
      let h = ltb-true _ _ p in
      let x = known t station point (row_with_lem t (station + 1)) refl h in
      by_effect join _ _ x.1 x.0 (rw (known_place t station _ refl h)) (known_effect t k station point h)
  join_acts false true p q =
      let none = ltb-false _ _ p in
      let h = ltb-true _ _ q in
      let x = new t station point (row_with_lem t (station + 1)) (row_with_lem t 0) refl none refl h in
      by_effect join _ _ x.1 x.0 (rw (unknown_place t station _ refl none)) (new_effect t k station point none h)
  join_acts false false p q =
      let none = ltb-false _ _ p in
      let x = full t station point (row_with_lem t (station + 1)) (row_with_lem t 0) refl none refl (ltb-false _ _ q) in
      let no : takes_event t join ≡ true → ⊥ = λ h. false≢true (ap is_given x.0 ∙ h) in
      record {
        kept = subst Kept x.1 k;
        own = λ h. absurd (no h);
        others = λ s ne. ap (λ (z : Stations). where_of z s) (sym x.1);
        refused = λ h. sym x.1;
        said = λ h. absurd (no h);
      }

  leave_acts : (a b : Bool) → ltb (row_with_lem t (station + 1)) 128 ≡ a → eqb (point_at t (row_with_lem t (station + 1))) point ≡ b → Acts t leave
  leave_acts true true p q =
      let h = ltb-true _ _ p in
      let x = removed t station point (row_with_lem t (station + 1)) refl h q in
      by_effect leave _ _ x.1 x.0 x.0 (subst (Effect t _ station) (rw (known_place t station _ refl h, q)) (freed_effect t k station h))
  leave_acts true false p q =
      let h = ltb-true _ _ p in
      let x = late t station point (row_with_lem t (station + 1)) refl h q in
      by_effect leave _ _ x.1 x.0 x.0 (subst (Effect t _ station) (rw (known_place t station _ refl h, q)) (same_effect t k station))
  leave_acts false b p q =
      let none = ltb-false _ _ p in
      let x = not_held t station point (row_with_lem t (station + 1)) refl none in
      by_effect leave _ _ x.1 x.0 x.0 (subst (Effect t _ station) (rw (unknown_place t station _ refl none)) (same_effect t k station))

pub acts : (t : Stations) → Kept t → (e : Event) → Acts t e
acts t k e = by_state e.is_join refl
  where
    by_state : (b : Bool) → e.is_join ≡ b → Acts t e
    by_state true q = subst (Acts t) (λ i. record { station = e.station; point = e.point; is_join = sym q i }) (join_acts t k e.station e.point _ _ refl refl)
    by_state false q = subst (Acts t) (λ i. record { station = e.station; point = e.point; is_join = sym q i }) (leave_acts t k e.station e.point _ _ refl refl)

-- a fresh table is kept, and no station is anywhere in it
fresh_zero : (i : ℕ) → i < 256 → get_or fresh_stations i 0 ≡ 0
fresh_zero i h = get_or-replicate 256 i 0 0 h

pub fresh_kept : Kept fresh_stations
fresh_kept = record {
  long = length-replicate {A = ℕ} 256 0;
  once = λ i j l m e used. absurd (used (fresh_zero i (omega arith)));
  bare = λ i l e. fresh_zero (128 + i) (omega arith);
}

pub fresh_place : (station : ℕ) → where_of fresh_stations station ≡ nowhere
fresh_place station = unknown_place fresh_stations station 128 (lowest_none (λ i. eqb (get_or fresh_stations i 0) (station + 1)) 128 none) (omega arith)
  where
    none : (j : ℕ) → j < 128 → eqb (get_or fresh_stations j 0) (station + 1) ≡ false
    none j l = rw (fresh_zero j (omega arith)) (ne_eqb 0 (station + 1) (λ e. absurd (omega arith)))
