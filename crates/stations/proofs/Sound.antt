-- What holds of every table that events made: its rows list the stations where they are, each once.
use mathlib.Core.Path.{◌≡◌, refl, sym, ap, ◌∙◌}
use mathlib.Core.Bool.{Bool, true, false, cond, ◌&&◌, not, true≢false}
use mathlib.Core.List.{[]}
use Prim.Native.Nat.{ℕ, zero, suc, ◌+◌, ◌<◌}
use native.Mathlib.Omega.{arith}
use lib.Dec.{ltb}
use lib.ListN.{get_or}
use borrow.Author.Tests.{ltb-true, ltb-false, lt-ltb, ne_eqb, not-true}
use Rattle.searching.proofs.Count.{count_all, count_le, count_less}
use Rattle.numbers.specs.Numbers.{is_given, gives, refuses}
use Rattle.stations.specs.declared.Heard.{Heard}
use Rattle.stations.specs.Whereabouts.{Whereabouts, nowhere, at, Event, is_nowhere, heard_of}
use Rattle.stations.specs.Rows.{Stations, point_at, row_with_lem, where_of, all_held, after_join, free_row, held_row, row_from, row_at, is_held, count_of}
use Rattle.stations.specs.Runs.{takes_event}
use Rattle.stations.specs.Claims.{StationsMade, Moves, WhyRefused, FullIs128, InRow, SoundStations}
use Rattle.stations.proofs.Ways.{known_place, unknown_place}
use Rattle.stations.proofs.Written.{Kept, has_mark, no_mark}
use Rattle.stations.proofs.Effects.{acts}
use Rattle.stations.proofs.Orders.{made_kept}

-- a row that holds a station: its number, its code and its access point
record Has (t : Stations) (i station point : ℕ) : Type 0 where
  pub within : i < 128
  pub mark : get_or t i 0 ≡ station + 1
  pub at_point : point_at t i ≡ point

has : (t : Stations) (i station point : ℕ) → row_at t i ≡ held_row station point → Has t i station point
has t i station point h = by_end (ltb i 128) refl (get_or t i 0) refl h
  where
    by_end : (b : Bool) → ltb i 128 ≡ b → (mark : ℕ) → get_or t i 0 ≡ mark → cond b (row_from mark (point_at t i)) free_row ≡ held_row station point → Has t i station point
    by_end true e zero q h = let z : ◌≡◌ {A = ℕ} 0 1 = cc in absurd (omega arith)
    by_end true e (suc s) q h =
        let one : s ≡ station = cc in
        let two : point_at t i ≡ point = cc in
        record { within = ltb-true i 128 e; mark = omega (arith, q, one); at_point = two }
    by_end false e mark q h = let z : ◌≡◌ {A = ℕ} 0 1 = cc in absurd (omega arith)

row_is : (t : Stations) (i station : ℕ) → i < 128 → get_or t i 0 ≡ station + 1 → row_at t i ≡ held_row station (point_at t i)
row_is t i station l e = rw (lt-ltb i 128 l) (by_mark (get_or t i 0) e)
  where
    by_mark : (mark : ℕ) → mark ≡ station + 1 → row_from mark (point_at t i) ≡ held_row station (point_at t i)
    by_mark zero e = absurd (omega arith)
    by_mark (suc s) e = ap (λ (x : ℕ). held_row x (point_at t i)) (omega arith)

free_mark : (t : Stations) (i : ℕ) → i < 128 → row_at t i ≡ free_row → get_or t i 0 ≡ 0
free_mark t i l h = by_mark (get_or t i 0) refl (sym (rw (lt-ltb i 128 l)) ∙ h)
  where
    by_mark : (mark : ℕ) → get_or t i 0 ≡ mark → row_from mark (point_at t i) ≡ free_row → get_or t i 0 ≡ 0
    by_mark zero e q = e
    by_mark (suc s) e q = let z : ◌≡◌ {A = ℕ} 0 1 = cc in absurd (omega arith)

full_all : (t : Stations) → all_held t ≡ true → count_of t ≡ 128
unfolding all_held
full_all t h = count_all (is_held t) 128 (λ i l. rw (ne_eqb (get_or t i 0) 0 (no_mark t 0 (ltb-false _ _ (not-true _ h)) i l)))

pub full_is_128 : (t : Stations) → FullIs128 t
unfolding all_held
full_is_128 t = record { only = full_all t; if = λ h. by_end (ltb (row_with_lem t 0) 128) refl h }
  where
    by_end : (b : Bool) → ltb (row_with_lem t 0) 128 ≡ b → count_of t ≡ 128 → not b ≡ true
    by_end true q h = let l = ltb-true (row_with_lem t 0) 128 q in absurd (omega (arith, count_less (is_held t) 128 (row_with_lem t 0) l (rw (has_mark t 0 l))))
    by_end false q h = refl

pub moves : (t : Stations) → StationsMade t → (e : Event) → Moves t e
moves t m e = let a = acts t (made_kept t m) e in record { own = a.own; others = a.others }

-- a join that finds no room alters nothing
no_room : (t : Stations) (station point : ℕ) → where_of t station ≡ nowhere → all_held t ≡ true → after_join t station point ≡ t
unfolding after_join
no_room t station point none full = by_end (ltb (row_with_lem t (station + 1)) 128) refl
  where
    by_end : (b : Bool) → ltb (row_with_lem t (station + 1)) 128 ≡ b → after_join t station point ≡ t
    by_end true q = let no = sym (known_place t station (row_with_lem t (station + 1)) refl (ltb-true (row_with_lem t (station + 1)) 128 q)) ∙ none in let z : ◌≡◌ {A = ℕ} 0 1 = cc in absurd (omega arith)
    by_end false q = rw (q, full)

pub why_refused : (t : Stations) (e : Event) → takes_event t e ≡ false → WhyRefused t e
why_refused t e h = by_tests e.is_join refl (where_of t e.station) refl (all_held t) refl h
  where
    by_tests : (a : Bool) → e.is_join ≡ a → (p : Whereabouts) → where_of t e.station ≡ p → (b : Bool) → all_held t ≡ b
        → is_given {A = Heard} (cond (a && (is_nowhere p && b)) (refuses 17 []) (gives (heard_of e p))) ≡ false → WhyRefused t e
    by_tests true f nowhere g true k h = record { number = rw (f, g, k); join = f; unknown = g; full = full_all t k; unaltered = rw f (no_room t e.station e.point g k) }
    by_tests true f nowhere g false k h = absurd (true≢false h)
    by_tests true f (at p) g b k h = absurd (true≢false h)
    by_tests false f p g b k h = absurd (true≢false h)

pub sound : (t : Stations) → StationsMade t → SoundStations t
sound t m = record {
  at_most = count_le (is_held t) 128;
  once = λ station i p j q a b.
      let x = has t i station p a in
      let y = has t j station q b in
      k.once i j x.within y.within (x.mark ∙ sym y.mark) (λ z. absurd (omega (arith, x.mark)));
  free_is_fresh = λ i l h. let z = free_mark t i l h in (z, k.bare i l z);
  rows_list = λ station point i a.
      let x = has t i station point a in
      known_place t station i (here station i x.within x.mark) x.within ∙ ap at x.at_point;
  in_a_row = λ station point h. find station point (ltb (row_with_lem t (station + 1)) 128) refl h;
}
  where
    k : Kept t
    k = made_kept t m

    here : (station i : ℕ) → i < 128 → get_or t i 0 ≡ station + 1 → i ≡ row_with_lem t (station + 1)
    here station i l e = by_end (ltb (row_with_lem t (station + 1)) 128) refl
      where
        by_end : (b : Bool) → ltb (row_with_lem t (station + 1)) 128 ≡ b → i ≡ row_with_lem t (station + 1)
        by_end true q = let h = ltb-true (row_with_lem t (station + 1)) 128 q in k.once i (row_with_lem t (station + 1)) l h (e ∙ sym (has_mark t (station + 1) h)) (λ z. absurd (omega arith))
        by_end false q = absurd (no_mark t (station + 1) (ltb-false (row_with_lem t (station + 1)) 128 q) i l e)

    find : (station point : ℕ) (b : Bool) → ltb (row_with_lem t (station + 1)) 128 ≡ b → where_of t station ≡ at point → InRow t station point
    find station point true q h =
        let l = ltb-true (row_with_lem t (station + 1)) 128 q in
        let same : at (point_at t (row_with_lem t (station + 1))) ≡ at point = sym (known_place t station (row_with_lem t (station + 1)) refl l) ∙ h in
        let p : point_at t (row_with_lem t (station + 1)) ≡ point = cc in
        record { row = row_with_lem t (station + 1); is = row_is t (row_with_lem t (station + 1)) station l (has_mark t (station + 1) l) ∙ ap (held_row station) p }
    find station point false q h =
        let no : nowhere ≡ at point = sym (unknown_place t station (row_with_lem t (station + 1)) refl (ltb-false (row_with_lem t (station + 1)) 128 q)) ∙ h in
        let z : ◌≡◌ {A = ℕ} 0 1 = cc in
        absurd (omega arith)
