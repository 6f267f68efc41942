-- In every table that the calls made, the totals are in step, and no sender holds more than its share (rules T6 and T15). So a push is not refused by 10 while fewer than four other senders hold anything (rule D7).
use mathlib.Core.Path.{◌≡◌, refl, ap, ◌∙◌}
use mathlib.Core.List.{List, [], ◌∷◌}
use mathlib.Core.Bool.{Bool, true, false, cond}
use mathlib.Core.Logic.{◌⊎◌, inl, inr}
use Prim.Native.Nat.{ℕ, ◌≤◌, ◌<◌}
use native.Mathlib.Omega.{arith}
use lib.ListN.{length, get_or}
use borrow.Author.Tests.{eqb-true, eq-eqb, not-true}
use Rattle.keys.specs.Keys.{sender_of_lem}
use Rattle.table.specs.declared.Table.{Table}
use Rattle.table.specs.declared.Totals.{Totals}
use Rattle.pushing.specs.declared.Arrival.{Arrival}
use Rattle.table.specs.Rows.{place_at, row_of, is_spare, spare_row, is_free, lowest_free, with_totals, without}
use Rattle.table.specs.InStep.{of_sender, counted_for, InStep, WithinShares, OnlyOf}
use Rattle.pushing.specs.Push.{Way, refuse, way, table_by, place_for, own_totals}
use Rattle.pushing.specs.Made.{Made, by_fresh, by_push, by_sweep}
use Rattle.searching.proofs.Search.{lowest_holds}
use Rattle.table.proofs.Sound.{Sound, used_row, row_holds}
use Rattle.table.proofs.InStep.{Changed, stays_in_step, stays_within, kept_changes, opened_changes, drop_in_step, drop_within, fresh_in_step, fresh_within}
use Rattle.table.proofs.Shares.{row_left, place_left}
use Rattle.sweeping.proofs.Sound.{sweep_in_step}
use Rattle.pushing.proofs.Sound.{sound}
use Rattle.pushing.proofs.Ways.{Full, is_full, Went, went, went_refuse, went_duplicate, went_keep, went_open, went_end}

abbrev Good : Table → Type 0
Good t = InStep t × WithinShares t

-- a change of one sender's holdings that stays within its share
changed : (t u : Table) (sender : ℕ) (held : Totals) → Good t → Changed t u sender held → held.keys ≤ 4 → held.places ≤ 8 → Good (with_totals u sender held)
changed t u sender held good change h₁ h₂ = (stays_in_step t u sender held change good.0, stays_within t u sender held change good.1 h₁ h₂)

push_good : (t : Table) → Sound t → Good t → (store : List ℕ) (a : Arrival) (payload : List ℕ) (room : ℕ) → {w : Way} → Went t store a payload room w → Good (table_by w t a (length payload))
push_good t s good store a payload room (went_refuse n values why) = good
push_good t s good store a payload room went_duplicate = good
push_good t s good store a payload room (went_keep i h₁ h₂ h₃ l e h k share) =
    let row = row_of t a.key in
    let own = row_holds t a.key k in
    let free : (place_at t i).owner ≡ 0 = eqb-true _ _ (ap (λ (j : ℕ). is_free (place_at t j)) e ∙ lowest_holds (λ j. is_free (place_at t j)) 32 (omega arith)) in
    let its : of_sender t (sender_of_lem a.key) row ≡ true = rw (own.0, own.1, eq-eqb (sender_of_lem a.key) (sender_of_lem a.key) refl) in
    let few = (good.1 (sender_of_lem a.key)).0 in
    changed t _ (sender_of_lem a.key) _ good (kept_changes t s good.0 (sender_of_lem a.key) row i h (place_for row a.fragment (length payload)) refl free its)
    (omega (arith, ap (λ (z : Totals). z.keys) (good.0.as_counted (sender_of_lem a.key)))) (omega arith)
push_good t s good store a payload room (went_open i row h₁ h₂ h₃ l e h k e₂ h₄ share share₂) =
    let free : (place_at t i).owner ≡ 0 = eqb-true _ _ (ap (λ (j : ℕ). is_free (place_at t j)) e ∙ lowest_holds (λ j. is_free (place_at t j)) 32 (omega arith)) in
    let spare : get_or t.used row false ≡ false = ap (λ (r : ℕ). get_or t.used r false) e₂ ∙ not-true _ (lowest_holds (is_spare t) 16 (omega arith)) in
    changed t _ (sender_of_lem a.key) _ good (opened_changes t s good.0 row a.key a.time i h₄ h (place_for row a.fragment (length payload)) refl free spare) (omega arith) (omega arith)
push_good t s good store a payload room (went_end heard bytes h₁ h₂ h₃ l e) = by_row (get_or t.used (row_of t a.key) false) refl
  where
    by_row : (b : Bool) → get_or t.used (row_of t a.key) false ≡ b → Good (cond b (without t (row_of t a.key)) t)
    by_row true used =
        let in-16 = used_row t s (row_of t a.key) used in
        (drop_in_step t s good.0 (row_of t a.key) in-16 used, drop_within t s good.0 (row_of t a.key) in-16 used good.1)
    by_row false none = good

pub good : {t : Table} → Made t → InStep t × WithinShares t
good by_fresh = (fresh_in_step, fresh_within)
good (by_push {t} m store a payload room byte) = push_good t (sound m) (good m) store a payload room (went t store a payload room)
good (by_sweep {t} m time) = sweep_in_step t (sound m) (good m).0 (good m).1 time 16 (omega arith)

-- a push that its sender's share and so many others leave room for
module _ (t : Table) (made : Made t) (store : List ℕ) (a : Arrival) (payload : List ℕ) (room : ℕ) (others : List ℕ) (few : length others < 4) (only : OnlyOf t (sender_of_lem a.key ∷ others)) where
  pub not_full : way t store a payload room ≡ refuse 10 [] → ⊥
  not_full e = by_want full.wanted
    where
      full : Full t a
      full = is_full t store a payload room e

      said : own_totals t a ≡ counted_for t (sender_of_lem a.key)
      said = (good made).0.as_counted (sender_of_lem a.key)

      by_want : (32 ≤ lowest_free t) ⊎ ((16 ≤ row_of t a.key) × (16 ≤ spare_row t)) → ⊥
      by_want (inl none) = let left = place_left t (sound made) (good made).1 (sender_of_lem a.key) others few only (omega (arith, full.few_places, ap (λ (z : Totals). z.places) said)) in omega arith
      by_want (inr none) = let left = row_left t (sound made) (good made).1 (sender_of_lem a.key) others few only (omega (arith, full.few_keys none.0, ap (λ (z : Totals). z.keys) said)) in omega arith
