-- Every table that the calls made is sound.
use mathlib.Core.Path.{◌≡◌, refl, sym, ap, ◌∙◌}
use mathlib.Core.List.{List}
use mathlib.Core.Bool.{true, false, false≢true}
use Prim.Native.Nat.{ℕ, ◌<◌}
use native.Mathlib.Omega.{arith}
use lib.ListN.{length, get_or}
use lib.Seq.{get_or-set_same}
use borrow.Author.Tests.{not-true}
use Rattle.keys.specs.Keys.{sender_of_lem}
use Rattle.table.specs.declared.Table.{Table}
use Rattle.pushing.specs.declared.Arrival.{Arrival}
use Rattle.table.specs.Rows.{row_of, is_spare, with_key, no_totals, with_totals}
use Rattle.pushing.specs.Push.{Way, table_by, place_for}
use Rattle.pushing.specs.Made.{Made, by_fresh, by_push, by_sweep}
use Rattle.searching.proofs.Search.{lowest_holds}
use Rattle.table.proofs.Sound.{Sound, not_held, row_holds, fresh_sound, put_sound, open_sound, totals_sound, end_sound}
use Rattle.sweeping.proofs.Sound.{sweep_sound}
use Rattle.pushing.proofs.Ways.{Went, went, went_refuse, went_duplicate, went_keep, went_open, went_end}

push_sound : (t : Table) → Sound t → (store : List ℕ) (a : Arrival) (payload : List ℕ) (room : ℕ) → a.fragment.number < 256 → {w : Way} → Went t store a payload room w → Sound (table_by w t a (length payload))
push_sound t s store a payload room byte (went_refuse n values why) = s
push_sound t s store a payload room byte went_duplicate = s
push_sound t s store a payload room byte (went_keep i h₁ h₂ h₃ l e h k share) =
    let row = row_of t a.key in
    totals_sound _ (put_sound t s i row h (place_for row a.fragment (length payload)) refl h₂ byte (row_holds t a.key k).0 (not_held t s row a.fragment.number h₃)) _ _
push_sound t s store a payload room byte (went_open i row h₁ h₂ h₃ l e h k e₂ h₄ share share₂) =
    let t₀ = with_totals t (sender_of_lem a.key) no_totals in
    let t' = with_key t₀ row a.key a.time in
    let s' = open_sound t₀ (totals_sound t s _ _) row a.key a.time h₄ k in
    let was-spare : get_or t.used row false ≡ false = ap (λ (r : ℕ). get_or t.used r false) e₂ ∙ not-true _ (lowest_holds (is_spare t) 16 (omega arith)) in
    totals_sound _ (put_sound t' s' i row h (place_for row a.fragment (length payload)) refl h₂ byte (get_or-set_same t.used row true false (omega (arith, s.used_long)))
    (λ j f g. false≢true (sym was-spare ∙ s.owned j row f))) _ _
push_sound t s store a payload room byte (went_end heard bytes h₁ h₂ h₃ l e) = end_sound t s (row_of t a.key)

pub sound : {t : Table} → Made t → Sound t
sound by_fresh = fresh_sound
sound (by_push {t} m store a payload room byte) = push_sound t (sound m) store a payload room byte (went t store a payload room)
sound (by_sweep {t} m time) = sweep_sound t (sound m) time 16 (omega arith)
