-- What each step of the code does is what its way does.
use mathlib.Core.Path.{◌≡◌, refl, sym, subst}
use mathlib.Core.List.{List, [], ◌∷◌}
use mathlib.Core.Bool.{Bool, true, false, cond}
use Prim.Native.Nat.{ℕ, ◌*◌, ◌≤◌, ◌<◌}
use native.Mathlib.Omega.{arith}
use lib.Dec.{ltb}
use lib.ListN.{length}
use lib.Seq.{paste}
use borrow.Author.Tests.{ltb-true, ltb-false}
use Rattle.std.specs.Prelude.{Result, Ok, Err}
use Rattle.numbers.specs.Numbers.{number, values}
use Rattle.numbers.specs.declared.Refusal.{Refusal}
use Rattle.numbers.proofs.Firm.{never}
use Rattle.table.specs.declared.Table.{Table}
use Rattle.table.specs.declared.Totals.{Totals}
use Rattle.pushing.specs.declared.Arrival.{Arrival}
use Rattle.pushing.specs.declared.Pushed.{Pushed}
use Rattle.pushing.specs.declared.look.LookedUp.{LookedUp}
use Rattle.pushing.specs.declared.Pushed.TheVariants.{WaitingForMoreFragments}
use Rattle.table.specs.Rows.{row_of, dropped_key_lem}
use Rattle.pushing.specs.Joining.{held_of, held_in_lem, and_new}
use Rattle.pushing.specs.Push.{PushAnswer, inconsistent, missing, missing_last, single, joined, Way, refuse, duplicate, keep_at, open_at, end, joined_with, looked_up, own_totals, way, table_by, store_by, answer_of, pushed_of, answer_by, Goes}
use Rattle.pushing.specs.PrivateSteps.{kept_way, under_row_lem, Ends, kept_by_lem}
use Rattle.table.proofs.Sound.{Sound}
use Rattle.pushing.proofs.Kept.{keeps_there, opens_new}
use Rattle.pushing.proofs.Ways.{by_ends, Went, went, went_refuse, went_duplicate, went_keep, went_open, went_end}

module _ (t : Table) (store : List ℕ) (a : Arrival) (payload : List ℕ) (room : ℕ) where
  abbrev row : ℕ
  row = row_of t a.key

  abbrev its : Way
  its = way t store a payload room

  -- there is room for a fragment that is kept
  abbrev Room : Way → Type 0
  Room (refuse n values) = Unit {0}
  Room duplicate = Unit {0}
  Room (keep_at i) = (47744 ≤ length store) × (length payload ≤ 1492) × (i < 32) × (row < 16) × ((own_totals t a).places < 8) × (16 ≤ row → (own_totals t a).keys < 4)
  Room (open_at i r) = (47744 ≤ length store) × (length payload ≤ 1492) × (i < 32) × (r < 16) × ((own_totals t a).places < 8) × (16 ≤ row → (own_totals t a).keys < 4)
  Room (end h bytes) = Unit {0}

  has_room : {w : Way} → Went t store a payload room w → Room w
  has_room (went_refuse n values why) = tt
  has_room went_duplicate = tt
  has_room (went_keep i h₁ h₂ h₃ l e h k share) = (h₁, h₂, h, k, share, λ out. absurd (omega arith))
  has_room (went_open i r h₁ h₂ h₃ l e h k e₂ h₄ share share₂) = (h₁, h₂, h, h₄, share, λ out. share₂)
  has_room (went_end h bytes h₁ h₂ h₃ l e) = tt

  -- what a fragment that is kept needs, for some look-ups and totals
  abbrev pub Fits : LookedUp → Totals → Type 0
  Fits found held = (47744 ≤ length store) × (length payload ≤ 1492) × (found.free < 32) × (under_row_lem found < 16) × (held.places < 8) × (16 ≤ found.row → held.keys < 4)

  pub keep_room : its ≡ kept_way (looked_up t a) (Ok tt) → Fits (looked_up t a) (own_totals t a)
  keep_room e = by_row (ltb row 16) e
    where
      by_row : (b : Bool) → its ≡ cond b (keep_at (looked_up t a).free) (open_at (looked_up t a).free (looked_up t a).spare)
          → (47744 ≤ length store) × (length payload ≤ 1492) × ((looked_up t a).free < 32) × (cond b row (looked_up t a).spare < 16) × ((own_totals t a).places < 8) × (16 ≤ row → (own_totals t a).keys < 4)
      by_row true q = subst Room q (has_room (went t store a payload room))
      by_row false q = subst Room q (has_room (went t store a payload room))

  pub keep_goes : Sound t → its ≡ kept_way (looked_up t a) (Ok tt) → (out : List ℕ)
      → Goes its t store out a payload (Ok WaitingForMoreFragments) (kept_by_lem (looked_up t a) (own_totals t a) t a (length payload)) (paste store ((looked_up t a).free * 1492) payload (length payload)) out
  keep_goes s e out = rw e (by_row (ltb row 16) refl (keep_room e).3)
    where
      by_row : (b : Bool) → ltb row 16 ≡ b → under_row_lem (looked_up t a) < 16
          → Goes (cond b (keep_at (looked_up t a).free) (open_at (looked_up t a).free (looked_up t a).spare)) t store out a payload (Ok WaitingForMoreFragments)
          (kept_by_lem (looked_up t a) (own_totals t a) t a (length payload)) (paste store ((looked_up t a).free * 1492) payload (length payload)) out
      by_row true p l = record { answers = refl; keeps = keeps_there t s a (length payload) (ltb-true _ _ p); stores = refl; puts = refl }
      by_row false p l = record { answers = refl; keeps = opens_new t s a (length payload) (ltb-false _ _ p) (rw p at l); stores = refl; puts = refl }

  -- a last fragment drops its key, or is refused and changes nothing
  abbrev pub left_by : Result Pushed Refusal → Table
  left_by (Ok pushed) = dropped_key_lem t row
  left_by (Err r) = t

  abbrev Left : Way → Type 0
  Left w = (r : Result Pushed Refusal) → pushed_of r ≡ answer_by w → (left_by r ≡ table_by w t a (length payload)) × (store ≡ store_by w store payload)

  ended : (h : PushAnswer) (bytes : List ℕ) → Left (end h bytes)
  ended h bytes (Ok pushed) e = (refl, refl)
  ended h bytes (Err r) e = never h (number r) (values r) (sym e)

  refused : (n : ℕ) (vs : List ℕ) → Left (refuse n vs)
  refused n vs (Ok pushed) e = never (answer_of pushed) n vs e
  refused n vs (Err r) e = (refl, refl)

  pub join_goes : its ≡ joined_with t store row a.fragment payload room → (out out' : List ℕ) (r : Result Pushed Refusal) → Ends (joined_with t store row a.fragment payload room) r out out'
      → Goes its t store out a payload r (left_by r) store out'
  join_goes e out out' r ends =
      let left = by_ends Left (ended inconsistent []) (ended missing []) (ended missing_last []) (λ n. ended (single n) []) (λ n. refused 13 (n ∷ [])) (λ bytes. ended (joined (length bytes)) bytes)
      (held_of a.fragment payload) (and_new (held_in_lem t store row) a.fragment.number (held_of a.fragment payload)) room r ends.answers in
      rw e (record { answers = ends.answers; keeps = left.0; stores = left.1; puts = ends.puts })
