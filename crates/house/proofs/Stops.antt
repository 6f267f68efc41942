-- Where the records of a file stop, step by step (rule H10).
use mathlib.Core.Path.{◌≡◌, refl, sym, ap, ◌∙◌, subst}
use mathlib.Core.Bool.{Bool, true, false, true≢false}
use mathlib.Core.List.{List, []}
use Prim.Native.Nat.{ℕ, zero, suc, ◌-◌, ◌<◌, ◌≤◌}
use native.Mathlib.Omega.{arith}
use lib.ListN.{length}
use Rattle.numbers.specs.Numbers.{Answer, gives, refuses}
use Rattle.numbers.proofs.Firm.{never}
use Rattle.walking.specs.Steps.{Ahead, ended, passed, last}
use Rattle.captures.specs.Reading.{Captured, file_step}
use Rattle.captures.proofs.Records as records
use Rattle.captures.proofs.Walks.{Under, in_order, no_file, under}
use Rattle.captures.proofs.Checking.{forward}
use Rattle.house.specs.Windows.{records_from, stop_by, stop_within, stop_of}
use Rattle.house.proofs.Windows.{none_ahead, none_past}

-- whether a step goes over a record
abbrev pub goes_over_lem : Answer (Ahead Captured) → Bool
goes_over_lem (gives (passed c next)) = true
goes_over_lem (gives (last c end)) = false
goes_over_lem (gives ended) = false
goes_over_lem (refuses n vs) = false

module _ (s : List ℕ) where
  abbrev pub Over : ℕ → Bool → Type 0
  Over at b = goes_over_lem (file_step s at) ≡ b

  -- the records from `at` on stop at an offset
  pub data Stops : ℕ → ℕ → Type 0 where
    here : {at : ℕ} → Over at false → Stops at at
    onward : {at next stop : ℕ} {c : Captured} → gives (passed c next) ≡ file_step s at → Stops next stop → Stops at stop

  -- there is one such offset
  one : {at a b : ℕ} → Stops at a → Stops at b → a ≡ b
  one (here h) (here k) = refl
  one (here h) (onward e g) = absurd (true≢false (ap goes_over_lem e ∙ h))
  one (onward e g) (here k) = absurd (true≢false (ap goes_over_lem e ∙ k))
  one (onward {next = n} e g) (onward {next = m} {stop = b} e' g') =
      let f = e ∙ sym e' in
      let same : n ≡ m = cc in
      one g (subst (λ (k : ℕ). Stops k b) (sym same) g')

  -- past the end no record is left
  pub past : (at : ℕ) → length s ≤ at → Over at false
  past at h = by_step (file_step s at) refl
    where
      by_step : (x : Answer (Ahead Captured)) → x ≡ file_step s at → goes_over_lem x ≡ false
      by_step (gives (passed c next)) e = let o = forward s at c next e in absurd (omega (arith, o.0, o.1))
      by_step (gives (last c end)) e = refl
      by_step (gives ended) e = refl
      by_step (refuses n vs) e = refl

  within : (most at : ℕ) → length s - at ≤ most → Stops at (stop_within s most at)
  unfolding stop_within
  within zero at h = here (past at (omega arith))
  within (suc most) at h = by_step (file_step s at) refl (λ next l. within most next (omega arith))
    where
      by_step : (x : Answer (Ahead Captured)) → x ≡ file_step s at → ((next : ℕ) → at < next → Stops next (stop_within s most next)) → Stops at (stop_by x at (stop_within s most))
      by_step (gives (passed c next)) e then = onward e (then next (forward s at c next e).0)
      by_step (gives (last c end)) e then = here (ap goes_over_lem (sym e))
      by_step (gives ended) e then = here (ap goes_over_lem (sym e))
      by_step (refuses n vs) e then = here (ap goes_over_lem (sym e))

  pub stops : (at : ℕ) → Stops at (stop_of s at)
  stops at = within (length s) at (omega arith)

  module _ (at : ℕ) where
    pub stop_on : (c : Captured) (next : ℕ) → gives (passed c next) ≡ file_step s at → stop_of s at ≡ stop_of s next
    stop_on c next e = one (stops at) (onward e (stops next))

    pub stop_here : Over at false → stop_of s at ≡ at
    stop_here h = one (stops at) (here h)

    -- where the records from an earlier offset stop too
    pub stopped : (from : ℕ) → stop_of s at ≡ stop_of s from → (x : Answer (Ahead Captured)) → goes_over_lem x ≡ false → x ≡ file_step s at → (at ≡ stop_of s from) × (x ≡ file_step s (stop_of s from))
    stopped from same x none e =
        let there : at ≡ stop_of s from = sym (stop_here (ap goes_over_lem (sym e) ∙ none)) ∙ same in
        (there, e ∙ ap (file_step s) there)

    -- no record is said to be the last, so a step that goes over none finds the end or a fault
    pub none_here : Over at false → records_from s at ≡ []
    none_here h = by_step (file_step s at) refl h
      where
        never_last : {B : Type 0} (c : Captured) (to : ℕ) → Under s at (gives (last c to)) → B
        never_last c to (in_order o f g) = records.never_last o s at c to g
        never_last c to (no_file n vs f g) = never _ _ _ g

        by_step : (x : Answer (Ahead Captured)) → x ≡ file_step s at → goes_over_lem x ≡ false → records_from s at ≡ []
        by_step (gives (passed c next)) e k = absurd (true≢false k)
        by_step (gives (last c to)) e k = never_last c to (under s at _ e)
        by_step (gives ended) e k = none_ahead s at e
        by_step (refuses n vs) e k = none_past s at n vs e

  -- they stop no earlier, and inside the file
  pub bounds : {at stop : ℕ} → at ≤ length s → Stops at stop → (at ≤ stop) × (stop ≤ length s)
  bounds inside (here h) = (omega arith, inside)
  bounds inside (onward e g) =
      let o = forward s _ _ _ e in
      let on = bounds o.1 g in
      (omega (arith, o.0, on.0), on.1)

  pub none_there : {at stop : ℕ} → Stops at stop → Over stop false
  none_there (here h) = h
  none_there (onward e g) = none_there g
