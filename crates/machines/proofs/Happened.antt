-- Calls that happened are a run of the machine that their contract is tied to.
use mathlib.Core.Path.{◌≡◌, refl, sym, ap, ◌∙◌}
use mathlib.Core.List.{List, [], ◌∷◌, map}
use mathlib.Core.Bool.{Bool, true, false, cond, not, false≢true}
use Prim.Native.Nat.{ℕ}
use native.Mathlib.Omega.{arith}
use Rattle.machines.specs.Machine.{those, run, remaining, gathered, every}
use Rattle.machines.specs.Happened.{Outcome, Happened, no_call, next_call, Asks, asks_for, asks_nothing, and_steps, steps_of, Leads, Tied, TestsStep, Tests}

module _ {S C A E R : Type 0} (contract : Outcome S C A → Type 0) (step : S → E → S) (says : S → E → R) (asks : C → Asks E) (reply : Outcome S C A → R) (tied : Tied contract step says asks reply) where
  abbrev steps : List (Outcome S C A) → List E
  steps = steps_of asks

  pub ends_at : {s s' : S} {os : List (Outcome S C A)} → Happened contract s os s' → run step s (steps os) ≡ s'
  unfolding run steps_of
  ends_at no_call = refl
  ends_at (next_call {o = o} {os = os} {end = s'} k hs) = by_call (asks o.asked) (tied o k) (ends_at hs)
    where
      by_call : (a : Asks E) → Leads step says o.was a (reply o) o.became → run step o.became (steps os) ≡ s' → run step o.was (and_steps a (steps os)) ≡ s'
      by_call (asks_for e) l ih = ap (λ (z : S). run step z (steps os)) l.0 ∙ ih
      by_call asks_nothing l ih = ap (λ (z : S). run step z (steps os)) l ∙ ih

  -- the calls that pass a test, and what their callers got
  module _ (test : S → E → Bool) (passes : Outcome S C A → Bool) (agree : Tests contract asks test passes) where
    pub remains : {s s' : S} {os : List (Outcome S C A)} → Happened contract s os s' → remaining step test s (steps os) ≡ steps (those passes os)
    unfolding gathered those steps_of
    remains no_call = refl
    remains (next_call {o = o} {os = os} k hs) = by_call (asks o.asked) refl (tied o k) (agree o k) (remains hs)
      where
        by_call : (a : Asks E) → asks o.asked ≡ a → Leads step says o.was a (reply o) o.became → TestsStep test o.was a (passes o) → remaining step test o.became (steps os) ≡ steps (those passes os)
            → remaining step test o.was (and_steps a (steps os)) ≡ steps (cond (passes o) (o ∷ those passes os) (those passes os))
        by_call (asks_for e) q l t ih = rw (t, l.0) (by_test (passes o))
          where
            by_test : (b : Bool) → cond b (e ∷ remaining step test o.became (steps os)) (remaining step test o.became (steps os)) ≡ steps (cond b (o ∷ those passes os) (those passes os))
            by_test true = rw (q, ih)
            by_test false = ih
        by_call asks_nothing q l t ih = rw (t, l) ih

    pub gathers : {s s' : S} {os : List (Outcome S C A)} → Happened contract s os s' → gathered step test says s (steps os) ≡ map reply (those passes os)
    unfolding gathered those steps_of
    gathers no_call = refl
    gathers (next_call {o = o} {os = os} k hs) = by_call (asks o.asked) (tied o k) (agree o k) (gathers hs)
      where
        by_call : (a : Asks E) → Leads step says o.was a (reply o) o.became → TestsStep test o.was a (passes o) → gathered step test says o.became (steps os) ≡ map reply (those passes os)
            → gathered step test says o.was (and_steps a (steps os)) ≡ map reply (cond (passes o) (o ∷ those passes os) (those passes os))
        by_call (asks_for e) l t ih = rw (t, l.0, l.1) (by_test (passes o))
          where
            by_test : (b : Bool) → cond b (reply o ∷ gathered step test says o.became (steps os)) (gathered step test says o.became (steps os)) ≡ map reply (cond b (o ∷ those passes os) (those passes os))
            by_test true = rw ih
            by_test false = ih
        by_call asks_nothing l t ih = rw (t, l) ih

    -- each step passes where no call fails
    pub all_pass : {s s' : S} {os : List (Outcome S C A)} → Happened contract s os s' → those (λ o. not (passes o)) os ≡ [] → every step test s (steps os) ≡ true
    unfolding every those steps_of
    all_pass no_call n = refl
    all_pass (next_call {o = o} {os = os} k hs) n = by_call (asks o.asked) (tied o k) (agree o k) (passes o) refl n (λ r. all_pass hs r)
      where
        by_call : (a : Asks E) → Leads step says o.was a (reply o) o.became → TestsStep test o.was a (passes o) → (b : Bool) → passes o ≡ b
            → cond (not b) (o ∷ those (λ x. not (passes x)) os) (those (λ x. not (passes x)) os) ≡ [] → (those (λ x. not (passes x)) os ≡ [] → every step test o.became (steps os) ≡ true)
            → every step test o.was (and_steps a (steps os)) ≡ true
        by_call a l t false q n ih = let no : ◌≡◌ {A = ℕ} 0 1 = cc in absurd (omega arith)
        by_call (asks_for e) l t true q n ih = rw (t, q, l.0) (ih n)
        by_call asks_nothing l t true q n ih = absurd (false≢true (sym t ∙ q))
