-- Calls that happened, of any machine: each with the state that it found, what was asked, what was got, and the state
-- that it left.
use Rattle.std.specs.Prelude.{◌≡◌, List, [], ◌∷◌, Bool, false}

pub record Outcome (S C A : Type 0) : Type 0 where
  pub was : S
  pub asked : C
  pub got : A
  pub became : S

-- calls one after the other, each as its contract allows: the first finds the state s, every other one what the one
-- before it left, and the last leaves the state that stands at the end
pub data Happened {S C A : Type 0} (contract : Outcome S C A → Type 0) : S → List (Outcome S C A) → S → Type 0 where
  no_call : {s : S} → Happened contract s [] s
  next_call : {o : Outcome S C A} {os : List (Outcome S C A)} {end : S} → contract o → Happened contract o.became os end → Happened contract o.was (o ∷ os) end

-- what a call asks of a machine: a step, or none
pub data Asks (E : Type 0) : Type 0 where
  asks_for : E → Asks E
  asks_nothing : Asks E

-- the steps that some calls ask for, in their order
abbrev pub and_steps : {E : Type 0} → Asks E → List E → List E
and_steps (asks_for e) es = e ∷ es
and_steps asks_nothing es = es

unfoldable pub steps_of : {S C A E : Type 0} → (C → Asks E) → List (Outcome S C A) → List E
steps_of asks [] = []
steps_of asks (o ∷ os) = and_steps (asks o.asked) (steps_of asks os)

-- A step leads from one state to another and says something; none leaves the state as it was.
abbrev pub Leads : {S E R : Type 0} → (S → E → S) → (S → E → R) → S → Asks E → R → S → Type 0
Leads step says s (asks_for e) reply s' = (step s e ≡ s') × (says s e ≡ reply)
Leads step says s asks_nothing reply s' = s ≡ s'

-- A contract is a machine's: what a call asks for leads from the state that it found to the one that it left, and says
-- what its caller got.
abbrev pub Tied : {S C A E R : Type 0} → (Outcome S C A → Type 0) → (S → E → S) → (S → E → R) → (C → Asks E) → (Outcome S C A → R) → Type 0
Tied {S} {C} {A} contract step says asks reply = (o : Outcome S C A) → contract o → Leads step says o.was (asks o.asked) (reply o) o.became

-- A test of a call that happened is a machine's test of the step that it asks for; a call that asks for none does not
-- pass.
abbrev pub TestsStep : {S E : Type 0} → (S → E → Bool) → S → Asks E → Bool → Type 0
TestsStep test s (asks_for e) passes = test s e ≡ passes
TestsStep test s asks_nothing passes = passes ≡ false

abbrev pub Tests : {S C A E : Type 0} → (Outcome S C A → Type 0) → (C → Asks E) → (S → E → Bool) → (Outcome S C A → Bool) → Type 0
Tests {S} {C} {A} contract asks test passes = (o : Outcome S C A) → contract o → TestsStep test o.was (asks o.asked) (passes o)
