-- A machine that takes one call after the other: its runs, the calls that pass a test, and what is gathered from these.
use Rattle.std.specs.Prelude.{List, [], ◌∷◌, Bool, true, cond, ◌&&◌}

-- the members of a list that pass a test, in their order
unfoldable pub those : {E : Type 0} → (E → Bool) → List E → List E
those test [] = []
those test (e ∷ es) = cond (test e) (e ∷ those test es) (those test es)

-- the state after some calls
unfoldable pub run : {S E : Type 0} → (S → E → S) → S → List E → S
run step s [] = s
run step s (e ∷ es) = run step (step s e) es

-- what is gathered, in their order, from the calls that pass a test at the state in which they come
unfoldable pub gathered : {S E A : Type 0} → (S → E → S) → (S → E → Bool) → (S → E → A) → S → List E → List A
gathered step test says s [] = []
gathered step test says s (e ∷ es) = cond (test s e) (says s e ∷ gathered step test says (step s e) es) (gathered step test says (step s e) es)

-- these calls themselves
abbrev pub remaining : {S E : Type 0} → (S → E → S) → (S → E → Bool) → S → List E → List E
remaining step test = gathered step test (λ s e. e)

-- each call passes the test at the state in which it comes
unfoldable pub every : {S E : Type 0} → (S → E → S) → (S → E → Bool) → S → List E → Bool
every step test s [] = true
every step test s (e ∷ es) = test s e && every step test (step s e) es
