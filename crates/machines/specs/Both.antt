-- Two machines side by side: each call is one's or the other's, and leaves the other's state as it was.
use Rattle.std.specs.Prelude.{List, [], ◌∷◌}
use Rattle.machines.specs.Happened.{Outcome}

pub data Either (A B : Type 0) : Type 0 where
  left : A → Either A B
  right : B → Either A B

-- the calls of the one machine in a list, and those of the other, in their order
unfoldable pub lefts : {A B : Type 0} → List (Either A B) → List A
lefts [] = []
lefts (left a ∷ cs) = a ∷ lefts cs
lefts (right b ∷ cs) = lefts cs

unfoldable pub rights : {A B : Type 0} → List (Either A B) → List B
rights [] = []
rights (left a ∷ cs) = rights cs
rights (right b ∷ cs) = b ∷ rights cs

-- calls of both that happened, one after the other, from a state of each to a state of each
pub data BothHappened {S T C D A B : Type 0} (contract : Outcome S C A → Type 0) (contract' : Outcome T D B → Type 0) : S × T → List (Either (Outcome S C A) (Outcome T D B)) → S × T → Type 0 where
  no_calls : {z : S × T} → BothHappened contract contract' z [] z
  one's : {o : Outcome S C A} {t : T} {os : List (Either (Outcome S C A) (Outcome T D B))} {end : S × T} → contract o → BothHappened contract contract' (o.became, t) os end
      → BothHappened contract contract' (o.was, t) (left o ∷ os) end
  other's : {o : Outcome T D B} {s : S} {os : List (Either (Outcome S C A) (Outcome T D B))} {end : S × T} → contract' o → BothHappened contract contract' (s, o.became) os end
      → BothHappened contract contract' (s, o.was) (right o ∷ os) end
