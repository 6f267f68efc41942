-- Two machines side by side: the calls of each happened to it alone.
use mathlib.Core.List.{List}
use Rattle.machines.specs.Happened.{Outcome, Happened, no_call, next_call}
use Rattle.machines.specs.Both.{Either, lefts, rights, BothHappened, no_calls, one's, other's}

module _ {S T C D A B : Type 0} (contract : Outcome S C A → Type 0) (contract' : Outcome T D B → Type 0) where
  pub of_left : {z z' : S × T} {os : List (Either (Outcome S C A) (Outcome T D B))} → BothHappened contract contract' z os z' → Happened contract z.0 (lefts os) z'.0
  unfolding lefts
  of_left no_calls = no_call
  of_left (one's k hs) = next_call k (of_left hs)
  of_left (other's k hs) = of_left hs

  pub of_right : {z z' : S × T} {os : List (Either (Outcome S C A) (Outcome T D B))} → BothHappened contract contract' z os z' → Happened contract' z.1 (rights os) z'.1
  unfolding rights
  of_right no_calls = no_call
  of_right (one's k hs) = of_right hs
  of_right (other's k hs) = next_call k (of_right hs)
