-- What is claimed about machines that take one call after the other: the record Claims, which proofs/Claims.antt
-- proves. It is about all types of states and calls, so it is a type of the next level.
use Rattle.std.specs.Prelude.{◌≡◌, List, [], ◌++◌, map, Bool, true, not, ◌&&◌, ℕ}
use Rattle.machines.specs.Machine.{those, run, remaining, gathered, every}
use Rattle.machines.specs.Story.{Machine, hers, story, view_after, answers, ActsByKey, Echo}
use Rattle.machines.specs.Happened.{Outcome, Happened, Asks, steps_of, Tied, Tests}
use Rattle.machines.specs.Both.{Either, lefts, rights, BothHappened}

-- lists of calls
pub record Lists : Type 1 where
  pub those_append : {E : Type 0} (test : E → Bool) (es fs : List E) → those test (es ++ fs) ≡ those test es ++ those test fs
  pub those_both : {E : Type 0} (own passes : E → Bool) (es : List E) → those own (those passes es) ≡ those (λ e. own e && passes e) es
  pub every_remains : {S E : Type 0} (step : S → E → S) (test : S → E → Bool) (es : List E) (s : S) → every step test s es ≡ true → remaining step test s es ≡ es
  pub every_gathered : {S E A : Type 0} (step : S → E → S) (test own : S → E → Bool) (says : S → E → A) (es : List E) (s : S) → every step test s es ≡ true
      → gathered step (λ s e. own s e && test s e) says s es ≡ gathered step own says s es

-- One key's story: what is seen of the key after any calls, and what its own calls are answered, go by the story alone.
-- Rules D5 and P5 rest on this.
module _ {S E A Vw : Type 0} (m : Machine S E A Vw) (passes : S → E → Bool) where
  pub record StoryAlone (Good : S → Type 0) (c : ℕ) (es : List E) (s : S) : Type 0 where
    pub good : Good (run m.step s es)
    pub seen : m.view c (run m.step s es) ≡ view_after m (m.view c s) (story m passes c s es)
    pub answered : gathered m.step (hers m passes c) m.says s es ≡ answers m c (m.view c s) (story m passes c s es)

  -- Two runs whose stories of a key are alike. Rule D4 rests on this.
  pub record StoriesAlike (c : ℕ) (es fs : List E) (s s' : S) : Type 0 where
    pub seen : m.view c (run m.step s es) ≡ m.view c (run m.step s' fs)
    pub answered : gathered m.step (hers m passes c) m.says s es ≡ gathered m.step (hers m passes c) m.says s' fs

  -- A run that is given the story of a key and nothing else. Rules D3 and D5 rest on this.
  pub record GivenAlone (c : ℕ) (es : List E) (s s' : S) : Type 0 where
    pub all_pass : every m.step passes s' (story m passes c s es) ≡ true
    pub seen : m.view c (run m.step s es) ≡ m.view c (run m.step s' (story m passes c s es))
    pub answered : gathered m.step (hers m passes c) m.says s es ≡ gathered m.step (λ s e. m.own c e) m.says s' (story m passes c s es)

-- Calls that happened are a run: they end where the run ends, what passes a test of the run passes theirs, and their
-- callers got what the machine says.
module _ {S C A E R : Type 0} (contract : Outcome S C A → Type 0) (step : S → E → S) (says : S → E → R) (asks : C → Asks E) (reply : Outcome S C A → R) where
  pub record HappenedRun (s s' : S) (os : List (Outcome S C A)) (test : S → E → Bool) (passes : Outcome S C A → Bool) : Type 0 where
    pub ends_at : run step s (steps_of asks os) ≡ s'
    pub remains : remaining step test s (steps_of asks os) ≡ steps_of asks (those passes os)
    pub gathers : gathered step test says s (steps_of asks os) ≡ map reply (those passes os)
    pub all_pass : those (λ o. not (passes o)) os ≡ [] → every step test s (steps_of asks os) ≡ true

pub record Claims : Type 1 where
  pub lists : Lists
  pub story_alone : {S E A Vw : Type 0} (m : Machine S E A Vw) (passes : S → E → Bool) (Good : S → Type 0) → ActsByKey m passes Good → (c : ℕ) (es : List E) (s : S) → Good s → StoryAlone m passes Good c es s
  pub stories_alike : {S E A Vw : Type 0} (m : Machine S E A Vw) (passes : S → E → Bool) (Good : S → Type 0) → ActsByKey m passes Good → (c : ℕ) (es fs : List E) (s s' : S) → Good s → Good s'
      → m.view c s ≡ m.view c s' → story m passes c s es ≡ story m passes c s' fs → StoriesAlike m passes c es fs s s'
  pub given_alone : {S E A Vw : Type 0} (m : Machine S E A Vw) (passes : S → E → Bool) (Good : S → Type 0) → ActsByKey m passes Good → (c : ℕ) (Lone : S → Type 0) → Echo m passes Good c Lone
      → (es : List E) (s s' : S) → Good s → Good s' → Lone s' → m.view c s ≡ m.view c s' → GivenAlone m passes c es s s'
  pub happened_run : {S C A E R : Type 0} (contract : Outcome S C A → Type 0) (step : S → E → S) (says : S → E → R) (asks : C → Asks E) (reply : Outcome S C A → R) → Tied contract step says asks reply
      → (s s' : S) (os : List (Outcome S C A)) → Happened contract s os s' → (test : S → E → Bool) (passes : Outcome S C A → Bool) → Tests contract asks test passes → HappenedRun contract step says asks reply s s' os test passes
  -- where two machines stand side by side, the calls of each happened to it alone
  pub each_alone : {S T C D A B : Type 0} (contract : Outcome S C A → Type 0) (contract' : Outcome T D B → Type 0) (z z' : S × T) (os : List (Either (Outcome S C A) (Outcome T D B)))
      → BothHappened contract contract' z os z' → Happened contract z.0 (lefts os) z'.0 × Happened contract' z.1 (rights os) z'.1
