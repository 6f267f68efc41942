-- Laws of the machine's lists: tests made twice, and tests that every call passes.
use mathlib.Core.Path.{◌≡◌, refl, ap, ◌∙◌}
use mathlib.Core.List.{List, [], ◌∷◌, ◌++◌}
use mathlib.Core.Bool.{Bool, true, false, cond, not, ◌&&◌, false≢true}
use Rattle.machines.specs.Machine.{those, remaining, gathered, every}

pub left_true : (a b : Bool) → (a && b) ≡ true → a ≡ true
left_true true b h = refl
left_true false b h = absurd (false≢true h)

pub right_true : (a b : Bool) → (a && b) ≡ true → b ≡ true
right_true true b h = h
right_true false b h = absurd (false≢true h)

pub those_twice : {E : Type 0} (test : E → Bool) (es : List E) → those test (those test es) ≡ those test es
unfolding those
those_twice test [] = refl
those_twice {E} test (e ∷ es) = by_test (test e) refl (those_twice test es)
  where
    by_test : (b : Bool) → test e ≡ b → those test (those test es) ≡ those test es → those test (cond b (e ∷ those test es) (those test es)) ≡ cond b (e ∷ those test es) (those test es)
    by_test true p h = rw (p, h)
    by_test false p h = h

pub those_both : {E : Type 0} (own passes : E → Bool) (es : List E) → those own (those passes es) ≡ those (λ e. own e && passes e) es
unfolding those
those_both own passes [] = refl
those_both {E} own passes (e ∷ es) = by_tests (passes e) (own e) refl (those_both own passes es)
  where
    by_tests : (b c : Bool) → own e ≡ c → those own (those passes es) ≡ those (λ e. own e && passes e) es
        → those own (cond b (e ∷ those passes es) (those passes es)) ≡ cond (c && b) (e ∷ those (λ e. own e && passes e) es) (those (λ e. own e && passes e) es)
    by_tests true true q ih = rw (q, ih)
    by_tests true false q ih = rw (q, ih)
    by_tests false true q ih = ih
    by_tests false false q ih = ih

-- a test that only members pass which pass another one too
pub those_within : {E : Type 0} (own passes : E → Bool) → ((e : E) → (own e && passes e) ≡ own e) → (es : List E) → those own (those passes es) ≡ those own es
those_within own passes within es = those_both own passes es ∙ (λ i. those (λ e. within e i) es)

pub those_append : {E : Type 0} (test : E → Bool) (es fs : List E) → those test (es ++ fs) ≡ those test es ++ those test fs
unfolding those
those_append test [] fs = refl
those_append {E} test (e ∷ es) fs = by_test (test e) (those_append test es fs)
  where
    by_test : (b : Bool) → those test (es ++ fs) ≡ those test es ++ those test fs → cond b (e ∷ those test (es ++ fs)) (those test (es ++ fs)) ≡ cond b (e ∷ those test es) (those test es) ++ those test fs
    by_test true h = ap (λ (l : List E). e ∷ l) h
    by_test false h = h

module _ {S E : Type 0} (step : S → E → S) (test : S → E → Bool) where
  pub every_remains : (es : List E) (s : S) → every step test s es ≡ true → remaining step test s es ≡ es
  unfolding every gathered
  every_remains [] s h = refl
  every_remains (e ∷ es) s h = rw (left_true (test s e) _ h, every_remains es (step s e) (right_true (test s e) _ h))

  pub every_none : {A : Type 0} (says : S → E → A) (es : List E) (s : S) → every step test s es ≡ true → gathered step (λ s e. not (test s e)) says s es ≡ []
  unfolding every gathered
  every_none says [] s h = refl
  every_none says (e ∷ es) s h = rw (left_true (test s e) _ h) (every_none says es (step s e) (right_true (test s e) _ h))

  pub every_gathered : {A : Type 0} (own : S → E → Bool) (says : S → E → A) (es : List E) (s : S) → every step test s es ≡ true
      → gathered step (λ s e. own s e && test s e) says s es ≡ gathered step own says s es
  unfolding every gathered
  every_gathered own says [] s h = refl
  every_gathered own says (e ∷ es) s h = by_own (own s e) (every_gathered own says es (step s e) (right_true (test s e) _ h))
    where
      by_own : (b : Bool) → gathered step (λ s e. own s e && test s e) says (step s e) es ≡ gathered step own says (step s e) es
          → cond (b && test s e) (says s e ∷ gathered step (λ s e. own s e && test s e) says (step s e) es) (gathered step (λ s e. own s e && test s e) says (step s e) es) ≡ cond b (says s e ∷ gathered step own says (step s e) es) (gathered step own says (step s e) es)
      by_own true ih = rw (left_true (test s e) _ h, ih)
      by_own false ih = ih
