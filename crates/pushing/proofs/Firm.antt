-- Two results of push that say the same are one.
use mathlib.Core.Path.{◌≡◌, refl, sym, ap, ◌∙◌}
use Rattle.std.specs.Prelude.{Result, Ok, Err}
use Rattle.numbers.specs.declared.Refusal.{Refusal}
use Rattle.numbers.proofs.Firm.{firm, never}
use Rattle.numbers.proofs.Answers.{given as one}
use Rattle.pushing.specs.declared.Pushed.{Pushed}
use Rattle.pushing.specs.declared.Pushed.TheVariants.{WaitingForMoreFragments, DuplicatedFragment, InconsistentMetadata, MissingFragments, MissingLastFragment, Single, Joined}
use Rattle.pushing.specs.Push.{PushAnswer, waiting, duplicated, inconsistent, missing, missing_last, single, joined, answer_of, pushed_of}

-- the case that stands for x
abbrev giver : PushAnswer → Pushed
giver waiting = WaitingForMoreFragments
giver duplicated = DuplicatedFragment
giver inconsistent = InconsistentMetadata
giver missing = MissingFragments
giver missing_last = MissingLastFragment
giver (single n) = Single n
giver (joined n) = Joined n

back : (p : Pushed) → giver (answer_of p) ≡ p
back WaitingForMoreFragments = refl
back DuplicatedFragment = refl
back InconsistentMetadata = refl
back MissingFragments = refl
back MissingLastFragment = refl
back (Single n) = refl
back (Joined n) = refl

pub one_answer : (p q : Result Pushed Refusal) → pushed_of p ≡ pushed_of q → p ≡ q
one_answer (Ok a) (Ok b) e = ap Ok (sym (back a) ∙ ap giver (one (answer_of a) (answer_of b) e) ∙ back b)
one_answer (Ok a) (Err s) e = never _ _ _ e
one_answer (Err r) (Ok b) e = never _ _ _ (sym e)
one_answer (Err r) (Err s) e = ap Err (firm PushAnswer r s e)
