-- What joining writes, by its answer: a joined message has room, and nothing else goes to the output.
use mathlib.Core.Path.{◌≡◌, refl, subst}
use mathlib.Core.List.{List, [], ◌∷◌}
use mathlib.Core.Bool.{Bool, true, false, cond, not}
use Prim.Native.Nat.{ℕ, ◌≤◌}
use lib.Dec.{ltb, leb}
use lib.ListN.{length}
use borrow.Author.Tests.{ltb-false}
use Rattle.numbers.specs.Numbers.{Answer, gives, refuses}
use Rattle.pushing.specs.declared.Pushed.{Pushed}
use Rattle.pushing.specs.declared.Pushed.TheVariants.{WaitingForMoreFragments, DuplicatedFragment, InconsistentMetadata, MissingFragments, MissingLastFragment, Single, Joined}
use Rattle.pushing.specs.Push.{PushAnswer, waiting, duplicated, inconsistent, missing, missing_last, single, joined, Way, refuse, end, message_way, join_by, over, output_by, answer_of, answer_by}

module _ (bytes : List ℕ) (room : ℕ) where
  abbrev pub Same : Way → Type 0
  Same w = (out : List ℕ) → out ≡ output_by w out

  abbrev pub Writes : Way → Answer PushAnswer → Type 0
  Writes w (gives waiting) = Same w
  Writes w (gives duplicated) = Same w
  Writes w (gives inconsistent) = Same w
  Writes w (gives missing) = Same w
  Writes w (gives missing_last) = Same w
  Writes w (gives (single n)) = Same w
  Writes w (gives (joined n)) = (length bytes ≤ room) × ((out : List ℕ) → over bytes out ≡ output_by w out)
  Writes w (refuses n vs) = Same w

  abbrev joining : (u g o n x : Bool) → Way
  joining u g o n x = cond u (end inconsistent []) (cond g (end missing []) (cond (not o) (end missing_last []) (cond n (end (single (length bytes)) []) (cond x (refuse 13 (length bytes ∷ [])) (end (joined (length bytes)) bytes)))))

  pub writes : (u g o : Bool) (n : ℕ) → Writes (join_by u g o n bytes room) (answer_by (join_by u g o n bytes room))
  unfolding message_way
  writes u g o n = by_tests u g o (leb n 1) (ltb room (length bytes)) refl
    where
      by_tests : (u g o n x : Bool) → ltb room (length bytes) ≡ x → Writes (joining u g o n x) (answer_by (joining u g o n x))
      by_tests true g o n x e = λ out. refl
      by_tests false true o n x e = λ out. refl
      by_tests false false false n x e = λ out. refl
      by_tests false false true true x e = λ out. refl
      by_tests false false true false true e = λ out. refl
      by_tests false false true false false e = (ltb-false _ _ e, λ out. refl)

  pub puts_joined : (w : Way) (p : Pushed) (n : ℕ) → p ≡ Joined n → Writes w (gives (answer_of p)) → (length bytes ≤ room) × ((out : List ℕ) → over bytes out ≡ output_by w out)
  puts_joined w p n e = subst (λ (q : Pushed). Writes w (gives (answer_of q))) e

  -- where nothing is joined, the output stays
  pub puts_none : (w : Way) (p : Pushed) → ((n : ℕ) → p ≡ Joined n → ⊥) → Writes w (gives (answer_of p)) → Same w
  puts_none w WaitingForMoreFragments other s = s
  puts_none w DuplicatedFragment other s = s
  puts_none w InconsistentMetadata other s = s
  puts_none w MissingFragments other s = s
  puts_none w MissingLastFragment other s = s
  puts_none w (Single n) other s = s
  puts_none w (Joined n) other s = absurd (other n refl)
