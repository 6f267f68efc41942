-- Laws of answers: what `and_then` and `mapped` give and refuse.
use mathlib.Core.Path.{◌≡◌, refl, sym}
use mathlib.Core.List.{List}
use Prim.Native.Nat.{ℕ}
use Rattle.numbers.specs.Numbers.{Answer, gives, refuses, and_then, mapped}
use Rattle.numbers.proofs.Firm.{never}

-- what is given is one thing
pub given : {A : Type 0} (a b : A) → gives a ≡ gives b → a ≡ b
given a b e = cc

-- after what is given comes what follows; after a refusal, nothing
pub follows : {A B : Type 0} (x : Answer A) (a : A) (f : A → Answer B) → x ≡ gives a → and_then x f ≡ f a
follows x a f e = rw e

pub stops : {A B : Type 0} (x : Answer A) (n : ℕ) (vs : List ℕ) (f : A → Answer B) → x ≡ refuses n vs → and_then x f ≡ refuses n vs
stops x n vs f e = rw e

pub mapped_given : {A B : Type 0} (f : A → B) (x : Answer A) (a : A) → x ≡ gives a → mapped f x ≡ gives (f a)
mapped_given f x a e = rw e

pub mapped_refused : {A B : Type 0} (f : A → B) (x : Answer A) (n : ℕ) (vs : List ℕ) → x ≡ refuses n vs → mapped f x ≡ refuses n vs
mapped_refused f x n vs e = rw e

-- where something is given in the end, something was given first
pub record Given {A B : Type 0} (x : Answer A) (f : A → Answer B) (b : B) : Type 0 where
  pub first : A
  pub is : x ≡ gives first
  pub then : f first ≡ gives b

pub gave : {A B : Type 0} (x : Answer A) (f : A → Answer B) (b : B) → and_then x f ≡ gives b → Given x f b
gave (gives a) f b e = record { first = a; is = refl; then = e }
gave (refuses n vs) f b e = never b n vs (sym e)

pub mapped_gave : {A B : Type 0} (f : A → B) (x : Answer A) (b : B) → mapped f x ≡ gives b → Given x (λ a. gives (f a)) b
mapped_gave f (gives a) b e = record { first = a; is = refl; then = e }
mapped_gave f (refuses n vs) b e = never b n vs (sym e)

-- the same follows where the same is given, and one after the other is one
pub alike : {A B : Type 0} (x : Answer A) (f g : A → Answer B) → ((a : A) → f a ≡ g a) → and_then x f ≡ and_then x g
alike (gives a) f g e = e a
alike (refuses n vs) f g e = refl

pub regrouped : {A B C : Type 0} (x : Answer A) (f : A → Answer B) (g : B → Answer C) → and_then (and_then x f) g ≡ and_then x (λ a. and_then (f a) g)
regrouped (gives a) f g = refl
regrouped (refuses n vs) f g = refl

pub mapped_then : {A B C : Type 0} (f : A → B) (x : Answer A) (g : B → Answer C) → and_then (mapped f x) g ≡ and_then x (λ a. g (f a))
mapped_then f (gives a) g = refl
mapped_then f (refuses n vs) g = refl

pub mapped_twice : {A B C : Type 0} (f : A → B) (g : B → C) (x : Answer A) → mapped g (mapped f x) ≡ mapped (λ a. g (f a)) x
mapped_twice f g (gives a) = refl
mapped_twice f g (refuses n vs) = refl
