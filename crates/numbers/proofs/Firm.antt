-- How firm an answer is (rule A4): what a contract says by an equation alone is one thing, and two refusals with the
-- same number and values are one.
use mathlib.Core.Path.{◌≡◌, refl, sym, ap, ◌∙◌}
use mathlib.Core.List.{List, [], ◌∷◌}
use Prim.Native.Nat.{ℕ}
use native.Mathlib.Omega.{arith}
use lib.ListN.{length, get_or, get_or-map}
use Rattle.numbers.specs.Firmness.{Firm}
use Rattle.std.specs.Prelude.{Result, Ok, Err}
use Rattle.numbers.specs.Numbers.{Answer, gives, refuses, told, answered, number, values, carried}
use Rattle.numbers.specs.declared.Refusal.{Refusal}
use Rattle.numbers.specs.declared.Refusal.TheVariants.{TooFewBytes, RunsPastEnd, CutShort, LeftOver, BadValue, NoEntry, NoRoom, ValueTooLong, NeverRead, TableFull, StoreTooSmall, PayloadTooLong, OutputTooSmall, ListTooShort, NotFound, UnknownKind, NoStationRoom, NotText, NoReport, SenderFull, NoCutting, NotACapture, BadFrame}

-- the cases by their numbers, with the value v, and the case with the number n
abbrev cases : ℕ → List Refusal
cases v = UnknownKind ∷ TooFewBytes v ∷ RunsPastEnd v ∷ CutShort ∷ LeftOver ∷ BadValue ∷ NoEntry ∷ NoRoom ∷ ValueTooLong ∷ NeverRead ∷ TableFull ∷ StoreTooSmall ∷ PayloadTooLong ∷ OutputTooSmall v ∷ ListTooShort ∷ NotFound v ∷ UnknownKind ∷ NoStationRoom ∷ NotText ∷ NoReport ∷ SenderFull ∷ NoCutting ∷ NotACapture ∷ BadFrame ∷ []

abbrev case_of : ℕ → ℕ → Refusal
case_of n v = get_or (cases v) n UnknownKind

back : (r : Refusal) → case_of (number r) (carried r) ≡ r
back (TooFewBytes n) = refl
back (RunsPastEnd n) = refl
back CutShort = refl
back LeftOver = refl
back BadValue = refl
back NoEntry = refl
back NoRoom = refl
back ValueTooLong = refl
back NeverRead = refl
back TableFull = refl
back StoreTooSmall = refl
back PayloadTooLong = refl
back (OutputTooSmall n) = refl
back ListTooShort = refl
back (NotFound n) = refl
back UnknownKind = refl
back NoStationRoom = refl
back NotText = refl
back NoReport = refl
back SenderFull = refl
back NoCutting = refl
back NotACapture = refl
back BadFrame = refl

-- beside a number stand always so many values
pub so_many : (a b : Refusal) → number a ≡ number b → length (values a) ≡ length (values b)
so_many a b e = of_case a ∙ rw e (sym (of_case b))
  where
    size : Refusal → ℕ
    size r = length (values r)

    of_case : (r : Refusal) → length (values r) ≡ size (case_of (number r) 0)
    of_case r = ap size (sym (back r)) ∙ sym (get_or-map size (cases (carried r)) (number r) UnknownKind) ∙ get_or-map size (cases 0) (number r) UnknownKind

pub firm_numbered : (a b : Refusal) → number a ≡ number b → values a ≡ values b → a ≡ b
firm_numbered a b e e' = sym (back a) ∙ rw (e, e') (back b)

pub firm : (A : Type 0) (a b : Refusal) → told {A = A} a ≡ told {A = A} b → a ≡ b
firm A a b e = firm_numbered a b (cc) (cc)

-- what is given is no refusal
pub never : {A B : Type 0} (a : A) (n : ℕ) (vs : List ℕ) → gives a ≡ refuses n vs → B
never a n vs e = let z : ◌≡◌ {A = ℕ} 0 1 = cc in absurd (omega arith)

-- what a contract says by an equation: a number, a part that is returned, a list or a table that was lent
pub by_equation : {A : Type 0} (defined : A) → Firm (λ a. a ≡ defined)
by_equation defined a b p q = p ∙ sym q

-- an answer that is said as an `Answer`, if no two are said alike
pub by_telling : {A B : Type 0} (tell : A → B) → ((a b : A) → tell a ≡ tell b → a ≡ b) → (defined : B) → Firm (λ a. tell a ≡ defined)
by_telling tell one defined a b p q = one a b (p ∙ sym q)

-- a result that is said by what it answers
answered_one : {A : Type 0} (a b : Result A Refusal) → answered a ≡ answered b → a ≡ b
answered_one (Ok a) (Ok b) e = ap Ok (cc)
answered_one (Ok a) (Err r) e = never _ _ _ e
answered_one (Err r) (Ok b) e = never _ _ _ (sym e)
answered_one {A = A} (Err r) (Err r') e = ap Err (firm A r r' e)

pub by_answer : {A : Type 0} (defined : Answer A) → Firm (λ r. answered r ≡ defined)
by_answer defined a b p q = answered_one a b (p ∙ sym q)

-- an answer together with what was lent
pub both : {A B : Type 0} (P : A → Type 0) (Q : B → Type 0) → Firm P → Firm Q → Firm {A = A × B} (λ o. P o.0 × Q o.1)
both P Q f g a b p q = rw (f a.0 b.0 p.0 q.0, g a.1 b.1 p.1 q.1)
