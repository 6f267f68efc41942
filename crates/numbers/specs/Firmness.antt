-- Rule A4: a contract leaves no choice between two answers.
use Rattle.std.specs.Prelude.{◌≡◌}

-- A contract, as what it allows: any two outcomes that it allows are one. For a call that is lent a slice to write, an
-- outcome is the answer together with what the slice then holds.
abbrev pub Firm : {A : Type 0} → (A → Type 0) → Type 0
Firm {A = A} allows = (a b : A) → allows a → allows b → a ≡ b
