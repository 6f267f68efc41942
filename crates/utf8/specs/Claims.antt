-- What is claimed of this crate's call and definitions; proofs/Claims.antt proves it.
use Rattle.std.specs.Prelude.{◌≡◌, true, ℕ, length, take, drop}
use mathlib.Core.List.{List, flatten}
use Rattle.numbers.specs.Firmness.{Firm}
use Rattle.utf8.specs.Utf8.{Octets, is_utf8_lem}

-- Rule A4, for the public call by its name: any two answers that its contract allows are one.
pub record Firmness : Type 0 where
  pub is_utf8 : (s : List ℕ) → Firm (λ r. r ≡ is_utf8_lem s)

-- Rule E5: the test accepts exactly the bytes that the grammar of RFC 3629 gives.
abbrev pub Exactly : Type 0
Exactly = (s : List ℕ) → (is_utf8_lem s ≡ true → Octets s) × (Octets s → is_utf8_lem s ≡ true)

-- where character n of a text starts, and so where the one before it ends
abbrev pub begin_of : {s : List ℕ} → Octets s → ℕ → ℕ
begin_of o n = length (flatten (take n o.list))

-- a text that is cut between two characters is two texts (rule E5)
abbrev pub Cut : Type 0
Cut = (s : List ℕ) (o : Octets s) (n : ℕ) → (is_utf8_lem (take (begin_of o n) s) ≡ true) ×
    (is_utf8_lem (drop (begin_of o n) s) ≡ true)

-- everything that is claimed of this crate
pub record Claims : Type 0 where
  pub firmness : Firmness
  pub exactly : Exactly
  pub cut : Cut
