-- What is claimed of this crate's calls; proofs/Claims.antt proves it.
use Rattle.std.specs.Prelude.{◌≡◌, List, [], ◌∷◌, ℕ, ◌^◌, ◌<◌, length}
use Rattle.numbers.specs.Bytes.{big_endian, in_bytes, AllBytes}
use Rattle.numbers.specs.Numbers.{number, values, carried}
use Rattle.numbers.specs.Firmness.{Firm}
use Rattle.numbers.specs.declared.Refusal.{Refusal}

-- Rule A4, for each public call by its name: any two answers that its contract allows are one.
pub record Firmness : Type 0 where
  pub number_of : (r : Refusal) → Firm (λ n. n ≡ number r)
  pub carried_by : (r : Refusal) → Firm (λ n. n ≡ carried r)
  pub wide : (byte : ℕ) → Firm (λ r. (r ≡ byte) × (r < 256))
  pub be16 : (high low : ℕ) → Firm (λ r. (r ≡ big_endian (high ∷ low ∷ [])) × (r < 65536))

-- No two refusals have the same number and values (rule N1).
abbrev pub ToldApart : Type 0
ToldApart = (a b : Refusal) → number a ≡ number b → values a ≡ values b → a ≡ b

-- A number and its bytes say each other (rules A6 and B1).
pub record SaidBack : Type 0 where
  pub of_number : (w n : ℕ) → n < 256 ^ w → big_endian (in_bytes w n) ≡ n
  pub of_bytes : (bs : List ℕ) → AllBytes bs → in_bytes (length bs) (big_endian bs) ≡ bs

-- everything that is claimed of this crate
pub record Claims : Type 0 where
  pub firmness : Firmness
  pub told_apart : ToldApart
  pub said_back : SaidBack
