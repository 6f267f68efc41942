-- What is claimed of this crate's calls; proofs/Claims.antt proves it.
use Rattle.std.specs.Prelude.{◌≡◌, ℕ, Result}
use Rattle.numbers.specs.Numbers.{answered}
use Rattle.numbers.specs.declared.Refusal.{Refusal}
use Rattle.numbers.specs.Firmness.{Firm}
use Rattle.captures.specs.declared.Reached.{Reached}
use Rattle.captures.specs.declared.FrameCount.{FrameCount}
use Rattle.captures.specs.Reading.{reached_of}
use Rattle.c_captures.specs.Numbers.{written_numbers_lem, reached_numbers_lem, checked_numbers_lem}

-- Rule A4: for each public call, by its name, any two answers that its contract allows are one.
pub record Firmness : Type 0 where
  pub written_numbers : (written : Result ℕ Refusal) → Firm (λ r. r ≡ written_numbers_lem (answered written))
  pub reached_numbers : (reached : Result Reached Refusal) → Firm (λ r. r ≡ reached_numbers_lem (reached_of reached))
  pub checked_numbers : (checked : Result FrameCount Refusal) → Firm (λ r. r ≡ checked_numbers_lem (answered checked))

-- everything that is claimed of this crate
pub record Claims : Type 0 where
  pub firmness : Firmness
