-- What is claimed of this crate's call; proofs/Claims.antt proves it.
use Rattle.std.specs.Prelude.{◌≡◌, ℕ}
use Rattle.numbers.specs.Firmness.{Firm}
use Rattle.table.specs.declared.Table.{Table}
use Rattle.sweeping.specs.declared.Swept.{Swept}
use Rattle.sweeping.specs.Sweep.{swept}

-- Rule A4: any two results that the contract allows are equal, in the table and in the number.
pub record Firmness : Type 0 where
  pub sweep_step : (t : Table) (time : ℕ) → Firm {A = Swept} (λ r. r ≡ swept t time)

-- everything that is claimed of this crate
pub record Claims : Type 0 where
  pub firmness : Firmness
