-- What is claimed of this crate's calls; proofs/Claims.antt proves it.
use Rattle.std.specs.Prelude.{◌≡◌, List, Bool, ℕ, ◌≤◌}
use Rattle.numbers.specs.Firmness.{Firm}
use Rattle.table.specs.declared.Table.{Table}
use Rattle.table.specs.declared.Totals.{Totals}
use Rattle.table.specs.Rows.{keys, fresh_table, first_row_in, totals_in, lower_row_lem, dropped_key_lem}

-- Rule A4, for each public call by its name: any two answers that its contract allows are equal.
pub record Firmness : Type 0 where
  pub fresh : Firm {A = Table} (λ r. r ≡ fresh_table)
  pub first_row : (used : List Bool) (row-keys : List ℕ) (sender : ℕ) → Firm (λ r. (r ≡ first_row_in used row-keys sender) × (r ≤ keys))
  pub totals_at : (sender-keys sender-places : List ℕ) (row : ℕ) → Firm {A = Totals} (λ r. r ≡ totals_in sender-keys sender-places row)
  pub lower_row : (a b : ℕ) → Firm (λ r. r ≡ lower_row_lem a b)
  pub without_key : (t : Table) (row : ℕ) → Firm {A = Table} (λ r. r ≡ dropped_key_lem t row)
  pub drop_key : (t : Table) (row : ℕ) → Firm {A = Table} (λ n. n ≡ dropped_key_lem t row)

-- everything that is claimed of this crate
pub record Claims : Type 0 where
  pub firmness : Firmness
