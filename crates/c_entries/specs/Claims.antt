-- What is claimed of this crate's calls; proofs/Claims.antt proves it.
use Rattle.std.specs.Prelude.{◌≡◌, List, ℕ, Result}
use Rattle.numbers.specs.Numbers.{gives, answered}
use Rattle.numbers.specs.declared.Refusal.{Refusal}
use Rattle.numbers.specs.Firmness.{Firm}
use Rattle.entries.specs.declared.Cursor.{Cursor}
use Rattle.entries.specs.declared.Start.{Start}
use Rattle.entries.specs.Entries.{none_left_lem, gone_on_lem}
use Rattle.c_entries.specs.Numbers.{no_cursor_lem, begun_numbers_lem, after_step, count_numbers_lem}

-- Rule A4: for each public call, by its name, any two answers that its contract allows are one.
pub record Firmness : Type 0 where
  pub begun_numbers : (begun : Result Start Refusal) → Firm (λ r. r ≡ begun_numbers_lem (answered begun))
  pub next : (cursor : Cursor) (value : List ℕ) → Firm (λ r. r ≡ after_step cursor (gone_on_lem cursor value))
  pub count_numbers : (counted : Result ℕ Refusal) → Firm (λ r. r ≡ count_numbers_lem (answered counted))

-- Rule E9: the cursor of a beginning that was refused gives no entry, of any bytes.
abbrev pub NothingLeft : Type 0
NothingLeft = (s : List ℕ) → gone_on_lem no_cursor_lem s ≡ gives none_left_lem

-- everything that is claimed of this crate
pub record Claims : Type 0 where
  pub firmness : Firmness
  pub nothing_left : NothingLeft
