-- What is claimed of this crate's calls; proofs/Claims.antt proves it.
use Rattle.std.specs.Prelude.{◌≡◌, List, ℕ, length, Result}
use Rattle.std.specs.Borrow.{Bor}
use Rattle.numbers.specs.Firmness.{Firm}
use Rattle.numbers.specs.declared.Refusal.{Refusal}
use Rattle.table.specs.declared.Table.{Table}
use Rattle.pushing.specs.declared.Arrival.{Arrival}
use Rattle.pushing.specs.declared.Pushed.{Pushed}
use Rattle.pushing.specs.Push.{pushed_of, way, Goes}
use Rattle.pushing.specs.Show.{shown}
use Rattle.sweeping.specs.Sweep.{swept, swept_as}
use Rattle.reassembler.specs.Showing.{shown_from}

-- Rule A4, for each public call by its name: any two outcomes that its contract allows are equal.
pub record Firmness : Type 0 where
  -- the answer, and what the caller's table, the store and the output hold
  pub push : (t : Table) (store out : List ℕ) (a : Arrival) (payload : List ℕ)
      → Firm {A = Result Pushed Refusal × Table × List ℕ × List ℕ} (λ o. Goes (way t store a payload (length out)) t store out a payload o.0 o.1 o.2 o.3)
  -- the number, and what the caller's table holds
  pub sweep : (t : Table) (time : ℕ) → Firm {A = ℕ × Table} (λ o. swept_as o.1 o.0 ≡ swept t time)
  -- the bytes of the part that is returned, and where it lies
  pub show : (answer : Result Pushed Refusal) (payload out : Bor (List ℕ))
      → Firm {A = List ℕ × (ℕ × ℕ)} (λ o. (o.0 ≡ shown (pushed_of answer) payload.now out.now) × (o.1 ≡ (shown_from (pushed_of answer) payload out).ref_ptr))

-- everything that is claimed of this crate
pub record Claims : Type 0 where
  pub firmness : Firmness
