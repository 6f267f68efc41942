-- What is claimed of this crate's calls; proofs/Claims.antt proves it.
use Rattle.std.specs.Prelude.{◌≡◌, List, [], ℕ, Result}
use Rattle.numbers.specs.Numbers.{gives, refuses, answered}
use Rattle.numbers.specs.Firmness.{Firm}
use Rattle.links.specs.declared.LinkReport.{LinkReport}
use Rattle.numbers.specs.declared.Refusal.{Refusal}
use Rattle.links.specs.Reports.{merged}
use Rattle.c_links.specs.declared.AshlarReport.{AshlarReport}
use Rattle.c_links.specs.Numbers.{report_numbers_lem, report_from_lem, merged_from}

-- Rule A4: for each public call, by its name, any two answers that its contract allows are one.
pub record Firmness : Type 0 where
  pub report_numbers : (reported : Result LinkReport Refusal) → Firm (λ r. r ≡ report_numbers_lem (answered reported))
  pub merge_numbers : (one other : AshlarReport) → Firm (λ r. r ≡ report_numbers_lem (merged_from one other))

-- Rule C4: a report that crossed to C comes back as it was, and a refusal that crossed comes back as no report.
abbrev pub ComesBack : Type 0
ComesBack = (r : LinkReport) → report_from_lem (report_numbers_lem (gives r)) ≡ gives r

abbrev pub RefusedNeverDoes : Type 0
RefusedNeverDoes = (n : ℕ) (vs : List ℕ) → report_from_lem (report_numbers_lem (refuses n vs)) ≡ refuses 19 []

-- Rule Q7: two reports that crossed are made into the one that the layer's own call makes of them.
abbrev pub MergesAsTheLayer : Type 0
MergesAsTheLayer = (a b : LinkReport) → merged_from (report_numbers_lem (gives a)) (report_numbers_lem (gives b)) ≡ merged a b

-- everything that is claimed of this crate
pub record Claims : Type 0 where
  pub firmness : Firmness
  pub comes_back : ComesBack
  pub refused_never_does : RefusedNeverDoes
  pub merges_as_the_layer : MergesAsTheLayer
