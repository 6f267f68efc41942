-- The claims of specs/Claims.antt, proved.
use Rattle.numbers.proofs.Firm.{by_equation}
use Rattle.c_captures.specs.Claims.{Firmness, Claims}

firmness : Firmness
firmness = record {
  written_numbers = λ written. by_equation _;
  reached_numbers = λ reached. by_equation _;
  checked_numbers = λ checked. by_equation _;
}

pub claims : Claims
claims = record { firmness = firmness }
