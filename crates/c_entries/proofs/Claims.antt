-- The claims of specs/Claims.antt, proved.
use Rattle.numbers.proofs.Firm.{by_equation}
use Rattle.entries.proofs.Laws.{no_more}
use Rattle.c_entries.specs.Claims.{Firmness, Claims}

firmness : Firmness
firmness = record {
  begun_numbers = λ begun. by_equation _;
  next = λ cursor value. by_equation _;
  count_numbers = λ counted. by_equation _;
}

pub claims : Claims
claims = record { firmness = firmness; nothing_left = λ s. no_more 0 0 s 0 }
