-- The claims of specs/Claims.antt, proved.
use mathlib.Core.Path.{sym, ◌∙◌}
use Rattle.numbers.specs.Numbers.{number, carried}
use Rattle.numbers.specs.Claims.{Firmness, Claims}
use Rattle.numbers.proofs.Firm.{by_equation, firm_numbered}
use Rattle.numbers.proofs.Bytes.{said_back, bytes_back}

firmness : Firmness
firmness = record {
  number_of = λ r. by_equation (number r);
  carried_by = λ r. by_equation (carried r);
  wide = λ byte a b p q. p.0 ∙ sym q.0;
  be16 = λ high low a b p q. p.0 ∙ sym q.0;
}

pub claims : Claims
claims = record { firmness = firmness; told_apart = firm_numbered; said_back = record { of_number = said_back; of_bytes = bytes_back } }
