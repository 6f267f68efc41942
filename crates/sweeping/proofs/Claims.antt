-- The claims of specs/Claims.antt, proved.
use Rattle.numbers.proofs.Firm.{by_equation}
use Rattle.sweeping.specs.Sweep.{swept}
use Rattle.sweeping.specs.Claims.{Claims}

pub claims : Claims
claims = record { firmness = record { sweep_step = λ t time. by_equation (swept t time) } }
