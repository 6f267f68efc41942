-- The claims of specs/Claims.antt, proved.
use Rattle.numbers.proofs.Firm.{by_equation}
use Rattle.utf8.specs.Claims.{Firmness, Claims}
use Rattle.utf8.proofs.Exactly.{exactly, cut}

firmness : Firmness
firmness = record { is_utf8 = λ s. by_equation _ }

pub claims : Claims
claims = record { firmness = firmness; exactly = exactly; cut = cut }
