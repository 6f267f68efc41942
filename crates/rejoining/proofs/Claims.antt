-- The claims of specs/Claims.antt, proved.
use Rattle.rejoining.specs.Claims.{Claims}
use Rattle.rejoining.proofs.Completed.{accepted_completes}

pub claims : Claims
claims = record { accepted_completes = accepted_completes }
