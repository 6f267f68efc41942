-- Eight bytes below 0x80 are eight characters.
use mathlib.Core.Path.{◌≡◌}
use lib.ListN.{length}
use Rattle.utf8.specs.Utf8.{is_utf8_lem}
use Rattle.utf8.proofs.after_ascii.Given as goal

abbrev pub invariant-loop-rest : goal.invariant-loop-rest
invariant-loop-rest l = is_utf8_lem l.s ≡ is_utf8_lem l.rest

abbrev pub decreases-loop-rest : goal.decreases-loop-rest
decreases-loop-rest l = length l.rest
