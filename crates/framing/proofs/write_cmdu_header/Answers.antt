-- `write_cmdu_header` meets its contract: an exit for each case of `header_size`.
use mathlib.Core.Path.{◌∙◌}
use Rattle.framing.proofs.Heading.{no_room, fits}
use Rattle.framing.proofs.Writing.{kept, put}
use Rattle.framing.proofs.write_cmdu_header.Goals as goal

pub returns-then-out-lt8 : goal.returns-then-out-lt8
returns-then-out-lt8 c = let e = no_room _ c.if-out-lt8.true in record { answer = e; bytes = kept _ _ _ _ _ e }

pub returns : goal.returns
returns c =
    let e = fits _ c.if-out-lt8.false in
    record { answer = e; bytes = (rw c.header_bytes-header.ensures at c.put_bytes.ensures) ∙ put _ _ _ _ e }
