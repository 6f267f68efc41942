-- `write_file_header` meets its contract: an exit for each case of `file_header_size`.
use mathlib.Core.Path.{ap, ◌∙◌}
use lib.ListN.{drop}
use mathlib.Core.List.{List, ◌++◌}
use Prim.Native.Nat.{ℕ}
use Rattle.framing.proofs.Writing.{kept, put}
use Rattle.captures.proofs.Putting.{no_header_room, header_fits}
use Rattle.captures.proofs.write_file_header.Goals as goal

pub returns-then-out-lt24 : goal.returns-then-out-lt24
returns-then-out-lt24 c =
    let e = no_header_room _ c.if-out-lt24.true in
    record { answer = e; bytes = kept _ _ _ _ _ e }

pub returns : goal.returns
returns c =
    let e = header_fits _ c.if-out-lt24.false in
    let rest = drop 24 c.args.out.now in
    record { answer = e; bytes = ap (λ (l : List ℕ). l ++ rest) c.copy_from_slice.ensures.after ∙ put _ _ _ _ e }
