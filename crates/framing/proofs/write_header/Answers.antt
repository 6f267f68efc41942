-- `write_header` meets its contract: an exit for each case of `write_size`.
use mathlib.Core.Path.{◌∙◌}
use mathlib.Core.List.{[]}
use native.Mathlib.Omega.{arith}
use lib.ListN.{length-set}
use Rattle.framing.proofs.Writing.{too_long, no_room, fits, kept, put, header_put}
use Rattle.framing.proofs.write_header.Goals as goal

pub returns-then-value_length-gt-LONGEST_VALUE : goal.returns-then-value_length-gt-LONGEST_VALUE
returns-then-value_length-gt-LONGEST_VALUE c = record { answer = too_long _ _ c.if-value_length-gt-LONGEST_VALUE.true; bytes = kept _ 8 [] _ _ (too_long _ _ c.if-value_length-gt-LONGEST_VALUE.true) }

pub returns-then-out-size : goal.returns-then-out-size
returns-then-out-size c =
    let e = no_room _ _ c.if-value_length-gt-LONGEST_VALUE.false c.if-out-size.true in
    record { answer = e; bytes = kept _ 7 [] _ _ e }

pub bounds-out-1 : goal.bounds-out-1
bounds-out-1 c = simp length-set (omega arith)

pub bounds-out-2 : goal.bounds-out-2
bounds-out-2 c = simp length-set (omega arith)

pub returns : goal.returns
returns c =
    let e = fits _ _ c.if-value_length-gt-LONGEST_VALUE.false c.if-out-size.false in
    record { answer = e; bytes = header_put _ _ c.args.out.now c.if-value_length-gt-LONGEST_VALUE.false (omega arith) ∙ put _ _ _ _ e }
