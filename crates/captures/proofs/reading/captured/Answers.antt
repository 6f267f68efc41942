-- `captured` meets its contract: a 1905 frame as it is, or another.
use mathlib.Core.Path.{sym, ap, ◌∙◌}
use Prim.Native.Nat.{◌+◌}
use lib.ListN.{length}
use Rattle.numbers.specs.Numbers.{answered}
use Rattle.walking.specs.Steps.{passed}
use Rattle.captures.specs.Reading.{Captured}
use Rattle.captures.proofs.Frames.{is_read, header_is, as_ours}
use Rattle.captures.proofs.reading.captured.Goals as goal

pub unwrap-cmdu-requires : goal.unwrap-cmdu-requires
unwrap-cmdu-requires c = is_read c.args.frame.now (sym c.if-not-is_1905.ensures) _ c.read_cmdu_header.ensures

pub returns : goal.returns
returns c =
    let is = sym c.if-not-is_1905.ensures in
    let n = c.args.at + 16 + length c.args.frame.now in
    ap (λ (x : Captured). passed x n) (as_ours _ (record { seconds = c.args.seconds; microseconds = c.args.microseconds; frame = c.args.frame.now }) is _ (header_is c.args.frame.now is _ (ap answered (sym c.unwrap-cmdu.ensures) ∙ c.read_cmdu_header.ensures)))
