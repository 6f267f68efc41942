-- `write_frame` meets its contract: an exit for each case of `frame_size`.
use mathlib.Core.Path.{◌≡◌, ap, ◌∙◌}
use mathlib.Core.List.{◌++◌}
use Prim.Native.Nat.{ℕ, ◌+◌}
use native.Mathlib.Omega.{arith}
use lib.ListN.{length, drop}
use Rattle.framing.proofs.Writing.{kept, put}
use Rattle.captures.specs.Writing.{frame_record}
use Rattle.captures.proofs.Putting.{too_long, too_late, no_room, fits}
use Rattle.captures.proofs.write_frame.Goals as goal

pub returns-then-payload-gt-PLACE_SIZE : goal.returns-then-payload-gt-PLACE_SIZE
returns-then-payload-gt-PLACE_SIZE c = let e = too_long _ _ _ c.if-payload-gt-PLACE_SIZE.true in record { answer = e; bytes = kept _ _ _ _ _ e }

pub returns-then-a-ge-SECONDS_END : goal.returns-then-a-ge-SECONDS_END
returns-then-a-ge-SECONDS_END c = let e = too_late _ _ _ c.if-payload-gt-PLACE_SIZE.false c.if-a-ge-SECONDS_END.true in record { answer = e; bytes = kept _ _ _ _ _ e }

pub returns-then-out-size : goal.returns-then-out-size
returns-then-out-size c = let e = no_room _ _ _ c.if-payload-gt-PLACE_SIZE.false c.if-a-ge-SECONDS_END.false c.if-out-size.true in record { answer = e; bytes = kept _ _ _ _ _ e }

pub returns : goal.returns
returns c =
    let e = fits _ _ _ c.if-payload-gt-PLACE_SIZE.false c.if-a-ge-SECONDS_END.false c.if-out-size.false in
    let args = c.args in
    let record-size : 38 + length args.payload.now ≡ length (frame_record args.a args.payload.now) = omega arith in
    record { answer = e; bytes = c.put_frame.ensures ∙ ap (λ (n : ℕ). frame_record args.a args.payload.now ++ drop n args.out.now) record-size ∙ put _ _ _ _ e }
