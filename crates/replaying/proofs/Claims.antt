-- The claims of specs/Claims.antt, proved.
use mathlib.Core.Path.{◌≡◌, sym, ap, ◌∙◌}
use mathlib.Core.List.{map}
use Rattle.numbers.proofs.Answers.{given}
use Rattle.captures.specs.Reading.{Capture}
use Rattle.captures.specs.HandedBack.{arrived_in}
use Rattle.captures.proofs.Claims as captures
use Rattle.orders.specs.Runs.{start}
use Rattle.orders.specs.Happened.{calls_of}
use Rattle.orders.proofs.Claims as orders
use Rattle.replaying.specs.Claims.{arrived_of, file_for, AnsweredAgain, Claims}
use Rattle.replaying.proofs.SameCalls.{same_calls}
use Rattle.replaying.proofs.SameTable.{same_store}
use Rattle.replaying.proofs.Taken.{taken_is_writable}

answered_again : AnsweredAgain
answered_again store calls z happened writable capture accepted store' long calls' z' happened' again =
    let back = (captures.claims).pushes_back (arrived_of (calls_of calls)) writable in
    let is : capture ≡ back.capture = given _ _ (sym accepted ∙ back.accepted) in
    let brings = again.brings ∙ ap (λ (c : Capture). map (arrived_in (file_for calls)) c.frames) is ∙ back.same in
    sym ((orders.claims).is_run store' calls' z' happened').replies
    ∙ same_calls (calls_of calls') (calls_of calls) brings again.lends (start store')
    ∙ same_store store' store long (calls_of calls)
    ∙ ((orders.claims).is_run store calls z happened).replies

pub claims : Claims
claims = record { taken_is_writable = taken_is_writable; answered_again = answered_again }
