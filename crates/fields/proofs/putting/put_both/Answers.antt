-- Too little room for the fields, or for the text after them, or both are put.
use Rattle.std.proofs.Common.{◌≡◌, ◌≤◌, ◌<◌, ◌+◌, ◌++◌, true, sym, ap, ◌∙◌, length, drop, arith}
use lib.ListN.{length-append}
use lib.Seq.{take-length}
use Rattle.fields.specs.Writing.{text_bytes}
use Rattle.fields.proofs.Lent.{no_room, fits, both_put}
use Rattle.fields.proofs.putting.put_both.Goals as goal
use Rattle.fields.proofs.putting.put_both.Goals.{then-out-own-via-then-out-own, then-out-own-via-else-out-own+then-out-own-2}

pub returns-then-out-own : goal.returns-then-out-own
returns-then-out-own c =
    let a = c.args in
    let long = length-append a.own.now (text_bytes true a.text.now) in
    let short : length a.out.now < length (a.own.now ++ text_bytes true a.text.now) =
    elim c.then-out-own.branch [
      | then-out-own-via-then-out-own w ↦ omega arith
      | then-out-own-via-else-out-own+then-out-own-2 w ↦ omega arith
    ] in
    let whole = no_room _ a.out.now short in
    record { answer = whole.0; bytes = whole.1 }

pub returns : goal.returns
returns c =
    let a = c.args in
    let both = a.own.now ++ text_bytes true a.text.now in
    let long : length both ≡ length a.own.now + (1 + length a.text.now) =
    omega (arith, length-append a.own.now (text_bytes true a.text.now)) in
    let room : length both ≤ length a.out.now = omega (arith, long) in
    let copied = ap (λ t. t ++ drop (length a.own.now) a.out.now) (c.copy_from_slice.ensures.after ∙ sym (take-length a.own.now)) in
    let whole = fits both a.out.now _ _ (sym long) room
    (both_put a.own.now (text_bytes true a.text.now) a.out.now _ _ copied c.put_text.ensures) in
    record { answer = whole.0; bytes = whole.1 }
