-- What `copy_within` leaves at the start is the file header and what is moved.
use Rattle.std.proofs.Common.{refl, ap, ◌∙◌, take, ◌+◌, ◌-◌, List, ℕ}
use Rattle.watch.proofs.Refilling.{all_moved}
use Rattle.watch.proofs.window.moved.Goals as goal

pub returns-then-end-s-clause-moved : goal.returns-then-end-s-clause-moved
returns-then-end-s-clause-moved c = λ up order inside.
    (refl, ap (λ (t : List ℕ). take (24 + (c.args.end - c.args.from)) t) c.copy_within.ensures.after ∙ all_moved c.args.s.now c.args.from c.args.end up order inside)
