-- The contract of `hear` allows one outcome.
use mathlib.Core.Path.{sym, ◌∙◌}
use Rattle.captures.proofs.Firm.{reached_one}
use Rattle.pushing.proofs.Firm.{one_answer}
use Rattle.house.specs.Claims.{Firmness}

pub firmness : Firmness
firmness = record {
  hear = λ t store out held file at a b p q.
      let same = p.1 ∙ sym q.1 in (λ i. (
        record {
          reached = reached_one a.0.reached b.0.reached (p.0 ∙ sym q.0) i;
          answer = one_answer a.0.answer b.0.answer (p.2.0 ∙ sym q.2.0) i;
        },
        (same i).table,
        (same i).store,
        (p.2.1 ∙ sym q.2.1) i,
        (same i).stations,
      ));
}
