-- The claims of specs/Claims.antt, proved.
use mathlib.Core.Path.{◌≡◌, sym, ap, ◌∙◌}
use mathlib.Core.List.{List}
use Prim.Native.Nat.{ℕ}
use Rattle.numbers.proofs.Firm.{by_equation, both}
use Rattle.sweeping.specs.declared.Swept.{Swept}
use Rattle.pushing.specs.Push.{pushed_of}
use Rattle.pushing.specs.Show.{shown}
use Rattle.pushing.proofs.Firm.{one_answer}
use Rattle.reassembler.specs.Showing.{shown_from}
use Rattle.reassembler.specs.Claims.{Claims, Firmness}

pub firmness : Firmness
firmness = record {
  push = λ t store out a payload p q x y i. (one_answer p.0 q.0 (x.answers ∙ sym y.answers) i, (x.keeps ∙ sym y.keeps) i, (x.stores ∙ sym y.stores) i, (x.puts ∙ sym y.puts) i);
  sweep = λ t time p q x y. ap (λ (s : Swept). (s.dropped, s.table)) (x ∙ sym y);
  show = λ answer payload out. both (λ (bytes : List ℕ). bytes ≡ shown (pushed_of answer) payload.now out.now) (λ (place : ℕ × ℕ). place ≡ (shown_from (pushed_of answer) payload out).ref_ptr) (by_equation _) (by_equation _);
}

pub claims : Claims
claims = record { firmness = firmness }
