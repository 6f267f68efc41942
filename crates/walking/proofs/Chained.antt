-- The TLVs of a walk follow each other: a step goes over each of them, and the next one stands where that step goes on.
-- The marker is the last.
use Rattle.std.specs.Prelude.{Some}
use mathlib.Core.Path.{◌≡◌, refl, sym, ◌∙◌, ap, subst}
use mathlib.Core.List.{List, ◌∷◌}
use Prim.Native.Nat.{ℕ, zero, suc, ◌+◌, ◌<◌}
use native.Mathlib.Omega.{arith}
use lib.ListN.{length, get_or, drop, length-drop}
use lib.Seq.{drop-cons}
use Rattle.numbers.specs.Numbers.{Answer}
use Rattle.walking.specs.declared.Tlv.{Tlv}
use Rattle.walking.specs.Walk.{step_at, walk_of, walk_on, no_tlv, offset_at}
use Rattle.walking.specs.PrivateSteps.{passed_by}
use Rattle.walking.specs.declared.Passed.{Passed}
use Rattle.walking.proofs.Going.{Goes, at_end_lem, onward, final, stopped, Forward, of_steps, is_walk}
use Rattle.walking.proofs.Stepping.{Passes, passes, lasts}
use Rattle.walking.proofs.Stepping as step

module _ (p : List ℕ) where
  -- from `at` on a walk of p has these TLVs, and this end
  abbrev pub Has : ℕ → List Tlv → Answer ℕ → Type 0
  Has = Goes (step_at p) (length p)

  forward : Forward (step_at p) (length p)
  forward = record { ends = λ at h. step.at_end_lem p at h; moves = λ at t next e. omega (arith, (passes p at t next e).behind) }

  pub of_walk : Has 0 (walk_of p).items (walk_of p).end
  unfolding walk_of
  of_walk = of_steps (step_at p) (length p) forward 0

  pub the_walk : (ts : List Tlv) (end : Answer ℕ) → Has 0 ts end → walk_of p ≡ record { items = ts; end = end }
  unfolding walk_of
  the_walk = is_walk (step_at p) (length p) forward 0

  -- the same from an offset on
  pub of_walk_on : (at : ℕ) → Has at (walk_on p at).items (walk_on p at).end
  unfolding walk_on
  of_walk_on at = of_steps (step_at p) (length p) forward at

  pub the_walk_on : (at : ℕ) (ts : List Tlv) (end : Answer ℕ) → Has at ts end → walk_on p at ≡ record { items = ts; end = end }
  unfolding walk_on
  the_walk_on = is_walk (step_at p) (length p) forward

  pub from_the_start : walk_on p 0 ≡ walk_of p
  unfolding walk_of walk_on
  from_the_start = refl

  -- where a TLV stands: by its own record
  abbrev end_of : Tlv → ℕ
  end_of t = t.offset + 3 + t.length

  there : (at : ℕ) (t : Tlv) (next : ℕ) → Passes p at t next → Passes p t.offset t (end_of t)
  there at t next o = subst (λ (n : ℕ). Passes p t.offset t n) (o.behind ∙ rw o.starts) (subst (λ (n : ℕ). Passes p n t next) (sym o.starts) o)

  pub stands : {at : ℕ} {ts : List Tlv} {end : Answer ℕ} → Has at ts end → (i : ℕ) → i < length ts → Passes p (offset_at ts i) (get_or ts i no_tlv) (end_of (get_or ts i no_tlv))
  stands (at_end_lem e) i h = absurd (omega arith)
  stands (stopped e) i h = absurd (omega arith)
  stands (final {at} {t} {to} e) zero h = there at t to (lasts p at t to e)
  stands (final e) (suc i) h = absurd (omega arith)
  stands (onward {at} {t} {next} e g) zero h = there at t next (passes p at t next e)
  stands (onward e g) (suc i) h = stands g i (omega arith)

  -- Where a walk has a TLV number k, it stands at `at`: what a loop that goes by steps keeps.
  abbrev pub Stands : ℕ → ℕ → Type 0
  Stands k at = k < length (walk_of p).items → Has at (drop k (walk_of p).items) (walk_of p).end

  pub stands_first : Stands 0 0
  stands_first h = of_walk

  pub record Over (at : ℕ) (t : Tlv) (ts : List Tlv) (end : Answer ℕ) : Type 0 where
    pub next : ℕ
    pub is : passed_by (step_at p at) ≡ Some (record { tlv = t; next = next })
    pub starts : t.offset ≡ at
    pub then : 0 < length ts → Has next ts end

  pub over : {at : ℕ} {t : Tlv} {ts : List Tlv} {end : Answer ℕ} → Has at (t ∷ ts) end → Over at t ts end
  over (onward {at} {t} {next} {ts} {end} e g) = record { next = next; is = ap passed_by (sym e); starts = (passes p at t next e).starts; then = λ h. g }
  over (final {at} {t} {to} e) = record { next = to; is = ap passed_by (sym e); starts = (lasts p at t to e).starts; then = λ h. absurd (omega arith) }

  module _ (k at : ℕ) (here : Stands k at) (l : k < length (walk_of p).items) where
    abbrev here_over : Over at (get_or (walk_of p).items k no_tlv) (drop (suc k) (walk_of p).items) (walk_of p).end
    here_over = over (rw (drop-cons (walk_of p).items k no_tlv l) at (here l))

    pub stands_at : at ≡ offset_at (walk_of p).items k
    stands_at = sym here_over.starts

    -- what a step there goes over is TLV number k
    pub is_passed : passed_by (step_at p at) ≡ Some (record { tlv = get_or (walk_of p).items k no_tlv; next = here_over.next })
    is_passed = here_over.is

    module _ (o : Passed) (said : Some o ≡ passed_by (step_at p at)) where
      one : o ≡ record { tlv = get_or (walk_of p).items k no_tlv; next = here_over.next }
      one = let e = said ∙ is_passed in cc

      pub tlv_is : o.tlv ≡ get_or (walk_of p).items k no_tlv
      tlv_is = ap (λ (q : Passed). q.tlv) one

      pub stands_next : Stands (k + 1) o.next
      stands_next h =
          let n : k + 1 ≡ suc k = omega arith in
          let to : here_over.next ≡ o.next = sym (ap (λ (q : Passed). q.next) one) in
          subst (λ (m : ℕ). Has o.next (drop m (walk_of p).items) (walk_of p).end) (sym n)
          (subst (λ (m : ℕ). Has m (drop (suc k) (walk_of p).items) (walk_of p).end) to (here_over.then (omega (arith, length-drop (suc k) (walk_of p).items))))
