-- How a walk by steps goes: the items from `at` on and the end, step by step, whatever the step reads. A walk is the
-- only one that goes so.
use mathlib.Core.Path.{◌≡◌, refl, sym, ap, ◌∙◌, subst}
use mathlib.Core.List.{List, [], ◌∷◌}
use Prim.Native.Nat.{ℕ, zero, suc, ◌-◌, ◌<◌, ◌≤◌}
use native.Mathlib.Omega.{arith}
use Rattle.numbers.specs.Numbers.{Answer, gives, refuses}
use Rattle.walking.specs.Steps.{Ahead, ended, passed, last, walk_by, walk_from}

pub data Goes {A : Type 0} (step : ℕ → Answer (Ahead A)) (size : ℕ) : ℕ → List A → Answer ℕ → Type 0 where
  at_end_lem : {at : ℕ} → gives ended ≡ step at → Goes step size at [] (gives 0)
  onward : {at : ℕ} {t : A} {next : ℕ} {ts : List A} {end : Answer ℕ} → gives (passed t next) ≡ step at → Goes step size next ts end → Goes step size at (t ∷ ts) end
  final : {at : ℕ} {t : A} {to : ℕ} → gives (last t to) ≡ step at → Goes step size at (t ∷ []) (gives (size - to))
  stopped : {at n : ℕ} {vs : List ℕ} → refuses n vs ≡ step at → Goes step size at [] (refuses n vs)

-- a step by which a walk comes to an end: it finds nothing past the bytes, and goes forward over an item
pub record Forward {A : Type 0} (step : ℕ → Answer (Ahead A)) (size : ℕ) : Type 0 where
  pub ends : (at : ℕ) → size ≤ at → gives ended ≡ step at
  pub moves : (at : ℕ) (a : A) (next : ℕ) → gives (passed a next) ≡ step at → at < next

module _ {A : Type 0} (step : ℕ → Answer (Ahead A)) (size : ℕ) where
  -- what is ahead of a walk that goes so, by what its step finds
  abbrev pub Turned : Answer (Ahead A) → List A → Answer ℕ → Type 0
  Turned (gives ended) xs end = (xs ≡ []) × (end ≡ gives 0)
  Turned (gives (passed a next)) xs end = (ys : List A) × ((xs ≡ a ∷ ys) × Goes step size next ys end)
  Turned (gives (last a to)) xs end = (xs ≡ a ∷ []) × (end ≡ gives (size - to))
  Turned (refuses n vs) xs end = (xs ≡ []) × (end ≡ refuses n vs)

  pub turned : {at : ℕ} {xs : List A} {end : Answer ℕ} → Goes step size at xs end → (x : Answer (Ahead A)) → x ≡ step at → Turned x xs end
  turned (at_end_lem e) x f = subst (λ (y : Answer (Ahead A)). Turned y [] (gives 0)) (e ∙ sym f) (refl, refl)
  turned (onward {t} {ts} {end} e g) x f = subst (λ (y : Answer (Ahead A)). Turned y (t ∷ ts) end) (e ∙ sym f) (ts, (refl, g))
  turned (final {t} {to} e) x f = subst (λ (y : Answer (Ahead A)). Turned y (t ∷ []) (gives (size - to))) (e ∙ sym f) (refl, refl)
  turned (stopped {n} {vs} e) x f = subst (λ (y : Answer (Ahead A)). Turned y [] (refuses n vs)) (e ∙ sym f) (refl, refl)

  one : {at : ℕ} {xs ys : List A} {end fin : Answer ℕ} → Goes step size at xs end → Goes step size at ys fin → (xs ≡ ys) × (end ≡ fin)
  one (at_end_lem e) h = let t = turned h _ e in (sym t.0, sym t.1)
  one (onward {t} e g) h = let u = turned h _ e in let o = one g u.1.1 in (ap (λ (l : List A). t ∷ l) o.0 ∙ sym u.1.0, o.1)
  one (final e) h = let t = turned h _ e in (sym t.0, sym t.1)
  one (stopped e) h = let t = turned h _ e in (sym t.0, sym t.1)

  module _ (forward : Forward step size) where
    goes : (most at : ℕ) → size - at ≤ most → Goes step size at (walk_from step size most at).items (walk_from step size most at).end
    unfolding walk_from
    goes zero at h = at_end_lem (forward.ends at (omega arith))
    goes (suc most) at h = by_step (step at) refl (λ next l. goes most next (omega arith))
      where
        by_step : (x : Answer (Ahead A)) → x ≡ step at → ((next : ℕ) → at < next → Goes step size next (walk_from step size most next).items (walk_from step size most next).end)
            → Goes step size at (walk_by size x (walk_from step size most)).items (walk_by size x (walk_from step size most)).end
        by_step (gives ended) e then = at_end_lem e
        by_step (gives (passed a next)) e then = onward e (then next (forward.moves at a next e))
        by_step (gives (last a to)) e then = final e
        by_step (refuses n vs) e then = stopped e

    pub of_steps : (at : ℕ) → Goes step size at (walk_from step size size at).items (walk_from step size size at).end
    of_steps at = goes size at (omega arith)

    pub is_walk : (at : ℕ) (xs : List A) (end : Answer ℕ) → Goes step size at xs end → walk_from step size size at ≡ record { items = xs; end = end }
    is_walk at xs end g = let o = one (of_steps at) g in ap (λ (l : List A). record { items = l; end = (walk_from step size size at).end }) o.0 ∙ ap (λ (e : Answer ℕ). record { items = xs; end = e }) o.1
