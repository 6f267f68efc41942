-- A walk by steps, over items that stand one after the other in some bytes, whatever the step reads. For TLVs it is the
-- walk of a payload (Walk.antt; rules W1 and W6).
use Rattle.std.specs.Prelude.{List, [], ◌∷◌, ℕ, zero, suc, ◌-◌}
use Rattle.numbers.specs.Numbers.{Answer, gives, refuses}

-- what a step finds ahead: the end; an item, and where the next step starts; or the last item, and where it ends
pub data Ahead (A : Type 0) : Type 0 where
  ended : Ahead A
  passed : A → ℕ → Ahead A
  last : A → ℕ → Ahead A

-- the items that a walk went over, and how it ended: with the number of bytes after them, or with a refusal
pub record Walk (A : Type 0) : Type 0 where
  pub items : List A
  pub end : Answer ℕ

-- the walk over `size` bytes, by what its step finds; `on` is the walk from where the next step starts
abbrev pub walk_by : {A : Type 0} → ℕ → Answer (Ahead A) → (ℕ → Walk A) → Walk A
walk_by size (gives ended) on = record { items = []; end = gives 0 }
walk_by size (gives (passed a next)) on = record { items = a ∷ (on next).items; end = (on next).end }
walk_by size (gives (last a end)) on = record { items = a ∷ []; end = gives (size - end) }
walk_by size (refuses n vs) on = record { items = []; end = refuses n vs }

-- the walk by a step over `size` bytes, from the offset `at` on, over at most a given number of items
unfoldable pub walk_from : {A : Type 0} → (ℕ → Answer (Ahead A)) → ℕ → ℕ → ℕ → Walk A
walk_from step size zero at = record { items = []; end = gives 0 }
walk_from step size (suc most) at = walk_by size (step at) (λ next. walk_from step size most next)
