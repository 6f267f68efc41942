-- The walk over a capture's records, step by step.
use mathlib.Core.Path.{◌≡◌, refl, ap}
use mathlib.Core.Bool.{Bool}
use mathlib.Core.List.{List, [], ◌∷◌}
use Prim.Native.Nat.{ℕ}
use native.Mathlib.Omega.{arith}
use lib.ListN.{length}
use Rattle.numbers.specs.Numbers.{Answer, gives, refuses, and_then}
use Rattle.walking.specs.Steps.{Ahead, ended, passed, Walk, walk_from}
use Rattle.walking.proofs.Going.{Goes, at_end_lem, onward, stopped, Forward, of_steps, is_walk}
use Rattle.captures.specs.Reading.{Captured, record_at_lem, file_order, file_step}
use Rattle.captures.proofs.Records as step

module _ (highFirst : Bool) (s : List ℕ) where
  -- the walk from the record at `at` on
  abbrev pub ahead : ℕ → Walk Captured
  ahead at = walk_from (record_at_lem highFirst s) (length s) (length s) at

  forward : Forward (record_at_lem highFirst s) (length s)
  forward = record {
    ends = λ at h. step.at_end_lem highFirst s at h;
    moves = λ at c next e. let o = step.passes highFirst s at c next e in omega (arith, o.behind);
  }

  pub goes : (at : ℕ) → Goes (record_at_lem highFirst s) (length s) at (ahead at).items (ahead at).end
  goes = of_steps (record_at_lem highFirst s) (length s) forward

  module _ (at : ℕ) where
    pub no_more : gives ended ≡ record_at_lem highFirst s at → ahead at ≡ record { items = []; end = gives 0 }
    no_more e = is_walk (record_at_lem highFirst s) (length s) forward at [] (gives 0) (at_end_lem e)

    pub goes_on : (c : Captured) (next : ℕ) → gives (passed c next) ≡ record_at_lem highFirst s at → ahead at ≡ record { items = c ∷ (ahead next).items; end = (ahead next).end }
    goes_on c next e = is_walk (record_at_lem highFirst s) (length s) forward at (c ∷ (ahead next).items) (ahead next).end (onward e (goes next))

    pub stops : (n : ℕ) (vs : List ℕ) → refuses n vs ≡ record_at_lem highFirst s at → ahead at ≡ record { items = []; end = refuses n vs }
    stops n vs e = is_walk (record_at_lem highFirst s) (length s) forward at [] (refuses n vs) (stopped e)

-- the step of a file whose file header is in order
pub in_file : (s : List ℕ) (at : ℕ) (highFirst : Bool) → gives highFirst ≡ file_order s → record_at_lem highFirst s at ≡ file_step s at
in_file s at highFirst e = ap (λ (a : Answer Bool). and_then a (λ h. record_at_lem h s at)) e

-- what a step of a file says: the file header is in order, and the record reads so; or it is refused
pub data Under (s : List ℕ) (at : ℕ) (x : Answer (Ahead Captured)) : Type 0 where
  in_order : (highFirst : Bool) → gives highFirst ≡ file_order s → x ≡ record_at_lem highFirst s at → Under s at x
  no_file : (n : ℕ) (vs : List ℕ) → refuses n vs ≡ file_order s → x ≡ refuses n vs → Under s at x

pub under : (s : List ℕ) (at : ℕ) (x : Answer (Ahead Captured)) → x ≡ file_step s at → Under s at x
under s at x e = by_header (file_order s) refl e
  where
    by_header : (a : Answer Bool) → a ≡ file_order s → x ≡ and_then a (λ highFirst. record_at_lem highFirst s at) → Under s at x
    by_header (gives highFirst) f e = in_order highFirst f e
    by_header (refuses n vs) f e = no_file n vs f e
