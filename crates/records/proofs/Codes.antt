-- A byte that is a code: past the named ones it is kept as it is.
use mathlib.Core.Path.{◌≡◌, sym}
use mathlib.Core.List.{List}
use Prim.Native.Nat.{ℕ, ◌≤◌}
use lib.ListN.{length, get_or, get_or-eq_default}

pub past : {X : Type 0} (xs : List X) (d : X) (b : ℕ) → length xs ≤ b → d ≡ get_or xs b d
past xs d b h = sym (get_or-eq_default xs d {n = b} h)
