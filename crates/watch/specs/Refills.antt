-- What the window holds once it goes on (rule H10).
use Rattle.std.specs.Prelude.{◌≡◌, ℕ, ◌≤◌, List, ◌++◌, length, take, drop}
use Rattle.house.specs.Windows.{window_size}

-- The file header, what was not gone over, from `at` on, and as many bytes as were read.
pub record Refills (w w' : List ℕ) (at more : ℕ) : Type 0 where
  pub bytes : List ℕ
  pub so_many : more ≡ length bytes
  pub holds : w' ≡ take 24 w ++ (drop at w ++ bytes)
  pub inside : length w' ≤ window_size
