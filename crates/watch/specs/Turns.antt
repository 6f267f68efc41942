-- What a turn of the program does with its window, and what all turns do (rule H10).
use Rattle.std.specs.Prelude.{◌≡◌, ℕ, List, [], ◌++◌, length, take}
use Rattle.house.specs.House.{House}
use Rattle.house.specs.Windows.{window_size, left_in, shortened, after_file, Coming, after_windows}

-- The window w is heard. The next one has its file header, what its records left, and what was read. Where this fills a
-- window and nothing can be read, a frame overruns it: it is heard as it is shortened, and the next one has only its file
-- header.
pub data Turns (room : ℕ) (w w' : List ℕ) (z z' : House) : Type 0 where
  goes_on : (bytes : List ℕ) → w' ≡ take 24 w ++ (left_in w ++ bytes) → z' ≡ after_file room z w → Turns room w w' z z'
  overruns : w' ≡ take 24 w → length (take 24 w ++ left_in w) ≡ window_size → z' ≡ after_file room (after_file room z w) (shortened (take 24 w ++ left_in w)) → Turns room w w' z z'

-- By windows a house becomes another. Nothing says which bytes these are: the contract of the system's read doesn't.
pub record ByWindows (room : ℕ) (z z' : House) : Type 0 where
  pub file_header : List ℕ
  pub comings : List Coming
  pub heard : z' ≡ after_windows room file_header z [] comings
