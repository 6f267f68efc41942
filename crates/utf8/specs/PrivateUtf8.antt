-- For private functions alone; no contract of a public call cites this file. What is awaited of a text, in the code's
-- numbers.
use Rattle.std.specs.Prelude.{List, [], ◌∷◌, ℕ, zero, suc, replicate}
use Rattle.utf8.specs.Utf8.{Range, ◌to◌, tail}
use Rattle.utf8.specs.declared.Awaited.{Awaited}

-- the ranges of the bytes that are still to come: the next one from `low` to `high`, the others tails
abbrev pub ranges : ℕ → ℕ → ℕ → List Range
ranges zero low high = []
ranges (suc n) low high = low to high ∷ replicate n tail

abbrev pub awaits : Awaited → List Range
awaits w = ranges w.left w.low w.high
