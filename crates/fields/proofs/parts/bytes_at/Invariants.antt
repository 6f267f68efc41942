-- The bytes passed are those from `at` on.
use Rattle.std.proofs.Common.{◌≡◌, ℕ, ◌+◌, ◌<◌, length, get_or}
use Rattle.fields.proofs.parts.bytes_at.Given as goal

abbrev pub invariant-loop-k : goal.invariant-loop-k
invariant-loop-k g l = (length l.bytes ≡ length l.initial.bytes) × ((i : ℕ) → i < l.k → get_or l.bytes i 0 ≡ get_or l.s (l.at + i) 0)
