-- Rule C5: what is written and read of captures (part G), in the numbers that cross to C. `refusal` is the refusal's
-- number of part N, and 0 where nothing is refused. A field that a refusal doesn't carry is 0. A frame crosses as it is.
use Rattle.std.specs.Prelude.{ℕ, get_or}
use Rattle.numbers.specs.Numbers.{Answer, gives, refuses}
use Rattle.walking.specs.Steps.{Ahead, ended, passed, last}
use Rattle.captures.specs.declared.FrameCount.{FrameCount}
use Rattle.captures.specs.Reading.{no_frame_lem, Captured, ours, other}
use Rattle.c_captures.specs.declared.AshlarWritten.{AshlarWritten}
use Rattle.c_captures.specs.declared.AshlarReached.{AshlarReached}
use Rattle.c_captures.specs.declared.AshlarCapture.{AshlarCapture}

-- Rules B7 and G5: the number of bytes written.
abbrev pub written_numbers_lem : Answer ℕ → AshlarWritten
written_numbers_lem (gives n) = record { length = n; refusal = 0 }
written_numbers_lem (refuses n vs) = record { length = 0; refusal = n }

-- Rule G7: what a step goes over. The end is 1, a 1905 frame 2, another 3, and a refusal 0.
abbrev pub without_frame_lem : (answer next : ℕ) → AshlarReached
without_frame_lem answer next = record { frame = no_frame_lem; next = next; shortfall = 0; answer = answer; refusal = 0 }

abbrev pub captured_numbers : Captured → (next : ℕ) → AshlarReached
captured_numbers (ours f) next = record { frame = f; next = next; shortfall = 0; answer = 2; refusal = 0 }
captured_numbers other next = without_frame_lem 3 next

abbrev pub reached_numbers_lem : Answer (Ahead Captured) → AshlarReached
reached_numbers_lem (gives ended) = without_frame_lem 1 0
reached_numbers_lem (gives (passed c next)) = captured_numbers c next
reached_numbers_lem (gives (last c to)) = captured_numbers c to
reached_numbers_lem (refuses n vs) = record { frame = no_frame_lem; next = 0; shortfall = get_or vs 0 0; answer = 0; refusal = n }

-- Rules G6 and G8: how many 1905 frames there are, and how many others. Only 2 carries a value, the shortfall.
abbrev pub checked_numbers_lem : Answer FrameCount → AshlarCapture
checked_numbers_lem (gives c) = record { frames = c.handed; others = c.passed_over; shortfall = 0; refusal = 0 }
checked_numbers_lem (refuses n vs) = record { frames = 0; others = 0; shortfall = get_or vs 0 0; refusal = n }
