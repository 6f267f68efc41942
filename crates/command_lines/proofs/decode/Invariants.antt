-- Each turn goes on by two bytes or more, and what is stored stays within the buffer.
use Rattle.std.proofs.Common.{◌≡◌, ◌-◌, ◌≤◌, length}
use Rattle.command_lines.proofs.decode.Given as goal

abbrev pub invariant-loop-i : goal.invariant-loop-i
invariant-loop-i l = (length l.s ≤ 1000000) × (length l.buffer ≡ length l.initial.buffer) × (l.n ≤ length l.buffer)

abbrev pub decreases-loop-i : goal.decreases-loop-i
decreases-loop-i l = length l.s - l.i
