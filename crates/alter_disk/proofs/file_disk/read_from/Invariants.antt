use Rattle.std.proofs.Common.{length, ◌-◌, ◌≤◌}
use Rattle.alter_disk.proofs.file_disk.read_from.Given as goal

-- the bytes that came are within the buffer
abbrev pub invariant-loop-count : goal.invariant-loop-count
invariant-loop-count l = l.count ≤ length l.initial.buf

abbrev pub decreases-loop-count : goal.decreases-loop-count
decreases-loop-count l = length l.initial.buf - l.count
