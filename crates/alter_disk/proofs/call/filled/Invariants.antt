use Rattle.std.proofs.Common.{◌≡◌, take}
use Rattle.alter_disk.specs.Pending.{newest_first, filled_file}
use Rattle.alter_disk.proofs.call.filled.Given as goal

-- the file after the calls so far
abbrev pub invariant-loop-call : goal.invariant-loop-call
invariant-loop-call l = l.bytes.items ≡ filled_file l.byte l.which l.first (newest_first (take l.call-index l.steps))
