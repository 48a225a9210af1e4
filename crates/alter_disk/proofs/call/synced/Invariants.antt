use Rattle.std.proofs.Common.{◌≡◌, take}
use Rattle.alter_disk.specs.Pending.{newest_first, synced_file}
use Rattle.alter_disk.proofs.call.synced.Given as goal

-- the file after the calls so far
abbrev pub invariant-loop-call : goal.invariant-loop-call
invariant-loop-call l = l.bytes ≡ synced_file l.which l.fn.first (newest_first (take l.call-index l.steps))
