use Rattle.std.proofs.Common.{◌≡◌, vec_len}
use Rattle.std.specs.List.{AllByRecursion}
use Rattle.alter_disk.specs.Memory.{IsSpare}
use Rattle.alter_disk.proofs.memory.spares.Given as goal

-- the buffers so far are as many as the turns, and spare
abbrev pub invariant-loop : goal.invariant-loop
invariant-loop l = (vec_len l.buffers ≡ l.counter) × AllByRecursion (IsSpare l.room) l.buffers.items
