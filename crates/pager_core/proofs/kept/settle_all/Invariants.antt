use Rattle.std.proofs.Common.{◌≡◌, ◌++◌, length, take, drop, map}
use Rattle.pager_core.specs.Slots.{settled}
use Rattle.pager_core.proofs.kept.settle_all.Given as goal

-- the places so far are done, and the others are as they were
abbrev pub invariant-loop-n : goal.invariant-loop-n
invariant-loop-n l = (l.slots.items ≡ map settled (take l.n l.fn.slots.items) ++ drop l.n l.fn.slots.items) × (l.n-end ≡ length l.fn.slots.items) × (length l.slots.items ≡ length l.fn.slots.items)
