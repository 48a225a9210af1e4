use Rattle.std.proofs.Common.{◌-◌, length}
use Rattle.pager_core.specs.Kept.{AddsUnread}
use Rattle.pager_core.proofs.kept.fill.Given as goal

-- empty places alone were added so far
abbrev pub invariant-loop-slots : goal.invariant-loop-slots
invariant-loop-slots l = AddsUnread l.len l.fn.slots.items l.slots.items

abbrev pub decreases-loop-slots : goal.decreases-loop-slots
decreases-loop-slots l = l.len - length l.slots.items
