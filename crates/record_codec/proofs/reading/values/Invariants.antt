use Rattle.std.proofs.Common.{length}
use Rattle.record_codec.proofs.ToCome.{IsToCome}
use Rattle.record_codec.proofs.reading.values.Given as goal

-- the other values are those of the bodies that are left
abbrev pub invariant-loop-serial : goal.invariant-loop-serial
invariant-loop-serial l = IsToCome l.types l.bodies l.left l.rest l.values.items

abbrev pub decreases-loop-serial : goal.decreases-loop-serial
decreases-loop-serial l = length l.left
