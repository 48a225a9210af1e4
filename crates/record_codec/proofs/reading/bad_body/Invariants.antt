use Rattle.std.proofs.Common.{List, length}
use Rattle.record_codec.specs.declared.value.Value.{Value}
use Rattle.record_codec.proofs.Left.{IsLeft}
use Rattle.record_codec.proofs.reading.bad_body.Given as goal

-- the bodies so far have values
abbrev pub invariant-loop-serial : goal.invariant-loop-serial
invariant-loop-serial l = (values : List Value) × IsLeft l.types l.bodies l.left l.rest values

abbrev pub decreases-loop-serial : goal.decreases-loop-serial
decreases-loop-serial l = length l.left
