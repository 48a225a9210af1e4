use Rattle.std.proofs.Common.{◌↔◌, length}
use Rattle.value_order.specs.Affinity.{Contains}
use Rattle.value_order.proofs.affinity.contains.Given as goal

-- the word stands in the rest exactly where it stands in the text
abbrev pub invariant-loop-rest : goal.invariant-loop-rest
invariant-loop-rest l = Contains l.word l.text ↔ Contains l.word l.rest

abbrev pub decreases-loop-rest : goal.decreases-loop-rest
decreases-loop-rest l = length l.rest
