use Rattle.std.proofs.Common.{◌≡◌, length}
use Rattle.value_order.specs.Collation.{without_end_spaces}
use Rattle.value_order.proofs.collation.without_end_spaces.Given as goal

-- only spaces have gone
abbrev pub invariant-loop-front : goal.invariant-loop-front
invariant-loop-front l = without_end_spaces l.text ≡ without_end_spaces l.kept

abbrev pub decreases-loop-front : goal.decreases-loop-front
decreases-loop-front l = length l.kept
