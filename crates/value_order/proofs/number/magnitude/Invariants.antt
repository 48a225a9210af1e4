use Rattle.std.proofs.Common.{◌≡◌, ◌≤◌, length}
use Rattle.value_order.specs.Number.{number_after}
use Rattle.value_order.proofs.number.magnitude.Given as goal

-- the rest stands behind the digits of `n`, which is at most the limit
abbrev pub invariant-loop-rest : goal.invariant-loop-rest
invariant-loop-rest l = (number_after 0 l.digits ≡ number_after l.n l.rest) × (l.n ≤ l.most)

abbrev pub decreases-loop-rest : goal.decreases-loop-rest
decreases-loop-rest l = length l.rest
