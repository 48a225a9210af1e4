use Rattle.std.proofs.Common.{◌≡◌, length}
use Rattle.value_order.specs.Number.{is_digit}
use Rattle.value_order.specs.Runs.{past}
use Rattle.value_order.proofs.number.past_digits.Given as goal

-- only what passes has gone
abbrev pub invariant-loop-rest : goal.invariant-loop-rest
invariant-loop-rest l = past is_digit l.text ≡ past is_digit l.rest

abbrev pub decreases-loop-rest : goal.decreases-loop-rest
decreases-loop-rest l = length l.rest
