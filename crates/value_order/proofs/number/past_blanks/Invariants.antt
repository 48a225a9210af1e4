use Rattle.std.proofs.Common.{◌≡◌, length}
use Rattle.value_order.specs.Number.{is_blank}
use Rattle.value_order.specs.Runs.{past}
use Rattle.value_order.proofs.number.past_blanks.Given as goal

-- only what passes has gone
abbrev pub invariant-loop-rest : goal.invariant-loop-rest
invariant-loop-rest l = past is_blank l.text ≡ past is_blank l.rest

abbrev pub decreases-loop-rest : goal.decreases-loop-rest
decreases-loop-rest l = length l.rest
