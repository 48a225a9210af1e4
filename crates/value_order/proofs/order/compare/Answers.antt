use Rattle.value_order.proofs.Orders.{laws}
use Rattle.value_order.proofs.order.compare.Goals as goal

pub returns-then-need_real-clause-laws : goal.returns-then-need_real-clause-laws
returns-then-need_real-clause-laws c = laws c.args.c

pub returns-else-need_real-clause-laws : goal.returns-else-need_real-clause-laws
returns-else-need_real-clause-laws c = laws c.args.c
