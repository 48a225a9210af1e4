use Rattle.value_order.proofs.Applies.{asks, becomes, forms, writes}
use Rattle.value_order.proofs.conversion.apply.Goals as goal

pub returns-clause-value : goal.returns-clause-value
returns-clause-value c = becomes c.args.from c.args.to c.args.v c.applied.result c.applied.ensures

pub returns-clause-needs_real : goal.returns-clause-needs_real
returns-clause-needs_real c = asks c.args.from c.args.to c.args.v c.applied.result c.applied.ensures

pub returns-clause-only : goal.returns-clause-only
returns-clause-only c = writes c.args.from c.args.to c.args.v c.applied.result c.applied.ensures

pub returns-clause-forms : goal.returns-clause-forms
returns-clause-forms c = forms
