use Rattle.std.proofs.Common.{◌≡◌, sym, subst}
use Rattle.std.specs.Option.{IfNone}
use Rattle.value_order.specs.Collation.{without_end_spaces}
use Rattle.value_order.proofs.Spaces.{ends_otherwise, no_bytes}
use Rattle.value_order.proofs.collation.without_last_space.Goals as goal

pub returns-in_err-last-clause-none : goal.returns-in_err-last-clause-none
returns-in_err-last-clause-none c =
    let text = c.args.text.now in
    subst (λ r. IfNone r (without_end_spaces text ≡ text)) (sym c.from_residual.ensures) (no_bytes text c.in_err-last.ensures.cases)

pub returns-else-last-eq32-clause-none : goal.returns-else-last-eq32-clause-none
returns-else-last-eq32-clause-none c =
    ends_otherwise c.args.text.now c.in_ok-last.front.now c.in_ok-last.last.now c.in_ok-last.ensures.cases.0 c.if-last-eq32.false
