use Rattle.std.proofs.Common.{◌+◌, ◌*◌, ◌<◌, subst, sym}
use Rattle.value_order.proofs.Runs.{too_large}
use Rattle.value_order.proofs.number.magnitude.Goals as goal

pub returns-then-next-most-clause-none : goal.returns-then-next-most-clause-none
returns-then-next-most-clause-none c =
    let n = c.loop-rest.n in
    let rest = c.loop-rest.rest.now in
    subst (λ k. c.args.most < k) (sym c.loop-rest.invariant.0)
    (too_large n c.args.most rest c.in-len1-up.len_at_least (subst (λ d. c.args.most < n * 10 + d) c.saturating_sub.ensures c.if-next-most.true))
