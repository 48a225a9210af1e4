use Rattle.std.proofs.Common.{◌∙◌, sym, ap₂, arith}
use Rattle.std.specs.Ordering.{nat_cmp}
use Rattle.value_order.proofs.Folds.{equal_turn, one_ends}
use Rattle.value_order.proofs.collation.compare_folded.Goals as goal

pub loop-i-preserved : goal.loop-i-preserved
loop-i-preserved c =
    c.loop-i.invariant
    ∙ equal_turn c.args.a.now c.args.b.now c.loop-i.i (omega (arith, c.min-i-end.ensures)) (omega (arith, c.min-i-end.ensures))
    (ap₂ nat_cmp (sym c.fold.ensures) (sym c.fold-in-loop-i.ensures) ∙ sym c.cmp.ensures ∙ c.in-Equal.is)

pub returns : goal.returns
returns c =
    c.cmp-2.ensures
    ∙ one_ends c.args.a.now c.args.b.now c.loop-i.i (omega (arith, c.min-i-end.ensures)) (omega (arith, c.min-i-end.ensures))
    (λ less also. omega (arith, c.min-i-end.ensures))
    ∙ sym c.loop-i.invariant
