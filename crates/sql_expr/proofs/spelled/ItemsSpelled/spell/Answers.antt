use Rattle.std.proofs.Common.{ap, sym}
use Rattle.sql_token.specs.Spelled.{flat}
use Rattle.sql_expr.proofs.Fronts.{front_of, front_of_item, item_added, on_err}
use Rattle.sql_expr.proofs.spelled.ItemsSpelled.spell.Goals as goal

pub returns-in_err-spell-clause-front : goal.returns-in_err-spell-clause-front
returns-in_err-spell-clause-front g c =
    on_err c.from_residual.result _
    (front_of _ _ _ _ (ap (flat g.T.Spelled.spelled) (sym c.as_slice-item-items.ensures))
    (front_of_item g.T.Spelled.spelled c.as_slice-item-items.result.now c.loop-item.item-index c.item-item.result _ _ _
    c.loop-item-test.true c.item-item.is c.loop-item.invariant c.in_err-spell.ensures.front))

pub loop-item-preserved : goal.loop-item-preserved
loop-item-preserved g c =
    item_added g.T.Spelled.spelled c.as_slice-item-items.result.now c.loop-item.item-index c.item-item.result _ _ _
    c.loop-item-test.true c.item-item.is c.loop-item.invariant c.in_ok-spell.ensures.added
