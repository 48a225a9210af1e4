use Rattle.sql_expr.proofs.Fronts.{front_last, front_wider, on_err}
use Rattle.sql_expr.proofs.spelled.BothSpelled.spell.Goals as goal

pub returns-in_err-spell-clause-front : goal.returns-in_err-spell-clause-front
returns-in_err-spell-clause-front g c = on_err c.from_residual.result _ (front_wider _ _ _ _ c.in_err-spell.ensures.front)

pub returns-clause-front : goal.returns-clause-front
returns-clause-front g c = front_last c.spell-2.result _ _ _ _ _ c.in_ok-spell.ensures.added c.spell-2.ensures.front
