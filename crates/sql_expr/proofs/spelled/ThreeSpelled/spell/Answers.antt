use Rattle.sql_expr.proofs.Fronts.{front_last, front_later, front_wider, on_err}
use Rattle.sql_expr.proofs.Steps.{ends, joins}
use Rattle.sql_expr.proofs.spelled.ThreeSpelled.spell.Goals as goal

pub returns-in_err-spell-clause-front : goal.returns-in_err-spell-clause-front
returns-in_err-spell-clause-front g c =
    on_err c.from_residual.result _ (front_wider _ _ _ _ (front_wider _ _ _ _ c.in_err-spell.ensures.front))

pub returns-in_err-spell-2-clause-front : goal.returns-in_err-spell-2-clause-front
returns-in_err-spell-2-clause-front g c =
    on_err c.from_residual-in_err-spell-2.result _
    (front_wider _ _ _ _ (front_later _ _ _ _ _ c.in_ok-spell.ensures.added c.in_err-spell-2.ensures.front))

pub returns : goal.returns
returns g c = record {
  added = ends c.spell-3.result c.args.tokens.now.items c.spell-2.new.tokens.items _ _ _
      (joins _ _ _ _ _ c.in_ok-spell.ensures.added c.in_ok-spell-2.ensures.added) c.spell-3.ensures.added;
  front = front_last c.spell-3.result _ _ c.args.tokens.now.items c.spell-2.new.tokens.items _
      (joins _ _ _ _ _ c.in_ok-spell.ensures.added c.in_ok-spell-2.ensures.added) c.spell-3.ensures.front;
}
