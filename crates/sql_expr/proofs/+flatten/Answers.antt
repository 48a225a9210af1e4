use Rattle.std.proofs.Common.{◌++◌, ap, ◌∙◌}
use Rattle.sql_expr.proofs.Fronts.{front_last, front_later, front_of, front_wider, fronts_of, on_err}
use Rattle.sql_expr.proofs.Steps.{ends, joins, one_call}
use Rattle.sql_expr.proofs.Opened.{arm_tokens-Select, arm_tokens-Values, in_set_tokens-Function, in_set_tokens-List, in_set_tokens-Object, in_set_tokens-Query, opened_compound_arm, opened_expr, opened_infix_part, opened_joined_source, opened_part, opened_select, opened_select_arm, opened_sources, operand_tokens-Call, operand_tokens-Case, operand_tokens-Cast, operand_tokens-Column, operand_tokens-Exprs, operand_tokens-Literal, operand_tokens-Raise, operand_tokens-Subquery, postfix_tokens-Collate, postfix_tokens-In, postfix_tokens-IsNull, postfix_tokens-NotNull, postfix_tokens-NotNullWords, table_source_tokens-Derived, table_source_tokens-Sources, table_source_tokens-Table, table_source_tokens-TableFunction}
use Rattle.sql_token.specs.Spelled.{one, maybe, flat}
use Rattle.sql_expr.specs.Tokens.{after_tokens, alias_tokens, by_tokens, commas_tokens, in_parens_tokens, indexing_tokens, join_constraint_tokens, join_tokens, limit_tokens, named_window_tokens, object_tokens, result_item_tokens, term_tokens, values_row_tokens, with_tokens}
use Rattle.sql_expr.specs.Tree.{arm_tokens, compound_arm_tokens, expr_tokens, in_set_tokens, infix_part_tokens, joined_source_tokens, operand_tokens, part_tokens, postfix_tokens, select_tokens, sources_tokens, table_source_tokens}
use Rattle.sql_expr.specs.declared.select.CompoundArm.{out-CompoundArm}
use Rattle.sql_expr.specs.declared.expr.Expr.{out-Expr}
use Rattle.sql_expr.specs.declared.expr.InfixPart.{out-InfixPart}
use Rattle.sql_expr.specs.declared.source.JoinedSource.{out-JoinedSource}
use Rattle.sql_expr.specs.declared.expr.Part.{out-Part}
use Rattle.sql_expr.specs.declared.select.Select.{out-Select}
use Rattle.sql_expr.specs.declared.select.SelectArm.{out-SelectArm}
use Rattle.sql_expr.specs.declared.source.Sources.{out-Sources}
use Rattle.sql_expr.proofs.+flatten.Goals as goal

pub expr::ExprSpelled::spell-returns-in_err-spell-clause-front : goal.expr::ExprSpelled::spell-returns-in_err-spell-clause-front
expr::ExprSpelled::spell-returns-in_err-spell-clause-front t c =
    on_err c.from_residual.result _ (front_of _ _ _ _ (opened_expr c.args.self.now)
    (front_wider _ (flat infix_part_tokens (out-Expr c.args.self.now).more) _ _
    c.in_err-spell.ensures.front))

pub expr::ExprSpelled::spell-returns : goal.expr::ExprSpelled::spell-returns
expr::ExprSpelled::spell-returns t c = record {
  added = one_call c.spell-2.result c.args.tokens.now.items _ _ _ (opened_expr c.args.self.now)
      (ends c.spell-2.result c.args.tokens.now.items c.spell.new.tokens.items _ _ _ c.in_ok-spell.ensures.added c.spell-2.ensures.added);
  front = fronts_of c.spell-2.result _ _ _ _ (opened_expr c.args.self.now)
      (front_last c.spell-2.result _ _ c.args.tokens.now.items c.spell.new.tokens.items _ c.in_ok-spell.ensures.added c.spell-2.ensures.front);
}

pub expr::InfixPartSpelled::spell-returns-in_err-spell-clause-front : goal.expr::InfixPartSpelled::spell-returns-in_err-spell-clause-front
expr::InfixPartSpelled::spell-returns-in_err-spell-clause-front t c =
    on_err c.from_residual.result _ (front_of _ _ _ _ (opened_infix_part c.args.self.now)
    (front_wider _ (part_tokens (out-InfixPart c.args.self.now).part) _ _
    c.in_err-spell.ensures.front))

pub expr::InfixPartSpelled::spell-returns : goal.expr::InfixPartSpelled::spell-returns
expr::InfixPartSpelled::spell-returns t c = record {
  added = one_call c.spell-2.result c.args.tokens.now.items _ _ _ (opened_infix_part c.args.self.now)
      (ends c.spell-2.result c.args.tokens.now.items c.spell.new.tokens.items _ _ _ c.in_ok-spell.ensures.added c.spell-2.ensures.added);
  front = fronts_of c.spell-2.result _ _ _ _ (opened_infix_part c.args.self.now)
      (front_last c.spell-2.result _ _ c.args.tokens.now.items c.spell.new.tokens.items _ c.in_ok-spell.ensures.added c.spell-2.ensures.front);
}

pub expr::PartSpelled::spell-returns-in_err-spell-clause-front : goal.expr::PartSpelled::spell-returns-in_err-spell-clause-front
expr::PartSpelled::spell-returns-in_err-spell-clause-front t c =
    on_err c.from_residual.result _ (front_of _ _ _ _ (opened_part c.args.self.now)
    (front_wider _ (flat postfix_tokens (out-Part c.args.self.now).postfixes) _ _
    (front_wider _ (operand_tokens (out-Part c.args.self.now).operand) _ _
    c.in_err-spell.ensures.front)))

pub expr::PartSpelled::spell-returns-in_err-spell-2-clause-front : goal.expr::PartSpelled::spell-returns-in_err-spell-2-clause-front
expr::PartSpelled::spell-returns-in_err-spell-2-clause-front t c =
    on_err c.from_residual-in_err-spell-2.result _ (front_of _ _ _ _ (opened_part c.args.self.now)
    (front_wider _ (flat postfix_tokens (out-Part c.args.self.now).postfixes) _ _
    (front_later (flat one (out-Part c.args.self.now).prefixes) _ _ _ _ c.in_ok-spell.ensures.added c.in_err-spell-2.ensures.front)))

pub expr::PartSpelled::spell-returns : goal.expr::PartSpelled::spell-returns
expr::PartSpelled::spell-returns t c = record {
  added = one_call c.spell-3.result c.args.tokens.now.items _ _ _ (opened_part c.args.self.now)
      (ends c.spell-3.result c.args.tokens.now.items c.spell-2.new.tokens.items _ _ _ (joins _ _ _ (flat one (out-Part c.args.self.now).prefixes) _ c.in_ok-spell.ensures.added c.in_ok-spell-2.ensures.added) c.spell-3.ensures.added);
  front = fronts_of c.spell-3.result _ _ _ _ (opened_part c.args.self.now)
      (front_last c.spell-3.result _ _ c.args.tokens.now.items c.spell-2.new.tokens.items _ (joins _ _ _ (flat one (out-Part c.args.self.now).prefixes) _ c.in_ok-spell.ensures.added c.in_ok-spell-2.ensures.added) c.spell-3.ensures.front);
}

pub select::CompoundArmSpelled::spell-returns-in_err-spell-clause-front : goal.select::CompoundArmSpelled::spell-returns-in_err-spell-clause-front
select::CompoundArmSpelled::spell-returns-in_err-spell-clause-front t c =
    on_err c.from_residual.result _ (front_of _ _ _ _ (opened_compound_arm c.args.self.now)
    (front_wider _ (arm_tokens (out-CompoundArm c.args.self.now).arm) _ _
    c.in_err-spell.ensures.front))

pub select::CompoundArmSpelled::spell-returns : goal.select::CompoundArmSpelled::spell-returns
select::CompoundArmSpelled::spell-returns t c = record {
  added = one_call c.spell-2.result c.args.tokens.now.items _ _ _ (opened_compound_arm c.args.self.now)
      (ends c.spell-2.result c.args.tokens.now.items c.spell.new.tokens.items _ _ _ c.in_ok-spell.ensures.added c.spell-2.ensures.added);
  front = fronts_of c.spell-2.result _ _ _ _ (opened_compound_arm c.args.self.now)
      (front_last c.spell-2.result _ _ c.args.tokens.now.items c.spell.new.tokens.items _ c.in_ok-spell.ensures.added c.spell-2.ensures.front);
}

pub select::SelectSpelled::spell-returns-in_err-spell-clause-front : goal.select::SelectSpelled::spell-returns-in_err-spell-clause-front
select::SelectSpelled::spell-returns-in_err-spell-clause-front t c =
    on_err c.from_residual.result _ (front_of _ _ _ _ (opened_select c.args.self.now)
    (front_wider _ (maybe (limit_tokens expr_tokens) (out-Select c.args.self.now).limit) _ _
    (front_wider _ (maybe (by_tokens (term_tokens expr_tokens)) (out-Select c.args.self.now).order) _ _
    (front_wider _ (flat compound_arm_tokens (out-Select c.args.self.now).compounds) _ _
    (front_wider _ (arm_tokens (out-Select c.args.self.now).arm) _ _
    c.in_err-spell.ensures.front)))))

pub select::SelectSpelled::spell-returns-in_err-spell-2-clause-front : goal.select::SelectSpelled::spell-returns-in_err-spell-2-clause-front
select::SelectSpelled::spell-returns-in_err-spell-2-clause-front t c =
    on_err c.from_residual-in_err-spell-2.result _ (front_of _ _ _ _ (opened_select c.args.self.now)
    (front_wider _ (maybe (limit_tokens expr_tokens) (out-Select c.args.self.now).limit) _ _
    (front_wider _ (maybe (by_tokens (term_tokens expr_tokens)) (out-Select c.args.self.now).order) _ _
    (front_wider _ (flat compound_arm_tokens (out-Select c.args.self.now).compounds) _ _
    (front_later (maybe (with_tokens select_tokens) (out-Select c.args.self.now).with_clause) _ _ _ _ c.in_ok-spell.ensures.added c.in_err-spell-2.ensures.front)))))

pub select::SelectSpelled::spell-returns-in_err-spell-3-clause-front : goal.select::SelectSpelled::spell-returns-in_err-spell-3-clause-front
select::SelectSpelled::spell-returns-in_err-spell-3-clause-front t c =
    on_err c.from_residual-in_err-spell-3.result _ (front_of _ _ _ _ (opened_select c.args.self.now)
    (front_wider _ (maybe (limit_tokens expr_tokens) (out-Select c.args.self.now).limit) _ _
    (front_wider _ (maybe (by_tokens (term_tokens expr_tokens)) (out-Select c.args.self.now).order) _ _
    (front_later (maybe (with_tokens select_tokens) (out-Select c.args.self.now).with_clause ++ arm_tokens (out-Select c.args.self.now).arm) _ _ _ _ (joins _ _ _ (maybe (with_tokens select_tokens) (out-Select c.args.self.now).with_clause) _ c.in_ok-spell.ensures.added c.in_ok-spell-2.ensures.added) c.in_err-spell-3.ensures.front))))

pub select::SelectSpelled::spell-returns-in_err-spell-4-clause-front : goal.select::SelectSpelled::spell-returns-in_err-spell-4-clause-front
select::SelectSpelled::spell-returns-in_err-spell-4-clause-front t c =
    on_err c.from_residual-in_err-spell-4.result _ (front_of _ _ _ _ (opened_select c.args.self.now)
    (front_wider _ (maybe (limit_tokens expr_tokens) (out-Select c.args.self.now).limit) _ _
    (front_later (maybe (with_tokens select_tokens) (out-Select c.args.self.now).with_clause ++ arm_tokens (out-Select c.args.self.now).arm ++ flat compound_arm_tokens (out-Select c.args.self.now).compounds) _ _ _ _ (joins _ _ _ (maybe (with_tokens select_tokens) (out-Select c.args.self.now).with_clause ++ arm_tokens (out-Select c.args.self.now).arm) _ (joins _ _ _ (maybe (with_tokens select_tokens) (out-Select c.args.self.now).with_clause) _ c.in_ok-spell.ensures.added c.in_ok-spell-2.ensures.added) c.in_ok-spell-3.ensures.added) c.in_err-spell-4.ensures.front)))

pub select::SelectSpelled::spell-returns : goal.select::SelectSpelled::spell-returns
select::SelectSpelled::spell-returns t c = record {
  added = one_call c.spell-5.result c.args.tokens.now.items _ _ _ (opened_select c.args.self.now)
      (ends c.spell-5.result c.args.tokens.now.items c.spell-4.new.tokens.items _ _ _ (joins _ _ _ (maybe (with_tokens select_tokens) (out-Select c.args.self.now).with_clause ++ arm_tokens (out-Select c.args.self.now).arm ++ flat compound_arm_tokens (out-Select c.args.self.now).compounds) _ (joins _ _ _ (maybe (with_tokens select_tokens) (out-Select c.args.self.now).with_clause ++ arm_tokens (out-Select c.args.self.now).arm) _ (joins _ _ _ (maybe (with_tokens select_tokens) (out-Select c.args.self.now).with_clause) _ c.in_ok-spell.ensures.added c.in_ok-spell-2.ensures.added) c.in_ok-spell-3.ensures.added) c.in_ok-spell-4.ensures.added) c.spell-5.ensures.added);
  front = fronts_of c.spell-5.result _ _ _ _ (opened_select c.args.self.now)
      (front_last c.spell-5.result _ _ c.args.tokens.now.items c.spell-4.new.tokens.items _ (joins _ _ _ (maybe (with_tokens select_tokens) (out-Select c.args.self.now).with_clause ++ arm_tokens (out-Select c.args.self.now).arm ++ flat compound_arm_tokens (out-Select c.args.self.now).compounds) _ (joins _ _ _ (maybe (with_tokens select_tokens) (out-Select c.args.self.now).with_clause ++ arm_tokens (out-Select c.args.self.now).arm) _ (joins _ _ _ (maybe (with_tokens select_tokens) (out-Select c.args.self.now).with_clause) _ c.in_ok-spell.ensures.added c.in_ok-spell-2.ensures.added) c.in_ok-spell-3.ensures.added) c.in_ok-spell-4.ensures.added) c.spell-5.ensures.front);
}

pub select::SelectArmSpelled::spell-returns-in_err-spell-clause-front : goal.select::SelectArmSpelled::spell-returns-in_err-spell-clause-front
select::SelectArmSpelled::spell-returns-in_err-spell-clause-front t c =
    on_err c.from_residual.result _ (front_of _ _ _ _ (opened_select_arm c.args.self.now)
    (front_wider _ (maybe (after_tokens (commas_tokens (named_window_tokens expr_tokens))) (out-SelectArm c.args.self.now).windows) _ _
    (front_wider _ (maybe (after_tokens expr_tokens) (out-SelectArm c.args.self.now).having) _ _
    (front_wider _ (maybe (by_tokens expr_tokens) (out-SelectArm c.args.self.now).group) _ _
    (front_wider _ (maybe (after_tokens expr_tokens) (out-SelectArm c.args.self.now).filter) _ _
    (front_wider _ (maybe (after_tokens sources_tokens) (out-SelectArm c.args.self.now).from) _ _
    (front_wider _ (commas_tokens (result_item_tokens expr_tokens) (out-SelectArm c.args.self.now).items) _ _
    (front_wider _ (maybe one (out-SelectArm c.args.self.now).quantifier) _ _
    c.in_err-spell.ensures.front))))))))

pub select::SelectArmSpelled::spell-returns-in_err-spell-2-clause-front : goal.select::SelectArmSpelled::spell-returns-in_err-spell-2-clause-front
select::SelectArmSpelled::spell-returns-in_err-spell-2-clause-front t c =
    on_err c.from_residual-in_err-spell-2.result _ (front_of _ _ _ _ (opened_select_arm c.args.self.now)
    (front_wider _ (maybe (after_tokens (commas_tokens (named_window_tokens expr_tokens))) (out-SelectArm c.args.self.now).windows) _ _
    (front_wider _ (maybe (after_tokens expr_tokens) (out-SelectArm c.args.self.now).having) _ _
    (front_wider _ (maybe (by_tokens expr_tokens) (out-SelectArm c.args.self.now).group) _ _
    (front_wider _ (maybe (after_tokens expr_tokens) (out-SelectArm c.args.self.now).filter) _ _
    (front_wider _ (maybe (after_tokens sources_tokens) (out-SelectArm c.args.self.now).from) _ _
    (front_wider _ (commas_tokens (result_item_tokens expr_tokens) (out-SelectArm c.args.self.now).items) _ _
    (front_later (one (out-SelectArm c.args.self.now).select) _ _ _ _ c.in_ok-spell.ensures.added c.in_err-spell-2.ensures.front))))))))

pub select::SelectArmSpelled::spell-returns-in_err-spell-3-clause-front : goal.select::SelectArmSpelled::spell-returns-in_err-spell-3-clause-front
select::SelectArmSpelled::spell-returns-in_err-spell-3-clause-front t c =
    on_err c.from_residual-in_err-spell-3.result _ (front_of _ _ _ _ (opened_select_arm c.args.self.now)
    (front_wider _ (maybe (after_tokens (commas_tokens (named_window_tokens expr_tokens))) (out-SelectArm c.args.self.now).windows) _ _
    (front_wider _ (maybe (after_tokens expr_tokens) (out-SelectArm c.args.self.now).having) _ _
    (front_wider _ (maybe (by_tokens expr_tokens) (out-SelectArm c.args.self.now).group) _ _
    (front_wider _ (maybe (after_tokens expr_tokens) (out-SelectArm c.args.self.now).filter) _ _
    (front_wider _ (maybe (after_tokens sources_tokens) (out-SelectArm c.args.self.now).from) _ _
    (front_later (one (out-SelectArm c.args.self.now).select ++ maybe one (out-SelectArm c.args.self.now).quantifier) _ _ _ _ (joins _ _ _ (one (out-SelectArm c.args.self.now).select) _ c.in_ok-spell.ensures.added c.in_ok-spell-2.ensures.added) c.in_err-spell-3.ensures.front)))))))

pub select::SelectArmSpelled::spell-returns-in_err-spell-4-clause-front : goal.select::SelectArmSpelled::spell-returns-in_err-spell-4-clause-front
select::SelectArmSpelled::spell-returns-in_err-spell-4-clause-front t c =
    on_err c.from_residual-in_err-spell-4.result _ (front_of _ _ _ _ (opened_select_arm c.args.self.now)
    (front_wider _ (maybe (after_tokens (commas_tokens (named_window_tokens expr_tokens))) (out-SelectArm c.args.self.now).windows) _ _
    (front_wider _ (maybe (after_tokens expr_tokens) (out-SelectArm c.args.self.now).having) _ _
    (front_wider _ (maybe (by_tokens expr_tokens) (out-SelectArm c.args.self.now).group) _ _
    (front_wider _ (maybe (after_tokens expr_tokens) (out-SelectArm c.args.self.now).filter) _ _
    (front_later (one (out-SelectArm c.args.self.now).select ++ maybe one (out-SelectArm c.args.self.now).quantifier ++ commas_tokens (result_item_tokens expr_tokens) (out-SelectArm c.args.self.now).items) _ _ _ _ (joins _ _ _ (one (out-SelectArm c.args.self.now).select ++ maybe one (out-SelectArm c.args.self.now).quantifier) _ (joins _ _ _ (one (out-SelectArm c.args.self.now).select) _ c.in_ok-spell.ensures.added c.in_ok-spell-2.ensures.added) c.in_ok-spell-3.ensures.added) c.in_err-spell-4.ensures.front))))))

pub select::SelectArmSpelled::spell-returns-in_err-spell-5-clause-front : goal.select::SelectArmSpelled::spell-returns-in_err-spell-5-clause-front
select::SelectArmSpelled::spell-returns-in_err-spell-5-clause-front t c =
    on_err c.from_residual-in_err-spell-5.result _ (front_of _ _ _ _ (opened_select_arm c.args.self.now)
    (front_wider _ (maybe (after_tokens (commas_tokens (named_window_tokens expr_tokens))) (out-SelectArm c.args.self.now).windows) _ _
    (front_wider _ (maybe (after_tokens expr_tokens) (out-SelectArm c.args.self.now).having) _ _
    (front_wider _ (maybe (by_tokens expr_tokens) (out-SelectArm c.args.self.now).group) _ _
    (front_later (one (out-SelectArm c.args.self.now).select ++ maybe one (out-SelectArm c.args.self.now).quantifier ++ commas_tokens (result_item_tokens expr_tokens) (out-SelectArm c.args.self.now).items ++ maybe (after_tokens sources_tokens) (out-SelectArm c.args.self.now).from) _ _ _ _ (joins _ _ _ (one (out-SelectArm c.args.self.now).select ++ maybe one (out-SelectArm c.args.self.now).quantifier ++ commas_tokens (result_item_tokens expr_tokens) (out-SelectArm c.args.self.now).items) _ (joins _ _ _ (one (out-SelectArm c.args.self.now).select ++ maybe one (out-SelectArm c.args.self.now).quantifier) _ (joins _ _ _ (one (out-SelectArm c.args.self.now).select) _ c.in_ok-spell.ensures.added c.in_ok-spell-2.ensures.added) c.in_ok-spell-3.ensures.added) c.in_ok-spell-4.ensures.added) c.in_err-spell-5.ensures.front)))))

pub select::SelectArmSpelled::spell-returns-in_err-spell-6-clause-front : goal.select::SelectArmSpelled::spell-returns-in_err-spell-6-clause-front
select::SelectArmSpelled::spell-returns-in_err-spell-6-clause-front t c =
    on_err c.from_residual-in_err-spell-6.result _ (front_of _ _ _ _ (opened_select_arm c.args.self.now)
    (front_wider _ (maybe (after_tokens (commas_tokens (named_window_tokens expr_tokens))) (out-SelectArm c.args.self.now).windows) _ _
    (front_wider _ (maybe (after_tokens expr_tokens) (out-SelectArm c.args.self.now).having) _ _
    (front_later (one (out-SelectArm c.args.self.now).select ++ maybe one (out-SelectArm c.args.self.now).quantifier ++ commas_tokens (result_item_tokens expr_tokens) (out-SelectArm c.args.self.now).items ++ maybe (after_tokens sources_tokens) (out-SelectArm c.args.self.now).from ++ maybe (after_tokens expr_tokens) (out-SelectArm c.args.self.now).filter) _ _ _ _ (joins _ _ _ (one (out-SelectArm c.args.self.now).select ++ maybe one (out-SelectArm c.args.self.now).quantifier ++ commas_tokens (result_item_tokens expr_tokens) (out-SelectArm c.args.self.now).items ++ maybe (after_tokens sources_tokens) (out-SelectArm c.args.self.now).from) _ (joins _ _ _ (one (out-SelectArm c.args.self.now).select ++ maybe one (out-SelectArm c.args.self.now).quantifier ++ commas_tokens (result_item_tokens expr_tokens) (out-SelectArm c.args.self.now).items) _ (joins _ _ _ (one (out-SelectArm c.args.self.now).select ++ maybe one (out-SelectArm c.args.self.now).quantifier) _ (joins _ _ _ (one (out-SelectArm c.args.self.now).select) _ c.in_ok-spell.ensures.added c.in_ok-spell-2.ensures.added) c.in_ok-spell-3.ensures.added) c.in_ok-spell-4.ensures.added) c.in_ok-spell-5.ensures.added) c.in_err-spell-6.ensures.front))))

pub select::SelectArmSpelled::spell-returns-in_err-spell-7-clause-front : goal.select::SelectArmSpelled::spell-returns-in_err-spell-7-clause-front
select::SelectArmSpelled::spell-returns-in_err-spell-7-clause-front t c =
    on_err c.from_residual-in_err-spell-7.result _ (front_of _ _ _ _ (opened_select_arm c.args.self.now)
    (front_wider _ (maybe (after_tokens (commas_tokens (named_window_tokens expr_tokens))) (out-SelectArm c.args.self.now).windows) _ _
    (front_later (one (out-SelectArm c.args.self.now).select ++ maybe one (out-SelectArm c.args.self.now).quantifier ++ commas_tokens (result_item_tokens expr_tokens) (out-SelectArm c.args.self.now).items ++ maybe (after_tokens sources_tokens) (out-SelectArm c.args.self.now).from ++ maybe (after_tokens expr_tokens) (out-SelectArm c.args.self.now).filter ++ maybe (by_tokens expr_tokens) (out-SelectArm c.args.self.now).group) _ _ _ _ (joins _ _ _ (one (out-SelectArm c.args.self.now).select ++ maybe one (out-SelectArm c.args.self.now).quantifier ++ commas_tokens (result_item_tokens expr_tokens) (out-SelectArm c.args.self.now).items ++ maybe (after_tokens sources_tokens) (out-SelectArm c.args.self.now).from ++ maybe (after_tokens expr_tokens) (out-SelectArm c.args.self.now).filter) _ (joins _ _ _ (one (out-SelectArm c.args.self.now).select ++ maybe one (out-SelectArm c.args.self.now).quantifier ++ commas_tokens (result_item_tokens expr_tokens) (out-SelectArm c.args.self.now).items ++ maybe (after_tokens sources_tokens) (out-SelectArm c.args.self.now).from) _ (joins _ _ _ (one (out-SelectArm c.args.self.now).select ++ maybe one (out-SelectArm c.args.self.now).quantifier ++ commas_tokens (result_item_tokens expr_tokens) (out-SelectArm c.args.self.now).items) _ (joins _ _ _ (one (out-SelectArm c.args.self.now).select ++ maybe one (out-SelectArm c.args.self.now).quantifier) _ (joins _ _ _ (one (out-SelectArm c.args.self.now).select) _ c.in_ok-spell.ensures.added c.in_ok-spell-2.ensures.added) c.in_ok-spell-3.ensures.added) c.in_ok-spell-4.ensures.added) c.in_ok-spell-5.ensures.added) c.in_ok-spell-6.ensures.added) c.in_err-spell-7.ensures.front)))

pub select::SelectArmSpelled::spell-returns : goal.select::SelectArmSpelled::spell-returns
select::SelectArmSpelled::spell-returns t c = record {
  added = one_call c.spell-8.result c.args.tokens.now.items _ _ _ (opened_select_arm c.args.self.now)
      (ends c.spell-8.result c.args.tokens.now.items c.spell-7.new.tokens.items _ _ _ (joins _ _ _ (one (out-SelectArm c.args.self.now).select ++ maybe one (out-SelectArm c.args.self.now).quantifier ++ commas_tokens (result_item_tokens expr_tokens) (out-SelectArm c.args.self.now).items ++ maybe (after_tokens sources_tokens) (out-SelectArm c.args.self.now).from ++ maybe (after_tokens expr_tokens) (out-SelectArm c.args.self.now).filter ++ maybe (by_tokens expr_tokens) (out-SelectArm c.args.self.now).group) _ (joins _ _ _ (one (out-SelectArm c.args.self.now).select ++ maybe one (out-SelectArm c.args.self.now).quantifier ++ commas_tokens (result_item_tokens expr_tokens) (out-SelectArm c.args.self.now).items ++ maybe (after_tokens sources_tokens) (out-SelectArm c.args.self.now).from ++ maybe (after_tokens expr_tokens) (out-SelectArm c.args.self.now).filter) _ (joins _ _ _ (one (out-SelectArm c.args.self.now).select ++ maybe one (out-SelectArm c.args.self.now).quantifier ++ commas_tokens (result_item_tokens expr_tokens) (out-SelectArm c.args.self.now).items ++ maybe (after_tokens sources_tokens) (out-SelectArm c.args.self.now).from) _ (joins _ _ _ (one (out-SelectArm c.args.self.now).select ++ maybe one (out-SelectArm c.args.self.now).quantifier ++ commas_tokens (result_item_tokens expr_tokens) (out-SelectArm c.args.self.now).items) _ (joins _ _ _ (one (out-SelectArm c.args.self.now).select ++ maybe one (out-SelectArm c.args.self.now).quantifier) _ (joins _ _ _ (one (out-SelectArm c.args.self.now).select) _ c.in_ok-spell.ensures.added c.in_ok-spell-2.ensures.added) c.in_ok-spell-3.ensures.added) c.in_ok-spell-4.ensures.added) c.in_ok-spell-5.ensures.added) c.in_ok-spell-6.ensures.added) c.in_ok-spell-7.ensures.added) c.spell-8.ensures.added);
  front = fronts_of c.spell-8.result _ _ _ _ (opened_select_arm c.args.self.now)
      (front_last c.spell-8.result _ _ c.args.tokens.now.items c.spell-7.new.tokens.items _ (joins _ _ _ (one (out-SelectArm c.args.self.now).select ++ maybe one (out-SelectArm c.args.self.now).quantifier ++ commas_tokens (result_item_tokens expr_tokens) (out-SelectArm c.args.self.now).items ++ maybe (after_tokens sources_tokens) (out-SelectArm c.args.self.now).from ++ maybe (after_tokens expr_tokens) (out-SelectArm c.args.self.now).filter ++ maybe (by_tokens expr_tokens) (out-SelectArm c.args.self.now).group) _ (joins _ _ _ (one (out-SelectArm c.args.self.now).select ++ maybe one (out-SelectArm c.args.self.now).quantifier ++ commas_tokens (result_item_tokens expr_tokens) (out-SelectArm c.args.self.now).items ++ maybe (after_tokens sources_tokens) (out-SelectArm c.args.self.now).from ++ maybe (after_tokens expr_tokens) (out-SelectArm c.args.self.now).filter) _ (joins _ _ _ (one (out-SelectArm c.args.self.now).select ++ maybe one (out-SelectArm c.args.self.now).quantifier ++ commas_tokens (result_item_tokens expr_tokens) (out-SelectArm c.args.self.now).items ++ maybe (after_tokens sources_tokens) (out-SelectArm c.args.self.now).from) _ (joins _ _ _ (one (out-SelectArm c.args.self.now).select ++ maybe one (out-SelectArm c.args.self.now).quantifier ++ commas_tokens (result_item_tokens expr_tokens) (out-SelectArm c.args.self.now).items) _ (joins _ _ _ (one (out-SelectArm c.args.self.now).select ++ maybe one (out-SelectArm c.args.self.now).quantifier) _ (joins _ _ _ (one (out-SelectArm c.args.self.now).select) _ c.in_ok-spell.ensures.added c.in_ok-spell-2.ensures.added) c.in_ok-spell-3.ensures.added) c.in_ok-spell-4.ensures.added) c.in_ok-spell-5.ensures.added) c.in_ok-spell-6.ensures.added) c.in_ok-spell-7.ensures.added) c.spell-8.ensures.front);
}

pub source::JoinedSourceSpelled::spell-returns-in_err-spell-clause-front : goal.source::JoinedSourceSpelled::spell-returns-in_err-spell-clause-front
source::JoinedSourceSpelled::spell-returns-in_err-spell-clause-front t c =
    on_err c.from_residual.result _ (front_of _ _ _ _ (opened_joined_source c.args.self.now)
    (front_wider _ (maybe (join_constraint_tokens expr_tokens) (out-JoinedSource c.args.self.now).constraint) _ _
    (front_wider _ (table_source_tokens (out-JoinedSource c.args.self.now).source) _ _
    c.in_err-spell.ensures.front)))

pub source::JoinedSourceSpelled::spell-returns-in_err-spell-2-clause-front : goal.source::JoinedSourceSpelled::spell-returns-in_err-spell-2-clause-front
source::JoinedSourceSpelled::spell-returns-in_err-spell-2-clause-front t c =
    on_err c.from_residual-in_err-spell-2.result _ (front_of _ _ _ _ (opened_joined_source c.args.self.now)
    (front_wider _ (maybe (join_constraint_tokens expr_tokens) (out-JoinedSource c.args.self.now).constraint) _ _
    (front_later (join_tokens (out-JoinedSource c.args.self.now).join) _ _ _ _ c.in_ok-spell.ensures.added c.in_err-spell-2.ensures.front)))

pub source::JoinedSourceSpelled::spell-returns : goal.source::JoinedSourceSpelled::spell-returns
source::JoinedSourceSpelled::spell-returns t c = record {
  added = one_call c.spell-3.result c.args.tokens.now.items _ _ _ (opened_joined_source c.args.self.now)
      (ends c.spell-3.result c.args.tokens.now.items c.spell-2.new.tokens.items _ _ _ (joins _ _ _ (join_tokens (out-JoinedSource c.args.self.now).join) _ c.in_ok-spell.ensures.added c.in_ok-spell-2.ensures.added) c.spell-3.ensures.added);
  front = fronts_of c.spell-3.result _ _ _ _ (opened_joined_source c.args.self.now)
      (front_last c.spell-3.result _ _ c.args.tokens.now.items c.spell-2.new.tokens.items _ (joins _ _ _ (join_tokens (out-JoinedSource c.args.self.now).join) _ c.in_ok-spell.ensures.added c.in_ok-spell-2.ensures.added) c.spell-3.ensures.front);
}

pub source::SourcesSpelled::spell-returns-in_err-spell-clause-front : goal.source::SourcesSpelled::spell-returns-in_err-spell-clause-front
source::SourcesSpelled::spell-returns-in_err-spell-clause-front t c =
    on_err c.from_residual.result _ (front_of _ _ _ _ (opened_sources c.args.self.now)
    (front_wider _ (flat joined_source_tokens (out-Sources c.args.self.now).more) _ _
    c.in_err-spell.ensures.front))

pub source::SourcesSpelled::spell-returns : goal.source::SourcesSpelled::spell-returns
source::SourcesSpelled::spell-returns t c = record {
  added = one_call c.spell-2.result c.args.tokens.now.items _ _ _ (opened_sources c.args.self.now)
      (ends c.spell-2.result c.args.tokens.now.items c.spell.new.tokens.items _ _ _ c.in_ok-spell.ensures.added c.spell-2.ensures.added);
  front = fronts_of c.spell-2.result _ _ _ _ (opened_sources c.args.self.now)
      (front_last c.spell-2.result _ _ c.args.tokens.now.items c.spell.new.tokens.items _ c.in_ok-spell.ensures.added c.spell-2.ensures.front);
}

pub expr::InSetSpelled::spell-returns-in-List : goal.expr::InSetSpelled::spell-returns-in-List
expr::InSetSpelled::spell-returns-in-List t c = record {
  added = one_call c.spell.result c.args.tokens.now.items _ _ _ (ap in_set_tokens c.in-List.is ∙ in_set_tokens-List c.in-List.part) c.spell.ensures.added;
  front = fronts_of c.spell.result _ _ _ _ (ap in_set_tokens c.in-List.is ∙ in_set_tokens-List c.in-List.part) c.spell.ensures.front;
}

pub expr::InSetSpelled::spell-returns-in-Query : goal.expr::InSetSpelled::spell-returns-in-Query
expr::InSetSpelled::spell-returns-in-Query t c = record {
  added = one_call c.spell-in-Query.result c.args.tokens.now.items _ _ _ (ap in_set_tokens c.in-Query.is ∙ in_set_tokens-Query c.in-Query.part) c.spell-in-Query.ensures.added;
  front = fronts_of c.spell-in-Query.result _ _ _ _ (ap in_set_tokens c.in-Query.is ∙ in_set_tokens-Query c.in-Query.part) c.spell-in-Query.ensures.front;
}

pub expr::InSetSpelled::spell-returns-in-Object : goal.expr::InSetSpelled::spell-returns-in-Object
expr::InSetSpelled::spell-returns-in-Object t c = record {
  added = one_call c.spell-in-Object.result c.args.tokens.now.items _ _ _ (ap in_set_tokens c.in-Object.is ∙ in_set_tokens-Object c.in-Object.part) c.spell-in-Object.ensures.added;
  front = fronts_of c.spell-in-Object.result _ _ _ _ (ap in_set_tokens c.in-Object.is ∙ in_set_tokens-Object c.in-Object.part) c.spell-in-Object.ensures.front;
}

pub expr::InSetSpelled::spell-returns-in_err-spell-in-Function-clause-front : goal.expr::InSetSpelled::spell-returns-in_err-spell-in-Function-clause-front
expr::InSetSpelled::spell-returns-in_err-spell-in-Function-clause-front t c =
    on_err c.from_residual.result _ (front_of _ _ _ _ (ap in_set_tokens c.in-Function.is ∙ in_set_tokens-Function c.in-Function.name c.in-Function.arguments)
    (front_wider _ (in_parens_tokens (maybe (commas_tokens expr_tokens)) c.in-Function.arguments) _ _
    c.in_err-spell-in-Function.ensures.front))

pub expr::InSetSpelled::spell-returns-in_ok-spell-in-Function : goal.expr::InSetSpelled::spell-returns-in_ok-spell-in-Function
expr::InSetSpelled::spell-returns-in_ok-spell-in-Function t c = record {
  added = one_call c.spell-in-Function-2.result c.args.tokens.now.items _ _ _ (ap in_set_tokens c.in-Function.is ∙ in_set_tokens-Function c.in-Function.name c.in-Function.arguments)
      (ends c.spell-in-Function-2.result c.args.tokens.now.items c.spell-in-Function.new.tokens.items _ _ _ c.in_ok-spell-in-Function.ensures.added c.spell-in-Function-2.ensures.added);
  front = fronts_of c.spell-in-Function-2.result _ _ _ _ (ap in_set_tokens c.in-Function.is ∙ in_set_tokens-Function c.in-Function.name c.in-Function.arguments)
      (front_last c.spell-in-Function-2.result _ _ c.args.tokens.now.items c.spell-in-Function.new.tokens.items _ c.in_ok-spell-in-Function.ensures.added c.spell-in-Function-2.ensures.front);
}

pub expr::OperandSpelled::spell-returns-in-Literal : goal.expr::OperandSpelled::spell-returns-in-Literal
expr::OperandSpelled::spell-returns-in-Literal t c = record {
  added = one_call c.spell.result c.args.tokens.now.items _ _ _ (ap operand_tokens c.in-Literal.is ∙ operand_tokens-Literal c.in-Literal.part) c.spell.ensures.added;
  front = fronts_of c.spell.result _ _ _ _ (ap operand_tokens c.in-Literal.is ∙ operand_tokens-Literal c.in-Literal.part) c.spell.ensures.front;
}

pub expr::OperandSpelled::spell-returns-in-Column : goal.expr::OperandSpelled::spell-returns-in-Column
expr::OperandSpelled::spell-returns-in-Column t c = record {
  added = one_call c.spell-in-Column.result c.args.tokens.now.items _ _ _ (ap operand_tokens c.in-Column.is ∙ operand_tokens-Column c.in-Column.part) c.spell-in-Column.ensures.added;
  front = fronts_of c.spell-in-Column.result _ _ _ _ (ap operand_tokens c.in-Column.is ∙ operand_tokens-Column c.in-Column.part) c.spell-in-Column.ensures.front;
}

pub expr::OperandSpelled::spell-returns-in-Call : goal.expr::OperandSpelled::spell-returns-in-Call
expr::OperandSpelled::spell-returns-in-Call t c = record {
  added = one_call c.spell-in-Call.result c.args.tokens.now.items _ _ _ (ap operand_tokens c.in-Call.is ∙ operand_tokens-Call c.in-Call.part) c.spell-in-Call.ensures.added;
  front = fronts_of c.spell-in-Call.result _ _ _ _ (ap operand_tokens c.in-Call.is ∙ operand_tokens-Call c.in-Call.part) c.spell-in-Call.ensures.front;
}

pub expr::OperandSpelled::spell-returns-in-Exprs : goal.expr::OperandSpelled::spell-returns-in-Exprs
expr::OperandSpelled::spell-returns-in-Exprs t c = record {
  added = one_call c.spell-in-Exprs.result c.args.tokens.now.items _ _ _ (ap operand_tokens c.in-Exprs.is ∙ operand_tokens-Exprs c.in-Exprs.part) c.spell-in-Exprs.ensures.added;
  front = fronts_of c.spell-in-Exprs.result _ _ _ _ (ap operand_tokens c.in-Exprs.is ∙ operand_tokens-Exprs c.in-Exprs.part) c.spell-in-Exprs.ensures.front;
}

pub expr::OperandSpelled::spell-returns-in_err-spell-in-Subquery-clause-front : goal.expr::OperandSpelled::spell-returns-in_err-spell-in-Subquery-clause-front
expr::OperandSpelled::spell-returns-in_err-spell-in-Subquery-clause-front t c =
    on_err c.from_residual.result _ (front_of _ _ _ _ (ap operand_tokens c.in-Subquery.is ∙ operand_tokens-Subquery c.in-Subquery.exists c.in-Subquery.select)
    (front_wider _ (in_parens_tokens select_tokens c.in-Subquery.select) _ _
    c.in_err-spell-in-Subquery.ensures.front))

pub expr::OperandSpelled::spell-returns-in_ok-spell-in-Subquery : goal.expr::OperandSpelled::spell-returns-in_ok-spell-in-Subquery
expr::OperandSpelled::spell-returns-in_ok-spell-in-Subquery t c = record {
  added = one_call c.spell-in-Subquery-2.result c.args.tokens.now.items _ _ _ (ap operand_tokens c.in-Subquery.is ∙ operand_tokens-Subquery c.in-Subquery.exists c.in-Subquery.select)
      (ends c.spell-in-Subquery-2.result c.args.tokens.now.items c.spell-in-Subquery.new.tokens.items _ _ _ c.in_ok-spell-in-Subquery.ensures.added c.spell-in-Subquery-2.ensures.added);
  front = fronts_of c.spell-in-Subquery-2.result _ _ _ _ (ap operand_tokens c.in-Subquery.is ∙ operand_tokens-Subquery c.in-Subquery.exists c.in-Subquery.select)
      (front_last c.spell-in-Subquery-2.result _ _ c.args.tokens.now.items c.spell-in-Subquery.new.tokens.items _ c.in_ok-spell-in-Subquery.ensures.added c.spell-in-Subquery-2.ensures.front);
}

pub expr::OperandSpelled::spell-returns-in-Case : goal.expr::OperandSpelled::spell-returns-in-Case
expr::OperandSpelled::spell-returns-in-Case t c = record {
  added = one_call c.spell-in-Case.result c.args.tokens.now.items _ _ _ (ap operand_tokens c.in-Case.is ∙ operand_tokens-Case c.in-Case.part) c.spell-in-Case.ensures.added;
  front = fronts_of c.spell-in-Case.result _ _ _ _ (ap operand_tokens c.in-Case.is ∙ operand_tokens-Case c.in-Case.part) c.spell-in-Case.ensures.front;
}

pub expr::OperandSpelled::spell-returns-in-Cast : goal.expr::OperandSpelled::spell-returns-in-Cast
expr::OperandSpelled::spell-returns-in-Cast t c = record {
  added = one_call c.spell-in-Cast.result c.args.tokens.now.items _ _ _ (ap operand_tokens c.in-Cast.is ∙ operand_tokens-Cast c.in-Cast.part) c.spell-in-Cast.ensures.added;
  front = fronts_of c.spell-in-Cast.result _ _ _ _ (ap operand_tokens c.in-Cast.is ∙ operand_tokens-Cast c.in-Cast.part) c.spell-in-Cast.ensures.front;
}

pub expr::OperandSpelled::spell-returns-in-Raise : goal.expr::OperandSpelled::spell-returns-in-Raise
expr::OperandSpelled::spell-returns-in-Raise t c = record {
  added = one_call c.spell-in-Raise.result c.args.tokens.now.items _ _ _ (ap operand_tokens c.in-Raise.is ∙ operand_tokens-Raise c.in-Raise.part) c.spell-in-Raise.ensures.added;
  front = fronts_of c.spell-in-Raise.result _ _ _ _ (ap operand_tokens c.in-Raise.is ∙ operand_tokens-Raise c.in-Raise.part) c.spell-in-Raise.ensures.front;
}

pub expr::PostfixSpelled::spell-returns-in_err-spell-in-Collate-clause-front : goal.expr::PostfixSpelled::spell-returns-in_err-spell-in-Collate-clause-front
expr::PostfixSpelled::spell-returns-in_err-spell-in-Collate-clause-front t c =
    on_err c.from_residual.result _ (front_of _ _ _ _ (ap postfix_tokens c.in-Collate.is ∙ postfix_tokens-Collate c.in-Collate.collate c.in-Collate.name)
    (front_wider _ (one c.in-Collate.name) _ _
    c.in_err-spell-in-Collate.ensures.front))

pub expr::PostfixSpelled::spell-returns-in_ok-spell-in-Collate : goal.expr::PostfixSpelled::spell-returns-in_ok-spell-in-Collate
expr::PostfixSpelled::spell-returns-in_ok-spell-in-Collate t c = record {
  added = one_call c.spell-in-Collate.result c.args.tokens.now.items _ _ _ (ap postfix_tokens c.in-Collate.is ∙ postfix_tokens-Collate c.in-Collate.collate c.in-Collate.name)
      (ends c.spell-in-Collate.result c.args.tokens.now.items c.spell.new.tokens.items _ _ _ c.in_ok-spell-in-Collate.ensures.added c.spell-in-Collate.ensures.added);
  front = fronts_of c.spell-in-Collate.result _ _ _ _ (ap postfix_tokens c.in-Collate.is ∙ postfix_tokens-Collate c.in-Collate.collate c.in-Collate.name)
      (front_last c.spell-in-Collate.result _ _ c.args.tokens.now.items c.spell.new.tokens.items _ c.in_ok-spell-in-Collate.ensures.added c.spell-in-Collate.ensures.front);
}

pub expr::PostfixSpelled::spell-returns-in-IsNull : goal.expr::PostfixSpelled::spell-returns-in-IsNull
expr::PostfixSpelled::spell-returns-in-IsNull t c = record {
  added = one_call c.spell-in-IsNull.result c.args.tokens.now.items _ _ _ (ap postfix_tokens c.in-IsNull.is ∙ postfix_tokens-IsNull c.in-IsNull.part) c.spell-in-IsNull.ensures.added;
  front = fronts_of c.spell-in-IsNull.result _ _ _ _ (ap postfix_tokens c.in-IsNull.is ∙ postfix_tokens-IsNull c.in-IsNull.part) c.spell-in-IsNull.ensures.front;
}

pub expr::PostfixSpelled::spell-returns-in-NotNull : goal.expr::PostfixSpelled::spell-returns-in-NotNull
expr::PostfixSpelled::spell-returns-in-NotNull t c = record {
  added = one_call c.spell-in-NotNull.result c.args.tokens.now.items _ _ _ (ap postfix_tokens c.in-NotNull.is ∙ postfix_tokens-NotNull c.in-NotNull.part) c.spell-in-NotNull.ensures.added;
  front = fronts_of c.spell-in-NotNull.result _ _ _ _ (ap postfix_tokens c.in-NotNull.is ∙ postfix_tokens-NotNull c.in-NotNull.part) c.spell-in-NotNull.ensures.front;
}

pub expr::PostfixSpelled::spell-returns-in_err-spell-in-NotNullWords-clause-front : goal.expr::PostfixSpelled::spell-returns-in_err-spell-in-NotNullWords-clause-front
expr::PostfixSpelled::spell-returns-in_err-spell-in-NotNullWords-clause-front t c =
    on_err c.from_residual-in_err-spell-in-NotNullWords.result _ (front_of _ _ _ _ (ap postfix_tokens c.in-NotNullWords.is ∙ postfix_tokens-NotNullWords c.in-NotNullWords.not c.in-NotNullWords.null)
    (front_wider _ (one c.in-NotNullWords.null) _ _
    c.in_err-spell-in-NotNullWords.ensures.front))

pub expr::PostfixSpelled::spell-returns-in_ok-spell-in-NotNullWords : goal.expr::PostfixSpelled::spell-returns-in_ok-spell-in-NotNullWords
expr::PostfixSpelled::spell-returns-in_ok-spell-in-NotNullWords t c = record {
  added = one_call c.spell-in-NotNullWords-2.result c.args.tokens.now.items _ _ _ (ap postfix_tokens c.in-NotNullWords.is ∙ postfix_tokens-NotNullWords c.in-NotNullWords.not c.in-NotNullWords.null)
      (ends c.spell-in-NotNullWords-2.result c.args.tokens.now.items c.spell-in-NotNullWords.new.tokens.items _ _ _ c.in_ok-spell-in-NotNullWords.ensures.added c.spell-in-NotNullWords-2.ensures.added);
  front = fronts_of c.spell-in-NotNullWords-2.result _ _ _ _ (ap postfix_tokens c.in-NotNullWords.is ∙ postfix_tokens-NotNullWords c.in-NotNullWords.not c.in-NotNullWords.null)
      (front_last c.spell-in-NotNullWords-2.result _ _ c.args.tokens.now.items c.spell-in-NotNullWords.new.tokens.items _ c.in_ok-spell-in-NotNullWords.ensures.added c.spell-in-NotNullWords-2.ensures.front);
}

pub expr::PostfixSpelled::spell-returns-in_err-spell-in-In-clause-front : goal.expr::PostfixSpelled::spell-returns-in_err-spell-in-In-clause-front
expr::PostfixSpelled::spell-returns-in_err-spell-in-In-clause-front t c =
    on_err c.from_residual-in_err-spell-in-In.result _ (front_of _ _ _ _ (ap postfix_tokens c.in-In.is ∙ postfix_tokens-In c.in-In.not c.in-In.in_word c.in-In.set)
    (front_wider _ (in_set_tokens c.in-In.set) _ _
    (front_wider _ (one c.in-In.in_word) _ _
    c.in_err-spell-in-In.ensures.front)))

pub expr::PostfixSpelled::spell-returns-in_err-spell-in-In-2-clause-front : goal.expr::PostfixSpelled::spell-returns-in_err-spell-in-In-2-clause-front
expr::PostfixSpelled::spell-returns-in_err-spell-in-In-2-clause-front t c =
    on_err c.from_residual-in_err-spell-in-In-2.result _ (front_of _ _ _ _ (ap postfix_tokens c.in-In.is ∙ postfix_tokens-In c.in-In.not c.in-In.in_word c.in-In.set)
    (front_wider _ (in_set_tokens c.in-In.set) _ _
    (front_later (maybe one c.in-In.not) _ _ _ _ c.in_ok-spell-in-In.ensures.added c.in_err-spell-in-In-2.ensures.front)))

pub expr::PostfixSpelled::spell-returns-in_ok-spell-in-In-2 : goal.expr::PostfixSpelled::spell-returns-in_ok-spell-in-In-2
expr::PostfixSpelled::spell-returns-in_ok-spell-in-In-2 t c = record {
  added = one_call c.spell-in-In-3.result c.args.tokens.now.items _ _ _ (ap postfix_tokens c.in-In.is ∙ postfix_tokens-In c.in-In.not c.in-In.in_word c.in-In.set)
      (ends c.spell-in-In-3.result c.args.tokens.now.items c.spell-in-In-2.new.tokens.items _ _ _ (joins _ _ _ (maybe one c.in-In.not) _ c.in_ok-spell-in-In.ensures.added c.in_ok-spell-in-In-2.ensures.added) c.spell-in-In-3.ensures.added);
  front = fronts_of c.spell-in-In-3.result _ _ _ _ (ap postfix_tokens c.in-In.is ∙ postfix_tokens-In c.in-In.not c.in-In.in_word c.in-In.set)
      (front_last c.spell-in-In-3.result _ _ c.args.tokens.now.items c.spell-in-In-2.new.tokens.items _ (joins _ _ _ (maybe one c.in-In.not) _ c.in_ok-spell-in-In.ensures.added c.in_ok-spell-in-In-2.ensures.added) c.spell-in-In-3.ensures.front);
}

pub select::ArmSpelled::spell-returns-in-Select : goal.select::ArmSpelled::spell-returns-in-Select
select::ArmSpelled::spell-returns-in-Select t c = record {
  added = one_call c.spell.result c.args.tokens.now.items _ _ _ (ap arm_tokens c.in-Select.is ∙ arm_tokens-Select c.in-Select.part) c.spell.ensures.added;
  front = fronts_of c.spell.result _ _ _ _ (ap arm_tokens c.in-Select.is ∙ arm_tokens-Select c.in-Select.part) c.spell.ensures.front;
}

pub select::ArmSpelled::spell-returns-in_err-spell-in-Values-clause-front : goal.select::ArmSpelled::spell-returns-in_err-spell-in-Values-clause-front
select::ArmSpelled::spell-returns-in_err-spell-in-Values-clause-front t c =
    on_err c.from_residual.result _ (front_of _ _ _ _ (ap arm_tokens c.in-Values.is ∙ arm_tokens-Values c.in-Values.values c.in-Values.rows)
    (front_wider _ (commas_tokens (values_row_tokens expr_tokens) c.in-Values.rows) _ _
    c.in_err-spell-in-Values.ensures.front))

pub select::ArmSpelled::spell-returns-in_ok-spell-in-Values : goal.select::ArmSpelled::spell-returns-in_ok-spell-in-Values
select::ArmSpelled::spell-returns-in_ok-spell-in-Values t c = record {
  added = one_call c.spell-in-Values-2.result c.args.tokens.now.items _ _ _ (ap arm_tokens c.in-Values.is ∙ arm_tokens-Values c.in-Values.values c.in-Values.rows)
      (ends c.spell-in-Values-2.result c.args.tokens.now.items c.spell-in-Values.new.tokens.items _ _ _ c.in_ok-spell-in-Values.ensures.added c.spell-in-Values-2.ensures.added);
  front = fronts_of c.spell-in-Values-2.result _ _ _ _ (ap arm_tokens c.in-Values.is ∙ arm_tokens-Values c.in-Values.values c.in-Values.rows)
      (front_last c.spell-in-Values-2.result _ _ c.args.tokens.now.items c.spell-in-Values.new.tokens.items _ c.in_ok-spell-in-Values.ensures.added c.spell-in-Values-2.ensures.front);
}

pub source::TableSourceSpelled::spell-returns-in_err-spell-in-Table-clause-front : goal.source::TableSourceSpelled::spell-returns-in_err-spell-in-Table-clause-front
source::TableSourceSpelled::spell-returns-in_err-spell-in-Table-clause-front t c =
    on_err c.from_residual.result _ (front_of _ _ _ _ (ap table_source_tokens c.in-Table.is ∙ table_source_tokens-Table c.in-Table.object c.in-Table.alias c.in-Table.indexing)
    (front_wider _ (maybe indexing_tokens c.in-Table.indexing) _ _
    (front_wider _ (maybe alias_tokens c.in-Table.alias) _ _
    c.in_err-spell-in-Table.ensures.front)))

pub source::TableSourceSpelled::spell-returns-in_err-spell-in-Table-2-clause-front : goal.source::TableSourceSpelled::spell-returns-in_err-spell-in-Table-2-clause-front
source::TableSourceSpelled::spell-returns-in_err-spell-in-Table-2-clause-front t c =
    on_err c.from_residual-in_err-spell-in-Table-2.result _ (front_of _ _ _ _ (ap table_source_tokens c.in-Table.is ∙ table_source_tokens-Table c.in-Table.object c.in-Table.alias c.in-Table.indexing)
    (front_wider _ (maybe indexing_tokens c.in-Table.indexing) _ _
    (front_later (object_tokens c.in-Table.object) _ _ _ _ c.in_ok-spell-in-Table.ensures.added c.in_err-spell-in-Table-2.ensures.front)))

pub source::TableSourceSpelled::spell-returns-in_ok-spell-in-Table-2 : goal.source::TableSourceSpelled::spell-returns-in_ok-spell-in-Table-2
source::TableSourceSpelled::spell-returns-in_ok-spell-in-Table-2 t c = record {
  added = one_call c.spell-in-Table-2.result c.args.tokens.now.items _ _ _ (ap table_source_tokens c.in-Table.is ∙ table_source_tokens-Table c.in-Table.object c.in-Table.alias c.in-Table.indexing)
      (ends c.spell-in-Table-2.result c.args.tokens.now.items c.spell-in-Table.new.tokens.items _ _ _ (joins _ _ _ (object_tokens c.in-Table.object) _ c.in_ok-spell-in-Table.ensures.added c.in_ok-spell-in-Table-2.ensures.added) c.spell-in-Table-2.ensures.added);
  front = fronts_of c.spell-in-Table-2.result _ _ _ _ (ap table_source_tokens c.in-Table.is ∙ table_source_tokens-Table c.in-Table.object c.in-Table.alias c.in-Table.indexing)
      (front_last c.spell-in-Table-2.result _ _ c.args.tokens.now.items c.spell-in-Table.new.tokens.items _ (joins _ _ _ (object_tokens c.in-Table.object) _ c.in_ok-spell-in-Table.ensures.added c.in_ok-spell-in-Table-2.ensures.added) c.spell-in-Table-2.ensures.front);
}

pub source::TableSourceSpelled::spell-returns-in_err-spell-in-TableFunction-clause-front : goal.source::TableSourceSpelled::spell-returns-in_err-spell-in-TableFunction-clause-front
source::TableSourceSpelled::spell-returns-in_err-spell-in-TableFunction-clause-front t c =
    on_err c.from_residual-in_err-spell-in-TableFunction.result _ (front_of _ _ _ _ (ap table_source_tokens c.in-TableFunction.is ∙ table_source_tokens-TableFunction c.in-TableFunction.name c.in-TableFunction.arguments c.in-TableFunction.alias)
    (front_wider _ (maybe alias_tokens c.in-TableFunction.alias) _ _
    (front_wider _ (in_parens_tokens (maybe (commas_tokens expr_tokens)) c.in-TableFunction.arguments) _ _
    c.in_err-spell-in-TableFunction.ensures.front)))

pub source::TableSourceSpelled::spell-returns-in_err-spell-in-TableFunction-2-clause-front : goal.source::TableSourceSpelled::spell-returns-in_err-spell-in-TableFunction-2-clause-front
source::TableSourceSpelled::spell-returns-in_err-spell-in-TableFunction-2-clause-front t c =
    on_err c.from_residual-in_err-spell-in-TableFunction-2.result _ (front_of _ _ _ _ (ap table_source_tokens c.in-TableFunction.is ∙ table_source_tokens-TableFunction c.in-TableFunction.name c.in-TableFunction.arguments c.in-TableFunction.alias)
    (front_wider _ (maybe alias_tokens c.in-TableFunction.alias) _ _
    (front_later (one c.in-TableFunction.name) _ _ _ _ c.in_ok-spell-in-TableFunction.ensures.added c.in_err-spell-in-TableFunction-2.ensures.front)))

pub source::TableSourceSpelled::spell-returns-in_ok-spell-in-TableFunction-2 : goal.source::TableSourceSpelled::spell-returns-in_ok-spell-in-TableFunction-2
source::TableSourceSpelled::spell-returns-in_ok-spell-in-TableFunction-2 t c = record {
  added = one_call c.spell-in-TableFunction-3.result c.args.tokens.now.items _ _ _ (ap table_source_tokens c.in-TableFunction.is ∙ table_source_tokens-TableFunction c.in-TableFunction.name c.in-TableFunction.arguments c.in-TableFunction.alias)
      (ends c.spell-in-TableFunction-3.result c.args.tokens.now.items c.spell-in-TableFunction-2.new.tokens.items _ _ _ (joins _ _ _ (one c.in-TableFunction.name) _ c.in_ok-spell-in-TableFunction.ensures.added c.in_ok-spell-in-TableFunction-2.ensures.added) c.spell-in-TableFunction-3.ensures.added);
  front = fronts_of c.spell-in-TableFunction-3.result _ _ _ _ (ap table_source_tokens c.in-TableFunction.is ∙ table_source_tokens-TableFunction c.in-TableFunction.name c.in-TableFunction.arguments c.in-TableFunction.alias)
      (front_last c.spell-in-TableFunction-3.result _ _ c.args.tokens.now.items c.spell-in-TableFunction-2.new.tokens.items _ (joins _ _ _ (one c.in-TableFunction.name) _ c.in_ok-spell-in-TableFunction.ensures.added c.in_ok-spell-in-TableFunction-2.ensures.added) c.spell-in-TableFunction-3.ensures.front);
}

pub source::TableSourceSpelled::spell-returns-in_err-spell-in-Derived-clause-front : goal.source::TableSourceSpelled::spell-returns-in_err-spell-in-Derived-clause-front
source::TableSourceSpelled::spell-returns-in_err-spell-in-Derived-clause-front t c =
    on_err c.from_residual-in_err-spell-in-Derived.result _ (front_of _ _ _ _ (ap table_source_tokens c.in-Derived.is ∙ table_source_tokens-Derived c.in-Derived.select c.in-Derived.alias)
    (front_wider _ (maybe alias_tokens c.in-Derived.alias) _ _
    c.in_err-spell-in-Derived.ensures.front))

pub source::TableSourceSpelled::spell-returns-in_ok-spell-in-Derived : goal.source::TableSourceSpelled::spell-returns-in_ok-spell-in-Derived
source::TableSourceSpelled::spell-returns-in_ok-spell-in-Derived t c = record {
  added = one_call c.spell-in-Derived-2.result c.args.tokens.now.items _ _ _ (ap table_source_tokens c.in-Derived.is ∙ table_source_tokens-Derived c.in-Derived.select c.in-Derived.alias)
      (ends c.spell-in-Derived-2.result c.args.tokens.now.items c.spell-in-Derived.new.tokens.items _ _ _ c.in_ok-spell-in-Derived.ensures.added c.spell-in-Derived-2.ensures.added);
  front = fronts_of c.spell-in-Derived-2.result _ _ _ _ (ap table_source_tokens c.in-Derived.is ∙ table_source_tokens-Derived c.in-Derived.select c.in-Derived.alias)
      (front_last c.spell-in-Derived-2.result _ _ c.args.tokens.now.items c.spell-in-Derived.new.tokens.items _ c.in_ok-spell-in-Derived.ensures.added c.spell-in-Derived-2.ensures.front);
}

pub source::TableSourceSpelled::spell-returns-in-Sources : goal.source::TableSourceSpelled::spell-returns-in-Sources
source::TableSourceSpelled::spell-returns-in-Sources t c = record {
  added = one_call c.spell-in-Sources.result c.args.tokens.now.items _ _ _ (ap table_source_tokens c.in-Sources.is ∙ table_source_tokens-Sources c.in-Sources.part) c.spell-in-Sources.ensures.added;
  front = fronts_of c.spell-in-Sources.result _ _ _ _ (ap table_source_tokens c.in-Sources.is ∙ table_source_tokens-Sources c.in-Sources.part) c.spell-in-Sources.ensures.front;
}
