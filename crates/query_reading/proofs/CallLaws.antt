-- The laws of what is read as calls of functions, CASE, CAST and RAISE.
use Rattle.std.proofs.Common.{IfSome, List, Option, inl, inr, refl, ℕ}
use Rattle.std.specs.List.{AllByRecursion}
use Rattle.sql_token.specs.Spelled.{flat, maybe}
use Rattle.sql_expr.specs.Rules.{Inside, IsAfter, IsCall, IsCallArguments, IsCase, IsCast, IsInParens, IsOver, IsRaise, IsRaiseAction, IsWhen}
use Rattle.sql_expr.specs.Tokens.{after_tokens, call_arguments_tokens, call_tokens, case_tokens, cast_tokens, in_parens_tokens, over_tokens, raise_action_tokens, raise_tokens, when_tokens}
use Rattle.sql_expr.specs.Tree.{expr_tokens}
use Rattle.sql_expr.specs.declared.call.Call.{Call}
use Rattle.sql_expr.specs.declared.call.CallArguments.{CallArguments}
use Rattle.sql_expr.specs.declared.call.Case.{Case}
use Rattle.sql_expr.specs.declared.call.Cast.{Cast}
use Rattle.sql_expr.specs.declared.call.Over.{Over}
use Rattle.sql_expr.specs.declared.call.Raise.{Raise}
use Rattle.sql_expr.specs.declared.call.RaiseAction.{RaiseAction}
use Rattle.sql_expr.specs.declared.call.When.{When}
use Rattle.sql_expr.specs.declared.expr.Expr.{Expr}
use Rattle.sql_expr.specs.declared.lists.After.{After}
use Rattle.sql_expr.specs.declared.lists.InParens.{InParens}
use Rattle.sql_reader.proofs.Choices.{choice_reads, many_reads, opt_reads}
use Rattle.sql_reader.proofs.Forms.{begun_reads, formed_reads, lead_reads, ruled, variant_reads}
use Rattle.sql_reader.proofs.Laws.{Reads, leaf_reads, seq_reads}
use Rattle.sql_reader.proofs.Leaves.{name_fits, sign_fits, word_fits}
use Rattle.sql_reader.specs.Looks.{name}
use Rattle.sql_reader.specs.Sorts.{sort_of}
use Rattle.sql_reader.specs.declared.sort.Mark.TheVariants.{Closing, Opening, Star}
use Rattle.query_reading.proofs.LeafLaws.{Nested, operand_name_fits}
use Rattle.query_reading.proofs.ListLaws.{after_reads, in_parens_reads, opt_leaf_reads}
use Rattle.query_reading.proofs.OperatorLaws.{action_reads}
use Rattle.query_reading.proofs.TypeLaws.{opt_type_reads}
use Rattle.query_reading.proofs.WindowLaws.{exprs_reads, next_expr_reads, opt_after_reads, opt_order_reads, window_reads}
use Rattle.query_reading.specs.Calls.{call, call_arguments, call_parens, case, cast, filter_parens, more_whens, opt_arguments, opt_expr, opt_filter, opt_over, over, raise, raise_action, raise_parens, read_call, read_call_arguments, read_call_parens, read_case, read_cast, read_filter_parens, read_more_whens, read_opt_arguments, read_opt_expr, read_opt_filter, read_opt_over, read_over, read_raise, read_raise_action, read_raise_parens, read_when, read_where_expr, when, where_expr}
use Rattle.query_reading.specs.Exprs.{Inner}
use Rattle.query_reading.specs.Operators.{action}
use Rattle.query_reading.specs.Windows.{exprs, window}
use Rattle.sql_expr.specs.declared.call.CallArguments.TheVariants as CallArguments'
use Rattle.sql_token.specs.declared.keyword.Keyword.TheVariants as K
use Rattle.sql_expr.specs.declared.call.Over.TheVariants as Over'
use Rattle.sql_expr.specs.declared.call.RaiseAction.TheVariants as RaiseAction'

module _ {text : List ℕ} {n : ℕ} {inside : Inside} {inner twin : Inner} where
  -- "*" | [DISTINCT] exprs [ORDER BY terms]
  pub call_arguments_reads : Nested text n inside inner twin → Reads (sort_of text) (CallArguments Expr) (IsCallArguments text inside) (IsCallArguments text inside) (call_arguments_tokens expr_tokens) n
      (call_arguments (sort_of text) inner) (read_call_arguments (sort_of text) twin)
  unfolding read_call_arguments
  call_arguments_reads nested =
      ruled
      (choice_reads (variant_reads (leaf_reads (sign_fits text Star 42 refl refl)) (λ t. refl) (λ t h. h))
      (variant_reads
      (seq_reads (seq_reads (opt_leaf_reads text (word_fits text K.Distinct)) (exprs_reads nested) refl) (opt_order_reads nested) refl)
      (λ v. refl) (λ v h. (h.0.0, h.0.1, h.1)))
      refl refl refl)
      (λ x h. h)
      (elim [
        | CallArguments'.Star t ↦ λ h. inl (t, refl, h)
        | CallArguments'.Exprs distinct exprs order ↦ λ h. inr (((distinct, exprs), order), refl, ((h.0, h.1), h.2))
      ])

  -- [arguments]
  pub opt_arguments_reads : Nested text n inside inner twin → Reads (sort_of text) (Option (CallArguments Expr)) (λ x. IfSome x (IsCallArguments text inside)) (λ x. IfSome x (IsCallArguments text inside)) (maybe (call_arguments_tokens expr_tokens)) n
      (opt_arguments (sort_of text) inner) (read_opt_arguments (sort_of text) twin)
  unfolding read_opt_arguments
  opt_arguments_reads nested = opt_reads (call_arguments_reads nested) refl

  -- "(" [arguments] ")"
  pub call_parens_reads : Nested text n inside inner twin → Reads (sort_of text) (InParens (Option (CallArguments Expr))) (IsInParens text (λ x. IfSome x (IsCallArguments text inside))) (IsInParens text (λ x. IfSome x (IsCallArguments text inside))) (in_parens_tokens (maybe (call_arguments_tokens expr_tokens))) n
      (call_parens (sort_of text) inner) (read_call_parens (sort_of text) twin)
  unfolding read_call_parens
  call_parens_reads nested = in_parens_reads (opt_arguments_reads nested) refl

  -- WHERE expr
  pub where_expr_reads : Nested text n inside inner twin → Reads (sort_of text) (After Expr) (IsAfter text K.Where inside.expr) (IsAfter text K.Where inside.expr) (after_tokens expr_tokens) n
      (where_expr (sort_of text) inner) (read_where_expr (sort_of text) twin)
  unfolding read_where_expr
  where_expr_reads nested = after_reads K.Where nested.expr

  -- "(" WHERE expr ")"
  pub filter_parens_reads : Nested text n inside inner twin → Reads (sort_of text) (InParens (After Expr)) (IsInParens text (IsAfter text K.Where inside.expr)) (IsInParens text (IsAfter text K.Where inside.expr)) (in_parens_tokens (after_tokens expr_tokens)) n
      (filter_parens (sort_of text) inner) (read_filter_parens (sort_of text) twin)
  unfolding read_filter_parens
  filter_parens_reads nested = in_parens_reads (where_expr_reads nested) refl

  -- [FILTER "(" WHERE expr ")"]
  pub opt_filter_reads : Nested text n inside inner twin → Reads (sort_of text) (Option (After (InParens (After Expr)))) (λ x. IfSome x (IsAfter text K.Filter (IsInParens text (IsAfter text K.Where inside.expr)))) (λ x. IfSome x (IsAfter text K.Filter (IsInParens text (IsAfter text K.Where inside.expr)))) (maybe (after_tokens (in_parens_tokens (after_tokens expr_tokens)))) n
      (opt_filter (sort_of text) inner) (read_opt_filter (sort_of text) twin)
  unfolding read_opt_filter
  opt_filter_reads nested = opt_reads (after_reads K.Filter (filter_parens_reads nested)) refl

  -- OVER (name | window)
  pub over_reads : Nested text n inside inner twin → Reads (sort_of text) (Over Expr) (IsOver text inside) (IsOver text inside) (over_tokens expr_tokens) n
      (over (sort_of text) inner) (read_over (sort_of text) twin)
  unfolding read_over
  over_reads nested =
      ruled
      (choice_reads
      (variant_reads (lead_reads (word_fits text K.Over) (leaf_reads (name_fits text))) (λ v. refl) (λ v h. h))
      (variant_reads (lead_reads (word_fits text K.Over) (window_reads nested)) (λ v. refl) (λ v h. h))
      refl refl refl)
      (λ x h. h)
      (elim [
        | Over'.Name over name ↦ λ h. inl ((over, name), refl, h)
        | Over'.Window over window ↦ λ h. inr ((over, window), refl, h)
      ])

  -- [OVER (name | window)]
  pub opt_over_reads : Nested text n inside inner twin → Reads (sort_of text) (Option (Over Expr)) (λ x. IfSome x (IsOver text inside)) (λ x. IfSome x (IsOver text inside)) (maybe (over_tokens expr_tokens)) n
      (opt_over (sort_of text) inner) (read_opt_over (sort_of text) twin)
  unfolding read_opt_over
  opt_over_reads nested = opt_reads (over_reads nested) refl

  -- name "(" [arguments] ")" [FILTER "(" WHERE expr ")"] [OVER (name | window)]
  pub call_reads : Nested text n inside inner twin → Reads (sort_of text) (Call Expr) (IsCall text inside) (IsCall text inside) (call_tokens expr_tokens) n
      (call (sort_of text) inner) (read_call (sort_of text) twin)
  unfolding read_call
  call_reads nested =
      formed_reads
      (seq_reads (seq_reads (lead_reads (operand_name_fits text) (call_parens_reads nested)) (opt_filter_reads nested) refl)
      (opt_over_reads nested) refl)
      (record {
        spelled = λ v. refl;
        meets = λ v h. (h.0.0.0, h.0.0.1, h.0.1, h.1);
        covers = λ x h. ((((x.name, x.arguments), x.filter), x.over), refl, (((h.0, h.1), h.2), h.3));
      })

  -- WHEN expr THEN expr
  pub when_reads : Nested text n inside inner twin → Reads (sort_of text) (When Expr) (IsWhen text inside) (IsWhen text inside) (when_tokens expr_tokens) n
      (when (sort_of text) inner) (read_when (sort_of text) twin)
  unfolding read_when
  when_reads nested =
      formed_reads
      (seq_reads (seq_reads (begun_reads (word_fits text K.When) nested.expr) (leaf_reads (word_fits text K.Then)) refl) nested.expr refl)
      (record {
        spelled = λ v. refl;
        meets = λ v h. (h.0.0.0, h.0.0.1, h.0.1, h.1);
        covers = λ x h. ((((x.when, x.condition), x.then_word), x.result), refl, (((h.0, h.1), h.2), h.3));
      })

  -- {when}
  pub more_whens_reads : Nested text n inside inner twin → Reads (sort_of text) (List (When Expr)) (AllByRecursion (IsWhen text inside)) (AllByRecursion (IsWhen text inside)) (flat (when_tokens expr_tokens)) n
      (more_whens (sort_of text) inner) (read_more_whens (sort_of text) twin)
  unfolding read_more_whens
  more_whens_reads nested = many_reads (when_reads nested) refl refl

  -- [expr]
  pub opt_expr_reads : Nested text n inside inner twin → Reads (sort_of text) (Option Expr) (λ x. IfSome x inside.expr) (λ x. IfSome x inside.expr) (maybe expr_tokens) n
      (opt_expr (sort_of text) inner) (read_opt_expr (sort_of text) twin)
  unfolding read_opt_expr
  opt_expr_reads nested = opt_reads nested.expr refl

  -- CASE [expr] when {when} [ELSE expr] END
  pub case_reads : Nested text n inside inner twin → Reads (sort_of text) (Case Expr) (IsCase text inside) (IsCase text inside) (case_tokens expr_tokens) n
      (case (sort_of text) inner) (read_case (sort_of text) twin)
  unfolding read_case
  case_reads nested =
      formed_reads
      (seq_reads (seq_reads (seq_reads (seq_reads (begun_reads (word_fits text K.Case) (opt_expr_reads nested)) (when_reads nested) refl)
      (more_whens_reads nested) refl) (opt_after_reads nested K.Else) refl) (leaf_reads (word_fits text K.End)) refl)
      (record {
        spelled = λ v. refl;
        meets = λ v h. (h.0.0.0.0.0, h.0.0.0.0.1, h.0.0.0.1, h.0.0.1, h.0.1, h.1);
        covers = λ x h. (
          (((((x.case, x.subject), x.first), x.more), x.otherwise), x.end),
          refl,
          (((((h.0, h.1), h.2), h.3), h.4), h.5),
        );
      })

  -- CAST "(" expr AS [type] ")"
  pub cast_reads : Nested text n inside inner twin → Reads (sort_of text) (Cast Expr) (IsCast text inside) (IsCast text inside) (cast_tokens expr_tokens) n
      (cast (sort_of text) inner) (read_cast (sort_of text) twin)
  unfolding read_cast
  cast_reads nested =
      formed_reads
      (seq_reads (seq_reads (seq_reads
      (begun_reads (word_fits text K.Cast) (begun_reads (sign_fits text Opening 40 refl refl) nested.expr))
      (leaf_reads (word_fits text K.As)) refl) (opt_type_reads text) refl) (leaf_reads (sign_fits text Closing 41 refl refl)) refl)
      (record {
        spelled = λ v. refl;
        meets = λ v h. (h.0.0.0.0, h.0.0.0.1.0, h.0.0.0.1.1, h.0.0.1, h.0.1, h.1);
        covers = λ x h. (
          ((((x.cast, (x.opening, x.expr)), x.as_word), x.column_type), x.closing),
          refl,
          ((((h.0, (h.1, h.2)), h.3), h.4), h.5),
        );
      })

  -- IGNORE | action "," expr
  pub raise_action_reads : Nested text n inside inner twin → Reads (sort_of text) (RaiseAction Expr) (IsRaiseAction text inside) (IsRaiseAction text inside) (raise_action_tokens expr_tokens) n
      (raise_action (sort_of text) inner) (read_raise_action (sort_of text) twin)
  unfolding read_raise_action
  raise_action_reads nested =
      ruled
      (choice_reads (variant_reads (leaf_reads (word_fits text K.Ignore)) (λ t. refl) (λ t h. h))
      (variant_reads (seq_reads (action_reads text) (next_expr_reads nested) refl) (λ v. refl) (λ v h. (h.0, h.1.0, h.1.1)))
      refl refl refl)
      (λ x h. h)
      (elim [
        | RaiseAction'.Ignore t ↦ λ h. inl (t, refl, h)
        | RaiseAction'.Action action message ↦ λ h. inr ((action, message), refl, (h.0, (h.1, h.2)))
      ])

  -- "(" raise-action ")"
  pub raise_parens_reads : Nested text n inside inner twin → Reads (sort_of text) (InParens (RaiseAction Expr)) (IsInParens text (IsRaiseAction text inside)) (IsInParens text (IsRaiseAction text inside)) (in_parens_tokens (raise_action_tokens expr_tokens)) n
      (raise_parens (sort_of text) inner) (read_raise_parens (sort_of text) twin)
  unfolding read_raise_parens
  raise_parens_reads nested = in_parens_reads (raise_action_reads nested) refl

  -- RAISE "(" (IGNORE | action "," expr) ")"
  pub raise_reads : Nested text n inside inner twin → Reads (sort_of text) (Raise Expr) (IsRaise text inside) (IsRaise text inside) (raise_tokens expr_tokens) n
      (raise (sort_of text) inner) (read_raise (sort_of text) twin)
  unfolding read_raise
  raise_reads nested =
      formed_reads (begun_reads (word_fits text K.Raise) (raise_parens_reads nested))
      (record { spelled = λ v. refl; meets = λ v h. h; covers = λ x h. ((x.raise, x.action), refl, h) })
