-- What is read as calls of functions, CASE, CAST and RAISE.
use Rattle.std.specs.Prelude.{List, Option, [], ◌∷◌}
use Rattle.sql_token.specs.declared.token.Token.{Token}
use Rattle.sql_expr.specs.declared.call.Call.{Call}
use Rattle.sql_expr.specs.declared.call.CallArguments.{CallArguments}
use Rattle.sql_expr.specs.declared.call.Case.{Case}
use Rattle.sql_expr.specs.declared.call.Cast.{Cast}
use Rattle.sql_expr.specs.declared.call.Over.{Over}
use Rattle.sql_expr.specs.declared.call.Raise.{Raise}
use Rattle.sql_expr.specs.declared.call.RaiseAction.{RaiseAction}
use Rattle.sql_expr.specs.declared.call.When.{When}
use Rattle.sql_expr.specs.declared.expr.Expr.{Expr}
use Rattle.sql_expr.specs.declared.lists.After.{After}
use Rattle.sql_expr.specs.declared.lists.InParens.{InParens}
use Rattle.sql_reader.specs.Looks.{Look, name, sign, word}
use Rattle.sql_reader.specs.Reading.{Read, Reading, begun, choice, formed, lead, leaf, many, opt, sealed, seq}
use Rattle.sql_reader.specs.declared.sort.Mark.TheVariants.{Closing, Opening, Star}
use Rattle.sql_reader.specs.declared.sort.Sort.{Sort}
use Rattle.query_reading.specs.Exprs.{Inner, expr, expr_starts, operand_name}
use Rattle.query_reading.specs.Lists.{after, in_parens, opt_leaf}
use Rattle.query_reading.specs.Operators.{action}
use Rattle.query_reading.specs.Types.{opt_type}
use Rattle.query_reading.specs.Windows.{exprs, next_expr, opt_after, opt_order, window}
use Rattle.sql_expr.specs.declared.call.CallArguments.TheVariants as CallArguments'
use Rattle.sql_token.specs.declared.keyword.Keyword.TheVariants as K
use Rattle.sql_expr.specs.declared.call.Over.TheVariants as Over'
use Rattle.sql_expr.specs.declared.call.RaiseAction.TheVariants as RaiseAction'

-- "*" | [DISTINCT] exprs [ORDER BY terms]
abbrev call_arguments_form : (sort : Token → Sort) → Inner → Reading sort (CallArguments Expr)
call_arguments_form sort inner =
    choice (formed (λ t. CallArguments'.Star t) (leaf (sign Star)))
    (formed (λ v. CallArguments'.Exprs v.0.0 v.0.1 v.1)
    (seq (seq (opt_leaf sort (word K.Distinct)) (exprs sort inner)) (opt_order sort inner)))

unfoldable pub read_call_arguments : (Token → Sort) → Inner → Read (CallArguments Expr)
read_call_arguments sort inner = (call_arguments_form sort inner).read

abbrev pub call_arguments : (sort : Token → Sort) → Inner → Reading sort (CallArguments Expr)
call_arguments sort inner = sealed (call_arguments_form sort inner) (read_call_arguments sort inner)

-- how the arguments of a call begin
abbrev pub arguments_starts : Look
arguments_starts = (sign Star ∷ []) ∷ (word K.Distinct ∷ []) ∷ expr_starts

-- [arguments]
abbrev opt_arguments_form : (sort : Token → Sort) → Inner → Reading sort (Option (CallArguments Expr))
opt_arguments_form sort inner = opt (call_arguments sort inner)

unfoldable pub read_opt_arguments : (Token → Sort) → Inner → Read (Option (CallArguments Expr))
read_opt_arguments sort inner = (opt_arguments_form sort inner).read

abbrev pub opt_arguments : (sort : Token → Sort) → Inner → Reading sort (Option (CallArguments Expr))
opt_arguments sort inner = sealed (opt_arguments_form sort inner) (read_opt_arguments sort inner)

-- WHERE expr
abbrev where_expr_form : (sort : Token → Sort) → Inner → Reading sort (After Expr)
where_expr_form sort inner = after K.Where (expr inner)

unfoldable pub read_where_expr : (Token → Sort) → Inner → Read (After Expr)
read_where_expr sort inner = (where_expr_form sort inner).read

abbrev pub where_expr : (sort : Token → Sort) → Inner → Reading sort (After Expr)
where_expr sort inner = sealed (where_expr_form sort inner) (read_where_expr sort inner)

-- "(" WHERE expr ")"
abbrev filter_parens_form : (sort : Token → Sort) → Inner → Reading sort (InParens (After Expr))
filter_parens_form sort inner = in_parens (where_expr sort inner)

unfoldable pub read_filter_parens : (Token → Sort) → Inner → Read (InParens (After Expr))
read_filter_parens sort inner = (filter_parens_form sort inner).read

abbrev pub filter_parens : (sort : Token → Sort) → Inner → Reading sort (InParens (After Expr))
filter_parens sort inner = sealed (filter_parens_form sort inner) (read_filter_parens sort inner)

-- [FILTER "(" WHERE expr ")"]
abbrev opt_filter_form : (sort : Token → Sort) → Inner → Reading sort (Option (After (InParens (After Expr))))
opt_filter_form sort inner = opt (after K.Filter (filter_parens sort inner))

unfoldable pub read_opt_filter : (Token → Sort) → Inner → Read (Option (After (InParens (After Expr))))
read_opt_filter sort inner = (opt_filter_form sort inner).read

abbrev pub opt_filter : (sort : Token → Sort) → Inner → Reading sort (Option (After (InParens (After Expr))))
opt_filter sort inner = sealed (opt_filter_form sort inner) (read_opt_filter sort inner)

-- OVER (name | window)
abbrev over_form : (sort : Token → Sort) → Inner → Reading sort (Over Expr)
over_form sort inner =
    choice (formed (λ v. Over'.Name v.0 v.1) (lead (word K.Over) (leaf name)))
    (formed (λ v. Over'.Window v.0 v.1) (lead (word K.Over) (window sort inner)))

unfoldable pub read_over : (Token → Sort) → Inner → Read (Over Expr)
read_over sort inner = (over_form sort inner).read

abbrev pub over : (sort : Token → Sort) → Inner → Reading sort (Over Expr)
over sort inner = sealed (over_form sort inner) (read_over sort inner)

-- how OVER and what stands behind it begin
abbrev pub over_starts : Look
over_starts = (word K.Over ∷ name ∷ []) ∷ (word K.Over ∷ sign Opening ∷ []) ∷ []

-- [OVER (name | window)]
abbrev opt_over_form : (sort : Token → Sort) → Inner → Reading sort (Option (Over Expr))
opt_over_form sort inner = opt (over sort inner)

unfoldable pub read_opt_over : (Token → Sort) → Inner → Read (Option (Over Expr))
read_opt_over sort inner = (opt_over_form sort inner).read

abbrev pub opt_over : (sort : Token → Sort) → Inner → Reading sort (Option (Over Expr))
opt_over sort inner = sealed (opt_over_form sort inner) (read_opt_over sort inner)

-- "(" [arguments] ")"
abbrev call_parens_form : (sort : Token → Sort) → Inner → Reading sort (InParens (Option (CallArguments Expr)))
call_parens_form sort inner = in_parens (opt_arguments sort inner)

unfoldable pub read_call_parens : (Token → Sort) → Inner → Read (InParens (Option (CallArguments Expr)))
read_call_parens sort inner = (call_parens_form sort inner).read

abbrev pub call_parens : (sort : Token → Sort) → Inner → Reading sort (InParens (Option (CallArguments Expr)))
call_parens sort inner = sealed (call_parens_form sort inner) (read_call_parens sort inner)

-- name "(" [arguments] ")" [FILTER "(" WHERE expr ")"] [OVER (name | window)]
abbrev call_form : (sort : Token → Sort) → Inner → Reading sort (Call Expr)
call_form sort inner =
    formed (λ v. record { name = v.0.0.0; arguments = v.0.0.1; filter = v.0.1; over = v.1 })
    (seq (seq (lead operand_name (call_parens sort inner)) (opt_filter sort inner)) (opt_over sort inner))

unfoldable pub read_call : (Token → Sort) → Inner → Read (Call Expr)
read_call sort inner = (call_form sort inner).read

abbrev pub call : (sort : Token → Sort) → Inner → Reading sort (Call Expr)
call sort inner = sealed (call_form sort inner) (read_call sort inner)

-- WHEN expr THEN expr
abbrev when_form : (sort : Token → Sort) → Inner → Reading sort (When Expr)
when_form sort inner =
    formed (λ v. record { when = v.0.0.0; condition = v.0.0.1; then_word = v.0.1; result = v.1 })
    (seq (seq (begun (word K.When) (expr inner)) (leaf (word K.Then))) (expr inner))

unfoldable pub read_when : (Token → Sort) → Inner → Read (When Expr)
read_when sort inner = (when_form sort inner).read

abbrev pub when : (sort : Token → Sort) → Inner → Reading sort (When Expr)
when sort inner = sealed (when_form sort inner) (read_when sort inner)

-- {when}
abbrev more_whens_form : (sort : Token → Sort) → Inner → Reading sort (List (When Expr))
more_whens_form sort inner = many (when sort inner)

unfoldable pub read_more_whens : (Token → Sort) → Inner → Read (List (When Expr))
read_more_whens sort inner = (more_whens_form sort inner).read

abbrev pub more_whens : (sort : Token → Sort) → Inner → Reading sort (List (When Expr))
more_whens sort inner = sealed (more_whens_form sort inner) (read_more_whens sort inner)

-- [expr]
abbrev opt_expr_form : (sort : Token → Sort) → Inner → Reading sort (Option Expr)
opt_expr_form sort inner = opt (expr inner)

unfoldable pub read_opt_expr : (Token → Sort) → Inner → Read (Option Expr)
read_opt_expr sort inner = (opt_expr_form sort inner).read

abbrev pub opt_expr : (sort : Token → Sort) → Inner → Reading sort (Option Expr)
opt_expr sort inner = sealed (opt_expr_form sort inner) (read_opt_expr sort inner)

-- CASE [expr] when {when} [ELSE expr] END
abbrev case_form : (sort : Token → Sort) → Inner → Reading sort (Case Expr)
case_form sort inner =
    formed
    (λ v. record { case = v.0.0.0.0.0; subject = v.0.0.0.0.1; first = v.0.0.0.1; more = v.0.0.1; otherwise = v.0.1; end = v.1 })
    (seq (seq (seq (seq (begun (word K.Case) (opt_expr sort inner)) (when sort inner)) (more_whens sort inner))
    (opt_after sort inner K.Else)) (leaf (word K.End)))

unfoldable pub read_case : (Token → Sort) → Inner → Read (Case Expr)
read_case sort inner = (case_form sort inner).read

abbrev pub case : (sort : Token → Sort) → Inner → Reading sort (Case Expr)
case sort inner = sealed (case_form sort inner) (read_case sort inner)

-- CAST "(" expr AS [type] ")"
abbrev cast_form : (sort : Token → Sort) → Inner → Reading sort (Cast Expr)
cast_form sort inner =
    formed
    (λ v. record { cast = v.0.0.0.0; opening = v.0.0.0.1.0; expr = v.0.0.0.1.1; as_word = v.0.0.1; column_type = v.0.1; closing = v.1 })
    (seq (seq (seq (begun (word K.Cast) (begun (sign Opening) (expr inner))) (leaf (word K.As))) (opt_type sort)) (leaf (sign Closing)))

unfoldable pub read_cast : (Token → Sort) → Inner → Read (Cast Expr)
read_cast sort inner = (cast_form sort inner).read

abbrev pub cast : (sort : Token → Sort) → Inner → Reading sort (Cast Expr)
cast sort inner = sealed (cast_form sort inner) (read_cast sort inner)

-- IGNORE | action "," expr
abbrev raise_action_form : (sort : Token → Sort) → Inner → Reading sort (RaiseAction Expr)
raise_action_form sort inner =
    choice (formed (λ t. RaiseAction'.Ignore t) (leaf (word K.Ignore)))
    (formed (λ v. RaiseAction'.Action v.0 v.1) (seq (action sort) (next_expr sort inner)))

unfoldable pub read_raise_action : (Token → Sort) → Inner → Read (RaiseAction Expr)
read_raise_action sort inner = (raise_action_form sort inner).read

abbrev pub raise_action : (sort : Token → Sort) → Inner → Reading sort (RaiseAction Expr)
raise_action sort inner = sealed (raise_action_form sort inner) (read_raise_action sort inner)

-- "(" raise-action ")"
abbrev raise_parens_form : (sort : Token → Sort) → Inner → Reading sort (InParens (RaiseAction Expr))
raise_parens_form sort inner = in_parens (raise_action sort inner)

unfoldable pub read_raise_parens : (Token → Sort) → Inner → Read (InParens (RaiseAction Expr))
read_raise_parens sort inner = (raise_parens_form sort inner).read

abbrev pub raise_parens : (sort : Token → Sort) → Inner → Reading sort (InParens (RaiseAction Expr))
raise_parens sort inner = sealed (raise_parens_form sort inner) (read_raise_parens sort inner)

-- RAISE "(" (IGNORE | action "," expr) ")"
abbrev raise_form : (sort : Token → Sort) → Inner → Reading sort (Raise Expr)
raise_form sort inner = formed (λ v. record { raise = v.0; action = v.1 }) (begun (word K.Raise) (raise_parens sort inner))

unfoldable pub read_raise : (Token → Sort) → Inner → Read (Raise Expr)
read_raise sort inner = (raise_form sort inner).read

abbrev pub raise : (sort : Token → Sort) → Inner → Reading sort (Raise Expr)
raise sort inner = sealed (raise_form sort inner) (read_raise sort inner)
