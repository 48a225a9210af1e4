-- What a tree of each rule spells, in order.
use Rattle.std.specs.Prelude.{◌≡◌, List, [], ◌∷◌, ◌++◌, Option, Some, None}
use Rattle.sql_token.specs.declared.token.Token.{Token}
use Rattle.sql_token.specs.Spelled.{one, maybe, flat}
use Rattle.sql_expr.specs.declared.lists.TokenPair.{TokenPair}
use Rattle.sql_expr.specs.declared.lists.After.{After}
use Rattle.sql_expr.specs.declared.lists.InParens.{InParens}
use Rattle.sql_expr.specs.declared.lists.NextItem.{NextItem}
use Rattle.sql_expr.specs.declared.lists.Commas.{Commas}
use Rattle.sql_expr.specs.declared.lists.By.{By}
use Rattle.sql_expr.specs.declared.names.Object.{Object}
use Rattle.sql_expr.specs.declared.names.Alias.{Alias}
use Rattle.sql_expr.specs.declared.names.ColumnUse.{ColumnUse}
use Rattle.sql_expr.specs.declared.names.ColumnUse.TheVariants as ColumnUse'
use Rattle.sql_expr.specs.declared.names.Signed.{Signed}
use Rattle.sql_expr.specs.declared.names.TypeSize.{TypeSize}
use Rattle.sql_expr.specs.declared.names.ColumnType.{ColumnType}
use Rattle.sql_expr.specs.declared.operators.Literal.{Literal}
use Rattle.sql_expr.specs.declared.operators.Literal.TheVariants as Literal'
use Rattle.sql_expr.specs.declared.operators.Action.{Action}
use Rattle.sql_expr.specs.declared.operators.Action.TheVariants as Action'
use Rattle.sql_expr.specs.declared.operators.Infix.{Infix}
use Rattle.sql_expr.specs.declared.operators.Infix.TheVariants as Infix'
use Rattle.sql_expr.specs.declared.window.Term.{Term}
use Rattle.sql_expr.specs.declared.window.Bound.{Bound}
use Rattle.sql_expr.specs.declared.window.Bound.TheVariants as Bound'
use Rattle.sql_expr.specs.declared.window.FrameExtent.{FrameExtent}
use Rattle.sql_expr.specs.declared.window.FrameExtent.TheVariants as FrameExtent'
use Rattle.sql_expr.specs.declared.window.Excluded.{Excluded}
use Rattle.sql_expr.specs.declared.window.Excluded.TheVariants as Excluded'
use Rattle.sql_expr.specs.declared.window.Frame.{Frame}
use Rattle.sql_expr.specs.declared.window.Window.{Window}
use Rattle.sql_expr.specs.declared.window.NamedWindow.{NamedWindow}
use Rattle.sql_expr.specs.declared.call.CallArguments.{CallArguments}
use Rattle.sql_expr.specs.declared.call.CallArguments.TheVariants as CallArguments'
use Rattle.sql_expr.specs.declared.call.Over.{Over}
use Rattle.sql_expr.specs.declared.call.Over.TheVariants as Over'
use Rattle.sql_expr.specs.declared.call.Call.{Call}
use Rattle.sql_expr.specs.declared.call.When.{When}
use Rattle.sql_expr.specs.declared.call.Case.{Case}
use Rattle.sql_expr.specs.declared.call.Cast.{Cast}
use Rattle.sql_expr.specs.declared.call.RaiseAction.{RaiseAction}
use Rattle.sql_expr.specs.declared.call.RaiseAction.TheVariants as RaiseAction'
use Rattle.sql_expr.specs.declared.call.Raise.{Raise}
use Rattle.sql_expr.specs.declared.source.JoinKind.{JoinKind}
use Rattle.sql_expr.specs.declared.source.JoinKind.TheVariants as JoinKind'
use Rattle.sql_expr.specs.declared.source.Join.{Join}
use Rattle.sql_expr.specs.declared.source.Join.TheVariants as Join'
use Rattle.sql_expr.specs.declared.source.JoinConstraint.{JoinConstraint}
use Rattle.sql_expr.specs.declared.source.JoinConstraint.TheVariants as JoinConstraint'
use Rattle.sql_expr.specs.declared.source.Indexing.{Indexing}
use Rattle.sql_expr.specs.declared.source.Indexing.TheVariants as Indexing'
use Rattle.sql_expr.specs.declared.select.Materialized.{Materialized}
use Rattle.sql_expr.specs.declared.select.Cte.{Cte}
use Rattle.sql_expr.specs.declared.select.With.{With}
use Rattle.sql_expr.specs.declared.select.Compound.{Compound}
use Rattle.sql_expr.specs.declared.select.Compound.TheVariants as Compound'
use Rattle.sql_expr.specs.declared.select.Limit.{Limit}
use Rattle.sql_expr.specs.declared.select.ResultItem.{ResultItem}
use Rattle.sql_expr.specs.declared.select.ResultItem.TheVariants as ResultItem'
use Rattle.sql_expr.specs.declared.select.ValuesRow.{ValuesRow}

-- a front of what is spelled was added to the old list, which gives the new one
pub record AddsFront (spelled old new : List Token) : Type 0 where
  pub front : List Token
  pub rest : List Token
  pub parts : spelled ≡ front ++ rest
  pub added : new ≡ old ++ front

-- Two fixed words, or a name and a dot.
abbrev pub token_pair_tokens : TokenPair → List Token
token_pair_tokens x = one x.first ++ one x.second

-- A fixed word, or a sign, and what stands behind it: WORD part.
abbrev pub after_tokens : {T : Type 0} → (T → List Token) → After T → List Token
after_tokens f x = one x.word ++ f x.part

-- "(" inner ")"
abbrev pub in_parens_tokens : {T : Type 0} → (T → List Token) → InParens T → List Token
in_parens_tokens f x = one x.opening ++ f x.inner ++ one x.closing

-- "," item
abbrev pub next_item_tokens : {T : Type 0} → (T → List Token) → NextItem T → List Token
next_item_tokens f x = one x.comma ++ f x.item

-- A list with commas: item {"," item}.
abbrev pub commas_tokens : {T : Type 0} → (T → List Token) → Commas T → List Token
commas_tokens f x = f x.first ++ flat (next_item_tokens f) x.more

-- A word, BY and a list: (ORDER | GROUP | PARTITION) BY items.
abbrev pub by_tokens : {T : Type 0} → (T → List Token) → By T → List Token
by_tokens f x = one x.word ++ one x.by ++ commas_tokens f x.items

-- [name "."] name
abbrev pub object_tokens : Object → List Token
object_tokens x = maybe token_pair_tokens x.qualifier ++ one x.name

-- [AS] alias
abbrev pub alias_tokens : Alias → List Token
alias_tokens x = maybe one x.as_word ++ one x.name

-- name | name "." name | name "." name "." name
abbrev pub column_use_tokens : ColumnUse → List Token
column_use_tokens (ColumnUse'.One part) = one part
column_use_tokens (ColumnUse'.Two table dot column) = one table ++ one dot ++ one column
column_use_tokens (ColumnUse'.Three schema first_dot table second_dot column) =
    one schema ++ one first_dot ++ one table ++ one second_dot ++ one column

-- ["+"|"-"] number
abbrev pub signed_tokens : Signed → List Token
signed_tokens x = maybe one x.sign ++ one x.number

-- What stands in a type's parentheses: signed ["," signed].
abbrev pub type_size_tokens : TypeSize → List Token
type_size_tokens x = signed_tokens x.first ++ maybe (next_item_tokens signed_tokens) x.second

-- type-name {type-name} ["(" signed ["," signed] ")"]
abbrev pub column_type_tokens : ColumnType → List Token
column_type_tokens x = one x.first ++ flat one x.more ++ maybe (in_parens_tokens type_size_tokens) x.size

-- number | string | blob | NULL | CURRENT_DATE | CURRENT_TIME | CURRENT_TIMESTAMP
abbrev pub literal_tokens : Literal → List Token
literal_tokens (Literal'.Number part) = one part
literal_tokens (Literal'.Str part) = one part
literal_tokens (Literal'.Blob part) = one part
literal_tokens (Literal'.Null part) = one part
literal_tokens (Literal'.CurrentDate part) = one part
literal_tokens (Literal'.CurrentTime part) = one part
literal_tokens (Literal'.CurrentTimestamp part) = one part

-- ROLLBACK | ABORT | FAIL
abbrev pub action_tokens : Action → List Token
action_tokens (Action'.Rollback part) = one part
action_tokens (Action'.Abort part) = one part
action_tokens (Action'.Fail part) = one part

-- An operator sign other than ~, or AND | OR | IS [NOT] [DISTINCT FROM] | ESCAPE | [NOT] (BETWEEN | LIKE | GLOB |
-- REGEXP | MATCH).
abbrev pub infix_tokens : Infix → List Token
infix_tokens (Infix'.Sign part) = one part
infix_tokens (Infix'.And part) = one part
infix_tokens (Infix'.Or part) = one part
infix_tokens (Infix'.Is is not distinct_from) = one is ++ maybe one not ++ maybe token_pair_tokens distinct_from
infix_tokens (Infix'.Escape part) = one part
infix_tokens (Infix'.Compares not word) = maybe one not ++ one word

-- expr [ASC|DESC] [NULLS (FIRST|LAST)]
abbrev pub term_tokens : {E : Type 0} → (E → List Token) → Term E → List Token
term_tokens f x = f x.expr ++ maybe one x.direction ++ maybe token_pair_tokens x.nulls

-- UNBOUNDED (PRECEDING|FOLLOWING) | CURRENT ROW | expr (PRECEDING|FOLLOWING)
abbrev pub bound_tokens : {E : Type 0} → (E → List Token) → Bound E → List Token
bound_tokens f (Bound'.Unbounded unbounded way) = one unbounded ++ one way
bound_tokens f (Bound'.CurrentRow current row) = one current ++ one row
bound_tokens f (Bound'.Expr expr way) = f expr ++ one way

-- bound | BETWEEN bound AND bound
abbrev pub frame_extent_tokens : {E : Type 0} → (E → List Token) → FrameExtent E → List Token
frame_extent_tokens f (FrameExtent'.From part) = bound_tokens f part
frame_extent_tokens f (FrameExtent'.Between between start and end) =
    one between ++ bound_tokens f start ++ one and ++ bound_tokens f end

-- NO OTHERS | CURRENT ROW | GROUP | TIES
abbrev pub excluded_tokens : Excluded → List Token
excluded_tokens (Excluded'.NoOthers no_word others) = one no_word ++ one others
excluded_tokens (Excluded'.CurrentRow current row) = one current ++ one row
excluded_tokens (Excluded'.Group part) = one part
excluded_tokens (Excluded'.Ties part) = one part

-- (RANGE|ROWS|GROUPS) extent [EXCLUDE excluded]
abbrev pub frame_tokens : {E : Type 0} → (E → List Token) → Frame E → List Token
frame_tokens f x = one x.unit ++ frame_extent_tokens f x.extent ++ maybe (after_tokens excluded_tokens) x.exclude

-- "(" [name] [PARTITION BY exprs] [ORDER BY terms] [frame] ")"
abbrev pub window_tokens : {E : Type 0} → (E → List Token) → Window E → List Token
window_tokens f x =
    one x.opening ++ maybe one x.base ++ maybe (by_tokens f) x.partition ++ maybe (by_tokens (term_tokens f)) x.order
    ++ maybe (frame_tokens f) x.frame ++ one x.closing

-- name AS window
abbrev pub named_window_tokens : {E : Type 0} → (E → List Token) → NamedWindow E → List Token
named_window_tokens f x = one x.name ++ one x.as_word ++ window_tokens f x.window

-- "*" | [DISTINCT] exprs [ORDER BY terms]
abbrev pub call_arguments_tokens : {E : Type 0} → (E → List Token) → CallArguments E → List Token
call_arguments_tokens f (CallArguments'.Star part) = one part
call_arguments_tokens f (CallArguments'.Exprs distinct exprs order) =
    maybe one distinct ++ commas_tokens f exprs ++ maybe (by_tokens (term_tokens f)) order

-- OVER (name | window)
abbrev pub over_tokens : {E : Type 0} → (E → List Token) → Over E → List Token
over_tokens f (Over'.Name over name) = one over ++ one name
over_tokens f (Over'.Window over window) = one over ++ window_tokens f window

-- name "(" [arguments] ")" [FILTER "(" WHERE expr ")"] [OVER (name | window)]
abbrev pub call_tokens : {E : Type 0} → (E → List Token) → Call E → List Token
call_tokens f x =
    one x.name ++ in_parens_tokens (maybe (call_arguments_tokens f)) x.arguments
    ++ maybe (after_tokens (in_parens_tokens (after_tokens f))) x.filter ++ maybe (over_tokens f) x.over

-- WHEN expr THEN expr
abbrev pub when_tokens : {E : Type 0} → (E → List Token) → When E → List Token
when_tokens f x = one x.when ++ f x.condition ++ one x.then_word ++ f x.result

-- CASE [expr] when {when} [ELSE expr] END
abbrev pub case_tokens : {E : Type 0} → (E → List Token) → Case E → List Token
case_tokens f x =
    one x.case ++ maybe f x.subject ++ when_tokens f x.first ++ flat (when_tokens f) x.more
    ++ maybe (after_tokens f) x.otherwise ++ one x.end

-- CAST "(" expr AS [type] ")"
abbrev pub cast_tokens : {E : Type 0} → (E → List Token) → Cast E → List Token
cast_tokens f x =
    one x.cast ++ one x.opening ++ f x.expr ++ one x.as_word ++ maybe column_type_tokens x.column_type ++ one x.closing

-- IGNORE | action "," expr
abbrev pub raise_action_tokens : {E : Type 0} → (E → List Token) → RaiseAction E → List Token
raise_action_tokens f (RaiseAction'.Ignore part) = one part
raise_action_tokens f (RaiseAction'.Action action message) = action_tokens action ++ next_item_tokens f message

-- RAISE "(" (IGNORE | action "," expr) ")"
abbrev pub raise_tokens : {E : Type 0} → (E → List Token) → Raise E → List Token
raise_tokens f x = one x.raise ++ in_parens_tokens (raise_action_tokens f) x.action

-- (LEFT|RIGHT|FULL) [OUTER] | INNER | CROSS
abbrev pub join_kind_tokens : JoinKind → List Token
join_kind_tokens (JoinKind'.Outer side outer) = one side ++ maybe one outer
join_kind_tokens (JoinKind'.Inner part) = one part
join_kind_tokens (JoinKind'.Cross part) = one part

-- "," | [NATURAL] [(LEFT|RIGHT|FULL) [OUTER] | INNER | CROSS] JOIN
abbrev pub join_tokens : Join → List Token
join_tokens (Join'.Comma part) = one part
join_tokens (Join'.Join natural kind join) = maybe one natural ++ maybe join_kind_tokens kind ++ one join

-- ON expr | USING "(" names ")"
abbrev pub join_constraint_tokens : {E : Type 0} → (E → List Token) → JoinConstraint E → List Token
join_constraint_tokens f (JoinConstraint'.On part) = after_tokens f part
join_constraint_tokens f (JoinConstraint'.Using using names) = one using ++ in_parens_tokens (commas_tokens one) names

-- INDEXED BY name | NOT INDEXED
abbrev pub indexing_tokens : Indexing → List Token
indexing_tokens (Indexing'.By indexed by name) = one indexed ++ one by ++ one name
indexing_tokens (Indexing'.Not not indexed) = one not ++ one indexed

-- [NOT] MATERIALIZED
abbrev pub materialized_tokens : Materialized → List Token
materialized_tokens x = maybe one x.not ++ one x.materialized

-- name ["(" names ")"] AS [[NOT] MATERIALIZED] "(" select ")"
abbrev pub cte_tokens : {S : Type 0} → (S → List Token) → Cte S → List Token
cte_tokens f x =
    one x.name ++ maybe (in_parens_tokens (commas_tokens one)) x.columns ++ one x.as_word
    ++ maybe materialized_tokens x.materialized ++ in_parens_tokens f x.select

-- WITH [RECURSIVE] ctes
abbrev pub with_tokens : {S : Type 0} → (S → List Token) → With S → List Token
with_tokens f x = one x.with_word ++ maybe one x.recursive ++ commas_tokens (cte_tokens f) x.ctes

-- UNION [ALL] | EXCEPT | INTERSECT
abbrev pub compound_tokens : Compound → List Token
compound_tokens (Compound'.Union union all) = one union ++ maybe one all
compound_tokens (Compound'.Except part) = one part
compound_tokens (Compound'.Intersect part) = one part

-- LIMIT expr [(OFFSET | ",") expr]
abbrev pub limit_tokens : {E : Type 0} → (E → List Token) → Limit E → List Token
limit_tokens f x = one x.limit ++ f x.count ++ maybe (after_tokens f) x.second

-- "*" | name "." "*" | expr [[AS] alias]
abbrev pub result_item_tokens : {E : Type 0} → (E → List Token) → ResultItem E → List Token
result_item_tokens f (ResultItem'.Star part) = one part
result_item_tokens f (ResultItem'.AllOf name dot star) = one name ++ one dot ++ one star
result_item_tokens f (ResultItem'.Expr expr alias) = f expr ++ maybe alias_tokens alias

-- "(" exprs ")"
abbrev pub values_row_tokens : {E : Type 0} → (E → List Token) → ValuesRow E → List Token
values_row_tokens f x = in_parens_tokens (commas_tokens f) x.exprs
