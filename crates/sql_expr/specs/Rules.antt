-- What a tree of each rule may hold. `inside` says what the trees inside it are asked.
use Rattle.std.specs.Prelude.{◌≡◌, ◌⊎◌, ℕ, zero, suc, List, [], ◌∷◌, Option, None, IfSome, IfNone, codes}
use Rattle.std.specs.List.{AllByRecursion}
use Rattle.sql_token.specs.declared.token.Token.{Token}
use Rattle.sql_token.specs.declared.token.TokenKind.TheVariants as Kind
use Rattle.sql_token.specs.declared.keyword.Keyword.{Keyword}
use Rattle.sql_token.specs.declared.keyword.Keyword.TheVariants as K
use Rattle.sql_token.specs.Form.{IsNumberKind}
use Rattle.sql_token.specs.Fixed.{IsFixed, IsSign, IsName}
use Rattle.sql_expr.specs.Leaf.{IsOneOf, IsNoneOf, AreFixed, IsOperatorSign, IsBareAlias, IsTypeName, IsFreeOfGenerated, IsOperandName, IsColumnName, BeginsWithout}
use Rattle.sql_expr.specs.Tokens.{commas_tokens}
use Rattle.sql_expr.specs.Tree.{expr_tokens, part_tokens, select_tokens, sources_tokens}
use Rattle.sql_expr.specs.Levels.{OpenInSet, OpenOperand, OpenPostfix, OpenArm, OpenTableSource, OpenSelectArm}
use Rattle.sql_expr.specs.declared.lists.After.{After}
use Rattle.sql_expr.specs.declared.lists.InParens.{InParens}
use Rattle.sql_expr.specs.declared.lists.Commas.{Commas}
use Rattle.sql_expr.specs.declared.lists.By.{By}
use Rattle.sql_expr.specs.declared.names.Object.{Object}
use Rattle.sql_expr.specs.declared.names.Alias.{Alias}
use Rattle.sql_expr.specs.declared.names.ColumnUse.{ColumnUse}
use Rattle.sql_expr.specs.declared.names.ColumnUse.TheVariants as ColumnUse'
use Rattle.sql_expr.specs.declared.names.Signed.{Signed}
use Rattle.sql_expr.specs.declared.names.TypeSize.{TypeSize}
use Rattle.sql_expr.specs.declared.names.ColumnType.{ColumnType}
use Rattle.sql_expr.specs.declared.operators.Literal.{Literal}
use Rattle.sql_expr.specs.declared.operators.Literal.TheVariants as Literal'
use Rattle.sql_expr.specs.declared.operators.Action.{Action}
use Rattle.sql_expr.specs.declared.operators.Action.TheVariants as Action'
use Rattle.sql_expr.specs.declared.operators.Infix.{Infix}
use Rattle.sql_expr.specs.declared.operators.Infix.TheVariants as Infix'
use Rattle.sql_expr.specs.declared.window.Term.{Term}
use Rattle.sql_expr.specs.declared.window.Bound.{Bound}
use Rattle.sql_expr.specs.declared.window.Bound.TheVariants as Bound'
use Rattle.sql_expr.specs.declared.window.FrameExtent.{FrameExtent}
use Rattle.sql_expr.specs.declared.window.FrameExtent.TheVariants as FrameExtent'
use Rattle.sql_expr.specs.declared.window.Excluded.{Excluded}
use Rattle.sql_expr.specs.declared.window.Excluded.TheVariants as Excluded'
use Rattle.sql_expr.specs.declared.window.Frame.{Frame}
use Rattle.sql_expr.specs.declared.window.Window.{Window}
use Rattle.sql_expr.specs.declared.window.NamedWindow.{NamedWindow}
use Rattle.sql_expr.specs.declared.call.CallArguments.{CallArguments}
use Rattle.sql_expr.specs.declared.call.CallArguments.TheVariants as CallArguments'
use Rattle.sql_expr.specs.declared.call.Over.{Over}
use Rattle.sql_expr.specs.declared.call.Over.TheVariants as Over'
use Rattle.sql_expr.specs.declared.call.Call.{Call}
use Rattle.sql_expr.specs.declared.call.When.{When}
use Rattle.sql_expr.specs.declared.call.Case.{Case}
use Rattle.sql_expr.specs.declared.call.Cast.{Cast}
use Rattle.sql_expr.specs.declared.call.RaiseAction.{RaiseAction}
use Rattle.sql_expr.specs.declared.call.RaiseAction.TheVariants as RaiseAction'
use Rattle.sql_expr.specs.declared.call.Raise.{Raise}
use Rattle.sql_expr.specs.declared.expr.Expr.{Expr, out-Expr}
use Rattle.sql_expr.specs.declared.expr.InfixPart.{InfixPart, out-InfixPart}
use Rattle.sql_expr.specs.declared.expr.Part.{Part, out-Part}
use Rattle.sql_expr.specs.declared.expr.Postfix.{out-Postfix}
use Rattle.sql_expr.specs.declared.expr.InSet.{out-InSet}
use Rattle.sql_expr.specs.declared.expr.Operand.{out-Operand}
use Rattle.sql_expr.specs.declared.source.JoinKind.{JoinKind}
use Rattle.sql_expr.specs.declared.source.JoinKind.TheVariants as JoinKind'
use Rattle.sql_expr.specs.declared.source.Join.{Join}
use Rattle.sql_expr.specs.declared.source.Join.TheVariants as Join'
use Rattle.sql_expr.specs.declared.source.JoinConstraint.{JoinConstraint}
use Rattle.sql_expr.specs.declared.source.JoinConstraint.TheVariants as JoinConstraint'
use Rattle.sql_expr.specs.declared.source.Indexing.{Indexing}
use Rattle.sql_expr.specs.declared.source.Indexing.TheVariants as Indexing'
use Rattle.sql_expr.specs.declared.source.Sources.{Sources, out-Sources}
use Rattle.sql_expr.specs.declared.source.JoinedSource.{JoinedSource, out-JoinedSource}
use Rattle.sql_expr.specs.declared.source.TableSource.{out-TableSource}
use Rattle.sql_expr.specs.declared.select.Materialized.{Materialized}
use Rattle.sql_expr.specs.declared.select.Cte.{Cte}
use Rattle.sql_expr.specs.declared.select.With.{With}
use Rattle.sql_expr.specs.declared.select.Compound.{Compound}
use Rattle.sql_expr.specs.declared.select.Compound.TheVariants as Compound'
use Rattle.sql_expr.specs.declared.select.Limit.{Limit}
use Rattle.sql_expr.specs.declared.select.ResultItem.{ResultItem}
use Rattle.sql_expr.specs.declared.select.ResultItem.TheVariants as ResultItem'
use Rattle.sql_expr.specs.declared.select.ValuesRow.{ValuesRow}
use Rattle.sql_expr.specs.declared.select.SelectArm.{out-SelectArm}
use Rattle.sql_expr.specs.declared.select.Arm.{out-Arm}
use Rattle.sql_expr.specs.declared.select.CompoundArm.{CompoundArm, out-CompoundArm}
use Rattle.sql_expr.specs.declared.select.Select.{Select, out-Select}
use Rattle.sql_expr.specs.declared.expr.InSet.TheOpen.{InSet-F, Operand-F, Postfix-F, Arm-F, TableSource-F}

-- What is asked of the trees that stand inside a tree, and of a column's name that stands alone.
pub record Inside : Type 1 where
  pub column : Token → Type 0
  pub expr : Expr → Type 0
  pub select : Select → Type 0
  pub sources : Sources → Type 0

-- "(" inner ")"
abbrev pub IsInParens : {A : Type 0} → List ℕ → (A → Type 0) → InParens A → Type 0
IsInParens text P x = IsSign text (codes "(") x.opening × P x.inner × IsSign text (codes ")") x.closing

-- item {"," item}
abbrev pub AreCommas : {A : Type 0} → List ℕ → (A → Type 0) → Commas A → Type 0
AreCommas text P x = P x.first × AllByRecursion (λ next. IsSign text (codes ",") next.comma × P next.item) x.more

-- WORD part
abbrev pub IsAfter : {A : Type 0} → List ℕ → Keyword → (A → Type 0) → After A → Type 0
IsAfter text keyword P x = IsFixed text keyword x.word × P x.part

-- WORD BY items
abbrev pub IsBy : {A : Type 0} → List ℕ → Keyword → (A → Type 0) → By A → Type 0
IsBy text keyword P x = IsFixed text keyword x.word × IsFixed text K.By x.by × AreCommas text P x.items

-- "(" names ")"
abbrev pub AreNames : List ℕ → InParens (Commas Token) → Type 0
AreNames text x = IsInParens text (AreCommas text (IsName text)) x

-- [name "."] name
abbrev pub IsObject : List ℕ → Object → Type 0
IsObject text x =
    IfSome x.qualifier (λ pair. IsName text pair.first × IsSign text (codes ".") pair.second) × IsName text x.name

-- [AS] alias
abbrev pub IsAlias : List ℕ → Alias → Type 0
IsAlias text x = IfSome x.as_word (IsFixed text K.As) × IsName text x.name × IfNone x.as_word (IsBareAlias text x.name)

-- name | name "." name | name "." name "." name
abbrev pub IsColumnUse : List ℕ → Inside → ColumnUse → Type 0
IsColumnUse text inside (ColumnUse'.One name) = inside.column name
IsColumnUse text inside (ColumnUse'.Two table dot column) =
    IsOperandName text table × IsSign text (codes ".") dot × IsName text column
IsColumnUse text inside (ColumnUse'.Three schema first_dot table second_dot column) =
    IsOperandName text schema × IsSign text (codes ".") first_dot × IsName text table × IsSign text (codes ".") second_dot
    × IsName text column

-- ["+"|"-"] number
abbrev pub IsSigned : List ℕ → Signed → Type 0
IsSigned text x = IfSome x.sign (λ t. IsSign text (codes "+") t ⊎ IsSign text (codes "-") t) × IsNumberKind x.number.kind

-- signed ["," signed]
abbrev pub IsTypeSize : List ℕ → TypeSize → Type 0
IsTypeSize text x =
    IsSigned text x.first × IfSome x.second (λ next. IsSign text (codes ",") next.comma × IsSigned text next.item)

-- type-name {type-name} ["(" signed ["," signed] ")"]
abbrev pub IsColumnType : List ℕ → ColumnType → Type 0
IsColumnType text x =
    IsTypeName text x.first × AllByRecursion (IsTypeName text) x.more × IfSome x.size (IsInParens text (IsTypeSize text))
    × IsFreeOfGenerated text (x.first ∷ x.more)

-- number | string | blob | NULL | CURRENT_DATE | CURRENT_TIME | CURRENT_TIMESTAMP
abbrev pub IsLiteral : List ℕ → Literal → Type 0
IsLiteral text (Literal'.Number t) = IsNumberKind t.kind
IsLiteral text (Literal'.Str t) = t.kind ≡ Kind.Str
IsLiteral text (Literal'.Blob t) = t.kind ≡ Kind.Blob
IsLiteral text (Literal'.Null t) = IsFixed text K.Null t
IsLiteral text (Literal'.CurrentDate t) = IsFixed text K.CurrentDate t
IsLiteral text (Literal'.CurrentTime t) = IsFixed text K.CurrentTime t
IsLiteral text (Literal'.CurrentTimestamp t) = IsFixed text K.CurrentTimestamp t

-- ROLLBACK | ABORT | FAIL
abbrev pub IsAction : List ℕ → Action → Type 0
IsAction text (Action'.Rollback t) = IsFixed text K.Rollback t
IsAction text (Action'.Abort t) = IsFixed text K.Abort t
IsAction text (Action'.Fail t) = IsFixed text K.Fail t

-- an operator sign other than "~" | AND | OR | IS [NOT] [DISTINCT FROM] | ESCAPE | [NOT] (BETWEEN | LIKE | GLOB |
-- REGEXP | MATCH)
abbrev pub IsInfix : List ℕ → Infix → Type 0
IsInfix text (Infix'.Sign t) = IsOperatorSign text t × (IsSign text (codes "~") t → ⊥)
IsInfix text (Infix'.And t) = IsFixed text K.And t
IsInfix text (Infix'.Or t) = IsFixed text K.Or t
IsInfix text (Infix'.Is is not distinct_from) =
    IsFixed text K.Is is × IfSome not (IsFixed text K.Not) × IfSome distinct_from (AreFixed text K.Distinct K.From)
IsInfix text (Infix'.Escape t) = IsFixed text K.Escape t
IsInfix text (Infix'.Compares not word) =
    IfSome not (IsFixed text K.Not) × IsOneOf text (K.Between ∷ K.Like ∷ K.Glob ∷ K.Regexp ∷ K.Match ∷ []) word

-- NOT directly behind IS belongs to IS: what follows a bare IS does not begin with NOT
abbrev pub LeavesNot : List ℕ → Infix → List Token → Type 0
LeavesNot text (Infix'.Is is None None) tokens = BeginsWithout text (K.Not ∷ []) tokens
LeavesNot text _ tokens = Unit {0}

-- expr [ASC|DESC] [NULLS (FIRST|LAST)]
abbrev pub IsTerm : List ℕ → Inside → Term Expr → Type 0
IsTerm text inside x =
    inside.expr x.expr × IfSome x.direction (IsOneOf text (K.Asc ∷ K.Desc ∷ []))
    × IfSome x.nulls (λ pair. IsFixed text K.Nulls pair.first × IsOneOf text (K.First ∷ K.Last ∷ []) pair.second)

-- UNBOUNDED (PRECEDING|FOLLOWING) | CURRENT ROW | expr (PRECEDING|FOLLOWING)
abbrev pub IsBound : List ℕ → Inside → Bound Expr → Type 0
IsBound text inside (Bound'.Unbounded unbounded way) =
    IsFixed text K.Unbounded unbounded × IsOneOf text (K.Preceding ∷ K.Following ∷ []) way
IsBound text inside (Bound'.CurrentRow current row) = IsFixed text K.Current current × IsFixed text K.Row row
IsBound text inside (Bound'.Expr expr way) =
    inside.expr expr × BeginsWithout text (K.Unbounded ∷ K.Current ∷ []) (expr_tokens expr)
    × IsOneOf text (K.Preceding ∷ K.Following ∷ []) way

-- bound | BETWEEN bound AND bound
abbrev pub IsFrameExtent : List ℕ → Inside → FrameExtent Expr → Type 0
IsFrameExtent text inside (FrameExtent'.From bound) = IsBound text inside bound
IsFrameExtent text inside (FrameExtent'.Between between start and end) =
    IsFixed text K.Between between × IsBound text inside start × IsFixed text K.And and × IsBound text inside end

-- NO OTHERS | CURRENT ROW | GROUP | TIES
abbrev pub IsExcluded : List ℕ → Excluded → Type 0
IsExcluded text (Excluded'.NoOthers no_word others) = IsFixed text K.No no_word × IsFixed text K.Others others
IsExcluded text (Excluded'.CurrentRow current row) = IsFixed text K.Current current × IsFixed text K.Row row
IsExcluded text (Excluded'.Group t) = IsFixed text K.Group t
IsExcluded text (Excluded'.Ties t) = IsFixed text K.Ties t

-- (RANGE|ROWS|GROUPS) extent [EXCLUDE excluded]
abbrev pub IsFrame : List ℕ → Inside → Frame Expr → Type 0
IsFrame text inside x =
    IsOneOf text (K.Range ∷ K.Rows ∷ K.Groups ∷ []) x.unit × IsFrameExtent text inside x.extent
    × IfSome x.exclude (IsAfter text K.Exclude (IsExcluded text))

-- "(" [name] [PARTITION BY exprs] [ORDER BY terms] [frame] ")"
abbrev pub IsWindow : List ℕ → Inside → Window Expr → Type 0
IsWindow text inside x =
    IsSign text (codes "(") x.opening
    × IfSome x.base (λ t. IsName text t × IsNoneOf text (K.Partition ∷ K.Range ∷ K.Rows ∷ K.Groups ∷ []) t)
    × IfSome x.partition (IsBy text K.Partition inside.expr) × IfSome x.order (IsBy text K.Order (IsTerm text inside))
    × IfSome x.frame (IsFrame text inside) × IsSign text (codes ")") x.closing

-- name AS window
abbrev pub IsNamedWindow : List ℕ → Inside → NamedWindow Expr → Type 0
IsNamedWindow text inside x = IsName text x.name × IsFixed text K.As x.as_word × IsWindow text inside x.window

-- "*" | [DISTINCT] exprs [ORDER BY terms]
abbrev pub IsCallArguments : List ℕ → Inside → CallArguments Expr → Type 0
IsCallArguments text inside (CallArguments'.Star t) = IsSign text (codes "*") t
IsCallArguments text inside (CallArguments'.Exprs distinct exprs order) =
    IfSome distinct (IsFixed text K.Distinct) × AreCommas text inside.expr exprs
    × IfSome order (IsBy text K.Order (IsTerm text inside))

-- OVER (name | window)
abbrev pub IsOver : List ℕ → Inside → Over Expr → Type 0
IsOver text inside (Over'.Name over name) = IsFixed text K.Over over × IsName text name
IsOver text inside (Over'.Window over window) = IsFixed text K.Over over × IsWindow text inside window

-- name "(" [arguments] ")" [FILTER "(" WHERE expr ")"] [OVER (name | window)]
abbrev pub IsCall : List ℕ → Inside → Call Expr → Type 0
IsCall text inside x =
    IsOperandName text x.name × IsInParens text (λ inner. IfSome inner (IsCallArguments text inside)) x.arguments
    × IfSome x.filter (IsAfter text K.Filter (IsInParens text (IsAfter text K.Where inside.expr)))
    × IfSome x.over (IsOver text inside)

-- WHEN expr THEN expr
abbrev pub IsWhen : List ℕ → Inside → When Expr → Type 0
IsWhen text inside x =
    IsFixed text K.When x.when × inside.expr x.condition × IsFixed text K.Then x.then_word × inside.expr x.result

-- CASE [expr] when {when} [ELSE expr] END
abbrev pub IsCase : List ℕ → Inside → Case Expr → Type 0
IsCase text inside x =
    IsFixed text K.Case x.case × IfSome x.subject inside.expr × IsWhen text inside x.first
    × AllByRecursion (IsWhen text inside) x.more
    × IfSome x.otherwise (IsAfter text K.Else inside.expr) × IsFixed text K.End x.end

-- CAST "(" expr AS [type] ")"
abbrev pub IsCast : List ℕ → Inside → Cast Expr → Type 0
IsCast text inside x =
    IsFixed text K.Cast x.cast × IsSign text (codes "(") x.opening × inside.expr x.expr × IsFixed text K.As x.as_word
    × IfSome x.column_type (IsColumnType text) × IsSign text (codes ")") x.closing

-- IGNORE | action "," expr
abbrev pub IsRaiseAction : List ℕ → Inside → RaiseAction Expr → Type 0
IsRaiseAction text inside (RaiseAction'.Ignore t) = IsFixed text K.Ignore t
IsRaiseAction text inside (RaiseAction'.Action action message) =
    IsAction text action × IsSign text (codes ",") message.comma × inside.expr message.item

-- RAISE "(" (IGNORE | action "," expr) ")"
abbrev pub IsRaise : List ℕ → Inside → Raise Expr → Type 0
IsRaise text inside x = IsFixed text K.Raise x.raise × IsInParens text (IsRaiseAction text inside) x.action

-- "(" exprs ")", where a select would begin with WITH
abbrev pub IsRow : List ℕ → Inside → Commas Expr → Type 0
IsRow text inside x = AreCommas text inside.expr x × BeginsWithout text (K.With ∷ []) (commas_tokens expr_tokens x)

-- "(" [exprs] ")" of a function
abbrev pub AreArguments : List ℕ → Inside → InParens (Option (Commas Expr)) → Type 0
AreArguments text inside x = IsInParens text (λ inner. IfSome inner (AreCommas text inside.expr)) x

-- "(" [exprs] ")" | "(" select ")" | object | name "(" [exprs] ")"
abbrev pub IsInSet : List ℕ → Inside → OpenInSet → Type 0
IsInSet text inside (InSet-F.List x) = IsInParens text (λ inner. IfSome inner (IsRow text inside)) x
IsInSet text inside (InSet-F.Query x) = IsInParens text inside.select x
IsInSet text inside (InSet-F.Object x) = IsObject text x
IsInSet text inside (InSet-F.Function name arguments) = IsName text name × AreArguments text inside arguments

-- literal | column-use | call | "(" exprs ")" | [EXISTS] "(" select ")" | CASE .. | CAST .. | RAISE ..
abbrev pub IsOperand : List ℕ → Inside → OpenOperand → Type 0
IsOperand text inside (Operand-F.Literal x) = IsLiteral text x
IsOperand text inside (Operand-F.Column x) = IsColumnUse text inside x
IsOperand text inside (Operand-F.Call x) = IsCall text inside x
IsOperand text inside (Operand-F.Exprs x) = IsInParens text (IsRow text inside) x
IsOperand text inside (Operand-F.Subquery exists select) =
    IfSome exists (IsFixed text K.Exists) × IsInParens text inside.select select
IsOperand text inside (Operand-F.Case x) = IsCase text inside x
IsOperand text inside (Operand-F.Cast x) = IsCast text inside x
IsOperand text inside (Operand-F.Raise x) = IsRaise text inside x

-- COLLATE name | ISNULL | NOTNULL | NOT NULL | [NOT] IN set
abbrev pub IsPostfix : List ℕ → Inside → OpenPostfix → Type 0
IsPostfix text inside (Postfix-F.Collate collate name) = IsFixed text K.Collate collate × IsName text name
IsPostfix text inside (Postfix-F.IsNull t) = IsFixed text K.IsNull t
IsPostfix text inside (Postfix-F.NotNull t) = IsFixed text K.NotNull t
IsPostfix text inside (Postfix-F.NotNullWords not null) = IsFixed text K.Not not × IsFixed text K.Null null
IsPostfix text inside (Postfix-F.In not in_word set) =
    IfSome not (IsFixed text K.Not) × IsFixed text K.In in_word × IsInSet text inside (out-InSet set)

-- "-" | "+" | "~" | NOT
abbrev pub IsPrefix : List ℕ → Token → Type 0
IsPrefix text t =
    IsSign text (codes "-") t ⊎ (IsSign text (codes "+") t ⊎ (IsSign text (codes "~") t ⊎ IsFixed text K.Not t))

-- {"-" | "+" | "~" | NOT} operand {postfix}
abbrev pub IsPart : List ℕ → Inside → Part → Type 0
IsPart text inside x =
    AllByRecursion (IsPrefix text) (out-Part x).prefixes × IsOperand text inside (out-Operand (out-Part x).operand)
    × AllByRecursion (λ postfix. IsPostfix text inside (out-Postfix postfix)) (out-Part x).postfixes

-- infix part
abbrev pub IsInfixPart : List ℕ → Inside → InfixPart → Type 0
IsInfixPart text inside x =
    IsInfix text (out-InfixPart x).operator × IsPart text inside (out-InfixPart x).part
    × LeavesNot text (out-InfixPart x).operator (part_tokens (out-InfixPart x).part)

-- part {infix part}
abbrev pub IsExpr : List ℕ → Inside → Expr → Type 0
IsExpr text inside x = IsPart text inside (out-Expr x).first × AllByRecursion (IsInfixPart text inside) (out-Expr x).more

-- (LEFT|RIGHT|FULL) [OUTER] | INNER | CROSS
abbrev pub IsJoinKind : List ℕ → JoinKind → Type 0
IsJoinKind text (JoinKind'.Outer side outer) =
    IsOneOf text (K.Left ∷ K.Right ∷ K.Full ∷ []) side × IfSome outer (IsFixed text K.Outer)
IsJoinKind text (JoinKind'.Inner t) = IsFixed text K.Inner t
IsJoinKind text (JoinKind'.Cross t) = IsFixed text K.Cross t

-- "," | [NATURAL] [kind] JOIN
abbrev pub IsJoin : List ℕ → Join → Type 0
IsJoin text (Join'.Comma t) = IsSign text (codes ",") t
IsJoin text (Join'.Join natural kind join) =
    IfSome natural (IsFixed text K.Natural) × IfSome kind (IsJoinKind text) × IsFixed text K.Join join

-- ON expr | USING "(" names ")"
abbrev pub IsJoinConstraint : List ℕ → Inside → JoinConstraint Expr → Type 0
IsJoinConstraint text inside (JoinConstraint'.On x) = IsAfter text K.On inside.expr x
IsJoinConstraint text inside (JoinConstraint'.Using using names) = IsFixed text K.Using using × AreNames text names

-- INDEXED BY name | NOT INDEXED
abbrev pub IsIndexing : List ℕ → Indexing → Type 0
IsIndexing text (Indexing'.By indexed by name) = IsFixed text K.Indexed indexed × IsFixed text K.By by × IsName text name
IsIndexing text (Indexing'.Not not indexed) = IsFixed text K.Not not × IsFixed text K.Indexed indexed

-- object [[AS] alias] [INDEXED BY name | NOT INDEXED] | name "(" [exprs] ")" [[AS] alias] | "(" select ")" [[AS] alias]
-- | "(" sources ")", where a select would begin with WITH
abbrev pub IsTableSource : List ℕ → Inside → OpenTableSource → Type 0
IsTableSource text inside (TableSource-F.Table object alias indexing) =
    IsObject text object × IfSome alias (IsAlias text) × IfSome indexing (IsIndexing text)
IsTableSource text inside (TableSource-F.TableFunction name arguments alias) =
    IsName text name × AreArguments text inside arguments × IfSome alias (IsAlias text)
IsTableSource text inside (TableSource-F.Derived select alias) =
    IsInParens text inside.select select × IfSome alias (IsAlias text)
IsTableSource text inside (TableSource-F.Sources x) =
    IsInParens text (λ inner. inside.sources inner × BeginsWithout text (K.With ∷ []) (sources_tokens inner)) x

-- join source [ON expr | USING "(" names ")"]
abbrev pub IsJoinedSource : List ℕ → Inside → JoinedSource → Type 0
IsJoinedSource text inside x =
    IsJoin text (out-JoinedSource x).join × IsTableSource text inside (out-TableSource (out-JoinedSource x).source)
    × IfSome (out-JoinedSource x).constraint (IsJoinConstraint text inside)

-- source {join source [ON expr | USING "(" names ")"]}
abbrev pub IsSources : List ℕ → Inside → Sources → Type 0
IsSources text inside x =
    IsTableSource text inside (out-TableSource (out-Sources x).first)
    × AllByRecursion (IsJoinedSource text inside) (out-Sources x).more

-- [NOT] MATERIALIZED
abbrev pub IsMaterialized : List ℕ → Materialized → Type 0
IsMaterialized text x = IfSome x.not (IsFixed text K.Not) × IsFixed text K.Materialized x.materialized

-- name ["(" names ")"] AS [[NOT] MATERIALIZED] "(" select ")"
abbrev pub IsCte : List ℕ → Inside → Cte Select → Type 0
IsCte text inside x =
    IsName text x.name × IfSome x.columns (AreNames text) × IsFixed text K.As x.as_word
    × IfSome x.materialized (IsMaterialized text) × IsInParens text inside.select x.select

-- WITH [RECURSIVE] ctes, where the first name is no RECURSIVE
abbrev pub IsWith : List ℕ → Inside → With Select → Type 0
IsWith text inside x =
    IsFixed text K.With x.with_word × IfSome x.recursive (IsFixed text K.Recursive)
    × AreCommas text (IsCte text inside) x.ctes
    × IfNone x.recursive (IsNoneOf text (K.Recursive ∷ []) x.ctes.first.name)

-- UNION [ALL] | EXCEPT | INTERSECT
abbrev pub IsCompound : List ℕ → Compound → Type 0
IsCompound text (Compound'.Union union all) = IsFixed text K.Union union × IfSome all (IsFixed text K.All)
IsCompound text (Compound'.Except t) = IsFixed text K.Except t
IsCompound text (Compound'.Intersect t) = IsFixed text K.Intersect t

-- LIMIT expr [(OFFSET | ",") expr]
abbrev pub IsLimit : List ℕ → Inside → Limit Expr → Type 0
IsLimit text inside x =
    IsFixed text K.Limit x.limit × inside.expr x.count
    × IfSome x.second
    (λ second. (IsFixed text K.Offset second.word ⊎ IsSign text (codes ",") second.word) × inside.expr second.part)

-- "*" | name "." "*" | expr [[AS] alias]
abbrev pub IsResultItem : List ℕ → Inside → ResultItem Expr → Type 0
IsResultItem text inside (ResultItem'.Star t) = IsSign text (codes "*") t
IsResultItem text inside (ResultItem'.AllOf name dot star) =
    IsOperandName text name × IsSign text (codes ".") dot × IsSign text (codes "*") star
IsResultItem text inside (ResultItem'.Expr expr alias) = inside.expr expr × IfSome alias (IsAlias text)

-- "(" exprs ")"
abbrev pub IsValuesRow : List ℕ → Inside → ValuesRow Expr → Type 0
IsValuesRow text inside x = IsInParens text (AreCommas text inside.expr) x.exprs

-- SELECT [DISTINCT|ALL] items [FROM sources] [WHERE expr] [GROUP BY exprs] [HAVING expr] [WINDOW named-windows]
abbrev pub IsSelectArm : List ℕ → Inside → OpenSelectArm → Type 0
IsSelectArm text inside x =
    IsFixed text K.Select x.select × IfSome x.quantifier (IsOneOf text (K.Distinct ∷ K.All ∷ []))
    × AreCommas text (IsResultItem text inside) x.items × IfSome x.from (IsAfter text K.From inside.sources)
    × IfSome x.filter (IsAfter text K.Where inside.expr) × IfSome x.group (IsBy text K.Group inside.expr)
    × IfSome x.having (IsAfter text K.Having inside.expr)
    × IfSome x.windows (IsAfter text K.Window (AreCommas text (IsNamedWindow text inside)))

-- SELECT .. | VALUES rows
abbrev pub IsArm : List ℕ → Inside → OpenArm → Type 0
IsArm text inside (Arm-F.Select x) = IsSelectArm text inside (out-SelectArm x)
IsArm text inside (Arm-F.Values values rows) =
    IsFixed text K.Values values × AreCommas text (IsValuesRow text inside) rows

-- compound arm
abbrev pub IsCompoundArm : List ℕ → Inside → CompoundArm → Type 0
IsCompoundArm text inside x =
    IsCompound text (out-CompoundArm x).compound × IsArm text inside (out-Arm (out-CompoundArm x).arm)

-- [WITH [RECURSIVE] ctes] arm {compound arm} [ORDER BY terms] [LIMIT expr [(OFFSET | ",") expr]]
abbrev pub IsSelect : List ℕ → Inside → Select → Type 0
IsSelect text inside x =
    IfSome (out-Select x).with_clause (IsWith text inside) × IsArm text inside (out-Arm (out-Select x).arm)
    × AllByRecursion (IsCompoundArm text inside) (out-Select x).compounds
    × IfSome (out-Select x).order (IsBy text K.Order (IsTerm text inside))
    × IfSome (out-Select x).limit (IsLimit text inside)

-- trees of less than this height are of their rules, where `column` says which name of a column may stand alone
abbrev pub InsideAt : List ℕ → (Token → Type 0) → ℕ → Inside
InsideAt text column zero = record { column = column; expr = λ _. ⊥; select = λ _. ⊥; sources = λ _. ⊥ }
InsideAt text column (suc n) = record {
  column = column;
  expr = IsExpr text (InsideAt text column n);
  select = IsSelect text (InsideAt text column n);
  sources = IsSources text (InsideAt text column n);
}

-- the same, where no Str is a column
abbrev pub UsualAt : List ℕ → ℕ → Inside
UsualAt text n = InsideAt text (IsColumnName text) n

-- the tree is of the rule of expressions, and of at most this height
abbrev pub IsExprAt : List ℕ → ℕ → Expr → Type 0
IsExprAt text n x = (UsualAt text n).expr x

-- the tree is of the rule of selects, and of at most this height
abbrev pub IsSelectAt : List ℕ → ℕ → Select → Type 0
IsSelectAt text n x = (UsualAt text n).select x

-- the tree is an expression and spells the tokens of the text
abbrev pub SpellsExpr : List ℕ → Expr → List Token → Type 0
SpellsExpr text x tokens = ((n : ℕ) × IsExprAt text n x) × (tokens ≡ expr_tokens x)

-- the tree is a select and spells the tokens of the text
abbrev pub SpellsSelect : List ℕ → Select → List Token → Type 0
SpellsSelect text x tokens = ((n : ℕ) × IsSelectAt text n x) × (tokens ≡ select_tokens x)
