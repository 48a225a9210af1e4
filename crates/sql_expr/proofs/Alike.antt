-- Trees of the same shape, token by token: each token is what the edit makes of the other's.
use Rattle.std.proofs.Common.{ℕ, zero, suc}
use Rattle.sql_expr.specs.Levels.{OpenArm, OpenExpr, OpenInSet, OpenInfixPart, OpenOperand, OpenPart, OpenPostfix, OpenSelectArm, OpenTableSource}
use Rattle.sql_expr.proofs.Kept.{AlikeAfter, AlikeBy, AlikeCommas, AlikeList, AlikeName, AlikeNext, AlikeOption, AlikePair, AlikeParens, AlikePlain, Edit}
use Rattle.sql_expr.specs.declared.names.Object.{Object}
use Rattle.sql_expr.specs.declared.names.Alias.{Alias}
use Rattle.sql_expr.specs.declared.names.ColumnUse.{ColumnUse}
use Rattle.sql_expr.specs.declared.names.ColumnUse.TheVariants as ColumnUse'
use Rattle.sql_expr.specs.declared.names.Signed.{Signed}
use Rattle.sql_expr.specs.declared.names.TypeSize.{TypeSize}
use Rattle.sql_expr.specs.declared.names.ColumnType.{ColumnType}
use Rattle.sql_expr.specs.declared.operators.Literal.{Literal}
use Rattle.sql_expr.specs.declared.operators.Literal.TheVariants as Literal'
use Rattle.sql_expr.specs.declared.operators.Action.{Action}
use Rattle.sql_expr.specs.declared.operators.Action.TheVariants as Action'
use Rattle.sql_expr.specs.declared.operators.Infix.{Infix}
use Rattle.sql_expr.specs.declared.operators.Infix.TheVariants as Infix'
use Rattle.sql_expr.specs.declared.window.Term.{Term}
use Rattle.sql_expr.specs.declared.window.Bound.{Bound}
use Rattle.sql_expr.specs.declared.window.Bound.TheVariants as Bound'
use Rattle.sql_expr.specs.declared.window.FrameExtent.{FrameExtent}
use Rattle.sql_expr.specs.declared.window.FrameExtent.TheVariants as FrameExtent'
use Rattle.sql_expr.specs.declared.window.Excluded.{Excluded}
use Rattle.sql_expr.specs.declared.window.Excluded.TheVariants as Excluded'
use Rattle.sql_expr.specs.declared.window.Frame.{Frame}
use Rattle.sql_expr.specs.declared.window.Window.{Window}
use Rattle.sql_expr.specs.declared.window.NamedWindow.{NamedWindow}
use Rattle.sql_expr.specs.declared.call.CallArguments.{CallArguments}
use Rattle.sql_expr.specs.declared.call.CallArguments.TheVariants as CallArguments'
use Rattle.sql_expr.specs.declared.call.Over.{Over}
use Rattle.sql_expr.specs.declared.call.Over.TheVariants as Over'
use Rattle.sql_expr.specs.declared.call.Call.{Call}
use Rattle.sql_expr.specs.declared.call.When.{When}
use Rattle.sql_expr.specs.declared.call.Case.{Case}
use Rattle.sql_expr.specs.declared.call.Cast.{Cast}
use Rattle.sql_expr.specs.declared.call.RaiseAction.{RaiseAction}
use Rattle.sql_expr.specs.declared.call.RaiseAction.TheVariants as RaiseAction'
use Rattle.sql_expr.specs.declared.call.Raise.{Raise}
use Rattle.sql_expr.specs.declared.source.JoinKind.{JoinKind}
use Rattle.sql_expr.specs.declared.source.JoinKind.TheVariants as JoinKind'
use Rattle.sql_expr.specs.declared.source.Join.{Join}
use Rattle.sql_expr.specs.declared.source.Join.TheVariants as Join'
use Rattle.sql_expr.specs.declared.source.JoinConstraint.{JoinConstraint}
use Rattle.sql_expr.specs.declared.source.JoinConstraint.TheVariants as JoinConstraint'
use Rattle.sql_expr.specs.declared.source.Indexing.{Indexing}
use Rattle.sql_expr.specs.declared.source.Indexing.TheVariants as Indexing'
use Rattle.sql_expr.specs.declared.select.Materialized.{Materialized}
use Rattle.sql_expr.specs.declared.select.Cte.{Cte}
use Rattle.sql_expr.specs.declared.select.With.{With}
use Rattle.sql_expr.specs.declared.select.Compound.{Compound}
use Rattle.sql_expr.specs.declared.select.Compound.TheVariants as Compound'
use Rattle.sql_expr.specs.declared.select.Limit.{Limit}
use Rattle.sql_expr.specs.declared.select.ResultItem.{ResultItem}
use Rattle.sql_expr.specs.declared.select.ResultItem.TheVariants as ResultItem'
use Rattle.sql_expr.specs.declared.select.ValuesRow.{ValuesRow}
use Rattle.sql_expr.specs.declared.expr.InSet.{InSet, out-InSet}
use Rattle.sql_expr.specs.declared.expr.Operand.{Operand, out-Operand}
use Rattle.sql_expr.specs.declared.expr.Postfix.{Postfix, out-Postfix}
use Rattle.sql_expr.specs.declared.expr.Part.{Part, out-Part}
use Rattle.sql_expr.specs.declared.expr.InfixPart.{InfixPart, out-InfixPart}
use Rattle.sql_expr.specs.declared.expr.Expr.{Expr, out-Expr}
use Rattle.sql_expr.specs.declared.source.TableSource.{TableSource, out-TableSource}
use Rattle.sql_expr.specs.declared.source.JoinedSource.{JoinedSource, out-JoinedSource}
use Rattle.sql_expr.specs.declared.source.Sources.{Sources, out-Sources}
use Rattle.sql_expr.specs.declared.select.SelectArm.{SelectArm, out-SelectArm}
use Rattle.sql_expr.specs.declared.select.Arm.{Arm, out-Arm}
use Rattle.sql_expr.specs.declared.select.CompoundArm.{CompoundArm, out-CompoundArm}
use Rattle.sql_expr.specs.declared.select.Select.{Select, out-Select}
use Rattle.sql_expr.specs.declared.expr.InSet.TheOpen.{InSet-F, Operand-F, Postfix-F, TableSource-F, JoinedSource-F, Sources-F, Arm-F, CompoundArm-F, Select-F}

-- the types that lead back to themselves and have no name opened yet, one level opened
abbrev pub OpenCompoundArm : Type 0
OpenCompoundArm =
    CompoundArm-F InSet Operand Postfix Arm TableSource Expr InfixPart Part CompoundArm Select SelectArm JoinedSource Sources

abbrev pub OpenSelect : Type 0
OpenSelect =
    Select-F InSet Operand Postfix Arm TableSource Expr InfixPart Part CompoundArm Select SelectArm JoinedSource Sources

abbrev pub OpenSources : Type 0
OpenSources =
    Sources-F InSet Operand Postfix Arm TableSource Expr InfixPart Part CompoundArm Select SelectArm JoinedSource Sources

abbrev pub OpenJoinedSource : Type 0
OpenJoinedSource =
    JoinedSource-F InSet Operand Postfix Arm TableSource Expr InfixPart Part CompoundArm Select SelectArm JoinedSource Sources

-- Which expressions, selects and sources are alike.
pub record AlikeInside : Type 1 where
  pub expr : Expr → Expr → Type 0
  pub select : Select → Select → Type 0
  pub sources : Sources → Sources → Type 0

-- [name "."] name
abbrev pub AlikeObject : Edit → Object → Object → Type 0
AlikeObject e x y =
    AlikeOption (AlikePair (AlikeName e) (AlikePlain e)) x.qualifier y.qualifier × AlikeName e x.name y.name

-- [AS] alias
abbrev pub AlikeAlias : Edit → Alias → Alias → Type 0
AlikeAlias e x y =
    AlikeOption (AlikePlain e) x.as_word y.as_word × AlikeName e x.name y.name

-- ["+"|"-"] number
abbrev pub AlikeSigned : Edit → Signed → Signed → Type 0
AlikeSigned e x y =
    AlikeOption (AlikePlain e) x.sign y.sign × AlikePlain e x.number y.number

-- signed ["," signed]
abbrev pub AlikeTypeSize : Edit → TypeSize → TypeSize → Type 0
AlikeTypeSize e x y =
    AlikeSigned e x.first y.first × AlikeOption (AlikeNext e (AlikeSigned e)) x.second y.second

-- type-name {type-name} ["(" signed ["," signed] ")"]
abbrev pub AlikeColumnType : Edit → ColumnType → ColumnType → Type 0
AlikeColumnType e x y =
    (AlikeName e x.first y.first × AlikeList (AlikeName e) x.more y.more) × AlikeOption (AlikeParens e (AlikeTypeSize e)) x.size y.size

-- number | string | blob | NULL | CURRENT_DATE | CURRENT_TIME | CURRENT_TIMESTAMP
abbrev pub AlikeLiteral : Edit → Literal → Literal → Type 0
AlikeLiteral e (Literal'.Number t) (Literal'.Number t') = AlikePlain e t t'
AlikeLiteral e (Literal'.Str t) (Literal'.Str t') = AlikePlain e t t'
AlikeLiteral e (Literal'.Blob t) (Literal'.Blob t') = AlikePlain e t t'
AlikeLiteral e (Literal'.Null t) (Literal'.Null t') = AlikePlain e t t'
AlikeLiteral e (Literal'.CurrentDate t) (Literal'.CurrentDate t') = AlikePlain e t t'
AlikeLiteral e (Literal'.CurrentTime t) (Literal'.CurrentTime t') = AlikePlain e t t'
AlikeLiteral e (Literal'.CurrentTimestamp t) (Literal'.CurrentTimestamp t') = AlikePlain e t t'
AlikeLiteral e _ _ = ⊥

-- ROLLBACK | ABORT | FAIL
abbrev pub AlikeAction : Edit → Action → Action → Type 0
AlikeAction e (Action'.Rollback t) (Action'.Rollback t') = AlikePlain e t t'
AlikeAction e (Action'.Abort t) (Action'.Abort t') = AlikePlain e t t'
AlikeAction e (Action'.Fail t) (Action'.Fail t') = AlikePlain e t t'
AlikeAction e _ _ = ⊥

-- an infix
abbrev pub AlikeInfix : Edit → Infix → Infix → Type 0
AlikeInfix e (Infix'.Sign t) (Infix'.Sign t') = AlikePlain e t t'
AlikeInfix e (Infix'.And t) (Infix'.And t') = AlikePlain e t t'
AlikeInfix e (Infix'.Or t) (Infix'.Or t') = AlikePlain e t t'
AlikeInfix e (Infix'.Is is not distinct_from) (Infix'.Is is' not' distinct_from') = (AlikePlain e is is' × AlikeOption (AlikePlain e) not not') × AlikeOption (AlikePair (AlikePlain e) (AlikePlain e)) distinct_from distinct_from'
AlikeInfix e (Infix'.Escape t) (Infix'.Escape t') = AlikePlain e t t'
AlikeInfix e (Infix'.Compares not word) (Infix'.Compares not' word') = AlikeOption (AlikePlain e) not not' × AlikePlain e word word'
AlikeInfix e _ _ = ⊥

-- NO OTHERS | CURRENT ROW | GROUP | TIES
abbrev pub AlikeExcluded : Edit → Excluded → Excluded → Type 0
AlikeExcluded e (Excluded'.NoOthers no_word others) (Excluded'.NoOthers no_word' others') = AlikePlain e no_word no_word' × AlikePlain e others others'
AlikeExcluded e (Excluded'.CurrentRow current row) (Excluded'.CurrentRow current' row') = AlikePlain e current current' × AlikePlain e row row'
AlikeExcluded e (Excluded'.Group t) (Excluded'.Group t') = AlikePlain e t t'
AlikeExcluded e (Excluded'.Ties t) (Excluded'.Ties t') = AlikePlain e t t'
AlikeExcluded e _ _ = ⊥

-- (LEFT|RIGHT|FULL) [OUTER] | INNER | CROSS
abbrev pub AlikeJoinKind : Edit → JoinKind → JoinKind → Type 0
AlikeJoinKind e (JoinKind'.Outer side outer) (JoinKind'.Outer side' outer') = AlikePlain e side side' × AlikeOption (AlikePlain e) outer outer'
AlikeJoinKind e (JoinKind'.Inner t) (JoinKind'.Inner t') = AlikePlain e t t'
AlikeJoinKind e (JoinKind'.Cross t) (JoinKind'.Cross t') = AlikePlain e t t'
AlikeJoinKind e _ _ = ⊥

-- "," | [NATURAL] [kind] JOIN
abbrev pub AlikeJoin : Edit → Join → Join → Type 0
AlikeJoin e (Join'.Comma t) (Join'.Comma t') = AlikePlain e t t'
AlikeJoin e (Join'.Join natural kind join) (Join'.Join natural' kind' join') = (AlikeOption (AlikePlain e) natural natural' × AlikeOption (AlikeJoinKind e) kind kind') × AlikePlain e join join'
AlikeJoin e _ _ = ⊥

-- INDEXED BY name | NOT INDEXED
abbrev pub AlikeIndexing : Edit → Indexing → Indexing → Type 0
AlikeIndexing e (Indexing'.By indexed by name) (Indexing'.By indexed' by' name') = (AlikePlain e indexed indexed' × AlikePlain e by by') × AlikeName e name name'
AlikeIndexing e (Indexing'.Not not indexed) (Indexing'.Not not' indexed') = AlikePlain e not not' × AlikePlain e indexed indexed'
AlikeIndexing e _ _ = ⊥

-- [NOT] MATERIALIZED
abbrev pub AlikeMaterialized : Edit → Materialized → Materialized → Type 0
AlikeMaterialized e x y =
    AlikeOption (AlikePlain e) x.not y.not × AlikePlain e x.materialized y.materialized

-- UNION [ALL] | EXCEPT | INTERSECT
abbrev pub AlikeCompound : Edit → Compound → Compound → Type 0
AlikeCompound e (Compound'.Union union all) (Compound'.Union union' all') = AlikePlain e union union' × AlikeOption (AlikePlain e) all all'
AlikeCompound e (Compound'.Except t) (Compound'.Except t') = AlikePlain e t t'
AlikeCompound e (Compound'.Intersect t) (Compound'.Intersect t') = AlikePlain e t t'
AlikeCompound e _ _ = ⊥

-- name | name "." name | name "." name "." name
abbrev pub AlikeColumnUse : Edit → AlikeInside → ColumnUse → ColumnUse → Type 0
AlikeColumnUse e a (ColumnUse'.One name) (ColumnUse'.One name') = AlikeName e name name'
AlikeColumnUse e a (ColumnUse'.Two table dot column) (ColumnUse'.Two table' dot' column') = (AlikeName e table table' × AlikePlain e dot dot') × AlikeName e column column'
AlikeColumnUse e a (ColumnUse'.Three schema first_dot table second_dot column) (ColumnUse'.Three schema' first_dot' table' second_dot' column') = (((AlikeName e schema schema' × AlikePlain e first_dot first_dot') × AlikeName e table table') × AlikePlain e second_dot second_dot') × AlikeName e column column'
AlikeColumnUse e a _ _ = ⊥

-- expr [ASC|DESC] [NULLS (FIRST|LAST)]
abbrev pub AlikeTerm : Edit → AlikeInside → Term Expr → Term Expr → Type 0
AlikeTerm e a x y =
    (a.expr x.expr y.expr × AlikeOption (AlikePlain e) x.direction y.direction) × AlikeOption (AlikePair (AlikePlain e) (AlikePlain e)) x.nulls y.nulls

-- UNBOUNDED (PRECEDING|FOLLOWING) | CURRENT ROW | expr (PRECEDING|FOLLOWING)
abbrev pub AlikeBound : Edit → AlikeInside → Bound Expr → Bound Expr → Type 0
AlikeBound e a (Bound'.Unbounded unbounded way) (Bound'.Unbounded unbounded' way') = AlikePlain e unbounded unbounded' × AlikePlain e way way'
AlikeBound e a (Bound'.CurrentRow current row) (Bound'.CurrentRow current' row') = AlikePlain e current current' × AlikePlain e row row'
AlikeBound e a (Bound'.Expr expr way) (Bound'.Expr expr' way') = a.expr expr expr' × AlikePlain e way way'
AlikeBound e a _ _ = ⊥

-- bound | BETWEEN bound AND bound
abbrev pub AlikeFrameExtent : Edit → AlikeInside → FrameExtent Expr → FrameExtent Expr → Type 0
AlikeFrameExtent e a (FrameExtent'.From bound) (FrameExtent'.From bound') = AlikeBound e a bound bound'
AlikeFrameExtent e a (FrameExtent'.Between between start and end) (FrameExtent'.Between between' start' and' end') = ((AlikePlain e between between' × AlikeBound e a start start') × AlikePlain e and and') × AlikeBound e a end end'
AlikeFrameExtent e a _ _ = ⊥

-- (RANGE|ROWS|GROUPS) extent [EXCLUDE excluded]
abbrev pub AlikeFrame : Edit → AlikeInside → Frame Expr → Frame Expr → Type 0
AlikeFrame e a x y =
    (AlikePlain e x.unit y.unit × AlikeFrameExtent e a x.extent y.extent) × AlikeOption (AlikeAfter e (AlikeExcluded e)) x.exclude y.exclude

-- "(" [name] [PARTITION BY exprs] [ORDER BY terms] [frame] ")"
abbrev pub AlikeWindow : Edit → AlikeInside → Window Expr → Window Expr → Type 0
AlikeWindow e a x y =
    ((((AlikePlain e x.opening y.opening × AlikeOption (AlikeName e) x.base y.base) × AlikeOption (AlikeBy e a.expr) x.partition y.partition) × AlikeOption (AlikeBy e (AlikeTerm e a)) x.order y.order) × AlikeOption (AlikeFrame e a) x.frame y.frame) × AlikePlain e x.closing y.closing

-- name AS window
abbrev pub AlikeNamedWindow : Edit → AlikeInside → NamedWindow Expr → NamedWindow Expr → Type 0
AlikeNamedWindow e a x y =
    (AlikeName e x.name y.name × AlikePlain e x.as_word y.as_word) × AlikeWindow e a x.window y.window

-- "*" | [DISTINCT] exprs [ORDER BY terms]
abbrev pub AlikeCallArguments : Edit → AlikeInside → CallArguments Expr → CallArguments Expr → Type 0
AlikeCallArguments e a (CallArguments'.Star t) (CallArguments'.Star t') = AlikePlain e t t'
AlikeCallArguments e a (CallArguments'.Exprs distinct exprs order) (CallArguments'.Exprs distinct' exprs' order') = (AlikeOption (AlikePlain e) distinct distinct' × AlikeCommas e a.expr exprs exprs') × AlikeOption (AlikeBy e (AlikeTerm e a)) order order'
AlikeCallArguments e a _ _ = ⊥

-- OVER (name | window)
abbrev pub AlikeOver : Edit → AlikeInside → Over Expr → Over Expr → Type 0
AlikeOver e a (Over'.Name over name) (Over'.Name over' name') = AlikePlain e over over' × AlikeName e name name'
AlikeOver e a (Over'.Window over window) (Over'.Window over' window') = AlikePlain e over over' × AlikeWindow e a window window'
AlikeOver e a _ _ = ⊥

-- name "(" [arguments] ")" [FILTER "(" WHERE expr ")"] [OVER (name | window)]
abbrev pub AlikeCall : Edit → AlikeInside → Call Expr → Call Expr → Type 0
AlikeCall e a x y =
    ((AlikeName e x.name y.name × AlikeParens e (AlikeOption (AlikeCallArguments e a)) x.arguments y.arguments) × AlikeOption (AlikeAfter e (AlikeParens e (AlikeAfter e a.expr))) x.filter y.filter) × AlikeOption (AlikeOver e a) x.over y.over

-- WHEN expr THEN expr
abbrev pub AlikeWhen : Edit → AlikeInside → When Expr → When Expr → Type 0
AlikeWhen e a x y =
    ((AlikePlain e x.when y.when × a.expr x.condition y.condition) × AlikePlain e x.then_word y.then_word) × a.expr x.result y.result

-- CASE [expr] when {when} [ELSE expr] END
abbrev pub AlikeCase : Edit → AlikeInside → Case Expr → Case Expr → Type 0
AlikeCase e a x y =
    ((((AlikePlain e x.case y.case × AlikeOption a.expr x.subject y.subject) × AlikeWhen e a x.first y.first) × AlikeList (AlikeWhen e a) x.more y.more) × AlikeOption (AlikeAfter e a.expr) x.otherwise y.otherwise) × AlikePlain e x.end y.end

-- CAST "(" expr AS [type] ")"
abbrev pub AlikeCast : Edit → AlikeInside → Cast Expr → Cast Expr → Type 0
AlikeCast e a x y =
    ((((AlikePlain e x.cast y.cast × AlikePlain e x.opening y.opening) × a.expr x.expr y.expr) × AlikePlain e x.as_word y.as_word) × AlikeOption (AlikeColumnType e) x.column_type y.column_type) × AlikePlain e x.closing y.closing

-- IGNORE | action "," expr
abbrev pub AlikeRaiseAction : Edit → AlikeInside → RaiseAction Expr → RaiseAction Expr → Type 0
AlikeRaiseAction e a (RaiseAction'.Ignore t) (RaiseAction'.Ignore t') = AlikePlain e t t'
AlikeRaiseAction e a (RaiseAction'.Action action message) (RaiseAction'.Action action' message') = AlikeAction e action action' × AlikeNext e a.expr message message'
AlikeRaiseAction e a _ _ = ⊥

-- RAISE "(" (IGNORE | action "," expr) ")"
abbrev pub AlikeRaise : Edit → AlikeInside → Raise Expr → Raise Expr → Type 0
AlikeRaise e a x y =
    AlikePlain e x.raise y.raise × AlikeParens e (AlikeRaiseAction e a) x.action y.action

-- "(" [exprs] ")" | "(" select ")" | object | name "(" [exprs] ")"
abbrev pub AlikeOpenInSet : Edit → AlikeInside → OpenInSet → OpenInSet → Type 0
AlikeOpenInSet e a (InSet-F.List x) (InSet-F.List x') = AlikeParens e (AlikeOption (AlikeCommas e a.expr)) x x'
AlikeOpenInSet e a (InSet-F.Query x) (InSet-F.Query x') = AlikeParens e a.select x x'
AlikeOpenInSet e a (InSet-F.Object x) (InSet-F.Object x') = AlikeObject e x x'
AlikeOpenInSet e a (InSet-F.Function name arguments) (InSet-F.Function name' arguments') = AlikeName e name name' × AlikeParens e (AlikeOption (AlikeCommas e a.expr)) arguments arguments'
AlikeOpenInSet e a _ _ = ⊥

abbrev pub AlikeInSet : Edit → AlikeInside → InSet → InSet → Type 0
AlikeInSet e a x y = AlikeOpenInSet e a (out-InSet x) (out-InSet y)

-- an operand
abbrev pub AlikeOpenOperand : Edit → AlikeInside → OpenOperand → OpenOperand → Type 0
AlikeOpenOperand e a (Operand-F.Literal x) (Operand-F.Literal x') = AlikeLiteral e x x'
AlikeOpenOperand e a (Operand-F.Column x) (Operand-F.Column x') = AlikeColumnUse e a x x'
AlikeOpenOperand e a (Operand-F.Call x) (Operand-F.Call x') = AlikeCall e a x x'
AlikeOpenOperand e a (Operand-F.Exprs x) (Operand-F.Exprs x') = AlikeParens e (AlikeCommas e a.expr) x x'
AlikeOpenOperand e a (Operand-F.Subquery exists select) (Operand-F.Subquery exists' select') = AlikeOption (AlikePlain e) exists exists' × AlikeParens e a.select select select'
AlikeOpenOperand e a (Operand-F.Case x) (Operand-F.Case x') = AlikeCase e a x x'
AlikeOpenOperand e a (Operand-F.Cast x) (Operand-F.Cast x') = AlikeCast e a x x'
AlikeOpenOperand e a (Operand-F.Raise x) (Operand-F.Raise x') = AlikeRaise e a x x'
AlikeOpenOperand e a _ _ = ⊥

abbrev pub AlikeOperand : Edit → AlikeInside → Operand → Operand → Type 0
AlikeOperand e a x y = AlikeOpenOperand e a (out-Operand x) (out-Operand y)

-- COLLATE name | ISNULL | NOTNULL | NOT NULL | [NOT] IN set
abbrev pub AlikeOpenPostfix : Edit → AlikeInside → OpenPostfix → OpenPostfix → Type 0
AlikeOpenPostfix e a (Postfix-F.Collate collate name) (Postfix-F.Collate collate' name') = AlikePlain e collate collate' × AlikeName e name name'
AlikeOpenPostfix e a (Postfix-F.IsNull t) (Postfix-F.IsNull t') = AlikePlain e t t'
AlikeOpenPostfix e a (Postfix-F.NotNull t) (Postfix-F.NotNull t') = AlikePlain e t t'
AlikeOpenPostfix e a (Postfix-F.NotNullWords not null) (Postfix-F.NotNullWords not' null') = AlikePlain e not not' × AlikePlain e null null'
AlikeOpenPostfix e a (Postfix-F.In not in_word set) (Postfix-F.In not' in_word' set') = (AlikeOption (AlikePlain e) not not' × AlikePlain e in_word in_word') × AlikeInSet e a set set'
AlikeOpenPostfix e a _ _ = ⊥

abbrev pub AlikePostfix : Edit → AlikeInside → Postfix → Postfix → Type 0
AlikePostfix e a x y = AlikeOpenPostfix e a (out-Postfix x) (out-Postfix y)

-- {"-" | "+" | "~" | NOT} operand {postfix}
abbrev pub AlikeOpenPart : Edit → AlikeInside → OpenPart → OpenPart → Type 0
AlikeOpenPart e a x y =
    (AlikeList (AlikePlain e) x.prefixes y.prefixes × AlikeOperand e a x.operand y.operand) × AlikeList (AlikePostfix e a) x.postfixes y.postfixes

abbrev pub AlikePart : Edit → AlikeInside → Part → Part → Type 0
AlikePart e a x y = AlikeOpenPart e a (out-Part x) (out-Part y)

-- infix part
abbrev pub AlikeOpenInfixPart : Edit → AlikeInside → OpenInfixPart → OpenInfixPart → Type 0
AlikeOpenInfixPart e a x y =
    AlikeInfix e x.operator y.operator × AlikePart e a x.part y.part

abbrev pub AlikeInfixPart : Edit → AlikeInside → InfixPart → InfixPart → Type 0
AlikeInfixPart e a x y = AlikeOpenInfixPart e a (out-InfixPart x) (out-InfixPart y)

-- part {infix part}
abbrev pub AlikeOpenExpr : Edit → AlikeInside → OpenExpr → OpenExpr → Type 0
AlikeOpenExpr e a x y =
    AlikePart e a x.first y.first × AlikeList (AlikeInfixPart e a) x.more y.more

abbrev pub AlikeExpr : Edit → AlikeInside → Expr → Expr → Type 0
AlikeExpr e a x y = AlikeOpenExpr e a (out-Expr x) (out-Expr y)

-- ON expr | USING "(" names ")"
abbrev pub AlikeJoinConstraint : Edit → AlikeInside → JoinConstraint Expr → JoinConstraint Expr → Type 0
AlikeJoinConstraint e a (JoinConstraint'.On x) (JoinConstraint'.On x') = AlikeAfter e a.expr x x'
AlikeJoinConstraint e a (JoinConstraint'.Using using names) (JoinConstraint'.Using using' names') = AlikePlain e using using' × AlikeParens e (AlikeCommas e (AlikeName e)) names names'
AlikeJoinConstraint e a _ _ = ⊥

-- a source
abbrev pub AlikeOpenTableSource : Edit → AlikeInside → OpenTableSource → OpenTableSource → Type 0
AlikeOpenTableSource e a (TableSource-F.Table object alias indexing) (TableSource-F.Table object' alias' indexing') = (AlikeObject e object object' × AlikeOption (AlikeAlias e) alias alias') × AlikeOption (AlikeIndexing e) indexing indexing'
AlikeOpenTableSource e a (TableSource-F.TableFunction name arguments alias) (TableSource-F.TableFunction name' arguments' alias') = (AlikeName e name name' × AlikeParens e (AlikeOption (AlikeCommas e a.expr)) arguments arguments') × AlikeOption (AlikeAlias e) alias alias'
AlikeOpenTableSource e a (TableSource-F.Derived select alias) (TableSource-F.Derived select' alias') = AlikeParens e a.select select select' × AlikeOption (AlikeAlias e) alias alias'
AlikeOpenTableSource e a (TableSource-F.Sources x) (TableSource-F.Sources x') = AlikeParens e a.sources x x'
AlikeOpenTableSource e a _ _ = ⊥

abbrev pub AlikeTableSource : Edit → AlikeInside → TableSource → TableSource → Type 0
AlikeTableSource e a x y = AlikeOpenTableSource e a (out-TableSource x) (out-TableSource y)

-- join source [ON expr | USING "(" names ")"]
abbrev pub AlikeOpenJoinedSource : Edit → AlikeInside → OpenJoinedSource → OpenJoinedSource → Type 0
AlikeOpenJoinedSource e a x y =
    (AlikeJoin e x.join y.join × AlikeTableSource e a x.source y.source) × AlikeOption (AlikeJoinConstraint e a) x.constraint y.constraint

abbrev pub AlikeJoinedSource : Edit → AlikeInside → JoinedSource → JoinedSource → Type 0
AlikeJoinedSource e a x y = AlikeOpenJoinedSource e a (out-JoinedSource x) (out-JoinedSource y)

-- source {join source [ON expr | USING "(" names ")"]}
abbrev pub AlikeOpenSources : Edit → AlikeInside → OpenSources → OpenSources → Type 0
AlikeOpenSources e a x y =
    AlikeTableSource e a x.first y.first × AlikeList (AlikeJoinedSource e a) x.more y.more

abbrev pub AlikeSources : Edit → AlikeInside → Sources → Sources → Type 0
AlikeSources e a x y = AlikeOpenSources e a (out-Sources x) (out-Sources y)

-- name ["(" names ")"] AS [[NOT] MATERIALIZED] "(" select ")"
abbrev pub AlikeCte : Edit → AlikeInside → Cte Select → Cte Select → Type 0
AlikeCte e a x y =
    (((AlikeName e x.name y.name × AlikeOption (AlikeParens e (AlikeCommas e (AlikeName e))) x.columns y.columns) × AlikePlain e x.as_word y.as_word) × AlikeOption (AlikeMaterialized e) x.materialized y.materialized) × AlikeParens e a.select x.select y.select

-- WITH [RECURSIVE] ctes
abbrev pub AlikeWith : Edit → AlikeInside → With Select → With Select → Type 0
AlikeWith e a x y =
    (AlikePlain e x.with_word y.with_word × AlikeOption (AlikePlain e) x.recursive y.recursive) × AlikeCommas e (AlikeCte e a) x.ctes y.ctes

-- LIMIT expr [(OFFSET | ",") expr]
abbrev pub AlikeLimit : Edit → AlikeInside → Limit Expr → Limit Expr → Type 0
AlikeLimit e a x y =
    (AlikePlain e x.limit y.limit × a.expr x.count y.count) × AlikeOption (AlikeAfter e a.expr) x.second y.second

-- "*" | name "." "*" | expr [[AS] alias]
abbrev pub AlikeResultItem : Edit → AlikeInside → ResultItem Expr → ResultItem Expr → Type 0
AlikeResultItem e a (ResultItem'.Star t) (ResultItem'.Star t') = AlikePlain e t t'
AlikeResultItem e a (ResultItem'.AllOf name dot star) (ResultItem'.AllOf name' dot' star') = (AlikeName e name name' × AlikePlain e dot dot') × AlikePlain e star star'
AlikeResultItem e a (ResultItem'.Expr expr alias) (ResultItem'.Expr expr' alias') = a.expr expr expr' × AlikeOption (AlikeAlias e) alias alias'
AlikeResultItem e a _ _ = ⊥

-- "(" exprs ")"
abbrev pub AlikeValuesRow : Edit → AlikeInside → ValuesRow Expr → ValuesRow Expr → Type 0
AlikeValuesRow e a x y =
    AlikeParens e (AlikeCommas e a.expr) x.exprs y.exprs

-- SELECT [DISTINCT|ALL] items [FROM sources] [WHERE expr] [GROUP BY exprs] [HAVING expr] [WINDOW named-windows]
abbrev pub AlikeOpenSelectArm : Edit → AlikeInside → OpenSelectArm → OpenSelectArm → Type 0
AlikeOpenSelectArm e a x y =
    ((((((AlikePlain e x.select y.select × AlikeOption (AlikePlain e) x.quantifier y.quantifier) × AlikeCommas e (AlikeResultItem e a) x.items y.items) × AlikeOption (AlikeAfter e a.sources) x.from y.from) × AlikeOption (AlikeAfter e a.expr) x.filter y.filter) × AlikeOption (AlikeBy e a.expr) x.group y.group) × AlikeOption (AlikeAfter e a.expr) x.having y.having) × AlikeOption (AlikeAfter e (AlikeCommas e (AlikeNamedWindow e a))) x.windows y.windows

abbrev pub AlikeSelectArm : Edit → AlikeInside → SelectArm → SelectArm → Type 0
AlikeSelectArm e a x y = AlikeOpenSelectArm e a (out-SelectArm x) (out-SelectArm y)

-- SELECT .. | VALUES rows
abbrev pub AlikeOpenArm : Edit → AlikeInside → OpenArm → OpenArm → Type 0
AlikeOpenArm e a (Arm-F.Select x) (Arm-F.Select x') = AlikeSelectArm e a x x'
AlikeOpenArm e a (Arm-F.Values values rows) (Arm-F.Values values' rows') = AlikePlain e values values' × AlikeCommas e (AlikeValuesRow e a) rows rows'
AlikeOpenArm e a _ _ = ⊥

abbrev pub AlikeArm : Edit → AlikeInside → Arm → Arm → Type 0
AlikeArm e a x y = AlikeOpenArm e a (out-Arm x) (out-Arm y)

-- compound arm
abbrev pub AlikeOpenCompoundArm : Edit → AlikeInside → OpenCompoundArm → OpenCompoundArm → Type 0
AlikeOpenCompoundArm e a x y =
    AlikeCompound e x.compound y.compound × AlikeArm e a x.arm y.arm

abbrev pub AlikeCompoundArm : Edit → AlikeInside → CompoundArm → CompoundArm → Type 0
AlikeCompoundArm e a x y = AlikeOpenCompoundArm e a (out-CompoundArm x) (out-CompoundArm y)

-- [WITH [RECURSIVE] ctes] arm {compound arm} [ORDER BY terms] [LIMIT expr [(OFFSET | ",") expr]]
abbrev pub AlikeOpenSelect : Edit → AlikeInside → OpenSelect → OpenSelect → Type 0
AlikeOpenSelect e a x y =
    (((AlikeOption (AlikeWith e a) x.with_clause y.with_clause × AlikeArm e a x.arm y.arm) × AlikeList (AlikeCompoundArm e a) x.compounds y.compounds) × AlikeOption (AlikeBy e (AlikeTerm e a)) x.order y.order) × AlikeOption (AlikeLimit e a) x.limit y.limit

abbrev pub AlikeSelect : Edit → AlikeInside → Select → Select → Type 0
AlikeSelect e a x y = AlikeOpenSelect e a (out-Select x) (out-Select y)

-- trees of less than this height are alike
abbrev pub AlikeAt : Edit → ℕ → AlikeInside
AlikeAt e zero = record { expr = λ _ _. ⊥; select = λ _ _. ⊥; sources = λ _ _. ⊥ }
AlikeAt e (suc n) = record { expr = AlikeExpr e (AlikeAt e n); select = AlikeSelect e (AlikeAt e n); sources = AlikeSources e (AlikeAt e n) }
