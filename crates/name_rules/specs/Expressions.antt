-- What an expression demands. All its uses stand where it does; those of its subqueries stand around it.
use Rattle.std.specs.Prelude.{Bool, true, false, List, [], ◌∷◌, ◌++◌, flat_map, Option, Some, None}
use Rattle.sql_token.specs.declared.token.Token.{Token}
use Rattle.sql_expr.specs.Levels.{OpenInSet, OpenOperand, OpenPostfix}
use Rattle.sql_expr.specs.declared.names.ColumnUse.{ColumnUse}
use Rattle.sql_expr.specs.declared.names.Object.{Object}
use Rattle.sql_expr.specs.declared.window.Term.{Term}
use Rattle.sql_expr.specs.declared.window.Bound.{Bound}
use Rattle.sql_expr.specs.declared.window.Bound.TheVariants as Bound'
use Rattle.sql_expr.specs.declared.window.FrameExtent.{FrameExtent}
use Rattle.sql_expr.specs.declared.window.FrameExtent.TheVariants as FrameExtent'
use Rattle.sql_expr.specs.declared.window.Window.{Window}
use Rattle.sql_expr.specs.declared.call.CallArguments.{CallArguments}
use Rattle.sql_expr.specs.declared.call.CallArguments.TheVariants as CallArguments'
use Rattle.sql_expr.specs.declared.call.Over.{Over}
use Rattle.sql_expr.specs.declared.call.Over.TheVariants as Over'
use Rattle.sql_expr.specs.declared.call.Call.{Call}
use Rattle.sql_expr.specs.declared.call.When.{When}
use Rattle.sql_expr.specs.declared.call.Case.{Case}
use Rattle.sql_expr.specs.declared.call.RaiseAction.{RaiseAction}
use Rattle.sql_expr.specs.declared.call.RaiseAction.TheVariants as RaiseAction'
use Rattle.sql_expr.specs.declared.expr.Expr.{Expr, out-Expr}
use Rattle.sql_expr.specs.declared.expr.InfixPart.{out-InfixPart}
use Rattle.sql_expr.specs.declared.expr.Part.{Part, out-Part}
use Rattle.sql_expr.specs.declared.expr.Postfix.{Postfix, out-Postfix}
use Rattle.sql_expr.specs.declared.expr.InSet.{out-InSet}
use Rattle.sql_expr.specs.declared.expr.Operand.{out-Operand}
use Rattle.sql_expr.specs.declared.expr.InSet.TheOpen.{InSet-F, Operand-F, Postfix-F}
use Rattle.name_rules.specs.Inner.{Inner, of_each, of_part}
use Rattle.name_rules.specs.Told.{object_names, use_names}
use Rattle.name_rules.specs.World.{Demand, Where}
use Rattle.name_rules.specs.World.Asking.{ColumnUse as AColumnUse, Function, SourceName}
use Rattle.name_rules.specs.World.Demand.{Asks}

module _ (inner : Inner) (w : Where) where
  abbrev pub of_term : Term Expr → List Demand
  of_term x = inner.expr w x.expr

  abbrev pub of_bound : Bound Expr → List Demand
  of_bound (Bound'.Unbounded unbounded way) = []
  of_bound (Bound'.CurrentRow current row) = []
  of_bound (Bound'.Expr expr way) = inner.expr w expr

  abbrev pub of_extent : FrameExtent Expr → List Demand
  of_extent (FrameExtent'.From bound) = of_bound bound
  of_extent (FrameExtent'.Between between start and end) = of_bound start ++ of_bound end

  -- a window's own name is not resolved
  abbrev pub of_window : Window Expr → List Demand
  of_window x =
      of_part (λ by. of_each (inner.expr w) by.items) x.partition ++ of_part (λ by. of_each of_term by.items) x.order
      ++ of_part (λ frame. of_extent frame.extent) x.frame

  abbrev pub of_arguments : CallArguments Expr → List Demand
  of_arguments (CallArguments'.Star t) = []
  of_arguments (CallArguments'.Exprs distinct exprs order) = of_each (inner.expr w) exprs ++ of_part (λ by. of_each of_term by.items) order

  abbrev pub of_over : Over Expr → List Demand
  of_over (Over'.Name over name) = []
  of_over (Over'.Window over window) = of_window window

  -- a function's name is not resolved
  abbrev pub of_call : Call Expr → List Demand
  of_call x =
      of_part of_arguments x.arguments.inner ++ of_part (λ filter. inner.expr w filter.part.inner.part) x.filter ++ of_part of_over x.over

  abbrev pub of_when : When Expr → List Demand
  of_when x = inner.expr w x.condition ++ inner.expr w x.result

  abbrev pub of_case : Case Expr → List Demand
  of_case x =
      of_part (inner.expr w) x.subject ++ of_when x.first ++ flat_map of_when x.more ++ of_part (λ otherwise. inner.expr w otherwise.part) x.otherwise

  abbrev pub of_raise : RaiseAction Expr → List Demand
  of_raise (RaiseAction'.Ignore t) = []
  of_raise (RaiseAction'.Action action message) = inner.expr w message.item

  -- a use at the levels for columns
  abbrev pub asks_column : List Token → Demand
  asks_column tokens = Asks (record { asking = AColumnUse; tokens = tokens; levels = w.columns })

  -- a source name at its levels
  abbrev pub asks_source : Object → Demand
  asks_source x = Asks (record { asking = SourceName; tokens = object_names x; levels = w.sources })

  -- a table function's name sees no level
  abbrev pub asks_function : Token → Demand
  asks_function name = Asks (record { asking = Function; tokens = name ∷ []; levels = [] })

  abbrev pub of_in_set : OpenInSet → List Demand
  of_in_set (InSet-F.List x) = of_part (of_each (inner.expr w)) x.inner
  of_in_set (InSet-F.Query x) = inner.select w x.inner
  of_in_set (InSet-F.Object x) = asks_source x ∷ []
  of_in_set (InSet-F.Function name arguments) = asks_function name ∷ of_part (of_each (inner.expr w)) arguments.inner

  abbrev pub of_operand : OpenOperand → List Demand
  of_operand (Operand-F.Literal x) = []
  of_operand (Operand-F.Column x) = asks_column (use_names x) ∷ []
  of_operand (Operand-F.Call x) = of_call x
  of_operand (Operand-F.Exprs x) = of_each (inner.expr w) x.inner
  of_operand (Operand-F.Subquery exists select) = inner.select w select.inner
  of_operand (Operand-F.Case x) = of_case x
  of_operand (Operand-F.Cast x) = inner.expr w x.expr
  of_operand (Operand-F.Raise x) = of_raise x.action.inner

  abbrev pub of_postfix : OpenPostfix → List Demand
  of_postfix (Postfix-F.In not in_word set) = of_in_set (out-InSet set)
  of_postfix _ = []

  abbrev pub of_expr_part : Part → List Demand
  of_expr_part x = of_operand (out-Operand (out-Part x).operand) ++ flat_map (λ p. of_postfix (out-Postfix p)) (out-Part x).postfixes

  -- what an expression demands
  abbrev pub of_expr : Expr → List Demand
  of_expr x = of_expr_part (out-Expr x).first ++ flat_map (λ more. of_expr_part (out-InfixPart more).part) (out-Expr x).more

-- whether these are COLLATEs alone
abbrev pub only_collates : List Postfix → Bool
only_collates [] = true
only_collates (postfix ∷ more) = elim (out-Postfix postfix) [
  | Postfix-F.Collate collate name ↦ only_collates more
  | _ ↦ false
]

module _ (inner : Expr → Option ColumnUse) where
  -- the column-use that an operand is, or that stands alone in its parentheses
  abbrev pub operand_use : OpenOperand → Option ColumnUse
  operand_use (Operand-F.Column x) = Some x
  operand_use (Operand-F.Exprs x) = elim x.inner.more [ [] ↦ inner x.inner.first | next ∷ more ↦ None ]
  operand_use _ = None

  -- the column-use that an expression is, parentheses aside
  abbrev pub lone_use : Expr → Option ColumnUse
  lone_use x = elim (out-Expr x).more [
    | [] ↦ elim (out-Part (out-Expr x).first).prefixes [
      | [] ↦ elim (out-Part (out-Expr x).first).postfixes [
        | [] ↦ operand_use (out-Operand (out-Part (out-Expr x).first).operand)
        | p ∷ ps ↦ None
      ]
      | t ∷ ts ↦ None
    ]
    | p ∷ ps ↦ None
  ]

  -- the same, COLLATE aside
  abbrev pub bare_use : Expr → Option ColumnUse
  bare_use x = elim (out-Expr x).more [
    | [] ↦ elim (out-Part (out-Expr x).first).prefixes [
      | [] ↦ elim (only_collates (out-Part (out-Expr x).first).postfixes) [
        | true ↦ operand_use (out-Operand (out-Part (out-Expr x).first).operand)
        | false ↦ None
      ]
      | t ∷ ts ↦ None
    ]
    | p ∷ ps ↦ None
  ]
