-- Selects: the columns that they show, and what they demand.
use Rattle.std.specs.Prelude.{ℕ, ◌+◌, ◌*◌, cond, List, [], ◌∷◌, ◌++◌, length, map, flat_map, codes, decimal, Bool, true, false, Option, Some, None}
use Rattle.std.specs.Option.{option_map_or}
use Rattle.sql_token.specs.declared.token.Token.{Token}
use Rattle.sql_expr.specs.Levels.{OpenArm}
use Rattle.sql_expr.specs.declared.lists.After.{After}
use Rattle.sql_expr.specs.declared.lists.Commas.{Commas}
use Rattle.sql_expr.specs.declared.lists.InParens.{InParens}
use Rattle.sql_expr.specs.declared.lists.NextItem.{NextItem}
use Rattle.sql_expr.specs.declared.names.ColumnUse.{ColumnUse}
use Rattle.sql_expr.specs.declared.names.ColumnUse.TheVariants as ColumnUse'
use Rattle.sql_expr.specs.declared.window.NamedWindow.{NamedWindow}
use Rattle.sql_expr.specs.declared.window.Term.{Term}
use Rattle.sql_expr.specs.declared.select.Cte.{Cte}
use Rattle.sql_expr.specs.declared.select.Limit.{Limit}
use Rattle.sql_expr.specs.declared.select.ResultItem.{ResultItem}
use Rattle.sql_expr.specs.declared.select.ResultItem.TheVariants as ResultItem'
use Rattle.sql_expr.specs.declared.select.ValuesRow.{ValuesRow}
use Rattle.sql_expr.specs.declared.select.With.{With}
use Rattle.sql_expr.specs.declared.expr.Expr.{Expr}
use Rattle.sql_expr.specs.declared.expr.InSet.TheOpen.{Arm-F}
use Rattle.sql_expr.specs.declared.select.Arm.{out-Arm}
use Rattle.sql_expr.specs.declared.select.CompoundArm.{out-CompoundArm}
use Rattle.sql_expr.specs.declared.select.Select.{Select, out-Select}
use Rattle.sql_expr.specs.declared.select.SelectArm.{SelectArm, out-SelectArm}
use Rattle.sql_expr.specs.declared.source.Sources.{Sources}
use Rattle.name_scope.specs.declared.identity.Identity.{Identity}
use Rattle.name_scope.specs.declared.identity.Identity.TheVariants as identity
use Rattle.name_rules.specs.Expressions.{of_term, of_window}
use Rattle.name_rules.specs.Identities.{is_same}
use Rattle.name_rules.specs.Inner.{Inner, items_of, of_each, of_part}
use Rattle.name_rules.specs.Levels.{covered, fixed_binding, level_of, numbered, origin_bindings, star_level}
use Rattle.name_rules.specs.Told.{label_by, told, use_end, use_start}
use Rattle.name_rules.specs.World.{Asking, Binding, Demand, Joined, Label, Origin, Reply, Shown, Text, Where, World}
use Rattle.name_rules.specs.World.Asking.{SourceName, StarSource}
use Rattle.name_rules.specs.World.Demand.{Asks, Counts, HasBody, Shows}
use Rattle.name_rules.specs.World.Label.{FixedName}
use Rattle.name_rules.specs.World.Reply.{One}

-- the arms of a select, in order
abbrev pub arms_of : Select → List OpenArm
arms_of x = map out-Arm ((out-Select x).arm ∷ map (λ next. (out-CompoundArm next).arm) (out-Select x).compounds)

-- those after the first
abbrev pub further_arms : Select → List OpenArm
further_arms x = map (λ next. out-Arm (out-CompoundArm next).arm) (out-Select x).compounds

-- the first token of an arm
abbrev pub arm_start : OpenArm → Token
arm_start (Arm-F.Select x) = (out-SelectArm x).select
arm_start (Arm-F.Values values rows) = values

-- the names of a column list are those of the columns at their places; a column behind them has none
abbrev pub listed : List (List ℕ) → List Shown → List Shown
listed names [] = []
listed [] (c ∷ cs) = record c { name = None } ∷ listed [] cs
listed (name ∷ names) (c ∷ cs) = record c { name = Some (FixedName name) } ∷ listed names cs

-- whether an expression is a column-use of one token
abbrev pub is_one_token : Option ColumnUse → Bool
is_one_token (Some (ColumnUse'.One name)) = true
is_one_token _ = false

-- the source names among what is demanded
abbrev pub source_names : List Demand → List Token
source_names demands = flat_map name_of demands
  where
    first_of : Asking → List Token → List Token
    first_of SourceName (t ∷ more) = t ∷ []
    first_of _ _ = []

    name_of : Demand → List Token
    name_of (Asks a) = first_of a.asking a.tokens
    name_of _ = []

module _ (text : Text) (world : World) (inner : Inner) where
  -- the sources of an arm, and what is joined away among them
  abbrev pub from_origins : Option (After Sources) → List Origin
  from_origins from = option_map_or (λ f. inner.origins f.part) from []

  abbrev pub from_away : Option (After Sources) → List Joined
  from_away from = option_map_or (λ f. inner.away f.part) from []

  -- a result column: by the arm's first token, the item, and the column that a star covers
  abbrev pub result_at : Token → ℕ → ℕ → Identity
  result_at arm item within = identity.Result text.row (text.place arm ∷ []) item within

  -- a column that a star covers gives its name
  abbrev inherited : Token → ℕ → ℕ → Shown → Shown
  inherited arm item within c = record { name = c.name; what = result_at arm item within }

  -- the columns of the source that a name before `.*` denotes
  abbrev all_of : List Origin → Reply → List Shown
  all_of origins (One source what label) = flat_map (λ o. cond (is_same o.source what) o.columns []) origins
  all_of origins _ = []

  -- an item that is one column-use, parentheses aside, inherits its name
  abbrev lone_label : Option ColumnUse → Option Label
  lone_label None = None
  lone_label (Some x) = label_by text world (told text world (use_start x)) (use_end x)

  -- the columns that an item gives
  abbrev pub shown_item : List Joined → List Origin → Token → ℕ → ResultItem Expr → List Shown
  shown_item away origins arm item (ResultItem'.Star star) = numbered (inherited arm item) 0 (flat_map (covered away) origins)
  shown_item away origins arm item (ResultItem'.AllOf name dot star) =
      numbered (inherited arm item) 0 (all_of origins (told text world name))
  shown_item away origins arm item (ResultItem'.Expr expr alias) =
      record {
        name = option_map_or (λ a. Some (FixedName (text.spelled a.name))) alias (lone_label (inner.lone expr));
        what = result_at arm item 0;
      }
      ∷ []

  -- the columns of VALUES are column1, column2 and so on
  abbrev pub value_column : Token → ℕ → Expr → Shown
  value_column arm item expr = record { name = Some (FixedName (codes "column" ++ decimal (item + 1))); what = result_at arm item 0 }

  -- the columns that an arm gives
  abbrev pub shown_arm : OpenArm → List Shown
  shown_arm (Arm-F.Select x) =
      flat_map (λ columns. columns)
      (numbered (shown_item (from_away (out-SelectArm x).from) (from_origins (out-SelectArm x).from) (out-SelectArm x).select) 0
      (items_of (out-SelectArm x).items))
  shown_arm (Arm-F.Values values rows) = numbered (value_column values) 0 (items_of rows.first.exprs.inner)

  -- the result columns of a select are those of its first arm
  abbrev pub shown_of : Select → List Shown
  shown_of x = shown_arm (out-Arm (out-Select x).arm)

  -- the explicit aliases of an arm
  abbrev item_alias : ℕ → Token → ℕ → ResultItem Expr → List Binding
  item_alias class arm item (ResultItem'.Expr expr (Some alias)) =
      fixed_binding class item (text.spelled alias.name) (result_at arm item 0) ∷ []
  item_alias class arm item _ = []

  abbrev pub alias_bindings : ℕ → SelectArm → List Binding
  alias_bindings class x =
      flat_map (λ bindings. bindings) (numbered (item_alias class (out-SelectArm x).select) 0 (items_of (out-SelectArm x).items))

  -- The level of an arm: its sources. At its other level its aliases stand, too, of class 3.
  abbrev pub plain_level : SelectArm → List Binding
  plain_level x = level_of (from_away (out-SelectArm x).from) (from_origins (out-SelectArm x).from)

  abbrev pub alias_level : SelectArm → List Binding
  alias_level x = plain_level x ++ alias_bindings 3 x

  -- What the ORDER BY sees of an arm: its sources and, of this class, its aliases. The classes of arm number i are four times i higher.
  abbrev order_bindings : ℕ → ℕ → OpenArm → List Binding
  order_bindings class arm (Arm-F.Select x) =
      flat_map (origin_bindings (4 * arm) (from_away (out-SelectArm x).from)) (from_origins (out-SelectArm x).from)
      ++ alias_bindings (4 * arm + class) x
  order_bindings class arm (Arm-F.Values values rows) = []

  -- the level of an ORDER BY, with the aliases at class 3, and at class 0
  abbrev pub order_level : ℕ → Select → List Binding
  order_level class x = flat_map (λ bindings. bindings) (numbered (order_bindings class) 0 (arms_of x))

  module _ (w : Where) where
    -- what stands in this level, and around it what is around
    abbrev pub within : List Binding → Where
    within level = record w { columns = level ∷ w.columns }

    abbrev of_item : Where → List Origin → ResultItem Expr → List Demand
    of_item at origins (ResultItem'.Star star) = []
    of_item at origins (ResultItem'.AllOf name dot star) =
        Asks (record { asking = StarSource; tokens = name ∷ []; levels = star_level origins ∷ [] }) ∷ []
    of_item at origins (ResultItem'.Expr expr alias) = inner.expr at expr

    abbrev of_from : SelectArm → List Demand
    of_from x =
        of_part
        (λ f. inner.from (record { around = w; at = within (plain_level x); target = []; away = inner.away f.part }) [] f.part)
        (out-SelectArm x).from

    abbrev of_named_window : Where → NamedWindow Expr → List Demand
    of_named_window at x = of_window inner at x.window

    -- what an arm `SELECT ..` demands
    abbrev pub of_select_arm : SelectArm → List Demand
    of_select_arm x =
        of_from x ++ of_each (of_item (within (plain_level x)) (from_origins (out-SelectArm x).from)) (out-SelectArm x).items
        ++ of_part (λ filter. inner.expr (within (alias_level x)) filter.part) (out-SelectArm x).filter
        ++ of_part (λ group. of_each (inner.expr (within (alias_level x))) group.items) (out-SelectArm x).group
        ++ of_part (λ having. inner.expr (within (alias_level x)) having.part) (out-SelectArm x).having
        ++ of_part (λ windows. of_each (of_named_window (within (plain_level x))) windows.part) (out-SelectArm x).windows

    -- each further row of a VALUES has as many columns as the first
    abbrev row_counts : ℕ → NextItem (ValuesRow Expr) → Demand
    row_counts count next = Counts next.item.exprs.opening count (length (items_of next.item.exprs.inner))

    abbrev pub of_rows : Commas (ValuesRow Expr) → List Demand
    of_rows rows =
        of_each (λ row. of_each (inner.expr (within [])) row.exprs.inner) rows
        ++ map (row_counts (length (items_of rows.first.exprs.inner))) rows.more

    abbrev pub of_arm : OpenArm → List Demand
    of_arm (Arm-F.Select x) = of_select_arm x
    of_arm (Arm-F.Values values rows) = of_rows rows

    -- each further arm of a compound has as many columns as the first
    abbrev arm_counts : ℕ → OpenArm → Demand
    arm_counts count arm = Counts (arm_start arm) count (length (shown_arm arm))

    -- A term of the ORDER BY: where it is one column-use of one token, parentheses and COLLATE aside, it sees aliases first.
    abbrev of_order_term : Select → Term Expr → List Demand
    of_order_term x term =
        of_term inner (within (cond (is_one_token (inner.bare term.expr)) (order_level 0 x) (order_level 3 x))) term

    abbrev of_limit : Limit Expr → List Demand
    of_limit limit =
        inner.expr (record w { columns = [] }) limit.count
        ++ of_part (λ second. inner.expr (record w { columns = [] }) second.part) limit.second

    -- what the arms, the ORDER BY and the LIMIT demand, where the names of the WITH stand already
    abbrev pub of_arms : Select → List Demand
    of_arms x =
        flat_map of_arm (arms_of x) ++ map (arm_counts (length (shown_of x))) (further_arms x)
        ++ of_part (λ order. of_each (of_order_term x) order.items) (out-Select x).order ++ of_part of_limit (out-Select x).limit

  -- a WITH name is known by its token
  abbrev pub cte_at : Cte Select → Identity
  cte_at cte = identity.Cte text.row (text.place cte.name ∷ [])

  abbrev cte_binding : Cte Select → Binding
  cte_binding cte = fixed_binding 0 0 (text.spelled cte.name) (cte_at cte)

  -- the level of a WITH: its names, all at one rank
  abbrev pub with_level : With Select → List Binding
  with_level x = map cte_binding (items_of x.ctes)

  -- the columns of a select, under a column list if there is one
  abbrev pub listed_of : Option (InParens (Commas Token)) → List Shown → List Shown
  listed_of None columns = columns
  listed_of (Some names) columns = listed (map text.spelled (items_of names.inner)) columns

  -- the list has as many names as the select has columns
  abbrev pub of_list : Option (InParens (Commas Token)) → List Shown → List Demand
  of_list names columns = of_part (λ list. Counts list.inner.first (length (items_of list.inner)) (length columns) ∷ []) names

  -- the sources in the FROM of an arm
  abbrev arm_sources : OpenArm → List Identity
  arm_sources (Arm-F.Select x) = map (λ o. o.source) (from_origins (out-SelectArm x).from)
  arm_sources (Arm-F.Values values rows) = []

  -- a body stands where the select of its WITH does, and sees all names of the WITH
  abbrev of_cte : Where → Cte Select → List Demand
  of_cte w cte =
      Shows (cte_at cte) (listed_of cte.columns (inner.shown cte.select.inner))
      ∷ HasBody (cte_at cte) (source_names (inner.select w cte.select.inner)) (flat_map arm_sources (further_arms cte.select.inner))
      ∷ of_list cte.columns (inner.shown cte.select.inner) ++ inner.select w cte.select.inner

  -- where the arms of a select stand: behind the names of its WITH, if it has one
  abbrev pub arms_where : Where → Option (With Select) → Where
  arms_where w None = w
  arms_where w (Some x) = record w { sources = with_level x ∷ w.sources }

  -- what a select demands
  abbrev pub of_select : Where → Select → List Demand
  of_select w x =
      of_part (λ clause. of_each (of_cte (arms_where w (out-Select x).with_clause)) clause.ctes) (out-Select x).with_clause
      ++ of_arms (arms_where w (out-Select x).with_clause) x
