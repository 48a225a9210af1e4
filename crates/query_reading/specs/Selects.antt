-- What is read as a select, one level of it.
use Rattle.std.specs.Prelude.{List, None, Option, Some, [], ◌∷◌}
use Rattle.sql_token.specs.declared.token.Token.{Token}
use Rattle.sql_expr.specs.Levels.{OpenSelectArm}
use Rattle.sql_expr.specs.declared.expr.Expr.{Expr}
use Rattle.sql_expr.specs.declared.lists.After.{After}
use Rattle.sql_expr.specs.declared.lists.By.{By}
use Rattle.sql_expr.specs.declared.lists.Commas.{Commas}
use Rattle.sql_expr.specs.declared.lists.NextItem.{NextItem}
use Rattle.sql_expr.specs.declared.select.Arm.{Arm}
use Rattle.sql_expr.specs.declared.select.Compound.{Compound}
use Rattle.sql_expr.specs.declared.select.CompoundArm.{CompoundArm, roll-CompoundArm}
use Rattle.sql_expr.specs.declared.select.Cte.{Cte}
use Rattle.sql_expr.specs.declared.select.Limit.{Limit}
use Rattle.sql_expr.specs.declared.select.Materialized.{Materialized}
use Rattle.sql_expr.specs.declared.select.ResultItem.{ResultItem}
use Rattle.sql_expr.specs.declared.select.Select.{Select, roll-Select}
use Rattle.sql_expr.specs.declared.select.SelectArm.{SelectArm, roll-SelectArm}
use Rattle.sql_expr.specs.declared.select.ValuesRow.{ValuesRow}
use Rattle.sql_expr.specs.declared.select.With.{With}
use Rattle.sql_expr.specs.declared.source.Sources.{Sources}
use Rattle.sql_expr.specs.declared.window.NamedWindow.{NamedWindow}
use Rattle.sql_expr.specs.declared.window.Term.{Term}
use Rattle.sql_reader.specs.Looks.{Look, Set, either, name, sign, word, words}
use Rattle.sql_reader.specs.Reading.{Read, Reading, begun, choice, formed, lead, leaf, many, opt, sealed, seq, widened, without}
use Rattle.sql_reader.specs.declared.sort.Mark.TheVariants.{Comma, Dot, Star}
use Rattle.sql_reader.specs.declared.sort.Sort.{Sort}
use Rattle.query_reading.specs.Exprs.{Inner, expr, operand_name, select_goes_on, select_starts, sources}
use Rattle.query_reading.specs.Lists.{after, in_parens, maybe_not, next_item, opt_leaf}
use Rattle.query_reading.specs.Names.{opt_alias, opt_names}
use Rattle.query_reading.specs.Opened.{OpenSelect}
use Rattle.query_reading.specs.Operands.{query}
use Rattle.query_reading.specs.Windows.{exprs, named_window, opt_after, opt_by, opt_order}
use Rattle.sql_expr.specs.declared.select.Arm.TheVariants as Arm'
use Rattle.sql_expr.specs.declared.select.Compound.TheVariants as Compound'
use Rattle.sql_token.specs.declared.keyword.Keyword.TheVariants as K
use Rattle.sql_expr.specs.declared.select.ResultItem.TheVariants as ResultItem'

-- [NOT] MATERIALIZED
abbrev materialized_form : (sort : Token → Sort) → Reading sort Materialized
materialized_form sort = formed (λ v. record { not = v.0; materialized = v.1 }) (maybe_not sort (word K.Materialized))

unfoldable pub read_materialized : (Token → Sort) → Read Materialized
read_materialized sort = (materialized_form sort).read

abbrev pub materialized : (sort : Token → Sort) → Reading sort Materialized
materialized sort = sealed (materialized_form sort) (read_materialized sort)

-- how it begins
abbrev pub materialized_starts : Look
materialized_starts = (word K.Not ∷ word K.Materialized ∷ []) ∷ (word K.Materialized ∷ []) ∷ []

-- [[NOT] MATERIALIZED]
abbrev opt_materialized_form : (sort : Token → Sort) → Reading sort (Option Materialized)
opt_materialized_form sort = opt (materialized sort)

unfoldable pub read_opt_materialized : (Token → Sort) → Read (Option Materialized)
read_opt_materialized sort = (opt_materialized_form sort).read

abbrev pub opt_materialized : (sort : Token → Sort) → Reading sort (Option Materialized)
opt_materialized sort = sealed (opt_materialized_form sort) (read_opt_materialized sort)

-- name ["(" names ")"] AS [[NOT] MATERIALIZED] "(" select ")"
abbrev cte_form : (sort : Token → Sort) → Inner → Reading sort (Cte Select)
cte_form sort inner =
    formed (λ v. record { name = v.0.0.0.0; columns = v.0.0.0.1; as_word = v.0.0.1; materialized = v.0.1; select = v.1 })
    (seq (seq (seq (begun name (opt_names sort)) (leaf (word K.As))) (opt_materialized sort)) (query sort inner))

unfoldable pub read_cte : (Token → Sort) → Inner → Read (Cte Select)
read_cte sort inner = (cte_form sort inner).read

abbrev pub cte : (sort : Token → Sort) → Inner → Reading sort (Cte Select)
cte sort inner = sealed (cte_form sort inner) (read_cte sort inner)

-- "," cte
abbrev next_cte_form : (sort : Token → Sort) → Inner → Reading sort (NextItem (Cte Select))
next_cte_form sort inner = next_item (cte sort inner)

unfoldable pub read_next_cte : (Token → Sort) → Inner → Read (NextItem (Cte Select))
read_next_cte sort inner = (next_cte_form sort inner).read

abbrev pub next_cte : (sort : Token → Sort) → Inner → Reading sort (NextItem (Cte Select))
next_cte sort inner = sealed (next_cte_form sort inner) (read_next_cte sort inner)

-- {"," cte}
abbrev more_ctes_form : (sort : Token → Sort) → Inner → Reading sort (List (NextItem (Cte Select)))
more_ctes_form sort inner = many (next_cte sort inner)

unfoldable pub read_more_ctes : (Token → Sort) → Inner → Read (List (NextItem (Cte Select)))
read_more_ctes sort inner = (more_ctes_form sort inner).read

abbrev pub more_ctes : (sort : Token → Sort) → Inner → Reading sort (List (NextItem (Cte Select)))
more_ctes sort inner = sealed (more_ctes_form sort inner) (read_more_ctes sort inner)

-- cte {"," cte}
abbrev ctes_form : (sort : Token → Sort) → Inner → Reading sort (Commas (Cte Select))
ctes_form sort inner = formed (λ v. record { first = v.0; more = v.1 }) (seq (cte sort inner) (more_ctes sort inner))

unfoldable pub read_ctes : (Token → Sort) → Inner → Read (Commas (Cte Select))
read_ctes sort inner = (ctes_form sort inner).read

abbrev pub ctes : (sort : Token → Sort) → Inner → Reading sort (Commas (Cte Select))
ctes sort inner = sealed (ctes_form sort inner) (read_ctes sort inner)

-- WITH RECURSIVE ctes
abbrev with_recursive_form : (sort : Token → Sort) → Inner → Reading sort (With Select)
with_recursive_form sort inner =
    formed (λ v. record { with_word = v.0; recursive = Some v.1.0; ctes = v.1.1 })
    (lead (word K.With) (begun (word K.Recursive) (ctes sort inner)))

unfoldable pub read_with_recursive : (Token → Sort) → Inner → Read (With Select)
read_with_recursive sort inner = (with_recursive_form sort inner).read

abbrev pub with_recursive : (sort : Token → Sort) → Inner → Reading sort (With Select)
with_recursive sort inner = sealed (with_recursive_form sort inner) (read_with_recursive sort inner)

-- ctes, of which the first name is no RECURSIVE
abbrev plain_ctes_form : (sort : Token → Sort) → Inner → Reading sort (Commas (Cte Select))
plain_ctes_form sort inner = without (words (K.Recursive ∷ [])) (ctes sort inner)

unfoldable pub read_plain_ctes : (Token → Sort) → Inner → Read (Commas (Cte Select))
read_plain_ctes sort inner = (plain_ctes_form sort inner).read

abbrev pub plain_ctes : (sort : Token → Sort) → Inner → Reading sort (Commas (Cte Select))
plain_ctes sort inner = sealed (plain_ctes_form sort inner) (read_plain_ctes sort inner)

-- WITH RECURSIVE ctes | WITH ctes
abbrev with_form : (sort : Token → Sort) → Inner → Reading sort (With Select)
with_form sort inner =
    choice (with_recursive sort inner)
    (formed (λ v. record { with_word = v.0; recursive = None; ctes = v.1 }) (lead (word K.With) (plain_ctes sort inner)))

unfoldable pub read_with : (Token → Sort) → Inner → Read (With Select)
read_with sort inner = (with_form sort inner).read

abbrev pub with : (sort : Token → Sort) → Inner → Reading sort (With Select)
with sort inner = sealed (with_form sort inner) (read_with sort inner)

-- [WITH [RECURSIVE] ctes]
abbrev opt_with_form : (sort : Token → Sort) → Inner → Reading sort (Option (With Select))
opt_with_form sort inner = opt (widened ((word K.With ∷ []) ∷ []) ((sign Comma ∷ []) ∷ []) (with sort inner))

unfoldable pub read_opt_with : (Token → Sort) → Inner → Read (Option (With Select))
read_opt_with sort inner = (opt_with_form sort inner).read

abbrev pub opt_with : (sort : Token → Sort) → Inner → Reading sort (Option (With Select))
opt_with sort inner = sealed (opt_with_form sort inner) (read_opt_with sort inner)

-- UNION [ALL] | EXCEPT | INTERSECT
abbrev compound_form : (sort : Token → Sort) → Reading sort Compound
compound_form sort =
    choice (formed (λ v. Compound'.Union v.0 v.1) (begun (word K.Union) (opt_leaf sort (word K.All))))
    (choice (formed (λ t. Compound'.Except t) (leaf (word K.Except))) (formed (λ t. Compound'.Intersect t) (leaf (word K.Intersect))))

unfoldable pub read_compound : (Token → Sort) → Read Compound
read_compound sort = (compound_form sort).read

abbrev pub compound : (sort : Token → Sort) → Reading sort Compound
compound sort = sealed (compound_form sort) (read_compound sort)

-- how a further arm begins
abbrev pub compound_starts : Look
compound_starts = (word K.Union ∷ []) ∷ (word K.Except ∷ []) ∷ (word K.Intersect ∷ []) ∷ []

-- OFFSET | ","
abbrev pub offset_or_comma : Set
offset_or_comma = either (word K.Offset) (sign Comma)

-- [(OFFSET | ",") expr]
abbrev second_limit_form : (sort : Token → Sort) → Inner → Reading sort (Option (After Expr))
second_limit_form sort inner = opt (formed (λ v. record { word = v.0; part = v.1 }) (begun offset_or_comma (expr inner)))

unfoldable pub read_second_limit : (Token → Sort) → Inner → Read (Option (After Expr))
read_second_limit sort inner = (second_limit_form sort inner).read

abbrev pub second_limit : (sort : Token → Sort) → Inner → Reading sort (Option (After Expr))
second_limit sort inner = sealed (second_limit_form sort inner) (read_second_limit sort inner)

-- LIMIT expr [(OFFSET | ",") expr]
abbrev limit_form : (sort : Token → Sort) → Inner → Reading sort (Limit Expr)
limit_form sort inner =
    formed (λ v. record { limit = v.0.0; count = v.0.1; second = v.1 })
    (seq (begun (word K.Limit) (expr inner)) (second_limit sort inner))

unfoldable pub read_limit : (Token → Sort) → Inner → Read (Limit Expr)
read_limit sort inner = (limit_form sort inner).read

abbrev pub limit : (sort : Token → Sort) → Inner → Reading sort (Limit Expr)
limit sort inner = sealed (limit_form sort inner) (read_limit sort inner)

-- [LIMIT expr [(OFFSET | ",") expr]]
abbrev opt_limit_form : (sort : Token → Sort) → Inner → Reading sort (Option (Limit Expr))
opt_limit_form sort inner = opt (limit sort inner)

unfoldable pub read_opt_limit : (Token → Sort) → Inner → Read (Option (Limit Expr))
read_opt_limit sort inner = (opt_limit_form sort inner).read

abbrev pub opt_limit : (sort : Token → Sort) → Inner → Reading sort (Option (Limit Expr))
opt_limit sort inner = sealed (opt_limit_form sort inner) (read_opt_limit sort inner)

-- how all columns of one source are named
abbrev pub all_of_starts : Look
all_of_starts = (operand_name ∷ sign Dot ∷ sign Star ∷ []) ∷ []

-- "*" | name "." "*" | expr [[AS] alias]
abbrev result_item_form : (sort : Token → Sort) → Inner → Reading sort (ResultItem Expr)
result_item_form sort inner =
    choice (formed (λ t. ResultItem'.Star t) (leaf (sign Star)))
    (choice (formed (λ v. ResultItem'.AllOf v.0 v.1.0 v.1.1) (lead operand_name (lead (sign Dot) (leaf (sign Star)))))
    (formed (λ v. ResultItem'.Expr v.0 v.1) (seq (expr inner) (opt_alias sort))))

unfoldable pub read_result_item : (Token → Sort) → Inner → Read (ResultItem Expr)
read_result_item sort inner = (result_item_form sort inner).read

abbrev pub result_item : (sort : Token → Sort) → Inner → Reading sort (ResultItem Expr)
result_item sort inner = sealed (result_item_form sort inner) (read_result_item sort inner)

-- "," item
abbrev next_result_item_form : (sort : Token → Sort) → Inner → Reading sort (NextItem (ResultItem Expr))
next_result_item_form sort inner = next_item (result_item sort inner)

unfoldable pub read_next_result_item : (Token → Sort) → Inner → Read (NextItem (ResultItem Expr))
read_next_result_item sort inner = (next_result_item_form sort inner).read

abbrev pub next_result_item : (sort : Token → Sort) → Inner → Reading sort (NextItem (ResultItem Expr))
next_result_item sort inner = sealed (next_result_item_form sort inner) (read_next_result_item sort inner)

-- {"," item}
abbrev more_result_items_form : (sort : Token → Sort) → Inner → Reading sort (List (NextItem (ResultItem Expr)))
more_result_items_form sort inner = many (next_result_item sort inner)

unfoldable pub read_more_result_items : (Token → Sort) → Inner → Read (List (NextItem (ResultItem Expr)))
read_more_result_items sort inner = (more_result_items_form sort inner).read

abbrev pub more_result_items : (sort : Token → Sort) → Inner → Reading sort (List (NextItem (ResultItem Expr)))
more_result_items sort inner = sealed (more_result_items_form sort inner) (read_more_result_items sort inner)

-- item {"," item}
abbrev result_items_form : (sort : Token → Sort) → Inner → Reading sort (Commas (ResultItem Expr))
result_items_form sort inner = formed (λ v. record { first = v.0; more = v.1 }) (seq (result_item sort inner) (more_result_items sort inner))

unfoldable pub read_result_items : (Token → Sort) → Inner → Read (Commas (ResultItem Expr))
read_result_items sort inner = (result_items_form sort inner).read

abbrev pub result_items : (sort : Token → Sort) → Inner → Reading sort (Commas (ResultItem Expr))
result_items sort inner = sealed (result_items_form sort inner) (read_result_items sort inner)

-- "(" exprs ")"
abbrev values_row_form : (sort : Token → Sort) → Inner → Reading sort (ValuesRow Expr)
values_row_form sort inner = formed (λ v. record { exprs = v }) (in_parens (exprs sort inner))

unfoldable pub read_values_row : (Token → Sort) → Inner → Read (ValuesRow Expr)
read_values_row sort inner = (values_row_form sort inner).read

abbrev pub values_row : (sort : Token → Sort) → Inner → Reading sort (ValuesRow Expr)
values_row sort inner = sealed (values_row_form sort inner) (read_values_row sort inner)

-- "," row
abbrev next_values_row_form : (sort : Token → Sort) → Inner → Reading sort (NextItem (ValuesRow Expr))
next_values_row_form sort inner = next_item (values_row sort inner)

unfoldable pub read_next_values_row : (Token → Sort) → Inner → Read (NextItem (ValuesRow Expr))
read_next_values_row sort inner = (next_values_row_form sort inner).read

abbrev pub next_values_row : (sort : Token → Sort) → Inner → Reading sort (NextItem (ValuesRow Expr))
next_values_row sort inner = sealed (next_values_row_form sort inner) (read_next_values_row sort inner)

-- {"," row}
abbrev more_values_rows_form : (sort : Token → Sort) → Inner → Reading sort (List (NextItem (ValuesRow Expr)))
more_values_rows_form sort inner = many (next_values_row sort inner)

unfoldable pub read_more_values_rows : (Token → Sort) → Inner → Read (List (NextItem (ValuesRow Expr)))
read_more_values_rows sort inner = (more_values_rows_form sort inner).read

abbrev pub more_values_rows : (sort : Token → Sort) → Inner → Reading sort (List (NextItem (ValuesRow Expr)))
more_values_rows sort inner = sealed (more_values_rows_form sort inner) (read_more_values_rows sort inner)

-- row {"," row}
abbrev values_rows_form : (sort : Token → Sort) → Inner → Reading sort (Commas (ValuesRow Expr))
values_rows_form sort inner = formed (λ v. record { first = v.0; more = v.1 }) (seq (values_row sort inner) (more_values_rows sort inner))

unfoldable pub read_values_rows : (Token → Sort) → Inner → Read (Commas (ValuesRow Expr))
read_values_rows sort inner = (values_rows_form sort inner).read

abbrev pub values_rows : (sort : Token → Sort) → Inner → Reading sort (Commas (ValuesRow Expr))
values_rows sort inner = sealed (values_rows_form sort inner) (read_values_rows sort inner)

-- "," named-window
abbrev next_named_window_form : (sort : Token → Sort) → Inner → Reading sort (NextItem (NamedWindow Expr))
next_named_window_form sort inner = next_item (named_window sort inner)

unfoldable pub read_next_named_window : (Token → Sort) → Inner → Read (NextItem (NamedWindow Expr))
read_next_named_window sort inner = (next_named_window_form sort inner).read

abbrev pub next_named_window : (sort : Token → Sort) → Inner → Reading sort (NextItem (NamedWindow Expr))
next_named_window sort inner = sealed (next_named_window_form sort inner) (read_next_named_window sort inner)

-- {"," named-window}
abbrev more_named_windows_form : (sort : Token → Sort) → Inner → Reading sort (List (NextItem (NamedWindow Expr)))
more_named_windows_form sort inner = many (next_named_window sort inner)

unfoldable pub read_more_named_windows : (Token → Sort) → Inner → Read (List (NextItem (NamedWindow Expr)))
read_more_named_windows sort inner = (more_named_windows_form sort inner).read

abbrev pub more_named_windows : (sort : Token → Sort) → Inner → Reading sort (List (NextItem (NamedWindow Expr)))
more_named_windows sort inner = sealed (more_named_windows_form sort inner) (read_more_named_windows sort inner)

-- named-window {"," named-window}
abbrev named_windows_form : (sort : Token → Sort) → Inner → Reading sort (Commas (NamedWindow Expr))
named_windows_form sort inner = formed (λ v. record { first = v.0; more = v.1 }) (seq (named_window sort inner) (more_named_windows sort inner))

unfoldable pub read_named_windows : (Token → Sort) → Inner → Read (Commas (NamedWindow Expr))
read_named_windows sort inner = (named_windows_form sort inner).read

abbrev pub named_windows : (sort : Token → Sort) → Inner → Reading sort (Commas (NamedWindow Expr))
named_windows sort inner = sealed (named_windows_form sort inner) (read_named_windows sort inner)

-- [WINDOW named-windows]
abbrev opt_windows_form : (sort : Token → Sort) → Inner → Reading sort (Option (After (Commas (NamedWindow Expr))))
opt_windows_form sort inner = opt (after K.Window (named_windows sort inner))

unfoldable pub read_opt_windows : (Token → Sort) → Inner → Read (Option (After (Commas (NamedWindow Expr))))
read_opt_windows sort inner = (opt_windows_form sort inner).read

abbrev pub opt_windows : (sort : Token → Sort) → Inner → Reading sort (Option (After (Commas (NamedWindow Expr))))
opt_windows sort inner = sealed (opt_windows_form sort inner) (read_opt_windows sort inner)

-- [FROM sources]
abbrev opt_from_form : (sort : Token → Sort) → Inner → Reading sort (Option (After Sources))
opt_from_form sort inner = opt (after K.From (sources inner))

unfoldable pub read_opt_from : (Token → Sort) → Inner → Read (Option (After Sources))
read_opt_from sort inner = (opt_from_form sort inner).read

abbrev pub opt_from : (sort : Token → Sort) → Inner → Reading sort (Option (After Sources))
opt_from sort inner = sealed (opt_from_form sort inner) (read_opt_from sort inner)

-- a level of an arm that begins with SELECT
abbrev pub open_select_arm : Token → Option Token → Commas (ResultItem Expr) → Option (After Sources) → Option (After Expr)
    → Option (By Expr) → Option (After Expr) → Option (After (Commas (NamedWindow Expr))) → OpenSelectArm
open_select_arm first quantifier items from filter group having windows =
    record {
      select = first;
      quantifier = quantifier;
      items = items;
      from = from;
      filter = filter;
      group = group;
      having = having;
      windows = windows;
    }

-- SELECT [DISTINCT|ALL] items [FROM sources] [WHERE expr] [GROUP BY exprs] [HAVING expr] [WINDOW named-windows]
abbrev select_arm_form : (sort : Token → Sort) → Inner → Reading sort SelectArm
select_arm_form sort inner =
    formed
    (λ v. roll-SelectArm (open_select_arm v.0.0.0.0.0.0.0 v.0.0.0.0.0.0.1 v.0.0.0.0.0.1 v.0.0.0.0.1 v.0.0.0.1 v.0.0.1 v.0.1 v.1))
    (seq (seq (seq (seq (seq (seq (begun (word K.Select) (opt_leaf sort (words (K.Distinct ∷ K.All ∷ [])))) (result_items sort inner))
    (opt_from sort inner)) (opt_after sort inner K.Where)) (opt_by sort inner K.Group)) (opt_after sort inner K.Having))
    (opt_windows sort inner))

unfoldable pub read_select_arm : (Token → Sort) → Inner → Read SelectArm
read_select_arm sort inner = (select_arm_form sort inner).read

abbrev pub select_arm : (sort : Token → Sort) → Inner → Reading sort SelectArm
select_arm sort inner = sealed (select_arm_form sort inner) (read_select_arm sort inner)

-- SELECT .. | VALUES rows
abbrev arm_form : (sort : Token → Sort) → Inner → Reading sort Arm
arm_form sort inner =
    choice (formed (λ v. Arm'.Select v) (select_arm sort inner))
    (formed (λ v. Arm'.Values v.0 v.1) (begun (word K.Values) (values_rows sort inner)))

unfoldable pub read_arm : (Token → Sort) → Inner → Read Arm
read_arm sort inner = (arm_form sort inner).read

abbrev pub arm : (sort : Token → Sort) → Inner → Reading sort Arm
arm sort inner = sealed (arm_form sort inner) (read_arm sort inner)

-- a level of an arm behind others
abbrev pub compound_arm_of : Compound → Arm → CompoundArm
compound_arm_of compound arm = roll-CompoundArm (record { compound = compound; arm = arm })

-- compound arm
abbrev compound_arm_form : (sort : Token → Sort) → Inner → Reading sort CompoundArm
compound_arm_form sort inner = formed (λ v. compound_arm_of v.0 v.1) (seq (compound sort) (arm sort inner))

unfoldable pub read_compound_arm : (Token → Sort) → Inner → Read CompoundArm
read_compound_arm sort inner = (compound_arm_form sort inner).read

abbrev pub compound_arm : (sort : Token → Sort) → Inner → Reading sort CompoundArm
compound_arm sort inner = sealed (compound_arm_form sort inner) (read_compound_arm sort inner)

-- {compound arm}
abbrev compound_arms_form : (sort : Token → Sort) → Inner → Reading sort (List CompoundArm)
compound_arms_form sort inner = many (compound_arm sort inner)

unfoldable pub read_compound_arms : (Token → Sort) → Inner → Read (List CompoundArm)
read_compound_arms sort inner = (compound_arms_form sort inner).read

abbrev pub compound_arms : (sort : Token → Sort) → Inner → Reading sort (List CompoundArm)
compound_arms sort inner = sealed (compound_arms_form sort inner) (read_compound_arms sort inner)

-- a level of a select
abbrev pub open_select : Option (With Select) → Arm → List CompoundArm → Option (By (Term Expr)) → Option (Limit Expr) → OpenSelect
open_select with_clause first compounds order last =
    record { with_clause = with_clause; arm = first; compounds = compounds; order = order; limit = last }

-- [WITH [RECURSIVE] ctes] arm {compound arm} [ORDER BY terms] [LIMIT expr [(OFFSET | ",") expr]]
abbrev select_level_form : (sort : Token → Sort) → Inner → Reading sort Select
select_level_form sort inner =
    widened select_starts select_goes_on
    (formed (λ v. roll-Select (open_select v.0.0.0.0 v.0.0.0.1 v.0.0.1 v.0.1 v.1))
    (seq (seq (seq (seq (opt_with sort inner) (arm sort inner)) (compound_arms sort inner)) (opt_order sort inner)) (opt_limit sort inner)))

unfoldable pub read_select_level : (Token → Sort) → Inner → Read Select
read_select_level sort inner = (select_level_form sort inner).read

abbrev pub select_level : (sort : Token → Sort) → Inner → Reading sort Select
select_level sort inner = sealed (select_level_form sort inner) (read_select_level sort inner)
