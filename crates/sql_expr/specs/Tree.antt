use Rattle.std.specs.Prelude.{List, ◌++◌}
use Rattle.sql_token.specs.declared.token.Token.{Token}
use Rattle.sql_token.specs.Spelled.{one, maybe, flat}
use Rattle.sql_expr.specs.Tokens.{after_tokens, alias_tokens, by_tokens, call_tokens, case_tokens, cast_tokens, column_use_tokens, commas_tokens, compound_tokens, in_parens_tokens, indexing_tokens, infix_tokens, join_constraint_tokens, join_tokens, limit_tokens, literal_tokens, named_window_tokens, object_tokens, raise_tokens, result_item_tokens, term_tokens, values_row_tokens, with_tokens}
use Rattle.sql_expr.specs.declared.expr.InSet.{InSet}
use Rattle.sql_expr.specs.declared.expr.Operand.{Operand}
use Rattle.sql_expr.specs.declared.expr.Postfix.{Postfix}
use Rattle.sql_expr.specs.declared.select.Arm.{Arm}
use Rattle.sql_expr.specs.declared.source.TableSource.{TableSource}
use Rattle.sql_expr.specs.declared.expr.Expr.{Expr}
use Rattle.sql_expr.specs.declared.expr.InfixPart.{InfixPart}
use Rattle.sql_expr.specs.declared.expr.Part.{Part}
use Rattle.sql_expr.specs.declared.select.CompoundArm.{CompoundArm}
use Rattle.sql_expr.specs.declared.select.Select.{Select}
use Rattle.sql_expr.specs.declared.select.SelectArm.{SelectArm}
use Rattle.sql_expr.specs.declared.source.JoinedSource.{JoinedSource}
use Rattle.sql_expr.specs.declared.source.Sources.{Sources}
use Rattle.sql_expr.specs.declared.expr.InSet.TheOpen.{InSet-F, Operand-F, Postfix-F, Arm-F, TableSource-F, Expr-F, InfixPart-F, Part-F, CompoundArm-F, Select-F, SelectArm-F, JoinedSource-F, Sources-F}
use Rattle.sql_expr.specs.declared.expr.InSet.TheFolds.{fold-InSet, fold-Operand, fold-Postfix, fold-Arm, fold-TableSource, fold-Expr, fold-InfixPart, fold-Part, fold-CompoundArm, fold-Select, fold-SelectArm, fold-JoinedSource, fold-Sources}

abbrev L : Type 0
L = List Token

-- What one level of a tree spells, given what its parts spell. The types are those of the parts.
module _ {InSet Operand Postfix Arm TableSource Expr InfixPart Part CompoundArm Select SelectArm JoinedSource
    Sources : Type 0} where
  -- "(" [exprs] ")" | "(" select ")" | object | name "(" [exprs] ")"
  abbrev pub in_set_level : (Expr → L) → (Select → L) →
      InSet-F InSet Operand Postfix Arm TableSource Expr InfixPart Part CompoundArm Select
      SelectArm JoinedSource Sources → L
  in_set_level expr select (InSet-F.List part) = in_parens_tokens (maybe (commas_tokens expr)) part
  in_set_level expr select (InSet-F.Query part) = in_parens_tokens select part
  in_set_level expr select (InSet-F.Object part) = object_tokens part
  in_set_level expr select (InSet-F.Function name arguments) =
      one name ++ in_parens_tokens (maybe (commas_tokens expr)) arguments

  -- literal | column-use | call | "(" exprs ")" | [EXISTS] "(" select ")" | CASE .. | CAST .. | RAISE ..
  abbrev pub operand_level : (Expr → L) → (Select → L) →
      Operand-F InSet Operand Postfix Arm TableSource Expr InfixPart Part CompoundArm Select
      SelectArm JoinedSource Sources → L
  operand_level expr select (Operand-F.Literal part) = literal_tokens part
  operand_level expr select (Operand-F.Column part) = column_use_tokens part
  operand_level expr select (Operand-F.Call part) = call_tokens expr part
  operand_level expr select (Operand-F.Exprs part) = in_parens_tokens (commas_tokens expr) part
  operand_level expr select (Operand-F.Subquery exists select') = maybe one exists ++ in_parens_tokens select select'
  operand_level expr select (Operand-F.Case part) = case_tokens expr part
  operand_level expr select (Operand-F.Cast part) = cast_tokens expr part
  operand_level expr select (Operand-F.Raise part) = raise_tokens expr part

  -- COLLATE name | ISNULL | NOTNULL | NOT NULL | [NOT] IN set
  abbrev pub postfix_level : (InSet → L) →
      Postfix-F InSet Operand Postfix Arm TableSource Expr InfixPart Part CompoundArm Select
      SelectArm JoinedSource Sources → L
  postfix_level in_set (Postfix-F.Collate collate name) = one collate ++ one name
  postfix_level in_set (Postfix-F.IsNull part) = one part
  postfix_level in_set (Postfix-F.NotNull part) = one part
  postfix_level in_set (Postfix-F.NotNullWords not null) = one not ++ one null
  postfix_level in_set (Postfix-F.In not in_word set) = maybe one not ++ one in_word ++ in_set set

  -- SELECT .. | VALUES rows
  abbrev pub arm_level : (SelectArm → L) → (Expr → L) →
      Arm-F InSet Operand Postfix Arm TableSource Expr InfixPart Part CompoundArm Select
      SelectArm JoinedSource Sources → L
  arm_level select_arm expr (Arm-F.Select part) = select_arm part
  arm_level select_arm expr (Arm-F.Values values rows) = one values ++ commas_tokens (values_row_tokens expr) rows

  -- object [[AS] alias] [INDEXED BY name | NOT INDEXED] | name "(" [exprs] ")" [[AS] alias] | "(" select ")" [[AS]
  -- alias] | "(" sources ")"
  abbrev pub table_source_level : (Expr → L) → (Select → L) → (Sources → L) →
      TableSource-F InSet Operand Postfix Arm TableSource Expr InfixPart Part CompoundArm
      Select SelectArm JoinedSource Sources → L
  table_source_level expr select sources (TableSource-F.Table object alias indexing) =
      object_tokens object ++ maybe alias_tokens alias ++ maybe indexing_tokens indexing
  table_source_level expr select sources (TableSource-F.TableFunction name arguments alias) =
      one name ++ in_parens_tokens (maybe (commas_tokens expr)) arguments ++ maybe alias_tokens alias
  table_source_level expr select sources (TableSource-F.Derived select' alias) =
      in_parens_tokens select select' ++ maybe alias_tokens alias
  table_source_level expr select sources (TableSource-F.Sources part) = in_parens_tokens sources part

  -- part {infix part}
  abbrev pub expr_level : (Part → L) → (InfixPart → L) →
      Expr-F InSet Operand Postfix Arm TableSource Expr InfixPart Part CompoundArm Select
      SelectArm JoinedSource Sources → L
  expr_level part infix_part x = part x.first ++ flat infix_part x.more

  -- infix part
  abbrev pub infix_part_level : (Part → L) →
      InfixPart-F InSet Operand Postfix Arm TableSource Expr InfixPart Part CompoundArm
      Select SelectArm JoinedSource Sources → L
  infix_part_level part x = infix_tokens x.operator ++ part x.part

  -- {"-" | "+" | "~" | NOT} operand {postfix}
  abbrev pub part_level : (Operand → L) → (Postfix → L) →
      Part-F InSet Operand Postfix Arm TableSource Expr InfixPart Part CompoundArm Select
      SelectArm JoinedSource Sources → L
  part_level operand postfix x = flat one x.prefixes ++ operand x.operand ++ flat postfix x.postfixes

  -- compound arm
  abbrev pub compound_arm_level : (Arm → L) →
      CompoundArm-F InSet Operand Postfix Arm TableSource Expr InfixPart Part CompoundArm
      Select SelectArm JoinedSource Sources → L
  compound_arm_level arm x = compound_tokens x.compound ++ arm x.arm

  -- [WITH [RECURSIVE] ctes] arm {compound arm} [ORDER BY terms] [LIMIT expr [(OFFSET | ",") expr]]
  abbrev pub select_level : (Select → L) → (Arm → L) → (CompoundArm → L) → (Expr → L) →
      Select-F InSet Operand Postfix Arm TableSource Expr InfixPart Part CompoundArm Select
      SelectArm JoinedSource Sources → L
  select_level select arm compound_arm expr x =
      maybe (with_tokens select) x.with_clause ++ arm x.arm ++ flat compound_arm x.compounds
      ++ maybe (by_tokens (term_tokens expr)) x.order ++ maybe (limit_tokens expr) x.limit

  -- SELECT [DISTINCT|ALL] items [FROM sources] [WHERE expr] [GROUP BY exprs] [HAVING expr] [WINDOW named-windows]
  abbrev pub select_arm_level : (Expr → L) → (Sources → L) →
      SelectArm-F InSet Operand Postfix Arm TableSource Expr InfixPart Part CompoundArm
      Select SelectArm JoinedSource Sources → L
  select_arm_level expr sources x =
      one x.select ++ maybe one x.quantifier ++ commas_tokens (result_item_tokens expr) x.items
      ++ maybe (after_tokens sources) x.from ++ maybe (after_tokens expr) x.filter ++ maybe (by_tokens expr) x.group
      ++ maybe (after_tokens expr) x.having ++ maybe (after_tokens (commas_tokens (named_window_tokens expr))) x.windows

  -- join source [ON expr | USING "(" names ")"]
  abbrev pub joined_source_level : (TableSource → L) → (Expr → L) →
      JoinedSource-F InSet Operand Postfix Arm TableSource Expr InfixPart Part CompoundArm
      Select SelectArm JoinedSource Sources → L
  joined_source_level table_source expr x =
      join_tokens x.join ++ table_source x.source ++ maybe (join_constraint_tokens expr) x.constraint

  -- source {join source [ON expr | USING "(" names ")"]}
  abbrev pub sources_level : (TableSource → L) → (JoinedSource → L) →
      Sources-F InSet Operand Postfix Arm TableSource Expr InfixPart Part CompoundArm Select
      SelectArm JoinedSource Sources → L
  sources_level table_source joined_source x = table_source x.first ++ flat joined_source x.more

-- what a child spells, where it has been spelled already
abbrev pub already : L → L
already tokens = tokens

abbrev pub in_set_step : InSet-F L L L L L L L L L L L L L → L
in_set_step = in_set_level already already

abbrev pub operand_step : Operand-F L L L L L L L L L L L L L → L
operand_step = operand_level already already

abbrev pub postfix_step : Postfix-F L L L L L L L L L L L L L → L
postfix_step = postfix_level already

abbrev pub arm_step : Arm-F L L L L L L L L L L L L L → L
arm_step = arm_level already already

abbrev pub table_source_step : TableSource-F L L L L L L L L L L L L L → L
table_source_step = table_source_level already already already

abbrev pub expr_step : Expr-F L L L L L L L L L L L L L → L
expr_step = expr_level already already

abbrev pub infix_part_step : InfixPart-F L L L L L L L L L L L L L → L
infix_part_step = infix_part_level already

abbrev pub part_step : Part-F L L L L L L L L L L L L L → L
part_step = part_level already already

abbrev pub compound_arm_step : CompoundArm-F L L L L L L L L L L L L L → L
compound_arm_step = compound_arm_level already

abbrev pub select_step : Select-F L L L L L L L L L L L L L → L
select_step = select_level already already already already

abbrev pub select_arm_step : SelectArm-F L L L L L L L L L L L L L → L
select_arm_step = select_arm_level already already

abbrev pub joined_source_step : JoinedSource-F L L L L L L L L L L L L L → L
joined_source_step = joined_source_level already already

abbrev pub sources_step : Sources-F L L L L L L L L L L L L L → L
sources_step = sources_level already already

-- what an in set spells, in order
unfoldable pub in_set_tokens : InSet → L
in_set_tokens = fold-InSet L L L L L L L L L L L L L
    in_set_step operand_step postfix_step arm_step table_source_step expr_step infix_part_step
    part_step compound_arm_step select_step select_arm_step joined_source_step sources_step

-- what an operand spells, in order
unfoldable pub operand_tokens : Operand → L
operand_tokens = fold-Operand L L L L L L L L L L L L L
    in_set_step operand_step postfix_step arm_step table_source_step expr_step infix_part_step
    part_step compound_arm_step select_step select_arm_step joined_source_step sources_step

-- what a postfix spells, in order
unfoldable pub postfix_tokens : Postfix → L
postfix_tokens = fold-Postfix L L L L L L L L L L L L L
    in_set_step operand_step postfix_step arm_step table_source_step expr_step infix_part_step
    part_step compound_arm_step select_step select_arm_step joined_source_step sources_step

-- what an arm spells, in order
unfoldable pub arm_tokens : Arm → L
arm_tokens = fold-Arm L L L L L L L L L L L L L
    in_set_step operand_step postfix_step arm_step table_source_step expr_step infix_part_step
    part_step compound_arm_step select_step select_arm_step joined_source_step sources_step

-- what a table source spells, in order
unfoldable pub table_source_tokens : TableSource → L
table_source_tokens = fold-TableSource L L L L L L L L L L L L L
    in_set_step operand_step postfix_step arm_step table_source_step expr_step infix_part_step
    part_step compound_arm_step select_step select_arm_step joined_source_step sources_step

-- what an expr spells, in order
unfoldable pub expr_tokens : Expr → L
expr_tokens = fold-Expr L L L L L L L L L L L L L
    in_set_step operand_step postfix_step arm_step table_source_step expr_step infix_part_step
    part_step compound_arm_step select_step select_arm_step joined_source_step sources_step

-- what an infix part spells, in order
unfoldable pub infix_part_tokens : InfixPart → L
infix_part_tokens = fold-InfixPart L L L L L L L L L L L L L
    in_set_step operand_step postfix_step arm_step table_source_step expr_step infix_part_step
    part_step compound_arm_step select_step select_arm_step joined_source_step sources_step

-- what a part spells, in order
unfoldable pub part_tokens : Part → L
part_tokens = fold-Part L L L L L L L L L L L L L
    in_set_step operand_step postfix_step arm_step table_source_step expr_step infix_part_step
    part_step compound_arm_step select_step select_arm_step joined_source_step sources_step

-- what a compound arm spells, in order
unfoldable pub compound_arm_tokens : CompoundArm → L
compound_arm_tokens = fold-CompoundArm L L L L L L L L L L L L L
    in_set_step operand_step postfix_step arm_step table_source_step expr_step infix_part_step
    part_step compound_arm_step select_step select_arm_step joined_source_step sources_step

-- what a select spells, in order
unfoldable pub select_tokens : Select → L
select_tokens = fold-Select L L L L L L L L L L L L L
    in_set_step operand_step postfix_step arm_step table_source_step expr_step infix_part_step
    part_step compound_arm_step select_step select_arm_step joined_source_step sources_step

-- what a select arm spells, in order
unfoldable pub select_arm_tokens : SelectArm → L
select_arm_tokens = fold-SelectArm L L L L L L L L L L L L L
    in_set_step operand_step postfix_step arm_step table_source_step expr_step infix_part_step
    part_step compound_arm_step select_step select_arm_step joined_source_step sources_step

-- what a joined source spells, in order
unfoldable pub joined_source_tokens : JoinedSource → L
joined_source_tokens = fold-JoinedSource L L L L L L L L L L L L L
    in_set_step operand_step postfix_step arm_step table_source_step expr_step infix_part_step
    part_step compound_arm_step select_step select_arm_step joined_source_step sources_step

-- what a sources spells, in order
unfoldable pub sources_tokens : Sources → L
sources_tokens = fold-Sources L L L L L L L L L L L L L
    in_set_step operand_step postfix_step arm_step table_source_step expr_step infix_part_step
    part_step compound_arm_step select_step select_arm_step joined_source_step sources_step
