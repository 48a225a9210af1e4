use Rattle.std.specs.Prelude.{List, ◌++◌, ◌≡◌, Option}
use mathlib.Core.Path.{refl, ap, sym, ◌∙◌}
use Rattle.sql_token.specs.declared.token.Token.{Token}
use Rattle.sql_token.specs.Spelled.{one, maybe, flat}
use Rattle.sql_expr.specs.Tokens.{after_tokens, alias_tokens, by_tokens, call_tokens, case_tokens, cast_tokens, column_use_tokens, commas_tokens, compound_tokens, in_parens_tokens, indexing_tokens, infix_tokens, join_constraint_tokens, join_tokens, limit_tokens, literal_tokens, named_window_tokens, object_tokens, raise_tokens, result_item_tokens, term_tokens, values_row_tokens, with_tokens}
use Rattle.sql_expr.specs.Tree.{already, in_set_level, in_set_step, in_set_tokens, operand_level, operand_step, operand_tokens, postfix_level, postfix_step, postfix_tokens, arm_level, arm_step, arm_tokens, table_source_level, table_source_step, table_source_tokens, expr_level, expr_step, expr_tokens, infix_part_level, infix_part_step, infix_part_tokens, part_level, part_step, part_tokens, compound_arm_level, compound_arm_step, compound_arm_tokens, select_level, select_step, select_tokens, select_arm_level, select_arm_step, select_arm_tokens, joined_source_level, joined_source_step, joined_source_tokens, sources_level, sources_step, sources_tokens}
use Rattle.sql_expr.proofs.Maps.{after-map, after_map, by-map, by_map, call-map, case-map, cast-map, commas-map, commas_map, flat-map, in_parens-map, join_constraint-map, join_constraint_map, limit-map, limit_map, maybe-map, named_window-map, named_window_map, option_map, raise-map, result_item-map, result_item_map, term-map, term_map, values_row-map, values_row_map, with-map, with_map}
use Rattle.sql_expr.specs.declared.expr.InSet.{InSet, out-InSet, roll-InSet, out-roll-InSet}
use Rattle.sql_expr.specs.declared.expr.InSet.TheVariants as InSet'
use Rattle.sql_expr.specs.declared.expr.Operand.{Operand, out-Operand, roll-Operand, out-roll-Operand}
use Rattle.sql_expr.specs.declared.expr.Operand.TheVariants as Operand'
use Rattle.sql_expr.specs.declared.expr.Postfix.{Postfix, out-Postfix, roll-Postfix, out-roll-Postfix}
use Rattle.sql_expr.specs.declared.expr.Postfix.TheVariants as Postfix'
use Rattle.sql_expr.specs.declared.select.Arm.{Arm, out-Arm, roll-Arm, out-roll-Arm}
use Rattle.sql_expr.specs.declared.select.Arm.TheVariants as Arm'
use Rattle.sql_expr.specs.declared.source.TableSource.{TableSource, out-TableSource, roll-TableSource, out-roll-TableSource}
use Rattle.sql_expr.specs.declared.source.TableSource.TheVariants as TableSource'
use Rattle.sql_expr.specs.declared.expr.Expr.{Expr, out-Expr, roll-Expr, out-roll-Expr}
use Rattle.sql_expr.specs.declared.expr.InfixPart.{InfixPart, out-InfixPart, roll-InfixPart, out-roll-InfixPart}
use Rattle.sql_expr.specs.declared.expr.Part.{Part, out-Part, roll-Part, out-roll-Part}
use Rattle.sql_expr.specs.declared.select.CompoundArm.{CompoundArm, out-CompoundArm, roll-CompoundArm, out-roll-CompoundArm}
use Rattle.sql_expr.specs.declared.select.Select.{Select, out-Select, roll-Select, out-roll-Select}
use Rattle.sql_expr.specs.declared.select.SelectArm.{SelectArm, out-SelectArm, roll-SelectArm, out-roll-SelectArm}
use Rattle.sql_expr.specs.declared.source.JoinedSource.{JoinedSource, out-JoinedSource, roll-JoinedSource, out-roll-JoinedSource}
use Rattle.sql_expr.specs.declared.source.Sources.{Sources, out-Sources, roll-Sources, out-roll-Sources}
use Rattle.sql_expr.specs.declared.names.Alias.{Alias}
use Rattle.sql_expr.specs.declared.call.Call.{Call}
use Rattle.sql_expr.specs.declared.call.Case.{Case}
use Rattle.sql_expr.specs.declared.call.Cast.{Cast}
use Rattle.sql_expr.specs.declared.names.ColumnUse.{ColumnUse}
use Rattle.sql_expr.specs.declared.lists.Commas.{Commas}
use Rattle.sql_expr.specs.declared.lists.InParens.{InParens}
use Rattle.sql_expr.specs.declared.source.Indexing.{Indexing}
use Rattle.sql_expr.specs.declared.operators.Literal.{Literal}
use Rattle.sql_expr.specs.declared.names.Object.{Object}
use Rattle.sql_expr.specs.declared.call.Raise.{Raise}
use Rattle.sql_expr.specs.declared.select.ValuesRow.{ValuesRow}
use Rattle.sql_expr.specs.declared.expr.InSet.TheOpen.{InSet-F, Operand-F, Postfix-F, Arm-F, TableSource-F, Expr-F, InfixPart-F, Part-F, CompoundArm-F, Select-F, SelectArm-F, JoinedSource-F, Sources-F}
use Rattle.sql_expr.specs.declared.expr.InSet.TheFolds.{map-InSet, fold_out-InSet, map-Operand, fold_out-Operand, map-Postfix, fold_out-Postfix, map-Arm, fold_out-Arm, map-TableSource, fold_out-TableSource, map-Expr, fold_out-Expr, map-InfixPart, fold_out-InfixPart, map-Part, fold_out-Part, map-CompoundArm, fold_out-CompoundArm, map-Select, fold_out-Select, map-SelectArm, fold_out-SelectArm, map-JoinedSource, fold_out-JoinedSource, map-Sources, fold_out-Sources}

abbrev L : Type 0
L = List Token

level_in_set :
    (x : InSet-F InSet Operand Postfix Arm TableSource Expr InfixPart Part CompoundArm Select SelectArm JoinedSource
    Sources) → in_set_step
    (map-InSet InSet Operand Postfix Arm TableSource Expr InfixPart Part CompoundArm Select SelectArm JoinedSource
    Sources L L L L L L L L L L L L L
    in_set_tokens operand_tokens postfix_tokens arm_tokens table_source_tokens expr_tokens
    infix_part_tokens part_tokens compound_arm_tokens select_tokens select_arm_tokens
    joined_source_tokens sources_tokens x) ≡ in_set_level expr_tokens select_tokens x
level_in_set (InSet-F.List part) =
    λ i. in_parens-map (maybe (commas_tokens already)) (maybe (commas_tokens expr_tokens))
    (option_map (commas_map expr_tokens))
    (maybe-map (commas_tokens already) (commas_tokens expr_tokens) (commas_map expr_tokens)
    (commas-map already expr_tokens expr_tokens ((λ y. refl)))) part i
level_in_set (InSet-F.Query part) = λ i. in_parens-map already select_tokens select_tokens ((λ y. refl)) part i
level_in_set (InSet-F.Object part) = refl
level_in_set (InSet-F.Function name arguments) =
    λ i. one name
    ++ in_parens-map (maybe (commas_tokens already)) (maybe (commas_tokens expr_tokens))
    (option_map (commas_map expr_tokens))
    (maybe-map (commas_tokens already) (commas_tokens expr_tokens) (commas_map expr_tokens)
    (commas-map already expr_tokens expr_tokens ((λ y. refl)))) arguments i

-- an in set spells what its parts spell, in order
pub opened_in_set : (x : InSet) → in_set_tokens x ≡ in_set_level expr_tokens select_tokens (out-InSet x)
unfolding in_set_tokens operand_tokens postfix_tokens arm_tokens table_source_tokens expr_tokens infix_part_tokens
    part_tokens compound_arm_tokens select_tokens select_arm_tokens joined_source_tokens sources_tokens
opened_in_set x = fold_out-InSet L L L L L L L L L L L L L
    in_set_step operand_step postfix_step arm_step table_source_step expr_step infix_part_step
    part_step compound_arm_step select_step select_arm_step joined_source_step sources_step x
    ∙ level_in_set (out-InSet x)

pub made_in_set :
    (x : InSet-F InSet Operand Postfix Arm TableSource Expr InfixPart Part CompoundArm Select SelectArm JoinedSource
    Sources) → in_set_tokens (roll-InSet x) ≡ in_set_level expr_tokens select_tokens x
made_in_set x = opened_in_set (roll-InSet x) ∙ ap (in_set_level expr_tokens select_tokens) (out-roll-InSet x)

pub in_set_tokens-List : (part : InParens (Option (Commas Expr)))
    → in_set_tokens (InSet'.List part) ≡ in_parens_tokens (maybe (commas_tokens expr_tokens)) part
in_set_tokens-List part = ap in_set_tokens (sym (InSet'.rolls-List part)) ∙ made_in_set (InSet-F.List part)

pub in_set_tokens-Query : (part : InParens Select)
    → in_set_tokens (InSet'.Query part) ≡ in_parens_tokens select_tokens part
in_set_tokens-Query part = ap in_set_tokens (sym (InSet'.rolls-Query part)) ∙ made_in_set (InSet-F.Query part)

pub in_set_tokens-Object : (part : Object) → in_set_tokens (InSet'.Object part) ≡ object_tokens part
in_set_tokens-Object part = ap in_set_tokens (sym (InSet'.rolls-Object part)) ∙ made_in_set (InSet-F.Object part)

pub in_set_tokens-Function : (name : Token) → (arguments : InParens (Option (Commas Expr)))
    → in_set_tokens (InSet'.Function name arguments) ≡ one name
    ++ in_parens_tokens (maybe (commas_tokens expr_tokens)) arguments
in_set_tokens-Function name arguments =
    ap in_set_tokens (sym (InSet'.rolls-Function name arguments)) ∙ made_in_set (InSet-F.Function name arguments)

level_operand :
    (x : Operand-F InSet Operand Postfix Arm TableSource Expr InfixPart Part CompoundArm Select SelectArm JoinedSource
    Sources) → operand_step
    (map-Operand InSet Operand Postfix Arm TableSource Expr InfixPart Part CompoundArm Select SelectArm JoinedSource
    Sources L L L L L L L L L L L L L
    in_set_tokens operand_tokens postfix_tokens arm_tokens table_source_tokens expr_tokens
    infix_part_tokens part_tokens compound_arm_tokens select_tokens select_arm_tokens
    joined_source_tokens sources_tokens x) ≡ operand_level expr_tokens select_tokens x
level_operand (Operand-F.Literal part) = refl
level_operand (Operand-F.Column part) = refl
level_operand (Operand-F.Call part) = λ i. call-map already expr_tokens expr_tokens ((λ y. refl)) part i
level_operand (Operand-F.Exprs part) =
    λ i. in_parens-map (commas_tokens already) (commas_tokens expr_tokens) (commas_map expr_tokens)
    (commas-map already expr_tokens expr_tokens ((λ y. refl))) part i
level_operand (Operand-F.Subquery exists select) =
    λ i. maybe one exists ++ in_parens-map already select_tokens select_tokens ((λ y. refl)) select i
level_operand (Operand-F.Case part) = λ i. case-map already expr_tokens expr_tokens ((λ y. refl)) part i
level_operand (Operand-F.Cast part) = λ i. cast-map already expr_tokens expr_tokens ((λ y. refl)) part i
level_operand (Operand-F.Raise part) = λ i. raise-map already expr_tokens expr_tokens ((λ y. refl)) part i

-- an operand spells what its parts spell, in order
pub opened_operand : (x : Operand) → operand_tokens x ≡ operand_level expr_tokens select_tokens (out-Operand x)
unfolding in_set_tokens operand_tokens postfix_tokens arm_tokens table_source_tokens expr_tokens infix_part_tokens
    part_tokens compound_arm_tokens select_tokens select_arm_tokens joined_source_tokens sources_tokens
opened_operand x = fold_out-Operand L L L L L L L L L L L L L
    in_set_step operand_step postfix_step arm_step table_source_step expr_step infix_part_step
    part_step compound_arm_step select_step select_arm_step joined_source_step sources_step x
    ∙ level_operand (out-Operand x)

pub made_operand :
    (x : Operand-F InSet Operand Postfix Arm TableSource Expr InfixPart Part CompoundArm Select SelectArm JoinedSource
    Sources) → operand_tokens (roll-Operand x) ≡ operand_level expr_tokens select_tokens x
made_operand x = opened_operand (roll-Operand x) ∙ ap (operand_level expr_tokens select_tokens) (out-roll-Operand x)

pub operand_tokens-Literal : (part : Literal) → operand_tokens (Operand'.Literal part) ≡ literal_tokens part
operand_tokens-Literal part =
    ap operand_tokens (sym (Operand'.rolls-Literal part)) ∙ made_operand (Operand-F.Literal part)

pub operand_tokens-Column : (part : ColumnUse) → operand_tokens (Operand'.Column part) ≡ column_use_tokens part
operand_tokens-Column part = ap operand_tokens (sym (Operand'.rolls-Column part)) ∙ made_operand (Operand-F.Column part)

pub operand_tokens-Call : (part : Call Expr) → operand_tokens (Operand'.Call part) ≡ call_tokens expr_tokens part
operand_tokens-Call part = ap operand_tokens (sym (Operand'.rolls-Call part)) ∙ made_operand (Operand-F.Call part)

pub operand_tokens-Exprs : (part : InParens (Commas Expr))
    → operand_tokens (Operand'.Exprs part) ≡ in_parens_tokens (commas_tokens expr_tokens) part
operand_tokens-Exprs part = ap operand_tokens (sym (Operand'.rolls-Exprs part)) ∙ made_operand (Operand-F.Exprs part)

pub operand_tokens-Subquery : (exists : Option Token) → (select : InParens Select)
    → operand_tokens (Operand'.Subquery exists select) ≡ maybe one exists ++ in_parens_tokens select_tokens select
operand_tokens-Subquery exists select =
    ap operand_tokens (sym (Operand'.rolls-Subquery exists select)) ∙ made_operand (Operand-F.Subquery exists select)

pub operand_tokens-Case : (part : Case Expr) → operand_tokens (Operand'.Case part) ≡ case_tokens expr_tokens part
operand_tokens-Case part = ap operand_tokens (sym (Operand'.rolls-Case part)) ∙ made_operand (Operand-F.Case part)

pub operand_tokens-Cast : (part : Cast Expr) → operand_tokens (Operand'.Cast part) ≡ cast_tokens expr_tokens part
operand_tokens-Cast part = ap operand_tokens (sym (Operand'.rolls-Cast part)) ∙ made_operand (Operand-F.Cast part)

pub operand_tokens-Raise : (part : Raise Expr) → operand_tokens (Operand'.Raise part) ≡ raise_tokens expr_tokens part
operand_tokens-Raise part = ap operand_tokens (sym (Operand'.rolls-Raise part)) ∙ made_operand (Operand-F.Raise part)

level_postfix :
    (x : Postfix-F InSet Operand Postfix Arm TableSource Expr InfixPart Part CompoundArm Select SelectArm JoinedSource
    Sources) → postfix_step
    (map-Postfix InSet Operand Postfix Arm TableSource Expr InfixPart Part CompoundArm Select SelectArm JoinedSource
    Sources L L L L L L L L L L L L L
    in_set_tokens operand_tokens postfix_tokens arm_tokens table_source_tokens expr_tokens
    infix_part_tokens part_tokens compound_arm_tokens select_tokens select_arm_tokens
    joined_source_tokens sources_tokens x) ≡ postfix_level in_set_tokens x
level_postfix (Postfix-F.Collate collate name) = refl
level_postfix (Postfix-F.IsNull part) = refl
level_postfix (Postfix-F.NotNull part) = refl
level_postfix (Postfix-F.NotNullWords not null) = refl
level_postfix (Postfix-F.In not in_word set) = refl

-- a postfix spells what its parts spell, in order
pub opened_postfix : (x : Postfix) → postfix_tokens x ≡ postfix_level in_set_tokens (out-Postfix x)
unfolding in_set_tokens operand_tokens postfix_tokens arm_tokens table_source_tokens expr_tokens infix_part_tokens
    part_tokens compound_arm_tokens select_tokens select_arm_tokens joined_source_tokens sources_tokens
opened_postfix x = fold_out-Postfix L L L L L L L L L L L L L
    in_set_step operand_step postfix_step arm_step table_source_step expr_step infix_part_step
    part_step compound_arm_step select_step select_arm_step joined_source_step sources_step x
    ∙ level_postfix (out-Postfix x)

pub made_postfix :
    (x : Postfix-F InSet Operand Postfix Arm TableSource Expr InfixPart Part CompoundArm Select SelectArm JoinedSource
    Sources) → postfix_tokens (roll-Postfix x) ≡ postfix_level in_set_tokens x
made_postfix x = opened_postfix (roll-Postfix x) ∙ ap (postfix_level in_set_tokens) (out-roll-Postfix x)

pub postfix_tokens-Collate : (collate : Token) → (name : Token)
    → postfix_tokens (Postfix'.Collate collate name) ≡ one collate ++ one name
postfix_tokens-Collate collate name =
    ap postfix_tokens (sym (Postfix'.rolls-Collate collate name)) ∙ made_postfix (Postfix-F.Collate collate name)

pub postfix_tokens-IsNull : (part : Token) → postfix_tokens (Postfix'.IsNull part) ≡ one part
postfix_tokens-IsNull part = ap postfix_tokens (sym (Postfix'.rolls-IsNull part)) ∙ made_postfix (Postfix-F.IsNull part)

pub postfix_tokens-NotNull : (part : Token) → postfix_tokens (Postfix'.NotNull part) ≡ one part
postfix_tokens-NotNull part =
    ap postfix_tokens (sym (Postfix'.rolls-NotNull part)) ∙ made_postfix (Postfix-F.NotNull part)

pub postfix_tokens-NotNullWords : (not : Token) → (null : Token)
    → postfix_tokens (Postfix'.NotNullWords not null) ≡ one not ++ one null
postfix_tokens-NotNullWords not null =
    ap postfix_tokens (sym (Postfix'.rolls-NotNullWords not null)) ∙ made_postfix (Postfix-F.NotNullWords not null)

pub postfix_tokens-In : (not : Option Token) → (in_word : Token) → (set : InSet)
    → postfix_tokens (Postfix'.In not in_word set) ≡ maybe one not ++ one in_word ++ in_set_tokens set
postfix_tokens-In not in_word set =
    ap postfix_tokens (sym (Postfix'.rolls-In not in_word set)) ∙ made_postfix (Postfix-F.In not in_word set)

level_arm :
    (x : Arm-F InSet Operand Postfix Arm TableSource Expr InfixPart Part CompoundArm Select SelectArm JoinedSource
    Sources) → arm_step
    (map-Arm InSet Operand Postfix Arm TableSource Expr InfixPart Part CompoundArm Select SelectArm JoinedSource
    Sources L L L L L L L L L L L L L
    in_set_tokens operand_tokens postfix_tokens arm_tokens table_source_tokens expr_tokens
    infix_part_tokens part_tokens compound_arm_tokens select_tokens select_arm_tokens
    joined_source_tokens sources_tokens x) ≡ arm_level select_arm_tokens expr_tokens x
level_arm (Arm-F.Select part) = refl
level_arm (Arm-F.Values values rows) =
    λ i. one values
    ++ commas-map (values_row_tokens already) (values_row_tokens expr_tokens) (values_row_map expr_tokens)
    (values_row-map already expr_tokens expr_tokens ((λ y. refl))) rows i

-- an arm spells what its parts spell, in order
pub opened_arm : (x : Arm) → arm_tokens x ≡ arm_level select_arm_tokens expr_tokens (out-Arm x)
unfolding in_set_tokens operand_tokens postfix_tokens arm_tokens table_source_tokens expr_tokens infix_part_tokens
    part_tokens compound_arm_tokens select_tokens select_arm_tokens joined_source_tokens sources_tokens
opened_arm x = fold_out-Arm L L L L L L L L L L L L L
    in_set_step operand_step postfix_step arm_step table_source_step expr_step infix_part_step
    part_step compound_arm_step select_step select_arm_step joined_source_step sources_step x
    ∙ level_arm (out-Arm x)

pub made_arm :
    (x : Arm-F InSet Operand Postfix Arm TableSource Expr InfixPart Part CompoundArm Select SelectArm JoinedSource
    Sources) → arm_tokens (roll-Arm x) ≡ arm_level select_arm_tokens expr_tokens x
made_arm x = opened_arm (roll-Arm x) ∙ ap (arm_level select_arm_tokens expr_tokens) (out-roll-Arm x)

pub arm_tokens-Select : (part : SelectArm) → arm_tokens (Arm'.Select part) ≡ select_arm_tokens part
arm_tokens-Select part = ap arm_tokens (sym (Arm'.rolls-Select part)) ∙ made_arm (Arm-F.Select part)

pub arm_tokens-Values : (values : Token) → (rows : Commas (ValuesRow Expr))
    → arm_tokens (Arm'.Values values rows) ≡ one values ++ commas_tokens (values_row_tokens expr_tokens) rows
arm_tokens-Values values rows = ap arm_tokens (sym (Arm'.rolls-Values values rows)) ∙ made_arm (Arm-F.Values values rows)

level_table_source :
    (x : TableSource-F InSet Operand Postfix Arm TableSource Expr InfixPart Part CompoundArm Select SelectArm
    JoinedSource Sources)
    → table_source_step
    (map-TableSource InSet Operand Postfix Arm TableSource Expr InfixPart Part CompoundArm Select SelectArm
    JoinedSource Sources L L L L L L L L L L L L L
    in_set_tokens operand_tokens postfix_tokens arm_tokens table_source_tokens expr_tokens
    infix_part_tokens part_tokens compound_arm_tokens select_tokens select_arm_tokens
    joined_source_tokens sources_tokens x) ≡ table_source_level expr_tokens select_tokens sources_tokens x
level_table_source (TableSource-F.Table object alias indexing) = refl
level_table_source (TableSource-F.TableFunction name arguments alias) =
    λ i. one name
    ++ in_parens-map (maybe (commas_tokens already)) (maybe (commas_tokens expr_tokens))
    (option_map (commas_map expr_tokens))
    (maybe-map (commas_tokens already) (commas_tokens expr_tokens) (commas_map expr_tokens)
    (commas-map already expr_tokens expr_tokens ((λ y. refl)))) arguments i ++ maybe alias_tokens alias
level_table_source (TableSource-F.Derived select alias) =
    λ i. in_parens-map already select_tokens select_tokens ((λ y. refl)) select i ++ maybe alias_tokens alias
level_table_source (TableSource-F.Sources part) =
    λ i. in_parens-map already sources_tokens sources_tokens ((λ y. refl)) part i

-- a table source spells what its parts spell, in order
pub opened_table_source : (x : TableSource)
    → table_source_tokens x ≡ table_source_level expr_tokens select_tokens sources_tokens (out-TableSource x)
unfolding in_set_tokens operand_tokens postfix_tokens arm_tokens table_source_tokens expr_tokens infix_part_tokens
    part_tokens compound_arm_tokens select_tokens select_arm_tokens joined_source_tokens sources_tokens
opened_table_source x = fold_out-TableSource L L L L L L L L L L L L L
    in_set_step operand_step postfix_step arm_step table_source_step expr_step infix_part_step
    part_step compound_arm_step select_step select_arm_step joined_source_step sources_step x
    ∙ level_table_source (out-TableSource x)

pub made_table_source :
    (x : TableSource-F InSet Operand Postfix Arm TableSource Expr InfixPart Part CompoundArm Select SelectArm
    JoinedSource Sources)
    → table_source_tokens (roll-TableSource x) ≡ table_source_level expr_tokens select_tokens sources_tokens x
made_table_source x =
    opened_table_source (roll-TableSource x)
    ∙ ap (table_source_level expr_tokens select_tokens sources_tokens) (out-roll-TableSource x)

pub table_source_tokens-Table : (object : Object) → (alias : Option Alias) → (indexing : Option Indexing)
    → table_source_tokens (TableSource'.Table object alias indexing) ≡ object_tokens object ++ maybe alias_tokens alias
    ++ maybe indexing_tokens indexing
table_source_tokens-Table object alias indexing =
    ap table_source_tokens (sym (TableSource'.rolls-Table object alias indexing))
    ∙ made_table_source (TableSource-F.Table object alias indexing)

pub table_source_tokens-TableFunction : (name : Token) → (arguments : InParens (Option (Commas Expr)))
    → (alias : Option Alias) → table_source_tokens (TableSource'.TableFunction name arguments alias) ≡ one name
    ++ in_parens_tokens (maybe (commas_tokens expr_tokens)) arguments ++ maybe alias_tokens alias
table_source_tokens-TableFunction name arguments alias =
    ap table_source_tokens (sym (TableSource'.rolls-TableFunction name arguments alias))
    ∙ made_table_source (TableSource-F.TableFunction name arguments alias)

pub table_source_tokens-Derived : (select : InParens Select) → (alias : Option Alias)
    → table_source_tokens (TableSource'.Derived select alias) ≡ in_parens_tokens select_tokens select
    ++ maybe alias_tokens alias
table_source_tokens-Derived select alias =
    ap table_source_tokens (sym (TableSource'.rolls-Derived select alias))
    ∙ made_table_source (TableSource-F.Derived select alias)

pub table_source_tokens-Sources : (part : InParens Sources)
    → table_source_tokens (TableSource'.Sources part) ≡ in_parens_tokens sources_tokens part
table_source_tokens-Sources part =
    ap table_source_tokens (sym (TableSource'.rolls-Sources part)) ∙ made_table_source (TableSource-F.Sources part)

level_expr :
    (x : Expr-F InSet Operand Postfix Arm TableSource Expr InfixPart Part CompoundArm Select SelectArm JoinedSource
    Sources) → expr_step
    (map-Expr InSet Operand Postfix Arm TableSource Expr InfixPart Part CompoundArm Select SelectArm JoinedSource
    Sources L L L L L L L L L L L L L
    in_set_tokens operand_tokens postfix_tokens arm_tokens table_source_tokens expr_tokens
    infix_part_tokens part_tokens compound_arm_tokens select_tokens select_arm_tokens
    joined_source_tokens sources_tokens x) ≡ expr_level part_tokens infix_part_tokens x
level_expr x = λ i. part_tokens x.first ++ flat-map already infix_part_tokens infix_part_tokens ((λ y. refl)) x.more i

-- an expr spells what its parts spell, in order
pub opened_expr : (x : Expr) → expr_tokens x ≡ expr_level part_tokens infix_part_tokens (out-Expr x)
unfolding in_set_tokens operand_tokens postfix_tokens arm_tokens table_source_tokens expr_tokens infix_part_tokens
    part_tokens compound_arm_tokens select_tokens select_arm_tokens joined_source_tokens sources_tokens
opened_expr x = fold_out-Expr L L L L L L L L L L L L L
    in_set_step operand_step postfix_step arm_step table_source_step expr_step infix_part_step
    part_step compound_arm_step select_step select_arm_step joined_source_step sources_step x
    ∙ level_expr (out-Expr x)

pub made_expr :
    (x : Expr-F InSet Operand Postfix Arm TableSource Expr InfixPart Part CompoundArm Select SelectArm JoinedSource
    Sources) → expr_tokens (roll-Expr x) ≡ expr_level part_tokens infix_part_tokens x
made_expr x = opened_expr (roll-Expr x) ∙ ap (expr_level part_tokens infix_part_tokens) (out-roll-Expr x)

level_infix_part :
    (x : InfixPart-F InSet Operand Postfix Arm TableSource Expr InfixPart Part CompoundArm Select SelectArm
    JoinedSource Sources)
    → infix_part_step
    (map-InfixPart InSet Operand Postfix Arm TableSource Expr InfixPart Part CompoundArm Select SelectArm JoinedSource
    Sources L L L L L L L L L L L L L
    in_set_tokens operand_tokens postfix_tokens arm_tokens table_source_tokens expr_tokens
    infix_part_tokens part_tokens compound_arm_tokens select_tokens select_arm_tokens
    joined_source_tokens sources_tokens x) ≡ infix_part_level part_tokens x
level_infix_part x = λ i. infix_tokens x.operator ++ part_tokens x.part

-- an infix part spells what its parts spell, in order
pub opened_infix_part : (x : InfixPart) → infix_part_tokens x ≡ infix_part_level part_tokens (out-InfixPart x)
unfolding in_set_tokens operand_tokens postfix_tokens arm_tokens table_source_tokens expr_tokens infix_part_tokens
    part_tokens compound_arm_tokens select_tokens select_arm_tokens joined_source_tokens sources_tokens
opened_infix_part x = fold_out-InfixPart L L L L L L L L L L L L L
    in_set_step operand_step postfix_step arm_step table_source_step expr_step infix_part_step
    part_step compound_arm_step select_step select_arm_step joined_source_step sources_step x
    ∙ level_infix_part (out-InfixPart x)

pub made_infix_part :
    (x : InfixPart-F InSet Operand Postfix Arm TableSource Expr InfixPart Part CompoundArm Select SelectArm
    JoinedSource Sources) → infix_part_tokens (roll-InfixPart x) ≡ infix_part_level part_tokens x
made_infix_part x = opened_infix_part (roll-InfixPart x) ∙ ap (infix_part_level part_tokens) (out-roll-InfixPart x)

level_part :
    (x : Part-F InSet Operand Postfix Arm TableSource Expr InfixPart Part CompoundArm Select SelectArm JoinedSource
    Sources) → part_step
    (map-Part InSet Operand Postfix Arm TableSource Expr InfixPart Part CompoundArm Select SelectArm JoinedSource
    Sources L L L L L L L L L L L L L
    in_set_tokens operand_tokens postfix_tokens arm_tokens table_source_tokens expr_tokens
    infix_part_tokens part_tokens compound_arm_tokens select_tokens select_arm_tokens
    joined_source_tokens sources_tokens x) ≡ part_level operand_tokens postfix_tokens x
level_part x =
    λ i. flat one x.prefixes ++ operand_tokens x.operand
    ++ flat-map already postfix_tokens postfix_tokens ((λ y. refl)) x.postfixes i

-- a part spells what its parts spell, in order
pub opened_part : (x : Part) → part_tokens x ≡ part_level operand_tokens postfix_tokens (out-Part x)
unfolding in_set_tokens operand_tokens postfix_tokens arm_tokens table_source_tokens expr_tokens infix_part_tokens
    part_tokens compound_arm_tokens select_tokens select_arm_tokens joined_source_tokens sources_tokens
opened_part x = fold_out-Part L L L L L L L L L L L L L
    in_set_step operand_step postfix_step arm_step table_source_step expr_step infix_part_step
    part_step compound_arm_step select_step select_arm_step joined_source_step sources_step x
    ∙ level_part (out-Part x)

pub made_part :
    (x : Part-F InSet Operand Postfix Arm TableSource Expr InfixPart Part CompoundArm Select SelectArm JoinedSource
    Sources) → part_tokens (roll-Part x) ≡ part_level operand_tokens postfix_tokens x
made_part x = opened_part (roll-Part x) ∙ ap (part_level operand_tokens postfix_tokens) (out-roll-Part x)

level_compound_arm :
    (x : CompoundArm-F InSet Operand Postfix Arm TableSource Expr InfixPart Part CompoundArm Select SelectArm
    JoinedSource Sources)
    → compound_arm_step
    (map-CompoundArm InSet Operand Postfix Arm TableSource Expr InfixPart Part CompoundArm Select SelectArm
    JoinedSource Sources L L L L L L L L L L L L L
    in_set_tokens operand_tokens postfix_tokens arm_tokens table_source_tokens expr_tokens
    infix_part_tokens part_tokens compound_arm_tokens select_tokens select_arm_tokens
    joined_source_tokens sources_tokens x) ≡ compound_arm_level arm_tokens x
level_compound_arm x = λ i. compound_tokens x.compound ++ arm_tokens x.arm

-- a compound arm spells what its parts spell, in order
pub opened_compound_arm : (x : CompoundArm) → compound_arm_tokens x ≡ compound_arm_level arm_tokens (out-CompoundArm x)
unfolding in_set_tokens operand_tokens postfix_tokens arm_tokens table_source_tokens expr_tokens infix_part_tokens
    part_tokens compound_arm_tokens select_tokens select_arm_tokens joined_source_tokens sources_tokens
opened_compound_arm x = fold_out-CompoundArm L L L L L L L L L L L L L
    in_set_step operand_step postfix_step arm_step table_source_step expr_step infix_part_step
    part_step compound_arm_step select_step select_arm_step joined_source_step sources_step x
    ∙ level_compound_arm (out-CompoundArm x)

pub made_compound_arm :
    (x : CompoundArm-F InSet Operand Postfix Arm TableSource Expr InfixPart Part CompoundArm Select SelectArm
    JoinedSource Sources) → compound_arm_tokens (roll-CompoundArm x) ≡ compound_arm_level arm_tokens x
made_compound_arm x =
    opened_compound_arm (roll-CompoundArm x) ∙ ap (compound_arm_level arm_tokens) (out-roll-CompoundArm x)

level_select :
    (x : Select-F InSet Operand Postfix Arm TableSource Expr InfixPart Part CompoundArm Select SelectArm JoinedSource
    Sources) → select_step
    (map-Select InSet Operand Postfix Arm TableSource Expr InfixPart Part CompoundArm Select SelectArm JoinedSource
    Sources L L L L L L L L L L L L L
    in_set_tokens operand_tokens postfix_tokens arm_tokens table_source_tokens expr_tokens
    infix_part_tokens part_tokens compound_arm_tokens select_tokens select_arm_tokens
    joined_source_tokens sources_tokens x) ≡ select_level select_tokens arm_tokens compound_arm_tokens expr_tokens x
level_select x =
    λ i. maybe-map (with_tokens already) (with_tokens select_tokens) (with_map select_tokens)
    (with-map already select_tokens select_tokens ((λ y. refl))) x.with_clause i ++ arm_tokens x.arm
    ++ flat-map already compound_arm_tokens compound_arm_tokens ((λ y. refl)) x.compounds i
    ++ maybe-map (by_tokens (term_tokens already)) (by_tokens (term_tokens expr_tokens)) (by_map (term_map expr_tokens))
    (by-map (term_tokens already) (term_tokens expr_tokens) (term_map expr_tokens)
    (term-map already expr_tokens expr_tokens ((λ y. refl)))) x.order i
    ++ maybe-map (limit_tokens already) (limit_tokens expr_tokens) (limit_map expr_tokens)
    (limit-map already expr_tokens expr_tokens ((λ y. refl))) x.limit i

-- a select spells what its parts spell, in order
pub opened_select : (x : Select)
    → select_tokens x ≡ select_level select_tokens arm_tokens compound_arm_tokens expr_tokens (out-Select x)
unfolding in_set_tokens operand_tokens postfix_tokens arm_tokens table_source_tokens expr_tokens infix_part_tokens
    part_tokens compound_arm_tokens select_tokens select_arm_tokens joined_source_tokens sources_tokens
opened_select x = fold_out-Select L L L L L L L L L L L L L
    in_set_step operand_step postfix_step arm_step table_source_step expr_step infix_part_step
    part_step compound_arm_step select_step select_arm_step joined_source_step sources_step x
    ∙ level_select (out-Select x)

pub made_select :
    (x : Select-F InSet Operand Postfix Arm TableSource Expr InfixPart Part CompoundArm Select SelectArm JoinedSource
    Sources) → select_tokens (roll-Select x) ≡ select_level select_tokens arm_tokens compound_arm_tokens expr_tokens x
made_select x =
    opened_select (roll-Select x)
    ∙ ap (select_level select_tokens arm_tokens compound_arm_tokens expr_tokens) (out-roll-Select x)

level_select_arm :
    (x : SelectArm-F InSet Operand Postfix Arm TableSource Expr InfixPart Part CompoundArm Select SelectArm
    JoinedSource Sources)
    → select_arm_step
    (map-SelectArm InSet Operand Postfix Arm TableSource Expr InfixPart Part CompoundArm Select SelectArm JoinedSource
    Sources L L L L L L L L L L L L L
    in_set_tokens operand_tokens postfix_tokens arm_tokens table_source_tokens expr_tokens
    infix_part_tokens part_tokens compound_arm_tokens select_tokens select_arm_tokens
    joined_source_tokens sources_tokens x) ≡ select_arm_level expr_tokens sources_tokens x
level_select_arm x =
    λ i. one x.select ++ maybe one x.quantifier
    ++ commas-map (result_item_tokens already) (result_item_tokens expr_tokens) (result_item_map expr_tokens)
    (result_item-map already expr_tokens expr_tokens ((λ y. refl))) x.items i
    ++ maybe-map (after_tokens already) (after_tokens sources_tokens) (after_map sources_tokens)
    (after-map already sources_tokens sources_tokens ((λ y. refl))) x.from i
    ++ maybe-map (after_tokens already) (after_tokens expr_tokens) (after_map expr_tokens)
    (after-map already expr_tokens expr_tokens ((λ y. refl))) x.filter i
    ++ maybe-map (by_tokens already) (by_tokens expr_tokens) (by_map expr_tokens)
    (by-map already expr_tokens expr_tokens ((λ y. refl))) x.group i
    ++ maybe-map (after_tokens already) (after_tokens expr_tokens) (after_map expr_tokens)
    (after-map already expr_tokens expr_tokens ((λ y. refl))) x.having i
    ++ maybe-map (after_tokens (commas_tokens (named_window_tokens already)))
    (after_tokens (commas_tokens (named_window_tokens expr_tokens)))
    (after_map (commas_map (named_window_map expr_tokens)))
    (after-map (commas_tokens (named_window_tokens already)) (commas_tokens (named_window_tokens expr_tokens))
    (commas_map (named_window_map expr_tokens))
    (commas-map (named_window_tokens already) (named_window_tokens expr_tokens) (named_window_map expr_tokens)
    (named_window-map already expr_tokens expr_tokens ((λ y. refl))))) x.windows i

-- a select arm spells what its parts spell, in order
pub opened_select_arm : (x : SelectArm)
    → select_arm_tokens x ≡ select_arm_level expr_tokens sources_tokens (out-SelectArm x)
unfolding in_set_tokens operand_tokens postfix_tokens arm_tokens table_source_tokens expr_tokens infix_part_tokens
    part_tokens compound_arm_tokens select_tokens select_arm_tokens joined_source_tokens sources_tokens
opened_select_arm x = fold_out-SelectArm L L L L L L L L L L L L L
    in_set_step operand_step postfix_step arm_step table_source_step expr_step infix_part_step
    part_step compound_arm_step select_step select_arm_step joined_source_step sources_step x
    ∙ level_select_arm (out-SelectArm x)

pub made_select_arm :
    (x : SelectArm-F InSet Operand Postfix Arm TableSource Expr InfixPart Part CompoundArm Select SelectArm
    JoinedSource Sources) → select_arm_tokens (roll-SelectArm x) ≡ select_arm_level expr_tokens sources_tokens x
made_select_arm x =
    opened_select_arm (roll-SelectArm x) ∙ ap (select_arm_level expr_tokens sources_tokens) (out-roll-SelectArm x)

level_joined_source :
    (x : JoinedSource-F InSet Operand Postfix Arm TableSource Expr InfixPart Part CompoundArm Select SelectArm
    JoinedSource Sources)
    → joined_source_step
    (map-JoinedSource InSet Operand Postfix Arm TableSource Expr InfixPart Part CompoundArm Select SelectArm
    JoinedSource Sources L L L L L L L L L L L L L
    in_set_tokens operand_tokens postfix_tokens arm_tokens table_source_tokens expr_tokens
    infix_part_tokens part_tokens compound_arm_tokens select_tokens select_arm_tokens
    joined_source_tokens sources_tokens x) ≡ joined_source_level table_source_tokens expr_tokens x
level_joined_source x =
    λ i. join_tokens x.join ++ table_source_tokens x.source
    ++ maybe-map (join_constraint_tokens already) (join_constraint_tokens expr_tokens) (join_constraint_map expr_tokens)
    (join_constraint-map already expr_tokens expr_tokens ((λ y. refl))) x.constraint i

-- a joined source spells what its parts spell, in order
pub opened_joined_source : (x : JoinedSource)
    → joined_source_tokens x ≡ joined_source_level table_source_tokens expr_tokens (out-JoinedSource x)
unfolding in_set_tokens operand_tokens postfix_tokens arm_tokens table_source_tokens expr_tokens infix_part_tokens
    part_tokens compound_arm_tokens select_tokens select_arm_tokens joined_source_tokens sources_tokens
opened_joined_source x = fold_out-JoinedSource L L L L L L L L L L L L L
    in_set_step operand_step postfix_step arm_step table_source_step expr_step infix_part_step
    part_step compound_arm_step select_step select_arm_step joined_source_step sources_step x
    ∙ level_joined_source (out-JoinedSource x)

pub made_joined_source :
    (x : JoinedSource-F InSet Operand Postfix Arm TableSource Expr InfixPart Part CompoundArm Select SelectArm
    JoinedSource Sources)
    → joined_source_tokens (roll-JoinedSource x) ≡ joined_source_level table_source_tokens expr_tokens x
made_joined_source x =
    opened_joined_source (roll-JoinedSource x)
    ∙ ap (joined_source_level table_source_tokens expr_tokens) (out-roll-JoinedSource x)

level_sources :
    (x : Sources-F InSet Operand Postfix Arm TableSource Expr InfixPart Part CompoundArm Select SelectArm JoinedSource
    Sources) → sources_step
    (map-Sources InSet Operand Postfix Arm TableSource Expr InfixPart Part CompoundArm Select SelectArm JoinedSource
    Sources L L L L L L L L L L L L L
    in_set_tokens operand_tokens postfix_tokens arm_tokens table_source_tokens expr_tokens
    infix_part_tokens part_tokens compound_arm_tokens select_tokens select_arm_tokens
    joined_source_tokens sources_tokens x) ≡ sources_level table_source_tokens joined_source_tokens x
level_sources x =
    λ i. table_source_tokens x.first ++ flat-map already joined_source_tokens joined_source_tokens ((λ y. refl)) x.more i

-- a sources spells what its parts spell, in order
pub opened_sources : (x : Sources)
    → sources_tokens x ≡ sources_level table_source_tokens joined_source_tokens (out-Sources x)
unfolding in_set_tokens operand_tokens postfix_tokens arm_tokens table_source_tokens expr_tokens infix_part_tokens
    part_tokens compound_arm_tokens select_tokens select_arm_tokens joined_source_tokens sources_tokens
opened_sources x = fold_out-Sources L L L L L L L L L L L L L
    in_set_step operand_step postfix_step arm_step table_source_step expr_step infix_part_step
    part_step compound_arm_step select_step select_arm_step joined_source_step sources_step x
    ∙ level_sources (out-Sources x)

pub made_sources :
    (x : Sources-F InSet Operand Postfix Arm TableSource Expr InfixPart Part CompoundArm Select SelectArm JoinedSource
    Sources) → sources_tokens (roll-Sources x) ≡ sources_level table_source_tokens joined_source_tokens x
made_sources x =
    opened_sources (roll-Sources x) ∙ ap (sources_level table_source_tokens joined_source_tokens) (out-roll-Sources x)
