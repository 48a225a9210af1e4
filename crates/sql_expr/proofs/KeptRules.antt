-- A text some of whose names get another spelling has the tree of the same shape, rule by rule.
use Rattle.std.proofs.Common.{◌≡◌, ℕ, zero, suc, ◌⊎◌, List, [], ◌∷◌, map, Option, Some, None, IfSome, refl, sym, ap, ◌∙◌}
use Rattle.std.specs.Prelude.{codes}
use Rattle.std.specs.List.{AllByRecursion}
use Rattle.sql_token.specs.declared.token.Token.{Token}
use Rattle.sql_token.specs.declared.token.TokenKind.TheVariants as Kind
use Rattle.sql_token.specs.declared.keyword.Keyword.TheVariants as K
use Rattle.sql_token.specs.Fixed.{IsFixed, IsSign}
use Rattle.sql_token.specs.Spelled.{one, maybe}
use Rattle.sql_expr.specs.Leaf.{BeginsWithout, IsColumnName}
use Rattle.sql_expr.specs.Rules.{AreArguments, InsideAt, IsAction, IsAlias, IsArm, IsBound, IsBy, IsCall, IsCallArguments, IsCase, IsCast, IsColumnType, IsColumnUse, IsCompound, IsCompoundArm, IsCte, IsExcluded, IsExpr, IsFrame, IsFrameExtent, IsInSet, IsIndexing, IsInfix, IsInfixPart, IsJoin, IsJoinConstraint, IsJoinKind, IsJoinedSource, IsLimit, IsLiteral, IsMaterialized, IsNamedWindow, IsObject, IsOperand, IsOver, IsPart, IsPostfix, IsPrefix, IsRaise, IsRaiseAction, IsResultItem, IsRow, IsSelect, IsSelectArm, IsSigned, IsSources, IsTableSource, IsTerm, IsTypeSize, IsValuesRow, IsWhen, IsWindow, IsWith, LeavesNot, SpellsExpr, SpellsSelect, UsualAt, Inside}
use Rattle.sql_expr.specs.Tokens.{action_tokens, after_tokens, alias_tokens, bound_tokens, call_arguments_tokens, call_tokens, case_tokens, cast_tokens, column_type_tokens, column_use_tokens, commas_tokens, compound_tokens, cte_tokens, excluded_tokens, frame_extent_tokens, frame_tokens, in_parens_tokens, indexing_tokens, infix_tokens, join_constraint_tokens, join_kind_tokens, join_tokens, limit_tokens, literal_tokens, materialized_tokens, named_window_tokens, object_tokens, over_tokens, raise_action_tokens, raise_tokens, result_item_tokens, signed_tokens, term_tokens, type_size_tokens, values_row_tokens, when_tokens, window_tokens, with_tokens}
use Rattle.sql_expr.specs.Tree.{arm_level, arm_tokens, compound_arm_level, compound_arm_tokens, expr_level, expr_tokens, in_set_level, in_set_tokens, infix_part_level, infix_part_tokens, joined_source_level, joined_source_tokens, operand_level, operand_tokens, part_level, part_tokens, postfix_level, postfix_tokens, select_arm_level, select_arm_tokens, select_level, select_tokens, sources_level, sources_tokens, table_source_level, table_source_tokens}
use Rattle.sql_expr.specs.Levels.{OpenArm, OpenExpr, OpenInSet, OpenInfixPart, OpenOperand, OpenPart, OpenPostfix, OpenSelectArm, OpenTableSource}
use Rattle.sql_expr.proofs.Kept.{AlikeAfter, AlikeCommas, AlikeName, AlikeOption, AlikeParens, Becomes, Edit, IsKnown, Kept, Leaf, NameBecomes, after_kept, bare_kept, becomes_column, begun, by_kept, commas_kept, either_sign_kept, fixed_kept, formed, free_kept, generated_kept, in_parens_kept, infix_sign_kept, kind_kept, many, marked, name_but_kept, name_kept, named, next_kept, number_kept, one_of_kept, operand_name_kept, opt, pair, prefix_kept, rolled, sign_kept, token_of, token_pair_kept, type_name_kept, word_or_sign_kept}
use Rattle.sql_expr.proofs.Alike.{AlikeAction, AlikeAlias, AlikeArm, AlikeAt, AlikeBound, AlikeCall, AlikeCallArguments, AlikeCase, AlikeCast, AlikeColumnType, AlikeColumnUse, AlikeCompound, AlikeCompoundArm, AlikeCte, AlikeExcluded, AlikeExpr, AlikeFrame, AlikeFrameExtent, AlikeInSet, AlikeIndexing, AlikeInfix, AlikeInfixPart, AlikeJoin, AlikeJoinConstraint, AlikeJoinKind, AlikeJoinedSource, AlikeLimit, AlikeLiteral, AlikeMaterialized, AlikeNamedWindow, AlikeObject, AlikeOpenArm, AlikeOpenCompoundArm, AlikeOpenExpr, AlikeOpenInSet, AlikeOpenInfixPart, AlikeOpenJoinedSource, AlikeOpenOperand, AlikeOpenPart, AlikeOpenPostfix, AlikeOpenSelect, AlikeOpenSelectArm, AlikeOpenSources, AlikeOpenTableSource, AlikeOperand, AlikeOver, AlikePart, AlikePostfix, AlikeRaise, AlikeRaiseAction, AlikeResultItem, AlikeSelect, AlikeSelectArm, AlikeSigned, AlikeSources, AlikeTableSource, AlikeTerm, AlikeTypeSize, AlikeValuesRow, AlikeWhen, AlikeWindow, AlikeWith, OpenCompoundArm, OpenJoinedSource, OpenSelect, OpenSources, AlikeInside}
use Rattle.sql_expr.proofs.Opened.{opened_in_set, opened_operand, opened_postfix, opened_arm, opened_table_source, opened_expr, opened_infix_part, opened_part, opened_compound_arm, opened_select, opened_select_arm, opened_joined_source, opened_sources}
use Rattle.sql_expr.specs.declared.names.Object.{Object}
use Rattle.sql_expr.specs.declared.names.Alias.{Alias}
use Rattle.sql_expr.specs.declared.names.ColumnUse.{ColumnUse}
use Rattle.sql_expr.specs.declared.names.ColumnUse.TheVariants as ColumnUse'
use Rattle.sql_expr.specs.declared.names.Signed.{Signed}
use Rattle.sql_expr.specs.declared.names.TypeSize.{TypeSize}
use Rattle.sql_expr.specs.declared.names.ColumnType.{ColumnType}
use Rattle.sql_expr.specs.declared.operators.Literal.{Literal}
use Rattle.sql_expr.specs.declared.operators.Literal.TheVariants as Literal'
use Rattle.sql_expr.specs.declared.operators.Action.{Action}
use Rattle.sql_expr.specs.declared.operators.Action.TheVariants as Action'
use Rattle.sql_expr.specs.declared.operators.Infix.{Infix}
use Rattle.sql_expr.specs.declared.operators.Infix.TheVariants as Infix'
use Rattle.sql_expr.specs.declared.window.Term.{Term}
use Rattle.sql_expr.specs.declared.window.Bound.{Bound}
use Rattle.sql_expr.specs.declared.window.Bound.TheVariants as Bound'
use Rattle.sql_expr.specs.declared.window.FrameExtent.{FrameExtent}
use Rattle.sql_expr.specs.declared.window.FrameExtent.TheVariants as FrameExtent'
use Rattle.sql_expr.specs.declared.window.Excluded.{Excluded}
use Rattle.sql_expr.specs.declared.window.Excluded.TheVariants as Excluded'
use Rattle.sql_expr.specs.declared.window.Frame.{Frame}
use Rattle.sql_expr.specs.declared.window.Window.{Window}
use Rattle.sql_expr.specs.declared.window.NamedWindow.{NamedWindow}
use Rattle.sql_expr.specs.declared.call.CallArguments.{CallArguments}
use Rattle.sql_expr.specs.declared.call.CallArguments.TheVariants as CallArguments'
use Rattle.sql_expr.specs.declared.call.Over.{Over}
use Rattle.sql_expr.specs.declared.call.Over.TheVariants as Over'
use Rattle.sql_expr.specs.declared.call.Call.{Call}
use Rattle.sql_expr.specs.declared.call.When.{When}
use Rattle.sql_expr.specs.declared.call.Case.{Case}
use Rattle.sql_expr.specs.declared.call.Cast.{Cast}
use Rattle.sql_expr.specs.declared.call.RaiseAction.{RaiseAction}
use Rattle.sql_expr.specs.declared.call.RaiseAction.TheVariants as RaiseAction'
use Rattle.sql_expr.specs.declared.call.Raise.{Raise}
use Rattle.sql_expr.specs.declared.source.JoinKind.{JoinKind}
use Rattle.sql_expr.specs.declared.source.JoinKind.TheVariants as JoinKind'
use Rattle.sql_expr.specs.declared.source.Join.{Join}
use Rattle.sql_expr.specs.declared.source.Join.TheVariants as Join'
use Rattle.sql_expr.specs.declared.source.JoinConstraint.{JoinConstraint}
use Rattle.sql_expr.specs.declared.source.JoinConstraint.TheVariants as JoinConstraint'
use Rattle.sql_expr.specs.declared.source.Indexing.{Indexing}
use Rattle.sql_expr.specs.declared.source.Indexing.TheVariants as Indexing'
use Rattle.sql_expr.specs.declared.select.Materialized.{Materialized}
use Rattle.sql_expr.specs.declared.select.Cte.{Cte}
use Rattle.sql_expr.specs.declared.select.With.{With}
use Rattle.sql_expr.specs.declared.select.Compound.{Compound}
use Rattle.sql_expr.specs.declared.select.Compound.TheVariants as Compound'
use Rattle.sql_expr.specs.declared.select.Limit.{Limit}
use Rattle.sql_expr.specs.declared.select.ResultItem.{ResultItem}
use Rattle.sql_expr.specs.declared.select.ResultItem.TheVariants as ResultItem'
use Rattle.sql_expr.specs.declared.select.ValuesRow.{ValuesRow}
use Rattle.sql_expr.specs.declared.lists.After.{After}
use Rattle.sql_expr.specs.declared.lists.InParens.{InParens}
use Rattle.sql_expr.specs.declared.lists.Commas.{Commas}
use Rattle.sql_expr.specs.declared.expr.InSet.{InSet, out-InSet, roll-InSet, out-roll-InSet}
use Rattle.sql_expr.specs.declared.expr.Operand.{Operand, out-Operand, roll-Operand, out-roll-Operand}
use Rattle.sql_expr.specs.declared.expr.Postfix.{Postfix, out-Postfix, roll-Postfix, out-roll-Postfix}
use Rattle.sql_expr.specs.declared.expr.Part.{Part, out-Part, roll-Part, out-roll-Part}
use Rattle.sql_expr.specs.declared.expr.InfixPart.{InfixPart, out-InfixPart, roll-InfixPart, out-roll-InfixPart}
use Rattle.sql_expr.specs.declared.expr.Expr.{Expr, out-Expr, roll-Expr, out-roll-Expr}
use Rattle.sql_expr.specs.declared.source.TableSource.{TableSource, out-TableSource, roll-TableSource, out-roll-TableSource}
use Rattle.sql_expr.specs.declared.source.JoinedSource.{JoinedSource, out-JoinedSource, roll-JoinedSource, out-roll-JoinedSource}
use Rattle.sql_expr.specs.declared.source.Sources.{Sources, out-Sources, roll-Sources, out-roll-Sources}
use Rattle.sql_expr.specs.declared.select.SelectArm.{SelectArm, out-SelectArm, roll-SelectArm, out-roll-SelectArm}
use Rattle.sql_expr.specs.declared.select.Arm.{Arm, out-Arm, roll-Arm, out-roll-Arm}
use Rattle.sql_expr.specs.declared.select.CompoundArm.{CompoundArm, out-CompoundArm, roll-CompoundArm, out-roll-CompoundArm}
use Rattle.sql_expr.specs.declared.select.Select.{Select, out-Select, roll-Select, out-roll-Select}
use Rattle.sql_expr.specs.declared.expr.InSet.TheOpen.{InSet-F, Operand-F, Postfix-F, TableSource-F, Arm-F}

-- what follows a bare IS does not begin with NOT, where none did
leaves_not_kept : (e : Edit) (new old : Infix) → AlikeInfix e old new → (ts us : List Token)
    → (BeginsWithout e.old (K.Not ∷ []) ts → BeginsWithout e.new (K.Not ∷ []) us) → LeavesNot e.old old ts → LeavesNot e.new new us
leaves_not_kept e (Infix'.Is w None None) (Infix'.Is v None None) r ts us so h = so h
leaves_not_kept e (Infix'.Is w None None) (Infix'.Is v None (Some d)) r ts us so h = absurd r.1
leaves_not_kept e (Infix'.Is w None None) (Infix'.Is v (Some n) d) r ts us so h = absurd r.0.1
leaves_not_kept e (Infix'.Is w None None) _ r ts us so h = absurd r
leaves_not_kept e _ op r ts us so h = tt

module _ (e : Edit) where
  -- [name "."] name
  pub object_kept : (x : Object) → IsObject e.old x
      → Kept e Object object_tokens (IsObject e.new) AlikeObject x
  object_kept x h =
      formed e (pair e
      (opt e (token_pair_kept e (name_kept e) (sign_kept e (codes "."))) x.qualifier h.0)
      (name_kept e x.name h.1))
      (λ v. record { qualifier = v.0; name = v.1 }) (λ w. refl) (λ w k r. (k.0, k.1)) (λ d w r. r)

  -- [AS] alias
  pub alias_kept : (x : Alias) → IsAlias e.old x
      → Kept e Alias alias_tokens (IsAlias e.new) AlikeAlias x
  alias_kept x h =
      formed e (pair e (opt e (fixed_kept e K.As) x.as_word h.0) (name_kept e x.name h.1))
      (λ v. record { as_word = v.0; name = v.1 }) (λ w. refl)
      (λ w k r. (k.0, k.1, bare_kept e x.as_word w.0 x.name w.1 r.0 r.1 h.2)) (λ d w r. r)

  -- ["+"|"-"] number
  pub signed_kept : (x : Signed) → IsSigned e.old x
      → Kept e Signed signed_tokens (IsSigned e.new) AlikeSigned x
  signed_kept x h =
      formed e (pair e (opt e (either_sign_kept e (codes "+") (codes "-")) x.sign h.0) (number_kept e x.number h.1))
      (λ v. record { sign = v.0; number = v.1 }) (λ w. refl) (λ w k r. (k.0, k.1)) (λ d w r. r)

  -- signed ["," signed]
  pub type_size_kept : (x : TypeSize) → IsTypeSize e.old x
      → Kept e TypeSize type_size_tokens (IsTypeSize e.new) AlikeTypeSize x
  type_size_kept x h =
      formed e (pair e (signed_kept x.first h.0) (opt e (next_kept e signed_kept) x.second h.1))
      (λ v. record { first = v.0; second = v.1 }) (λ w. refl) (λ w k r. (k.0, k.1)) (λ d w r. r)

  -- type-name {type-name} ["(" signed ["," signed] ")"]
  pub column_type_kept : (x : ColumnType) → IsColumnType e.old x
      → Kept e ColumnType column_type_tokens (IsColumnType e.new) AlikeColumnType x
  column_type_kept x h =
      formed e (pair e (pair e
      (type_name_kept e x.first h.0)
      (many e (type_name_kept e) x.more h.1))
      (opt e (in_parens_kept e type_size_kept) x.size h.2))
      (λ v. record { first = v.0.0; more = v.0.1; size = v.1 }) (λ w. refl)
      (λ w k r. (k.0.0, k.0.1, k.1, generated_kept e (x.first ∷ x.more) (w.0.0 ∷ w.0.1) r.0 h.3)) (λ d w r. r)

  -- number | string | blob | NULL | CURRENT_DATE | CURRENT_TIME | CURRENT_TIMESTAMP
  pub literal_kept : (x : Literal) → IsLiteral e.old x
      → Kept e Literal literal_tokens (IsLiteral e.new) AlikeLiteral x
  literal_kept (Literal'.Number t) h =
      formed e (number_kept e t h) (λ v. Literal'.Number v) (λ w. refl) (λ w k r. k) (λ d w r. r)
  literal_kept (Literal'.Str t) h =
      formed e (kind_kept e Kind.Str t h) (λ v. Literal'.Str v) (λ w. refl) (λ w k r. k) (λ d w r. r)
  literal_kept (Literal'.Blob t) h =
      formed e (kind_kept e Kind.Blob t h) (λ v. Literal'.Blob v) (λ w. refl) (λ w k r. k) (λ d w r. r)
  literal_kept (Literal'.Null t) h =
      formed e (fixed_kept e K.Null t h) (λ v. Literal'.Null v) (λ w. refl) (λ w k r. k) (λ d w r. r)
  literal_kept (Literal'.CurrentDate t) h =
      formed e (fixed_kept e K.CurrentDate t h) (λ v. Literal'.CurrentDate v) (λ w. refl) (λ w k r. k) (λ d w r. r)
  literal_kept (Literal'.CurrentTime t) h =
      formed e (fixed_kept e K.CurrentTime t h) (λ v. Literal'.CurrentTime v) (λ w. refl) (λ w k r. k) (λ d w r. r)
  literal_kept (Literal'.CurrentTimestamp t) h =
      formed e (fixed_kept e K.CurrentTimestamp t h) (λ v. Literal'.CurrentTimestamp v) (λ w. refl) (λ w k r. k) (λ d w r. r)

  -- ROLLBACK | ABORT | FAIL
  pub action_kept : (x : Action) → IsAction e.old x
      → Kept e Action action_tokens (IsAction e.new) AlikeAction x
  action_kept (Action'.Rollback t) h =
      formed e (fixed_kept e K.Rollback t h) (λ v. Action'.Rollback v) (λ w. refl) (λ w k r. k) (λ d w r. r)
  action_kept (Action'.Abort t) h =
      formed e (fixed_kept e K.Abort t h) (λ v. Action'.Abort v) (λ w. refl) (λ w k r. k) (λ d w r. r)
  action_kept (Action'.Fail t) h =
      formed e (fixed_kept e K.Fail t h) (λ v. Action'.Fail v) (λ w. refl) (λ w k r. k) (λ d w r. r)

  -- an infix
  pub infix_kept : (x : Infix) → IsInfix e.old x
      → Kept e Infix infix_tokens (IsInfix e.new) AlikeInfix x
  infix_kept (Infix'.Sign t) h =
      formed e (infix_sign_kept e t h) (λ v. Infix'.Sign v) (λ w. refl) (λ w k r. k) (λ d w r. r)
  infix_kept (Infix'.And t) h =
      formed e (fixed_kept e K.And t h) (λ v. Infix'.And v) (λ w. refl) (λ w k r. k) (λ d w r. r)
  infix_kept (Infix'.Or t) h =
      formed e (fixed_kept e K.Or t h) (λ v. Infix'.Or v) (λ w. refl) (λ w k r. k) (λ d w r. r)
  infix_kept (Infix'.Is is not distinct_from) h =
      formed e (pair e (pair e
      (fixed_kept e K.Is is h.0)
      (opt e (fixed_kept e K.Not) not h.1))
      (opt e (token_pair_kept e (fixed_kept e K.Distinct) (fixed_kept e K.From)) distinct_from h.2))
      (λ v. Infix'.Is v.0.0 v.0.1 v.1) (λ w. refl) (λ w k r. (k.0.0, k.0.1, k.1)) (λ d w r. r)
  infix_kept (Infix'.Escape t) h =
      formed e (fixed_kept e K.Escape t h) (λ v. Infix'.Escape v) (λ w. refl) (λ w k r. k) (λ d w r. r)
  infix_kept (Infix'.Compares not word) h =
      formed e (pair e
      (opt e (fixed_kept e K.Not) not h.0)
      (one_of_kept e (K.Between ∷ K.Like ∷ K.Glob ∷ K.Regexp ∷ K.Match ∷ []) word h.1))
      (λ v. Infix'.Compares v.0 v.1) (λ w. refl) (λ w k r. (k.0, k.1)) (λ d w r. r)

  -- NO OTHERS | CURRENT ROW | GROUP | TIES
  pub excluded_kept : (x : Excluded) → IsExcluded e.old x
      → Kept e Excluded excluded_tokens (IsExcluded e.new) AlikeExcluded x
  excluded_kept (Excluded'.NoOthers no_word others) h =
      formed e (pair e (fixed_kept e K.No no_word h.0) (fixed_kept e K.Others others h.1))
      (λ v. Excluded'.NoOthers v.0 v.1) (λ w. refl) (λ w k r. (k.0, k.1)) (λ d w r. r)
  excluded_kept (Excluded'.CurrentRow current row) h =
      formed e (pair e (fixed_kept e K.Current current h.0) (fixed_kept e K.Row row h.1))
      (λ v. Excluded'.CurrentRow v.0 v.1) (λ w. refl) (λ w k r. (k.0, k.1)) (λ d w r. r)
  excluded_kept (Excluded'.Group t) h =
      formed e (fixed_kept e K.Group t h) (λ v. Excluded'.Group v) (λ w. refl) (λ w k r. k) (λ d w r. r)
  excluded_kept (Excluded'.Ties t) h =
      formed e (fixed_kept e K.Ties t h) (λ v. Excluded'.Ties v) (λ w. refl) (λ w k r. k) (λ d w r. r)

  -- (LEFT|RIGHT|FULL) [OUTER] | INNER | CROSS
  pub join_kind_kept : (x : JoinKind) → IsJoinKind e.old x
      → Kept e JoinKind join_kind_tokens (IsJoinKind e.new) AlikeJoinKind x
  join_kind_kept (JoinKind'.Outer side outer) h =
      formed e (pair e (one_of_kept e (K.Left ∷ K.Right ∷ K.Full ∷ []) side h.0) (opt e (fixed_kept e K.Outer) outer h.1))
      (λ v. JoinKind'.Outer v.0 v.1) (λ w. refl) (λ w k r. (k.0, k.1)) (λ d w r. r)
  join_kind_kept (JoinKind'.Inner t) h =
      formed e (fixed_kept e K.Inner t h) (λ v. JoinKind'.Inner v) (λ w. refl) (λ w k r. k) (λ d w r. r)
  join_kind_kept (JoinKind'.Cross t) h =
      formed e (fixed_kept e K.Cross t h) (λ v. JoinKind'.Cross v) (λ w. refl) (λ w k r. k) (λ d w r. r)

  -- "," | [NATURAL] [kind] JOIN
  pub join_kept : (x : Join) → IsJoin e.old x
      → Kept e Join join_tokens (IsJoin e.new) AlikeJoin x
  join_kept (Join'.Comma t) h =
      formed e (sign_kept e (codes ",") t h) (λ v. Join'.Comma v) (λ w. refl) (λ w k r. k) (λ d w r. r)
  join_kept (Join'.Join natural kind join) h =
      formed e (pair e (pair e
      (opt e (fixed_kept e K.Natural) natural h.0)
      (opt e join_kind_kept kind h.1))
      (fixed_kept e K.Join join h.2))
      (λ v. Join'.Join v.0.0 v.0.1 v.1) (λ w. refl) (λ w k r. (k.0.0, k.0.1, k.1)) (λ d w r. r)

  -- INDEXED BY name | NOT INDEXED
  pub indexing_kept : (x : Indexing) → IsIndexing e.old x
      → Kept e Indexing indexing_tokens (IsIndexing e.new) AlikeIndexing x
  indexing_kept (Indexing'.By indexed by name) h =
      formed e (pair e (pair e (fixed_kept e K.Indexed indexed h.0) (fixed_kept e K.By by h.1)) (name_kept e name h.2))
      (λ v. Indexing'.By v.0.0 v.0.1 v.1) (λ w. refl) (λ w k r. (k.0.0, k.0.1, k.1)) (λ d w r. r)
  indexing_kept (Indexing'.Not not indexed) h =
      formed e (pair e (fixed_kept e K.Not not h.0) (fixed_kept e K.Indexed indexed h.1))
      (λ v. Indexing'.Not v.0 v.1) (λ w. refl) (λ w k r. (k.0, k.1)) (λ d w r. r)

  -- [NOT] MATERIALIZED
  pub materialized_kept : (x : Materialized) → IsMaterialized e.old x
      → Kept e Materialized materialized_tokens (IsMaterialized e.new) AlikeMaterialized x
  materialized_kept x h =
      formed e (pair e (opt e (fixed_kept e K.Not) x.not h.0) (fixed_kept e K.Materialized x.materialized h.1))
      (λ v. record { not = v.0; materialized = v.1 }) (λ w. refl) (λ w k r. (k.0, k.1)) (λ d w r. r)

  -- UNION [ALL] | EXCEPT | INTERSECT
  pub compound_kept : (x : Compound) → IsCompound e.old x
      → Kept e Compound compound_tokens (IsCompound e.new) AlikeCompound x
  compound_kept (Compound'.Union union all) h =
      formed e (pair e (fixed_kept e K.Union union h.0) (opt e (fixed_kept e K.All) all h.1))
      (λ v. Compound'.Union v.0 v.1) (λ w. refl) (λ w k r. (k.0, k.1)) (λ d w r. r)
  compound_kept (Compound'.Except t) h =
      formed e (fixed_kept e K.Except t h) (λ v. Compound'.Except v) (λ w. refl) (λ w k r. k) (λ d w r. r)
  compound_kept (Compound'.Intersect t) h =
      formed e (fixed_kept e K.Intersect t h) (λ v. Compound'.Intersect v) (λ w. refl) (λ w k r. k) (λ d w r. r)

-- What stands inside the trees of the one text is kept inside those of the other.
pub record Inner (e : Edit) (a : Edit → AlikeInside) (inside other : Inside) : Type 1 where
  pub column : (t : Token) → inside.column t → NameBecomes e t → other.column (e.edit t)
  pub expr : (x : Expr) → inside.expr x → Kept e Expr expr_tokens other.expr (λ d. (a d).expr) x
  pub select : (x : Select) → inside.select x → Kept e Select select_tokens other.select (λ d. (a d).select) x
  pub sources : (x : Sources) → inside.sources x → Kept e Sources sources_tokens other.sources (λ d. (a d).sources) x

module _ (e : Edit) {a : Edit → AlikeInside} {inside other : Inside} (inner : Inner e a inside other) where
  column_kept : (t : Token) → inside.column t → Kept e Token one other.column AlikeName t
  column_kept = named e (λ t h becomes. inner.column t h becomes)

  -- name | name "." name | name "." name "." name
  pub column_use_kept : (x : ColumnUse) → IsColumnUse e.old inside x
      → Kept e ColumnUse column_use_tokens (IsColumnUse e.new other) (λ d. AlikeColumnUse d (a d)) x
  column_use_kept (ColumnUse'.One name) h =
      formed e (column_kept name h) (λ v. ColumnUse'.One v) (λ w. refl) (λ w k r. k) (λ d w r. r)
  column_use_kept (ColumnUse'.Two table dot column) h =
      formed e (pair e (pair e (operand_name_kept e table h.0) (sign_kept e (codes ".") dot h.1)) (name_kept e column h.2))
      (λ v. ColumnUse'.Two v.0.0 v.0.1 v.1) (λ w. refl) (λ w k r. (k.0.0, k.0.1, k.1)) (λ d w r. r)
  column_use_kept (ColumnUse'.Three schema first_dot table second_dot column) h =
      formed e (pair e (pair e (pair e (pair e
      (operand_name_kept e schema h.0)
      (sign_kept e (codes ".") first_dot h.1))
      (name_kept e table h.2))
      (sign_kept e (codes ".") second_dot h.3))
      (name_kept e column h.4))
      (λ v. ColumnUse'.Three v.0.0.0.0 v.0.0.0.1 v.0.0.1 v.0.1 v.1) (λ w. refl)
      (λ w k r. (k.0.0.0.0, k.0.0.0.1, k.0.0.1, k.0.1, k.1)) (λ d w r. r)

  -- expr [ASC|DESC] [NULLS (FIRST|LAST)]
  pub term_kept : (x : Term Expr) → IsTerm e.old inside x
      → Kept e (Term Expr) (term_tokens expr_tokens) (IsTerm e.new other) (λ d. AlikeTerm d (a d)) x
  term_kept x h =
      formed e (pair e (pair e
      (inner.expr x.expr h.0)
      (opt e (one_of_kept e (K.Asc ∷ K.Desc ∷ [])) x.direction h.1))
      (opt e (token_pair_kept e (fixed_kept e K.Nulls) (one_of_kept e (K.First ∷ K.Last ∷ []))) x.nulls h.2))
      (λ v. record { expr = v.0.0; direction = v.0.1; nulls = v.1 }) (λ w. refl) (λ w k r. (k.0.0, k.0.1, k.1)) (λ d w r. r)

  -- UNBOUNDED (PRECEDING|FOLLOWING) | CURRENT ROW | expr (PRECEDING|FOLLOWING)
  pub bound_kept : (x : Bound Expr) → IsBound e.old inside x
      → Kept e (Bound Expr) (bound_tokens expr_tokens) (IsBound e.new other) (λ d. AlikeBound d (a d)) x
  bound_kept (Bound'.Unbounded unbounded way) h =
      formed e (pair e (fixed_kept e K.Unbounded unbounded h.0) (one_of_kept e (K.Preceding ∷ K.Following ∷ []) way h.1))
      (λ v. Bound'.Unbounded v.0 v.1) (λ w. refl) (λ w k r. (k.0, k.1)) (λ d w r. r)
  bound_kept (Bound'.CurrentRow current row) h =
      formed e (pair e (fixed_kept e K.Current current h.0) (fixed_kept e K.Row row h.1))
      (λ v. Bound'.CurrentRow v.0 v.1) (λ w. refl) (λ w k r. (k.0, k.1)) (λ d w r. r)
  bound_kept (Bound'.Expr expr way) h =
      formed e (pair e (begun e (inner.expr expr h.0)) (one_of_kept e (K.Preceding ∷ K.Following ∷ []) way h.2))
      (λ v. Bound'.Expr v.0 v.1) (λ w. refl) (λ w k r. (k.0.0, k.0.1 (K.Unbounded ∷ K.Current ∷ []) h.1, k.1)) (λ d w r. r)

  -- bound | BETWEEN bound AND bound
  pub frame_extent_kept : (x : FrameExtent Expr) → IsFrameExtent e.old inside x
      → Kept e (FrameExtent Expr) (frame_extent_tokens expr_tokens) (IsFrameExtent e.new other) (λ d. AlikeFrameExtent d (a d)) x
  frame_extent_kept (FrameExtent'.From bound) h =
      formed e (bound_kept bound h) (λ v. FrameExtent'.From v) (λ w. refl) (λ w k r. k) (λ d w r. r)
  frame_extent_kept (FrameExtent'.Between between start and end) h =
      formed e (pair e (pair e (pair e
      (fixed_kept e K.Between between h.0)
      (bound_kept start h.1))
      (fixed_kept e K.And and h.2))
      (bound_kept end h.3))
      (λ v. FrameExtent'.Between v.0.0.0 v.0.0.1 v.0.1 v.1) (λ w. refl) (λ w k r. (k.0.0.0, k.0.0.1, k.0.1, k.1)) (λ d w r. r)

  -- (RANGE|ROWS|GROUPS) extent [EXCLUDE excluded]
  pub frame_kept : (x : Frame Expr) → IsFrame e.old inside x
      → Kept e (Frame Expr) (frame_tokens expr_tokens) (IsFrame e.new other) (λ d. AlikeFrame d (a d)) x
  frame_kept x h =
      formed e (pair e (pair e
      (one_of_kept e (K.Range ∷ K.Rows ∷ K.Groups ∷ []) x.unit h.0)
      (frame_extent_kept x.extent h.1))
      (opt e (after_kept e K.Exclude (excluded_kept e)) x.exclude h.2))
      (λ v. record { unit = v.0.0; extent = v.0.1; exclude = v.1 }) (λ w. refl) (λ w k r. (k.0.0, k.0.1, k.1)) (λ d w r. r)

  -- "(" [name] [PARTITION BY exprs] [ORDER BY terms] [frame] ")"
  pub window_kept : (x : Window Expr) → IsWindow e.old inside x
      → Kept e (Window Expr) (window_tokens expr_tokens) (IsWindow e.new other) (λ d. AlikeWindow d (a d)) x
  window_kept x h =
      formed e (pair e (pair e (pair e (pair e (pair e
      (sign_kept e (codes "(") x.opening h.0)
      (opt e (name_but_kept e (K.Partition ∷ K.Range ∷ K.Rows ∷ K.Groups ∷ [])) x.base h.1))
      (opt e (by_kept e K.Partition inner.expr) x.partition h.2))
      (opt e (by_kept e K.Order term_kept) x.order h.3))
      (opt e frame_kept x.frame h.4))
      (sign_kept e (codes ")") x.closing h.5))
      (λ v. record { opening = v.0.0.0.0.0; base = v.0.0.0.0.1; partition = v.0.0.0.1; order = v.0.0.1; frame = v.0.1; closing = v.1 }) (λ w. refl)
      (λ w k r. (k.0.0.0.0.0, k.0.0.0.0.1, k.0.0.0.1, k.0.0.1, k.0.1, k.1)) (λ d w r. r)

  -- name AS window
  pub named_window_kept : (x : NamedWindow Expr) → IsNamedWindow e.old inside x
      → Kept e (NamedWindow Expr) (named_window_tokens expr_tokens) (IsNamedWindow e.new other) (λ d. AlikeNamedWindow d (a d)) x
  named_window_kept x h =
      formed e (pair e (pair e (name_kept e x.name h.0) (fixed_kept e K.As x.as_word h.1)) (window_kept x.window h.2))
      (λ v. record { name = v.0.0; as_word = v.0.1; window = v.1 }) (λ w. refl) (λ w k r. (k.0.0, k.0.1, k.1)) (λ d w r. r)

  -- "*" | [DISTINCT] exprs [ORDER BY terms]
  pub call_arguments_kept : (x : CallArguments Expr) → IsCallArguments e.old inside x
      → Kept e (CallArguments Expr) (call_arguments_tokens expr_tokens) (IsCallArguments e.new other) (λ d. AlikeCallArguments d (a d)) x
  call_arguments_kept (CallArguments'.Star t) h =
      formed e (sign_kept e (codes "*") t h) (λ v. CallArguments'.Star v) (λ w. refl) (λ w k r. k) (λ d w r. r)
  call_arguments_kept (CallArguments'.Exprs distinct exprs order) h =
      formed e (pair e (pair e
      (opt e (fixed_kept e K.Distinct) distinct h.0)
      (commas_kept e inner.expr exprs h.1))
      (opt e (by_kept e K.Order term_kept) order h.2))
      (λ v. CallArguments'.Exprs v.0.0 v.0.1 v.1) (λ w. refl) (λ w k r. (k.0.0, k.0.1, k.1)) (λ d w r. r)

  -- OVER (name | window)
  pub over_kept : (x : Over Expr) → IsOver e.old inside x
      → Kept e (Over Expr) (over_tokens expr_tokens) (IsOver e.new other) (λ d. AlikeOver d (a d)) x
  over_kept (Over'.Name over name) h =
      formed e (pair e (fixed_kept e K.Over over h.0) (name_kept e name h.1))
      (λ v. Over'.Name v.0 v.1) (λ w. refl) (λ w k r. (k.0, k.1)) (λ d w r. r)
  over_kept (Over'.Window over window) h =
      formed e (pair e (fixed_kept e K.Over over h.0) (window_kept window h.1))
      (λ v. Over'.Window v.0 v.1) (λ w. refl) (λ w k r. (k.0, k.1)) (λ d w r. r)

  -- name "(" [arguments] ")" [FILTER "(" WHERE expr ")"] [OVER (name | window)]
  pub call_kept : (x : Call Expr) → IsCall e.old inside x
      → Kept e (Call Expr) (call_tokens expr_tokens) (IsCall e.new other) (λ d. AlikeCall d (a d)) x
  call_kept x h =
      formed e (pair e (pair e (pair e
      (operand_name_kept e x.name h.0)
      (in_parens_kept e (opt e call_arguments_kept) x.arguments h.1))
      (opt e (after_kept e K.Filter (in_parens_kept e (after_kept e K.Where inner.expr))) x.filter h.2))
      (opt e over_kept x.over h.3))
      (λ v. record { name = v.0.0.0; arguments = v.0.0.1; filter = v.0.1; over = v.1 }) (λ w. refl)
      (λ w k r. (k.0.0.0, k.0.0.1, k.0.1, k.1)) (λ d w r. r)

  -- WHEN expr THEN expr
  pub when_kept : (x : When Expr) → IsWhen e.old inside x
      → Kept e (When Expr) (when_tokens expr_tokens) (IsWhen e.new other) (λ d. AlikeWhen d (a d)) x
  when_kept x h =
      formed e (pair e (pair e (pair e
      (fixed_kept e K.When x.when h.0)
      (inner.expr x.condition h.1))
      (fixed_kept e K.Then x.then_word h.2))
      (inner.expr x.result h.3))
      (λ v. record { when = v.0.0.0; condition = v.0.0.1; then_word = v.0.1; result = v.1 }) (λ w. refl)
      (λ w k r. (k.0.0.0, k.0.0.1, k.0.1, k.1)) (λ d w r. r)

  -- CASE [expr] when {when} [ELSE expr] END
  pub case_kept : (x : Case Expr) → IsCase e.old inside x
      → Kept e (Case Expr) (case_tokens expr_tokens) (IsCase e.new other) (λ d. AlikeCase d (a d)) x
  case_kept x h =
      formed e (pair e (pair e (pair e (pair e (pair e
      (fixed_kept e K.Case x.case h.0)
      (opt e inner.expr x.subject h.1))
      (when_kept x.first h.2))
      (many e when_kept x.more h.3))
      (opt e (after_kept e K.Else inner.expr) x.otherwise h.4))
      (fixed_kept e K.End x.end h.5))
      (λ v. record { case = v.0.0.0.0.0; subject = v.0.0.0.0.1; first = v.0.0.0.1; more = v.0.0.1; otherwise = v.0.1; end = v.1 }) (λ w. refl)
      (λ w k r. (k.0.0.0.0.0, k.0.0.0.0.1, k.0.0.0.1, k.0.0.1, k.0.1, k.1)) (λ d w r. r)

  -- CAST "(" expr AS [type] ")"
  pub cast_kept : (x : Cast Expr) → IsCast e.old inside x
      → Kept e (Cast Expr) (cast_tokens expr_tokens) (IsCast e.new other) (λ d. AlikeCast d (a d)) x
  cast_kept x h =
      formed e (pair e (pair e (pair e (pair e (pair e
      (fixed_kept e K.Cast x.cast h.0)
      (sign_kept e (codes "(") x.opening h.1))
      (inner.expr x.expr h.2))
      (fixed_kept e K.As x.as_word h.3))
      (opt e (column_type_kept e) x.column_type h.4))
      (sign_kept e (codes ")") x.closing h.5))
      (λ v. record { cast = v.0.0.0.0.0; opening = v.0.0.0.0.1; expr = v.0.0.0.1; as_word = v.0.0.1; column_type = v.0.1; closing = v.1 }) (λ w. refl)
      (λ w k r. (k.0.0.0.0.0, k.0.0.0.0.1, k.0.0.0.1, k.0.0.1, k.0.1, k.1)) (λ d w r. r)

  -- IGNORE | action "," expr
  pub raise_action_kept : (x : RaiseAction Expr) → IsRaiseAction e.old inside x
      → Kept e (RaiseAction Expr) (raise_action_tokens expr_tokens) (IsRaiseAction e.new other) (λ d. AlikeRaiseAction d (a d)) x
  raise_action_kept (RaiseAction'.Ignore t) h =
      formed e (fixed_kept e K.Ignore t h) (λ v. RaiseAction'.Ignore v) (λ w. refl) (λ w k r. k) (λ d w r. r)
  raise_action_kept (RaiseAction'.Action action message) h =
      formed e (pair e (action_kept e action h.0) (next_kept e inner.expr message (h.1, h.2)))
      (λ v. RaiseAction'.Action v.0 v.1) (λ w. refl) (λ w k r. (k.0, k.1.0, k.1.1)) (λ d w r. r)

  -- RAISE "(" (IGNORE | action "," expr) ")"
  pub raise_kept : (x : Raise Expr) → IsRaise e.old inside x
      → Kept e (Raise Expr) (raise_tokens expr_tokens) (IsRaise e.new other) (λ d. AlikeRaise d (a d)) x
  raise_kept x h =
      formed e (pair e (fixed_kept e K.Raise x.raise h.0) (in_parens_kept e raise_action_kept x.action h.1))
      (λ v. record { raise = v.0; action = v.1 }) (λ w. refl) (λ w k r. (k.0, k.1)) (λ d w r. r)

  -- "(" exprs ")", where a select would begin with WITH
  row_kept : (x : Commas Expr) → IsRow e.old inside x → Kept e (Commas Expr) (commas_tokens expr_tokens) (IsRow e.new other) (λ d. AlikeCommas d (a d).expr) x
  row_kept x h =
      formed e (begun e (commas_kept e inner.expr x h.0)) (λ v. v) (λ w. refl) (λ w k r. (k.0, k.1 (K.With ∷ []) h.1)) (λ d w r. r)

  -- "(" [exprs] ")" of a function
  arguments_kept : (x : InParens (Option (Commas Expr))) → AreArguments e.old inside x
      → Kept e (InParens (Option (Commas Expr))) (in_parens_tokens (maybe (commas_tokens expr_tokens))) (AreArguments e.new other)
      (λ d. AlikeParens d (AlikeOption (AlikeCommas d (a d).expr))) x
  arguments_kept x h = in_parens_kept e (opt e (commas_kept e inner.expr)) x h

  -- "(" [exprs] ")" | "(" select ")" | object | name "(" [exprs] ")"
  pub open_in_set_kept : (x : OpenInSet) → IsInSet e.old inside x
      → Kept e OpenInSet (in_set_level expr_tokens select_tokens) (IsInSet e.new other) (λ d. AlikeOpenInSet d (a d)) x
  open_in_set_kept (InSet-F.List x) h =
      formed e (in_parens_kept e (opt e row_kept) x h) (λ v. InSet-F.List v) (λ w. refl) (λ w k r. k) (λ d w r. r)
  open_in_set_kept (InSet-F.Query x) h =
      formed e (in_parens_kept e inner.select x h) (λ v. InSet-F.Query v) (λ w. refl) (λ w k r. k) (λ d w r. r)
  open_in_set_kept (InSet-F.Object x) h =
      formed e (object_kept e x h) (λ v. InSet-F.Object v) (λ w. refl) (λ w k r. k) (λ d w r. r)
  open_in_set_kept (InSet-F.Function name arguments) h =
      formed e (pair e (name_kept e name h.0) (arguments_kept arguments h.1))
      (λ v. InSet-F.Function v.0 v.1) (λ w. refl) (λ w k r. (k.0, k.1)) (λ d w r. r)

  in_set_kept : (x : InSet) → IsInSet e.old inside (out-InSet x)
      → Kept e InSet in_set_tokens (λ y. IsInSet e.new other (out-InSet y)) (λ d. AlikeInSet d (a d)) x
  in_set_kept x h = rolled e x roll-InSet out-roll-InSet opened_in_set (open_in_set_kept (out-InSet x) h)

  -- an operand
  pub open_operand_kept : (x : OpenOperand) → IsOperand e.old inside x
      → Kept e OpenOperand (operand_level expr_tokens select_tokens) (IsOperand e.new other) (λ d. AlikeOpenOperand d (a d)) x
  open_operand_kept (Operand-F.Literal x) h =
      formed e (literal_kept e x h) (λ v. Operand-F.Literal v) (λ w. refl) (λ w k r. k) (λ d w r. r)
  open_operand_kept (Operand-F.Column x) h =
      formed e (column_use_kept x h) (λ v. Operand-F.Column v) (λ w. refl) (λ w k r. k) (λ d w r. r)
  open_operand_kept (Operand-F.Call x) h =
      formed e (call_kept x h) (λ v. Operand-F.Call v) (λ w. refl) (λ w k r. k) (λ d w r. r)
  open_operand_kept (Operand-F.Exprs x) h =
      formed e (in_parens_kept e row_kept x h) (λ v. Operand-F.Exprs v) (λ w. refl) (λ w k r. k) (λ d w r. r)
  open_operand_kept (Operand-F.Subquery exists select) h =
      formed e (pair e (opt e (fixed_kept e K.Exists) exists h.0) (in_parens_kept e inner.select select h.1))
      (λ v. Operand-F.Subquery v.0 v.1) (λ w. refl) (λ w k r. (k.0, k.1)) (λ d w r. r)
  open_operand_kept (Operand-F.Case x) h =
      formed e (case_kept x h) (λ v. Operand-F.Case v) (λ w. refl) (λ w k r. k) (λ d w r. r)
  open_operand_kept (Operand-F.Cast x) h =
      formed e (cast_kept x h) (λ v. Operand-F.Cast v) (λ w. refl) (λ w k r. k) (λ d w r. r)
  open_operand_kept (Operand-F.Raise x) h =
      formed e (raise_kept x h) (λ v. Operand-F.Raise v) (λ w. refl) (λ w k r. k) (λ d w r. r)

  operand_kept : (x : Operand) → IsOperand e.old inside (out-Operand x)
      → Kept e Operand operand_tokens (λ y. IsOperand e.new other (out-Operand y)) (λ d. AlikeOperand d (a d)) x
  operand_kept x h = rolled e x roll-Operand out-roll-Operand opened_operand (open_operand_kept (out-Operand x) h)

  -- COLLATE name | ISNULL | NOTNULL | NOT NULL | [NOT] IN set
  pub open_postfix_kept : (x : OpenPostfix) → IsPostfix e.old inside x
      → Kept e OpenPostfix (postfix_level in_set_tokens) (IsPostfix e.new other) (λ d. AlikeOpenPostfix d (a d)) x
  open_postfix_kept (Postfix-F.Collate collate name) h =
      formed e (pair e (fixed_kept e K.Collate collate h.0) (name_kept e name h.1))
      (λ v. Postfix-F.Collate v.0 v.1) (λ w. refl) (λ w k r. (k.0, k.1)) (λ d w r. r)
  open_postfix_kept (Postfix-F.IsNull t) h =
      formed e (fixed_kept e K.IsNull t h) (λ v. Postfix-F.IsNull v) (λ w. refl) (λ w k r. k) (λ d w r. r)
  open_postfix_kept (Postfix-F.NotNull t) h =
      formed e (fixed_kept e K.NotNull t h) (λ v. Postfix-F.NotNull v) (λ w. refl) (λ w k r. k) (λ d w r. r)
  open_postfix_kept (Postfix-F.NotNullWords not null) h =
      formed e (pair e (fixed_kept e K.Not not h.0) (fixed_kept e K.Null null h.1))
      (λ v. Postfix-F.NotNullWords v.0 v.1) (λ w. refl) (λ w k r. (k.0, k.1)) (λ d w r. r)
  open_postfix_kept (Postfix-F.In not in_word set) h =
      formed e (pair e (pair e (opt e (fixed_kept e K.Not) not h.0) (fixed_kept e K.In in_word h.1)) (in_set_kept set h.2))
      (λ v. Postfix-F.In v.0.0 v.0.1 v.1) (λ w. refl) (λ w k r. (k.0.0, k.0.1, k.1)) (λ d w r. r)

  postfix_kept : (x : Postfix) → IsPostfix e.old inside (out-Postfix x)
      → Kept e Postfix postfix_tokens (λ y. IsPostfix e.new other (out-Postfix y)) (λ d. AlikePostfix d (a d)) x
  postfix_kept x h = rolled e x roll-Postfix out-roll-Postfix opened_postfix (open_postfix_kept (out-Postfix x) h)

  -- {"-" | "+" | "~" | NOT} operand {postfix}
  open_part_kept : (x : OpenPart) → AllByRecursion (IsPrefix e.old) x.prefixes × IsOperand e.old inside (out-Operand x.operand) × AllByRecursion (λ postfix. IsPostfix e.old inside (out-Postfix postfix)) x.postfixes
      → Kept e OpenPart (part_level operand_tokens postfix_tokens) (λ x. AllByRecursion (IsPrefix e.new) x.prefixes × IsOperand e.new other (out-Operand x.operand) × AllByRecursion (λ postfix. IsPostfix e.new other (out-Postfix postfix)) x.postfixes)
      (λ d. AlikeOpenPart d (a d)) x
  open_part_kept x h =
      formed e (pair e (pair e
      (many e (prefix_kept e) x.prefixes h.0)
      (operand_kept x.operand h.1))
      (many e postfix_kept x.postfixes h.2))
      (λ v. record { prefixes = v.0.0; operand = v.0.1; postfixes = v.1 }) (λ w. refl) (λ w k r. (k.0.0, k.0.1, k.1)) (λ d w r. r)

  pub part_kept : (x : Part) → IsPart e.old inside x → Kept e Part part_tokens (IsPart e.new other) (λ d. AlikePart d (a d)) x
  part_kept x h = rolled e x roll-Part out-roll-Part opened_part (open_part_kept (out-Part x) h)

  -- infix part
  open_infix_part_kept : (x : OpenInfixPart) → IsInfix e.old x.operator × IsPart e.old inside x.part × LeavesNot e.old x.operator (part_tokens x.part)
      → Kept e OpenInfixPart (infix_part_level part_tokens) (λ x. IsInfix e.new x.operator × IsPart e.new other x.part × LeavesNot e.new x.operator (part_tokens x.part))
      (λ d. AlikeOpenInfixPart d (a d)) x
  open_infix_part_kept x h =
      formed e (pair e (infix_kept e x.operator h.0) (begun e (part_kept x.part h.1)))
      (λ v. record { operator = v.0; part = v.1 }) (λ w. refl)
      (λ w k r. (k.0, k.1.0, leaves_not_kept e w.0 x.operator r.0 (part_tokens x.part) (part_tokens w.1) (k.1.1 (K.Not ∷ [])) h.2)) (λ d w r. r)

  pub infix_part_kept : (x : InfixPart) → IsInfixPart e.old inside x → Kept e InfixPart infix_part_tokens (IsInfixPart e.new other) (λ d. AlikeInfixPart d (a d)) x
  infix_part_kept x h = rolled e x roll-InfixPart out-roll-InfixPart opened_infix_part (open_infix_part_kept (out-InfixPart x) h)

  -- part {infix part}
  open_expr_kept : (x : OpenExpr) → IsPart e.old inside x.first × AllByRecursion (IsInfixPart e.old inside) x.more
      → Kept e OpenExpr (expr_level part_tokens infix_part_tokens) (λ x. IsPart e.new other x.first × AllByRecursion (IsInfixPart e.new other) x.more)
      (λ d. AlikeOpenExpr d (a d)) x
  open_expr_kept x h =
      formed e (pair e (part_kept x.first h.0) (many e infix_part_kept x.more h.1))
      (λ v. record { first = v.0; more = v.1 }) (λ w. refl) (λ w k r. (k.0, k.1)) (λ d w r. r)

  pub expr_kept : (x : Expr) → IsExpr e.old inside x → Kept e Expr expr_tokens (IsExpr e.new other) (λ d. AlikeExpr d (a d)) x
  expr_kept x h = rolled e x roll-Expr out-roll-Expr opened_expr (open_expr_kept (out-Expr x) h)

  -- ON expr | USING "(" names ")"
  pub join_constraint_kept : (x : JoinConstraint Expr) → IsJoinConstraint e.old inside x
      → Kept e (JoinConstraint Expr) (join_constraint_tokens expr_tokens) (IsJoinConstraint e.new other) (λ d. AlikeJoinConstraint d (a d)) x
  join_constraint_kept (JoinConstraint'.On x) h =
      formed e (after_kept e K.On inner.expr x h) (λ v. JoinConstraint'.On v) (λ w. refl) (λ w k r. k) (λ d w r. r)
  join_constraint_kept (JoinConstraint'.Using using names) h =
      formed e (pair e (fixed_kept e K.Using using h.0) (in_parens_kept e (commas_kept e (name_kept e)) names h.1))
      (λ v. JoinConstraint'.Using v.0 v.1) (λ w. refl) (λ w k r. (k.0, k.1)) (λ d w r. r)

  inner_sources_kept : (x : Sources) → inside.sources x × BeginsWithout e.old (K.With ∷ []) (sources_tokens x)
      → Kept e Sources sources_tokens (λ y. other.sources y × BeginsWithout e.new (K.With ∷ []) (sources_tokens y)) (λ d. (a d).sources) x
  inner_sources_kept x h =
      formed e (begun e (inner.sources x h.0)) (λ v. v) (λ w. refl) (λ w k r. (k.0, k.1 (K.With ∷ []) h.1)) (λ d w r. r)

  -- a source
  pub open_table_source_kept : (x : OpenTableSource) → IsTableSource e.old inside x
      → Kept e OpenTableSource (table_source_level expr_tokens select_tokens sources_tokens) (IsTableSource e.new other) (λ d. AlikeOpenTableSource d (a d)) x
  open_table_source_kept (TableSource-F.Table object alias indexing) h =
      formed e (pair e (pair e (object_kept e object h.0) (opt e (alias_kept e) alias h.1)) (opt e (indexing_kept e) indexing h.2))
      (λ v. TableSource-F.Table v.0.0 v.0.1 v.1) (λ w. refl) (λ w k r. (k.0.0, k.0.1, k.1)) (λ d w r. r)
  open_table_source_kept (TableSource-F.TableFunction name arguments alias) h =
      formed e (pair e (pair e (name_kept e name h.0) (arguments_kept arguments h.1)) (opt e (alias_kept e) alias h.2))
      (λ v. TableSource-F.TableFunction v.0.0 v.0.1 v.1) (λ w. refl) (λ w k r. (k.0.0, k.0.1, k.1)) (λ d w r. r)
  open_table_source_kept (TableSource-F.Derived select alias) h =
      formed e (pair e (in_parens_kept e inner.select select h.0) (opt e (alias_kept e) alias h.1))
      (λ v. TableSource-F.Derived v.0 v.1) (λ w. refl) (λ w k r. (k.0, k.1)) (λ d w r. r)
  open_table_source_kept (TableSource-F.Sources x) h =
      formed e (in_parens_kept e inner_sources_kept x h) (λ v. TableSource-F.Sources v) (λ w. refl) (λ w k r. k) (λ d w r. r)

  table_source_kept : (x : TableSource) → IsTableSource e.old inside (out-TableSource x)
      → Kept e TableSource table_source_tokens (λ y. IsTableSource e.new other (out-TableSource y)) (λ d. AlikeTableSource d (a d)) x
  table_source_kept x h = rolled e x roll-TableSource out-roll-TableSource opened_table_source (open_table_source_kept (out-TableSource x) h)

  -- join source [ON expr | USING "(" names ")"]
  open_joined_source_kept : (x : OpenJoinedSource) → IsJoin e.old x.join × IsTableSource e.old inside (out-TableSource x.source) × IfSome x.constraint (IsJoinConstraint e.old inside)
      → Kept e OpenJoinedSource (joined_source_level table_source_tokens expr_tokens) (λ x. IsJoin e.new x.join × IsTableSource e.new other (out-TableSource x.source) × IfSome x.constraint (IsJoinConstraint e.new other))
      (λ d. AlikeOpenJoinedSource d (a d)) x
  open_joined_source_kept x h =
      formed e (pair e (pair e
      (join_kept e x.join h.0)
      (table_source_kept x.source h.1))
      (opt e join_constraint_kept x.constraint h.2))
      (λ v. record { join = v.0.0; source = v.0.1; constraint = v.1 }) (λ w. refl) (λ w k r. (k.0.0, k.0.1, k.1)) (λ d w r. r)

  pub joined_source_kept : (x : JoinedSource) → IsJoinedSource e.old inside x → Kept e JoinedSource joined_source_tokens (IsJoinedSource e.new other) (λ d. AlikeJoinedSource d (a d)) x
  joined_source_kept x h = rolled e x roll-JoinedSource out-roll-JoinedSource opened_joined_source (open_joined_source_kept (out-JoinedSource x) h)

  -- source {join source [ON expr | USING "(" names ")"]}
  open_sources_kept : (x : OpenSources) → IsTableSource e.old inside (out-TableSource x.first) × AllByRecursion (IsJoinedSource e.old inside) x.more
      → Kept e OpenSources (sources_level table_source_tokens joined_source_tokens) (λ x. IsTableSource e.new other (out-TableSource x.first) × AllByRecursion (IsJoinedSource e.new other) x.more)
      (λ d. AlikeOpenSources d (a d)) x
  open_sources_kept x h =
      formed e (pair e (table_source_kept x.first h.0) (many e joined_source_kept x.more h.1))
      (λ v. record { first = v.0; more = v.1 }) (λ w. refl) (λ w k r. (k.0, k.1)) (λ d w r. r)

  pub sources_kept : (x : Sources) → IsSources e.old inside x → Kept e Sources sources_tokens (IsSources e.new other) (λ d. AlikeSources d (a d)) x
  sources_kept x h = rolled e x roll-Sources out-roll-Sources opened_sources (open_sources_kept (out-Sources x) h)

  -- name ["(" names ")"] AS [[NOT] MATERIALIZED] "(" select ")"
  pub cte_kept : (x : Cte Select) → IsCte e.old inside x
      → Kept e (Cte Select) (cte_tokens select_tokens) (IsCte e.new other) (λ d. AlikeCte d (a d)) x
  cte_kept x h =
      formed e (pair e (pair e (pair e (pair e
      (name_kept e x.name h.0)
      (opt e (in_parens_kept e (commas_kept e (name_kept e))) x.columns h.1))
      (fixed_kept e K.As x.as_word h.2))
      (opt e (materialized_kept e) x.materialized h.3))
      (in_parens_kept e inner.select x.select h.4))
      (λ v. record { name = v.0.0.0.0; columns = v.0.0.0.1; as_word = v.0.0.1; materialized = v.0.1; select = v.1 }) (λ w. refl)
      (λ w k r. (k.0.0.0.0, k.0.0.0.1, k.0.0.1, k.0.1, k.1)) (λ d w r. r)

  -- WITH [RECURSIVE] ctes
  pub with_kept : (x : With Select) → IsWith e.old inside x
      → Kept e (With Select) (with_tokens select_tokens) (IsWith e.new other) (λ d. AlikeWith d (a d)) x
  with_kept x h =
      formed e (pair e (pair e
      (fixed_kept e K.With x.with_word h.0)
      (opt e (fixed_kept e K.Recursive) x.recursive h.1))
      (commas_kept e cte_kept x.ctes h.2))
      (λ v. record { with_word = v.0.0; recursive = v.0.1; ctes = v.1 }) (λ w. refl)
      (λ w k r. (k.0.0, k.0.1, k.1, free_kept e (K.Recursive ∷ []) x.recursive w.0.1 x.ctes.first.name w.1.first.name r.0.1 r.1.0.0.0.0.0 h.3)) (λ d w r. r)

  second_kept : (x : After Expr) → (IsFixed e.old K.Offset x.word ⊎ IsSign e.old (codes ",") x.word) × inside.expr x.part
      → Kept e (After Expr) (after_tokens expr_tokens) (λ y. (IsFixed e.new K.Offset y.word ⊎ IsSign e.new (codes ",") y.word) × other.expr y.part)
      (λ d. AlikeAfter d (a d).expr) x
  second_kept x h =
      formed e (pair e (word_or_sign_kept e K.Offset (codes ",") x.word h.0) (inner.expr x.part h.1)) (λ v. record { word = v.0; part = v.1 }) (λ w. refl)
      (λ w k r. k) (λ d w r. r)

  -- LIMIT expr [(OFFSET | ",") expr]
  pub limit_kept : (x : Limit Expr) → IsLimit e.old inside x
      → Kept e (Limit Expr) (limit_tokens expr_tokens) (IsLimit e.new other) (λ d. AlikeLimit d (a d)) x
  limit_kept x h =
      formed e (pair e (pair e (fixed_kept e K.Limit x.limit h.0) (inner.expr x.count h.1)) (opt e second_kept x.second h.2))
      (λ v. record { limit = v.0.0; count = v.0.1; second = v.1 }) (λ w. refl) (λ w k r. (k.0.0, k.0.1, k.1)) (λ d w r. r)

  -- "*" | name "." "*" | expr [[AS] alias]
  pub result_item_kept : (x : ResultItem Expr) → IsResultItem e.old inside x
      → Kept e (ResultItem Expr) (result_item_tokens expr_tokens) (IsResultItem e.new other) (λ d. AlikeResultItem d (a d)) x
  result_item_kept (ResultItem'.Star t) h =
      formed e (sign_kept e (codes "*") t h) (λ v. ResultItem'.Star v) (λ w. refl) (λ w k r. k) (λ d w r. r)
  result_item_kept (ResultItem'.AllOf name dot star) h =
      formed e (pair e (pair e (operand_name_kept e name h.0) (sign_kept e (codes ".") dot h.1)) (sign_kept e (codes "*") star h.2))
      (λ v. ResultItem'.AllOf v.0.0 v.0.1 v.1) (λ w. refl) (λ w k r. (k.0.0, k.0.1, k.1)) (λ d w r. r)
  result_item_kept (ResultItem'.Expr expr alias) h =
      formed e (pair e (inner.expr expr h.0) (opt e (alias_kept e) alias h.1))
      (λ v. ResultItem'.Expr v.0 v.1) (λ w. refl) (λ w k r. (k.0, k.1)) (λ d w r. r)

  -- "(" exprs ")"
  pub values_row_kept : (x : ValuesRow Expr) → IsValuesRow e.old inside x
      → Kept e (ValuesRow Expr) (values_row_tokens expr_tokens) (IsValuesRow e.new other) (λ d. AlikeValuesRow d (a d)) x
  values_row_kept x h =
      formed e (in_parens_kept e (commas_kept e inner.expr) x.exprs h) (λ v. record { exprs = v }) (λ w. refl) (λ w k r. k) (λ d w r. r)

  -- SELECT [DISTINCT|ALL] items [FROM sources] [WHERE expr] [GROUP BY exprs] [HAVING expr] [WINDOW named-windows]
  pub open_select_arm_kept : (x : OpenSelectArm) → IsSelectArm e.old inside x
      → Kept e OpenSelectArm (select_arm_level expr_tokens sources_tokens) (IsSelectArm e.new other) (λ d. AlikeOpenSelectArm d (a d)) x
  open_select_arm_kept x h =
      formed e (pair e (pair e (pair e (pair e (pair e (pair e (pair e
      (fixed_kept e K.Select x.select h.0)
      (opt e (one_of_kept e (K.Distinct ∷ K.All ∷ [])) x.quantifier h.1))
      (commas_kept e result_item_kept x.items h.2))
      (opt e (after_kept e K.From inner.sources) x.from h.3))
      (opt e (after_kept e K.Where inner.expr) x.filter h.4))
      (opt e (by_kept e K.Group inner.expr) x.group h.5))
      (opt e (after_kept e K.Having inner.expr) x.having h.6))
      (opt e (after_kept e K.Window (commas_kept e named_window_kept)) x.windows h.7))
      (λ v. record { select = v.0.0.0.0.0.0.0; quantifier = v.0.0.0.0.0.0.1; items = v.0.0.0.0.0.1; from = v.0.0.0.0.1; filter = v.0.0.0.1; group = v.0.0.1; having = v.0.1; windows = v.1 }) (λ w. refl)
      (λ w k r. (k.0.0.0.0.0.0.0, k.0.0.0.0.0.0.1, k.0.0.0.0.0.1, k.0.0.0.0.1, k.0.0.0.1, k.0.0.1, k.0.1, k.1)) (λ d w r. r)

  select_arm_kept : (x : SelectArm) → IsSelectArm e.old inside (out-SelectArm x)
      → Kept e SelectArm select_arm_tokens (λ y. IsSelectArm e.new other (out-SelectArm y)) (λ d. AlikeSelectArm d (a d)) x
  select_arm_kept x h = rolled e x roll-SelectArm out-roll-SelectArm opened_select_arm (open_select_arm_kept (out-SelectArm x) h)

  -- SELECT .. | VALUES rows
  pub open_arm_kept : (x : OpenArm) → IsArm e.old inside x
      → Kept e OpenArm (arm_level select_arm_tokens expr_tokens) (IsArm e.new other) (λ d. AlikeOpenArm d (a d)) x
  open_arm_kept (Arm-F.Select x) h =
      formed e (select_arm_kept x h) (λ v. Arm-F.Select v) (λ w. refl) (λ w k r. k) (λ d w r. r)
  open_arm_kept (Arm-F.Values values rows) h =
      formed e (pair e (fixed_kept e K.Values values h.0) (commas_kept e values_row_kept rows h.1))
      (λ v. Arm-F.Values v.0 v.1) (λ w. refl) (λ w k r. (k.0, k.1)) (λ d w r. r)

  arm_kept : (x : Arm) → IsArm e.old inside (out-Arm x)
      → Kept e Arm arm_tokens (λ y. IsArm e.new other (out-Arm y)) (λ d. AlikeArm d (a d)) x
  arm_kept x h = rolled e x roll-Arm out-roll-Arm opened_arm (open_arm_kept (out-Arm x) h)

  -- compound arm
  open_compound_arm_kept : (x : OpenCompoundArm) → IsCompound e.old x.compound × IsArm e.old inside (out-Arm x.arm)
      → Kept e OpenCompoundArm (compound_arm_level arm_tokens) (λ x. IsCompound e.new x.compound × IsArm e.new other (out-Arm x.arm))
      (λ d. AlikeOpenCompoundArm d (a d)) x
  open_compound_arm_kept x h =
      formed e (pair e (compound_kept e x.compound h.0) (arm_kept x.arm h.1))
      (λ v. record { compound = v.0; arm = v.1 }) (λ w. refl) (λ w k r. (k.0, k.1)) (λ d w r. r)

  pub compound_arm_kept : (x : CompoundArm) → IsCompoundArm e.old inside x → Kept e CompoundArm compound_arm_tokens (IsCompoundArm e.new other) (λ d. AlikeCompoundArm d (a d)) x
  compound_arm_kept x h = rolled e x roll-CompoundArm out-roll-CompoundArm opened_compound_arm (open_compound_arm_kept (out-CompoundArm x) h)

  -- [WITH [RECURSIVE] ctes] arm {compound arm} [ORDER BY terms] [LIMIT expr [(OFFSET | ",") expr]]
  open_select_kept : (x : OpenSelect) → IfSome x.with_clause (IsWith e.old inside) × IsArm e.old inside (out-Arm x.arm) × AllByRecursion (IsCompoundArm e.old inside) x.compounds × IfSome x.order (IsBy e.old K.Order (IsTerm e.old inside)) × IfSome x.limit (IsLimit e.old inside)
      → Kept e OpenSelect (select_level select_tokens arm_tokens compound_arm_tokens expr_tokens) (λ x. IfSome x.with_clause (IsWith e.new other) × IsArm e.new other (out-Arm x.arm) × AllByRecursion (IsCompoundArm e.new other) x.compounds × IfSome x.order (IsBy e.new K.Order (IsTerm e.new other)) × IfSome x.limit (IsLimit e.new other))
      (λ d. AlikeOpenSelect d (a d)) x
  open_select_kept x h =
      formed e (pair e (pair e (pair e (pair e
      (opt e with_kept x.with_clause h.0)
      (arm_kept x.arm h.1))
      (many e compound_arm_kept x.compounds h.2))
      (opt e (by_kept e K.Order term_kept) x.order h.3))
      (opt e limit_kept x.limit h.4))
      (λ v. record { with_clause = v.0.0.0.0; arm = v.0.0.0.1; compounds = v.0.0.1; order = v.0.1; limit = v.1 }) (λ w. refl)
      (λ w k r. (k.0.0.0.0, k.0.0.0.1, k.0.0.1, k.0.1, k.1)) (λ d w r. r)

  pub select_kept : (x : Select) → IsSelect e.old inside x → Kept e Select select_tokens (IsSelect e.new other) (λ d. AlikeSelect d (a d)) x
  select_kept x h = rolled e x roll-Select out-roll-Select opened_select (open_select_kept (out-Select x) h)

-- ---- by height

-- what stands inside at a height is kept, where each column's name that may stand alone becomes one
pub kept_at : (e : Edit) (P Q : Token → Type 0) → ((t : Token) → P t → NameBecomes e t → Q (e.edit t)) → (n : ℕ)
    → Inner e (λ d. AlikeAt d n) (InsideAt e.old P n) (InsideAt e.new Q n)
kept_at e P Q columns zero = record { column = columns; expr = λ x h. absurd h; select = λ x h. absurd h; sources = λ x h. absurd h }
kept_at e P Q columns (suc n) =
    let below = kept_at e P Q columns n in
    record { column = columns; expr = expr_kept e below; select = select_kept e below; sources = sources_kept e below }

-- the same, where no Str is a column
pub usual_kept : (e : Edit) (n : ℕ) → Inner e (λ d. AlikeAt d n) (UsualAt e.old n) (UsualAt e.new n)
usual_kept e n = kept_at e (IsColumnName e.old) (IsColumnName e.new) (λ t h becomes. becomes_column e t h becomes) n

-- ---- whole texts

-- What the tokens of a tree are, and what becomes of it: a tree of the rule in the other text that spells what the tokens are there
-- and is alike.
pub record Edited (e : Edit) (A : Type 0) (Of : List ℕ → A → List Token → Type 0) (alike : Edit → A → A → Type 0) (x : A) (tokens : List Token) : Type 1 where
  pub leaves : List Leaf
  pub spelled : tokens ≡ map token_of leaves
  pub made : AllByRecursion (Becomes e) leaves → (y : A) × Of e.new y (map e.edit tokens) × alike e x y
  pub names : (N : Token → Type 0) → AllByRecursion (IsKnown N) leaves → alike (marked e.old N) x x

-- an expression of the one text is one of the other
pub expr_edited : (e : Edit) (x : Expr) (tokens : List Token) (h : SpellsExpr e.old x tokens)
    → Edited e Expr SpellsExpr (λ d. (AlikeAt d h.0.0).expr) x tokens
expr_edited e x tokens h =
    let kept = (usual_kept e h.0.0).expr x h.0.1 in
    record {
      leaves = kept.leaves;
      spelled = h.1 ∙ kept.spelled;
      made = λ all. let m = kept.made all in (m.tree, ((h.0.0, m.ruled), ap (map e.edit) h.1 ∙ sym m.tokens), m.same);
      names = kept.names;
    }

-- a select of the one text is one of the other
pub select_edited : (e : Edit) (x : Select) (tokens : List Token) (h : SpellsSelect e.old x tokens)
    → Edited e Select SpellsSelect (λ d. (AlikeAt d h.0.0).select) x tokens
select_edited e x tokens h =
    let kept = (usual_kept e h.0.0).select x h.0.1 in
    record {
      leaves = kept.leaves;
      spelled = h.1 ∙ kept.spelled;
      made = λ all. let m = kept.made all in (m.tree, ((h.0.0, m.ruled), ap (map e.edit) h.1 ∙ sym m.tokens), m.same);
      names = kept.names;
    }
