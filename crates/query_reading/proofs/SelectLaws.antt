-- The laws of what is read as a select, one level of it.
use Rattle.std.proofs.Common.{IfSome, List, None, Option, Some, [], ap, inl, inr, refl, subst, sym, ℕ, ◌∙◌, ◌∷◌, ◌≡◌, ◌⊎◌}
use Rattle.std.specs.List.{AllByRecursion}
use Rattle.std.specs.Prelude.{codes}
use Rattle.sql_token.specs.Byte.{begins}
use Rattle.sql_token.specs.Fixed.{IsFixed, IsSign}
use Rattle.sql_token.specs.Spelled.{flat, maybe}
use Rattle.sql_token.specs.declared.keyword.Keyword.{Keyword}
use Rattle.sql_token.specs.declared.token.Token.{Token}
use Rattle.sql_expr.proofs.Opened.{arm_tokens-Select, arm_tokens-Values, made_compound_arm, made_select, made_select_arm}
use Rattle.sql_expr.specs.Leaf.{BeginsWithout, IsNoneOf}
use Rattle.sql_expr.specs.Levels.{OpenArm}
use Rattle.sql_expr.specs.Rules.{AreCommas, Inside, IsAfter, IsArm, IsBy, IsCompound, IsCompoundArm, IsCte, IsLimit, IsMaterialized, IsNamedWindow, IsResultItem, IsSelect, IsSelectArm, IsTerm, IsValuesRow, IsWith}
use Rattle.sql_expr.specs.Tokens.{after_tokens, commas_tokens, compound_tokens, cte_tokens, limit_tokens, materialized_tokens, named_window_tokens, next_item_tokens, result_item_tokens, values_row_tokens, with_tokens}
use Rattle.sql_expr.specs.Tree.{arm_tokens, compound_arm_tokens, expr_tokens, select_arm_tokens, select_tokens, sources_tokens}
use Rattle.sql_expr.specs.declared.expr.Expr.{Expr}
use Rattle.sql_expr.specs.declared.expr.InSet.TheOpen.{Arm-F}
use Rattle.sql_expr.specs.declared.lists.After.{After}
use Rattle.sql_expr.specs.declared.lists.Commas.{Commas}
use Rattle.sql_expr.specs.declared.lists.NextItem.{NextItem}
use Rattle.sql_expr.specs.declared.select.Arm.{Arm, out-Arm, out-roll-Arm, roll-Arm, roll-out-Arm}
use Rattle.sql_expr.specs.declared.select.Compound.{Compound}
use Rattle.sql_expr.specs.declared.select.CompoundArm.{CompoundArm, out-CompoundArm, out-roll-CompoundArm, roll-out-CompoundArm}
use Rattle.sql_expr.specs.declared.select.Cte.{Cte}
use Rattle.sql_expr.specs.declared.select.Limit.{Limit}
use Rattle.sql_expr.specs.declared.select.Materialized.{Materialized}
use Rattle.sql_expr.specs.declared.select.ResultItem.{ResultItem}
use Rattle.sql_expr.specs.declared.select.Select.{Select, out-Select, out-roll-Select, roll-out-Select}
use Rattle.sql_expr.specs.declared.select.SelectArm.{SelectArm, out-SelectArm, out-roll-SelectArm, roll-out-SelectArm}
use Rattle.sql_expr.specs.declared.select.ValuesRow.{ValuesRow}
use Rattle.sql_expr.specs.declared.select.With.{With}
use Rattle.sql_expr.specs.declared.source.Sources.{Sources}
use Rattle.sql_expr.specs.declared.window.NamedWindow.{NamedWindow}
use Rattle.sql_reader.proofs.Choices.{choice_reads, many_reads, opt_reads}
use Rattle.sql_reader.proofs.Forms.{begun_reads, formed_reads, lead_reads, ruled, variant_reads, widened_reads, without_reads}
use Rattle.sql_reader.proofs.Laws.{Reads, leaf_reads, seq_reads}
use Rattle.sql_reader.proofs.Leaves.{either_fits, name_fits, no_words_fit, sign_fits, word_fits, words_fit}
use Rattle.sql_reader.specs.Looks.{sign, word, words}
use Rattle.sql_reader.specs.Sorts.{sort_of}
use Rattle.sql_reader.specs.declared.sort.Mark.TheVariants.{Comma, Dot, Star}
use Rattle.query_reading.proofs.LeafLaws.{Nested, operand_name_fits}
use Rattle.query_reading.proofs.ListLaws.{after_reads, commas_reads, in_parens_reads, maybe_not_reads, next_item_reads, opt_leaf_reads}
use Rattle.query_reading.proofs.NameLaws.{opt_alias_reads, opt_names_reads}
use Rattle.query_reading.proofs.OperandLaws.{query_reads}
use Rattle.query_reading.proofs.WindowLaws.{exprs_reads, named_window_reads, opt_after_reads, opt_by_reads, opt_order_reads}
use Rattle.query_reading.specs.Exprs.{Inner}
use Rattle.query_reading.specs.Opened.{OpenCompoundArm, OpenSelect}
use Rattle.query_reading.specs.Selects.{arm, compound, compound_arm, compound_arms, cte, ctes, limit, materialized, named_windows, next_cte, next_named_window, next_result_item, next_values_row, open_select, open_select_arm, opt_from, opt_limit, opt_materialized, opt_windows, opt_with, read_arm, read_compound, read_compound_arm, read_compound_arms, read_cte, read_ctes, read_limit, read_materialized, read_more_ctes, read_more_named_windows, read_more_result_items, read_more_values_rows, read_named_windows, read_next_cte, read_next_named_window, read_next_result_item, read_next_values_row, read_opt_from, read_opt_limit, read_opt_materialized, read_opt_windows, read_opt_with, read_plain_ctes, read_result_item, read_result_items, read_second_limit, read_select_arm, read_select_level, read_values_row, read_values_rows, read_with, read_with_recursive, result_item, result_items, second_limit, select_arm, select_level, values_row, values_rows, with}
use Rattle.sql_expr.specs.declared.select.Arm.TheVariants as Arm'
use Rattle.sql_expr.specs.declared.select.Compound.TheVariants as Compound'
use Rattle.sql_token.specs.declared.keyword.Keyword.TheVariants as K
use Rattle.sql_expr.specs.declared.select.ResultItem.TheVariants as ResultItem'

-- what a rule covers of the trees that are made so
abbrev Covers : {A B : Type 0} → (A → B) → (A → Type 0) → B → Type 0
Covers {A} make C y = (x : A) × (y ≡ make x) × C x

-- a WITH, made of its parts
abbrev with_of : Token → Option Token → Commas (Cte Select) → With Select
with_of with_word recursive list = record { with_word = with_word; recursive = recursive; ctes = list }

abbrev IsWithRecursive : List ℕ → Inside → Token × (Token × Commas (Cte Select)) → Type 0
IsWithRecursive text inside v = IsFixed text K.With v.0 × (IsFixed text K.Recursive v.1.0 × AreCommas text (IsCte text inside) v.1.1)

abbrev cte_list_tokens : Commas (Cte Select) → List Token
cte_list_tokens x = commas_tokens (cte_tokens select_tokens) x

abbrev IsWithPlain : List ℕ → Inside → Token × Commas (Cte Select) → Type 0
IsWithPlain text inside v =
    IsFixed text K.With v.0
    × (AreCommas text (IsCte text inside) v.1 × BeginsWithout text (K.Recursive ∷ []) (cte_list_tokens v.1))

-- the first token of a list is its first
first_begins : (text : List ℕ) (keywords : List Keyword) (t : Token) (ts : List Token) → BeginsWithout text keywords (t ∷ ts) → IsNoneOf text keywords t
first_begins text keywords t ts begins = begins t ts refl

begins_first : (text : List ℕ) (keywords : List Keyword) (t : Token) (ts : List Token) → IsNoneOf text keywords t → BeginsWithout text keywords (t ∷ ts)
begins_first text keywords t ts none u rest e = let same : t ≡ u = cc in subst (IsNoneOf text keywords) same none

with_covers : (text : List ℕ) (inside : Inside) (with_word : Token) (recursive : Option Token) (list : Commas (Cte Select))
    → IsWith text inside (with_of with_word recursive list)
    → Covers (λ (v : Token × (Token × Commas (Cte Select))). with_of v.0 (Some v.1.0) v.1.1) (IsWithRecursive text inside) (with_of with_word recursive list)
    ⊎ Covers (λ (v : Token × Commas (Cte Select)). with_of v.0 None v.1) (IsWithPlain text inside) (with_of with_word recursive list)
with_covers text inside with_word (Some t) list h = inl ((with_word, (t, list)), refl, (h.0, (h.1, h.2)))
with_covers text inside with_word None list h =
    inr ((with_word, list), refl, (h.0, (h.2, begins_first text (K.Recursive ∷ []) list.first.name _ h.3)))

arm_is : (x : Arm) (o : OpenArm) → out-Arm x ≡ o → x ≡ roll-Arm o
arm_is x o e = sym (roll-out-Arm x) ∙ ap roll-Arm e

arm_out : (x : Arm) (o : OpenArm) → roll-Arm o ≡ x → o ≡ out-Arm x
arm_out x o e = sym (out-roll-Arm o) ∙ ap out-Arm e

arm_covers : (text : List ℕ) (inside : Inside) (x : Arm) (o : OpenArm) → out-Arm x ≡ o → IsArm text inside o
    → Covers (λ v. Arm'.Select v) (λ v. IsSelectArm text inside (out-SelectArm v)) x
    ⊎ Covers (λ (v : Token × Commas (ValuesRow Expr)). Arm'.Values v.0 v.1) (λ v. IsFixed text K.Values v.0 × AreCommas text (IsValuesRow text inside) v.1) x
arm_covers text inside x (Arm-F.Select v) e h =
    inl (v, arm_is x (Arm-F.Select v) e ∙ Arm'.rolls-Select v, h)
arm_covers text inside x (Arm-F.Values values rows) e h =
    inr ((values, rows), arm_is x (Arm-F.Values values rows) e ∙ Arm'.rolls-Values values rows, (h.0, h.1))

abbrev IsOpenCompoundArm : List ℕ → Inside → OpenCompoundArm → Type 0
IsOpenCompoundArm text inside x = IsCompound text x.compound × IsArm text inside (out-Arm x.arm)

abbrev IsOpenSelect : List ℕ → Inside → OpenSelect → Type 0
IsOpenSelect text inside x =
    IfSome x.with_clause (IsWith text inside) × IsArm text inside (out-Arm x.arm)
    × AllByRecursion (IsCompoundArm text inside) x.compounds × IfSome x.order (IsBy text K.Order (IsTerm text inside))
    × IfSome x.limit (IsLimit text inside)

module _ (text : List ℕ) {n : ℕ} where
  -- [NOT] MATERIALIZED
  pub materialized_reads : Reads (sort_of text) Materialized (IsMaterialized text) (IsMaterialized text) materialized_tokens n
      (materialized (sort_of text)) (read_materialized (sort_of text))
  unfolding read_materialized
  materialized_reads =
      formed_reads (maybe_not_reads text (word_fits text K.Materialized) refl)
      (record { spelled = λ v. refl; meets = λ v h. h; covers = λ x h. ((x.not, x.materialized), refl, h) })

  -- [[NOT] MATERIALIZED]
  pub opt_materialized_reads : Reads (sort_of text) (Option Materialized) (λ x. IfSome x (IsMaterialized text)) (λ x. IfSome x (IsMaterialized text)) (maybe materialized_tokens) n
      (opt_materialized (sort_of text)) (read_opt_materialized (sort_of text))
  unfolding read_opt_materialized
  opt_materialized_reads = opt_reads materialized_reads refl

  -- UNION [ALL] | EXCEPT | INTERSECT
  pub compound_reads : Reads (sort_of text) Compound (IsCompound text) (IsCompound text) compound_tokens n
      (compound (sort_of text)) (read_compound (sort_of text))
  unfolding read_compound
  compound_reads =
      ruled
      (choice_reads
      (variant_reads (begun_reads (word_fits text K.Union) (opt_leaf_reads text (word_fits text K.All))) (λ v. refl) (λ v h. h))
      (choice_reads (variant_reads (leaf_reads (word_fits text K.Except)) (λ t. refl) (λ t h. h))
      (variant_reads (leaf_reads (word_fits text K.Intersect)) (λ t. refl) (λ t h. h))
      refl refl refl) refl refl refl)
      (λ x h. h)
      (elim [
        | Compound'.Union union all ↦ λ h. inl ((union, all), refl, h)
        | Compound'.Except t ↦ λ h. inr (inl (t, refl, h))
        | Compound'.Intersect t ↦ λ h. inr (inr (t, refl, h))
      ])

module _ {text : List ℕ} {n : ℕ} {inside : Inside} {inner twin : Inner} where
  -- name ["(" names ")"] AS [[NOT] MATERIALIZED] "(" select ")"
  pub cte_reads : Nested text n inside inner twin → Reads (sort_of text) (Cte Select) (IsCte text inside) (IsCte text inside) (cte_tokens select_tokens) n
      (cte (sort_of text) inner) (read_cte (sort_of text) twin)
  unfolding read_cte
  cte_reads nested =
      formed_reads
      (seq_reads (seq_reads (seq_reads (begun_reads (name_fits text) (opt_names_reads text)) (leaf_reads (word_fits text K.As)) refl)
      (opt_materialized_reads text) refl) (query_reads nested) refl)
      (record {
        spelled = λ v. refl;
        meets = λ v h. (h.0.0.0.0, h.0.0.0.1, h.0.0.1, h.0.1, h.1);
        covers = λ x h. (((((x.name, x.columns), x.as_word), x.materialized), x.select), refl, ((((h.0, h.1), h.2), h.3), h.4));
      })

  -- "," cte
  pub next_cte_reads : Nested text n inside inner twin → Reads (sort_of text) (NextItem (Cte Select)) (λ x. IsSign text (codes ",") x.comma × IsCte text inside x.item) (λ x. IsSign text (codes ",") x.comma × IsCte text inside x.item) (next_item_tokens (cte_tokens select_tokens)) n
      (next_cte (sort_of text) inner) (read_next_cte (sort_of text) twin)
  unfolding read_next_cte
  next_cte_reads nested = next_item_reads (cte_reads nested)

  -- cte {"," cte}
  pub ctes_reads : Nested text n inside inner twin → Reads (sort_of text) (Commas (Cte Select)) (AreCommas text (IsCte text inside)) (AreCommas text (IsCte text inside)) cte_list_tokens n
      (ctes (sort_of text) inner) (read_ctes (sort_of text) twin)
  unfolding read_ctes read_more_ctes read_next_cte
  ctes_reads nested = commas_reads (cte_reads nested) refl

  -- WITH RECURSIVE ctes | WITH ctes, where the first name is no RECURSIVE
  pub with_reads : Nested text n inside inner twin → Reads (sort_of text) (With Select) (IsWith text inside) (IsWith text inside) (with_tokens select_tokens) n
      (with (sort_of text) inner) (read_with (sort_of text) twin)
  unfolding read_with read_with_recursive read_plain_ctes
  with_reads nested =
      ruled
      (choice_reads
      (variant_reads (lead_reads (word_fits text K.With) (begun_reads (word_fits text K.Recursive) (ctes_reads nested))) (λ v. refl)
      (λ v h. (h.0, h.1.0, h.1.1, tt)))
      (variant_reads
      (lead_reads (word_fits text K.With)
      (without_reads (words (K.Recursive ∷ [])) (ctes_reads nested) (no_words_fit text (K.Recursive ∷ [])) refl)) (λ v. refl)
      (λ v h. (h.0, tt, h.1.0, first_begins text (K.Recursive ∷ []) v.1.first.name _ h.1.1)))
      refl refl refl)
      (λ x h. h)
      (λ x h. with_covers text inside x.with_word x.recursive x.ctes h)

  -- [WITH [RECURSIVE] ctes]
  pub opt_with_reads : Nested text n inside inner twin → Reads (sort_of text) (Option (With Select)) (λ x. IfSome x (IsWith text inside)) (λ x. IfSome x (IsWith text inside)) (maybe (with_tokens select_tokens)) n
      (opt_with (sort_of text) inner) (read_opt_with (sort_of text) twin)
  unfolding read_opt_with
  opt_with_reads nested =
      opt_reads (widened_reads {starts = (word K.With ∷ []) ∷ []} {goes_on = (sign Comma ∷ []) ∷ []} (with_reads nested) refl refl) refl

  -- [(OFFSET | ",") expr]
  pub second_limit_reads : Nested text n inside inner twin → Reads (sort_of text) (Option (After Expr)) (λ x. IfSome x (λ second. (IsFixed text K.Offset second.word ⊎ IsSign text (codes ",") second.word) × inside.expr second.part)) (λ x. IfSome x (λ second. (IsFixed text K.Offset second.word ⊎ IsSign text (codes ",") second.word) × inside.expr second.part)) (maybe (after_tokens expr_tokens)) n
      (second_limit (sort_of text) inner) (read_second_limit (sort_of text) twin)
  unfolding read_second_limit
  second_limit_reads nested =
      opt_reads
      (formed_reads (begun_reads (either_fits (word_fits text K.Offset) (sign_fits text Comma 44 refl refl)) nested.expr)
      (record { spelled = λ v. refl; meets = λ v h. h; covers = λ x h. ((x.word, x.part), refl, h) }))
      refl

  -- LIMIT expr [(OFFSET | ",") expr]
  pub limit_reads : Nested text n inside inner twin → Reads (sort_of text) (Limit Expr) (IsLimit text inside) (IsLimit text inside) (limit_tokens expr_tokens) n
      (limit (sort_of text) inner) (read_limit (sort_of text) twin)
  unfolding read_limit
  limit_reads nested =
      formed_reads (seq_reads (begun_reads (word_fits text K.Limit) nested.expr) (second_limit_reads nested) refl)
      (record {
        spelled = λ v. refl;
        meets = λ v h. (h.0.0, h.0.1, h.1);
        covers = λ x h. (((x.limit, x.count), x.second), refl, ((h.0, h.1), h.2));
      })

  -- [LIMIT expr [(OFFSET | ",") expr]]
  pub opt_limit_reads : Nested text n inside inner twin → Reads (sort_of text) (Option (Limit Expr)) (λ x. IfSome x (IsLimit text inside)) (λ x. IfSome x (IsLimit text inside)) (maybe (limit_tokens expr_tokens)) n
      (opt_limit (sort_of text) inner) (read_opt_limit (sort_of text) twin)
  unfolding read_opt_limit
  opt_limit_reads nested = opt_reads (limit_reads nested) refl

  -- "*" | name "." "*" | expr [[AS] alias]
  pub result_item_reads : Nested text n inside inner twin → Reads (sort_of text) (ResultItem Expr) (IsResultItem text inside) (IsResultItem text inside) (result_item_tokens expr_tokens) n
      (result_item (sort_of text) inner) (read_result_item (sort_of text) twin)
  unfolding read_result_item
  result_item_reads nested =
      ruled
      (choice_reads (variant_reads (leaf_reads (sign_fits text Star 42 refl refl)) (λ t. refl) (λ t h. h))
      (choice_reads
      (variant_reads (lead_reads (operand_name_fits text) (lead_reads (sign_fits text Dot 46 refl refl) (leaf_reads (sign_fits text Star 42 refl refl))))
      (λ v. refl) (λ v h. (h.0, h.1.0, h.1.1)))
      (variant_reads (seq_reads nested.expr (opt_alias_reads text) refl) (λ v. refl) (λ v h. h))
      refl refl refl) refl refl refl)
      (λ x h. h)
      (elim [
        | ResultItem'.Star t ↦ λ h. inl (t, refl, h)
        | ResultItem'.AllOf t dot star ↦ λ h. inr (inl ((t, (dot, star)), refl, (h.0, (h.1, h.2))))
        | ResultItem'.Expr x as_name ↦ λ h. inr (inr ((x, as_name), refl, h))
      ])

  -- "," item
  pub next_result_item_reads : Nested text n inside inner twin → Reads (sort_of text) (NextItem (ResultItem Expr)) (λ x. IsSign text (codes ",") x.comma × IsResultItem text inside x.item) (λ x. IsSign text (codes ",") x.comma × IsResultItem text inside x.item) (next_item_tokens (result_item_tokens expr_tokens)) n
      (next_result_item (sort_of text) inner) (read_next_result_item (sort_of text) twin)
  unfolding read_next_result_item
  next_result_item_reads nested = next_item_reads (result_item_reads nested)

  -- item {"," item}
  pub result_items_reads : Nested text n inside inner twin → Reads (sort_of text) (Commas (ResultItem Expr)) (AreCommas text (IsResultItem text inside)) (AreCommas text (IsResultItem text inside)) (commas_tokens (result_item_tokens expr_tokens)) n
      (result_items (sort_of text) inner) (read_result_items (sort_of text) twin)
  unfolding read_result_items read_more_result_items read_next_result_item
  result_items_reads nested = commas_reads (result_item_reads nested) refl

  -- "(" exprs ")"
  pub values_row_reads : Nested text n inside inner twin → Reads (sort_of text) (ValuesRow Expr) (IsValuesRow text inside) (IsValuesRow text inside) (values_row_tokens expr_tokens) n
      (values_row (sort_of text) inner) (read_values_row (sort_of text) twin)
  unfolding read_values_row
  values_row_reads nested =
      formed_reads (in_parens_reads (exprs_reads nested) refl)
      (record { spelled = λ v. refl; meets = λ v h. h; covers = λ x h. (x.exprs, refl, h) })

  -- "," row
  pub next_values_row_reads : Nested text n inside inner twin → Reads (sort_of text) (NextItem (ValuesRow Expr)) (λ x. IsSign text (codes ",") x.comma × IsValuesRow text inside x.item) (λ x. IsSign text (codes ",") x.comma × IsValuesRow text inside x.item) (next_item_tokens (values_row_tokens expr_tokens)) n
      (next_values_row (sort_of text) inner) (read_next_values_row (sort_of text) twin)
  unfolding read_next_values_row
  next_values_row_reads nested = next_item_reads (values_row_reads nested)

  -- row {"," row}
  pub values_rows_reads : Nested text n inside inner twin → Reads (sort_of text) (Commas (ValuesRow Expr)) (AreCommas text (IsValuesRow text inside)) (AreCommas text (IsValuesRow text inside)) (commas_tokens (values_row_tokens expr_tokens)) n
      (values_rows (sort_of text) inner) (read_values_rows (sort_of text) twin)
  unfolding read_values_rows read_more_values_rows read_next_values_row
  values_rows_reads nested = commas_reads (values_row_reads nested) refl

  -- "," named-window
  pub next_named_window_reads : Nested text n inside inner twin → Reads (sort_of text) (NextItem (NamedWindow Expr)) (λ x. IsSign text (codes ",") x.comma × IsNamedWindow text inside x.item) (λ x. IsSign text (codes ",") x.comma × IsNamedWindow text inside x.item) (next_item_tokens (named_window_tokens expr_tokens)) n
      (next_named_window (sort_of text) inner) (read_next_named_window (sort_of text) twin)
  unfolding read_next_named_window
  next_named_window_reads nested = next_item_reads (named_window_reads nested)

  -- named-window {"," named-window}
  pub named_windows_reads : Nested text n inside inner twin → Reads (sort_of text) (Commas (NamedWindow Expr)) (AreCommas text (IsNamedWindow text inside)) (AreCommas text (IsNamedWindow text inside)) (commas_tokens (named_window_tokens expr_tokens)) n
      (named_windows (sort_of text) inner) (read_named_windows (sort_of text) twin)
  unfolding read_named_windows read_more_named_windows read_next_named_window
  named_windows_reads nested = commas_reads (named_window_reads nested) refl

  -- [WINDOW named-windows]
  pub opt_windows_reads : Nested text n inside inner twin → Reads (sort_of text) (Option (After (Commas (NamedWindow Expr)))) (λ x. IfSome x (IsAfter text K.Window (AreCommas text (IsNamedWindow text inside)))) (λ x. IfSome x (IsAfter text K.Window (AreCommas text (IsNamedWindow text inside)))) (maybe (after_tokens (commas_tokens (named_window_tokens expr_tokens)))) n
      (opt_windows (sort_of text) inner) (read_opt_windows (sort_of text) twin)
  unfolding read_opt_windows
  opt_windows_reads nested = opt_reads (after_reads K.Window (named_windows_reads nested)) refl

  -- [FROM sources]
  pub opt_from_reads : Nested text n inside inner twin → Reads (sort_of text) (Option (After Sources)) (λ x. IfSome x (IsAfter text K.From inside.sources)) (λ x. IfSome x (IsAfter text K.From inside.sources)) (maybe (after_tokens sources_tokens)) n
      (opt_from (sort_of text) inner) (read_opt_from (sort_of text) twin)
  unfolding read_opt_from
  opt_from_reads nested = opt_reads (after_reads K.From nested.sources) refl

  -- SELECT [DISTINCT|ALL] items [FROM sources] [WHERE expr] [GROUP BY exprs] [HAVING expr] [WINDOW named-windows]
  pub select_arm_reads : Nested text n inside inner twin → Reads (sort_of text) SelectArm (λ x. IsSelectArm text inside (out-SelectArm x)) (λ x. IsSelectArm text inside (out-SelectArm x)) select_arm_tokens n
      (select_arm (sort_of text) inner) (read_select_arm (sort_of text) twin)
  unfolding read_select_arm
  select_arm_reads nested =
      formed_reads
      (seq_reads (seq_reads (seq_reads (seq_reads (seq_reads (seq_reads
      (begun_reads (word_fits text K.Select) (opt_leaf_reads text (words_fit text (K.Distinct ∷ K.All ∷ []))))
      (result_items_reads nested) refl) (opt_from_reads nested) refl) (opt_after_reads nested K.Where) refl)
      (opt_by_reads nested K.Group) refl) (opt_after_reads nested K.Having) refl) (opt_windows_reads nested) refl)
      (record {
        spelled = λ v. made_select_arm (open_select_arm v.0.0.0.0.0.0.0 v.0.0.0.0.0.0.1 v.0.0.0.0.0.1 v.0.0.0.0.1 v.0.0.0.1 v.0.0.1 v.0.1 v.1);
        meets = λ v h.
            subst (IsSelectArm text inside)
            (sym (out-roll-SelectArm (open_select_arm v.0.0.0.0.0.0.0 v.0.0.0.0.0.0.1 v.0.0.0.0.0.1 v.0.0.0.0.1 v.0.0.0.1 v.0.0.1 v.0.1 v.1)))
            (h.0.0.0.0.0.0.0, h.0.0.0.0.0.0.1, h.0.0.0.0.0.1, h.0.0.0.0.1, h.0.0.0.1, h.0.0.1, h.0.1, h.1);
        covers = λ x h.
            let y = out-SelectArm x in (
              (((((((y.select, y.quantifier), y.items), y.from), y.filter), y.group), y.having), y.windows),
              sym (roll-out-SelectArm x),
              (((((((h.0, h.1), h.2), h.3), h.4), h.5), h.6), h.7),
            );
      })

  -- SELECT .. | VALUES rows
  pub arm_reads : Nested text n inside inner twin → Reads (sort_of text) Arm (λ x. IsArm text inside (out-Arm x)) (λ x. IsArm text inside (out-Arm x)) arm_tokens n
      (arm (sort_of text) inner) (read_arm (sort_of text) twin)
  unfolding read_arm
  arm_reads nested =
      ruled
      (choice_reads
      (variant_reads (select_arm_reads nested) (λ v. arm_tokens-Select v)
      (λ v h. subst (IsArm text inside) (arm_out (Arm'.Select v) (Arm-F.Select v) (Arm'.rolls-Select v)) h))
      (variant_reads (begun_reads (word_fits text K.Values) (values_rows_reads nested)) (λ v. arm_tokens-Values v.0 v.1)
      (λ v h. subst (IsArm text inside) (arm_out (Arm'.Values v.0 v.1) (Arm-F.Values v.0 v.1) (Arm'.rolls-Values v.0 v.1)) (h.0, h.1)))
      refl refl refl)
      (λ x h. h)
      (λ x h. arm_covers text inside x (out-Arm x) refl h)

  -- compound arm
  pub compound_arm_reads : Nested text n inside inner twin → Reads (sort_of text) CompoundArm (IsCompoundArm text inside) (IsCompoundArm text inside) compound_arm_tokens n
      (compound_arm (sort_of text) inner) (read_compound_arm (sort_of text) twin)
  unfolding read_compound_arm
  compound_arm_reads nested =
      formed_reads (seq_reads (compound_reads text) (arm_reads nested) refl)
      (record {
        spelled = λ v. made_compound_arm (record { compound = v.0; arm = v.1 });
        meets = λ v h. subst (IsOpenCompoundArm text inside) (sym (out-roll-CompoundArm (record { compound = v.0; arm = v.1 }))) h;
        covers = λ x h. (((out-CompoundArm x).compound, (out-CompoundArm x).arm), sym (roll-out-CompoundArm x), h);
      })

  -- {compound arm}
  pub compound_arms_reads : Nested text n inside inner twin → Reads (sort_of text) (List CompoundArm) (AllByRecursion (IsCompoundArm text inside)) (AllByRecursion (IsCompoundArm text inside)) (flat compound_arm_tokens) n
      (compound_arms (sort_of text) inner) (read_compound_arms (sort_of text) twin)
  unfolding read_compound_arms
  compound_arms_reads nested = many_reads (compound_arm_reads nested) refl refl

  -- [WITH [RECURSIVE] ctes] arm {compound arm} [ORDER BY terms] [LIMIT expr [(OFFSET | ",") expr]]
  pub select_level_reads : Nested text n inside inner twin → Reads (sort_of text) Select (IsSelect text inside) (IsSelect text inside) select_tokens n
      (select_level (sort_of text) inner) (read_select_level (sort_of text) twin)
  unfolding read_select_level
  select_level_reads nested =
      widened_reads
      (formed_reads
      (seq_reads (seq_reads (seq_reads (seq_reads (opt_with_reads nested) (arm_reads nested) refl) (compound_arms_reads nested) refl)
      (opt_order_reads nested) refl) (opt_limit_reads nested) refl)
      (record {
        spelled = λ v. made_select (open_select v.0.0.0.0 v.0.0.0.1 v.0.0.1 v.0.1 v.1);
        meets = λ v h.
            subst (IsOpenSelect text inside) (sym (out-roll-Select (open_select v.0.0.0.0 v.0.0.0.1 v.0.0.1 v.0.1 v.1)))
            (h.0.0.0.0, h.0.0.0.1, h.0.0.1, h.0.1, h.1);
        covers = λ x h.
            let y = out-Select x in (
              ((((y.with_clause, y.arm), y.compounds), y.order), y.limit),
              sym (roll-out-Select x),
              ((((h.0, h.1), h.2), h.3), h.4),
            );
      }))
      refl refl
