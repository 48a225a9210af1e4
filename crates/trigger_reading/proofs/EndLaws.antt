-- How what is read as sources and as a select ends, one level of it and at each number of levels.
use Rattle.std.proofs.Common.{Bool, IfSome, List, None, Option, Some, [], ap, false, inl, inr, refl, suc, sym, zero, ℕ, ◌&&◌, ◌++◌, ◌∙◌, ◌∷◌, ◌≡◌, ◌⊎◌}
use Rattle.std.specs.Prelude.{is_none}
use Rattle.sql_token.specs.Fixed.{IsFixed}
use Rattle.sql_token.specs.Spelled.{maybe}
use Rattle.sql_token.specs.declared.token.Token.{Token}
use Rattle.sql_expr.proofs.Opened.{arm_tokens-Select, arm_tokens-Values, made_compound_arm, made_joined_source, made_select, made_select_arm, made_sources}
use Rattle.sql_expr.specs.Joined.{arm_ends_in_joined, ends_in_joined, from_ends_in_joined, last_arm_ends_in_joined, last_is_bare, sources_end_in_joined}
use Rattle.sql_expr.specs.Levels.{OpenArm}
use Rattle.sql_expr.specs.Rules.{AreCommas, Inside, IsAfter, IsArm, IsCompoundArm, IsJoinedSource, IsSelect, IsSelectArm, IsSelectAt, IsSources, IsValuesRow, UsualAt}
use Rattle.sql_expr.specs.Tokens.{after_tokens}
use Rattle.sql_expr.specs.Tree.{arm_tokens, compound_arm_tokens, joined_source_tokens, select_arm_tokens, select_tokens, sources_tokens}
use Rattle.sql_expr.specs.declared.expr.Expr.{Expr}
use Rattle.sql_expr.specs.declared.expr.InSet.TheOpen.{Arm-F}
use Rattle.sql_expr.specs.declared.lists.After.{After}
use Rattle.sql_expr.specs.declared.lists.Commas.{Commas}
use Rattle.sql_expr.specs.declared.select.Arm.{Arm, out-Arm, out-roll-Arm, roll-Arm, roll-out-Arm}
use Rattle.sql_expr.specs.declared.select.CompoundArm.{CompoundArm, out-CompoundArm, out-roll-CompoundArm, roll-out-CompoundArm}
use Rattle.sql_expr.specs.declared.select.Select.{Select, out-Select, out-roll-Select, roll-out-Select}
use Rattle.sql_expr.specs.declared.select.SelectArm.{SelectArm, out-SelectArm, out-roll-SelectArm, roll-out-SelectArm}
use Rattle.sql_expr.specs.declared.select.ValuesRow.{ValuesRow}
use Rattle.sql_expr.specs.declared.source.JoinedSource.{JoinedSource, out-JoinedSource, out-roll-JoinedSource, roll-out-JoinedSource}
use Rattle.sql_expr.specs.declared.source.Sources.{Sources, out-Sources, out-roll-Sources, roll-out-Sources}
use Rattle.sql_reader.proofs.Forms.{begun_reads, variant_reads}
use Rattle.sql_reader.proofs.Laws.{leaf_reads, seq_reads}
use Rattle.sql_reader.proofs.Leaves.{word_fits, words_fit}
use Rattle.sql_reader.proofs.Looks.{clear-apart}
use Rattle.sql_reader.specs.Looks.{Look, word}
use Rattle.sql_reader.specs.Sorts.{sort_of}
use Rattle.query_reading.proofs.LeafLaws.{Nested}
use Rattle.query_reading.proofs.LevelLaws.{nested_at}
use Rattle.query_reading.proofs.ListLaws.{after_reads, opt_leaf_reads}
use Rattle.query_reading.proofs.SelectLaws.{arm_reads, compound_arm_reads, compound_arms_reads, compound_reads, opt_from_reads, opt_limit_reads, opt_windows_reads, opt_with_reads, result_items_reads, select_arm_reads, values_rows_reads}
use Rattle.query_reading.proofs.SourceLaws.{join_constraint_reads, join_reads, joined_source_reads, opt_join_constraint_reads, table_source_reads}
use Rattle.query_reading.proofs.WindowLaws.{opt_after_reads, opt_by_reads, opt_order_reads}
use Rattle.query_reading.specs.Exprs.{Inner}
use Rattle.query_reading.specs.Levels.{read_at}
use Rattle.query_reading.specs.Selects.{open_select, open_select_arm, read_arm, read_compound_arm, read_compound_arms, read_opt_from, read_select_arm, read_select_level}
use Rattle.query_reading.specs.Sources.{read_joined_source, read_joined_sources, read_opt_join_constraint, read_sources_level}
use Rattle.trigger_reading.proofs.Ends.{Ends, behind_ends, choice_ends, formed_ends, last_joined, none_ends, opt_ends, plain_ends, ruled_ends, seq_ends, seq_many_ends, seq_opt_ends, some_joined, starts_anyway}
use Rattle.sql_expr.specs.declared.select.Arm.TheVariants as Arm'
use Rattle.sql_token.specs.declared.keyword.Keyword.TheVariants as K

-- ---- the tests of the ends

-- a joined source without a constraint
abbrev is_bare : JoinedSource → Bool
is_bare x = is_none (out-JoinedSource x).constraint

last_bare : (xs : List JoinedSource) → last_is_bare xs ≡ last_joined is_bare false xs
last_bare [] = refl
last_bare (x ∷ []) = refl
last_bare (x ∷ next ∷ more) = last_bare (next ∷ more)

from_joined : (x : Option (After Sources)) → from_ends_in_joined x ≡ some_joined (λ (y : After Sources). sources_end_in_joined y.part) x
from_joined None = refl
from_joined (Some from) = refl

-- arms that end in a joined source
abbrev select_arm_joined : SelectArm → Bool
select_arm_joined x = arm_ends_in_joined (Arm-F.Select x)

abbrev arm_joined : Arm → Bool
arm_joined x = arm_ends_in_joined (out-Arm x)

abbrev compound_arm_joined : CompoundArm → Bool
compound_arm_joined x = arm_joined (out-CompoundArm x).arm

last_arm : (arm : Arm) (xs : List CompoundArm) → last_arm_ends_in_joined arm xs ≡ last_joined compound_arm_joined (arm_joined arm) xs
last_arm arm [] = refl
last_arm arm (x ∷ xs) = last_arm (out-CompoundArm x).arm xs

-- ---- arms, one level opened

arm_is : (x : Arm) (o : OpenArm) → out-Arm x ≡ o → x ≡ roll-Arm o
arm_is x o e = sym (roll-out-Arm x) ∙ ap roll-Arm e

arm_out : (x : Arm) (o : OpenArm) → roll-Arm o ≡ x → out-Arm x ≡ o
arm_out x o e = ap out-Arm (sym e) ∙ out-roll-Arm o

-- the arms that begin with SELECT, and those that begin with VALUES
abbrev IsSelecting : List ℕ → Inside → Arm → Type 0
IsSelecting text inside x = (v : SelectArm) × (x ≡ Arm'.Select v) × IsSelectArm text inside (out-SelectArm v)

abbrev IsValuing : List ℕ → Inside → Arm → Type 0
IsValuing text inside x =
    (v : Token × Commas (ValuesRow Expr)) × (x ≡ Arm'.Values v.0 v.1)
    × (IsFixed text K.Values v.0 × AreCommas text (IsValuesRow text inside) v.1)

arm_covers : (text : List ℕ) (inside : Inside) (x : Arm) (o : OpenArm) → out-Arm x ≡ o → IsArm text inside o
    → IsSelecting text inside x ⊎ IsValuing text inside x
arm_covers text inside x (Arm-F.Select v) e h = inl (v, arm_is x (Arm-F.Select v) e ∙ Arm'.rolls-Select v, h)
arm_covers text inside x (Arm-F.Values values rows) e h =
    inr ((values, rows), arm_is x (Arm-F.Values values rows) e ∙ Arm'.rolls-Values values rows, (h.0, h.1))

module _ {text : List ℕ} {n : ℕ} {inside : Inside} {inner twin : Inner} where
  -- join source [ON expr | USING "(" names ")"]
  joined_source_ends : Nested text n inside inner twin → Ends (sort_of text) JoinedSource (IsJoinedSource text inside) joined_source_tokens is_bare
      (read_joined_source (sort_of text) inner)
  unfolding read_joined_source read_opt_join_constraint
  joined_source_ends nested =
      formed_ends
      (behind_ends (seq_reads (join_reads text) (table_source_reads nested) refl) (opt_join_constraint_reads nested) refl refl refl refl
      (none_ends (join_constraint_reads nested) refl refl refl refl refl))
      (λ v. made_joined_source (record { join = v.0.0; source = v.0.1; constraint = v.1 }))
      (λ v. ap (λ o. is_none o.constraint) (out-roll-JoinedSource (record { join = v.0.0; source = v.0.1; constraint = v.1 })))
      (λ x h. (
        (((out-JoinedSource x).join, (out-JoinedSource x).source), (out-JoinedSource x).constraint),
        sym (roll-out-JoinedSource x),
        ((h.0, h.1), h.2),
      ))

  -- source {join source [ON expr | USING "(" names ")"]}
  pub sources_level_ends : Nested text n inside inner twin → Ends (sort_of text) Sources (IsSources text inside) sources_tokens sources_end_in_joined
      (read_sources_level (sort_of text) inner)
  unfolding read_sources_level read_joined_sources
  sources_level_ends nested =
      formed_ends
      (seq_many_ends (table_source_reads nested) (plain_ends (table_source_reads nested) refl) refl (joined_source_reads nested) refl refl refl refl refl
      (joined_source_ends nested))
      (λ v. made_sources (record { first = v.0; more = v.1 }))
      (λ v. ap (λ o. last_is_bare o.more) (out-roll-Sources (record { first = v.0; more = v.1 })) ∙ last_bare v.1)
      (λ x h. (((out-Sources x).first, (out-Sources x).more), sym (roll-out-Sources x), h))

  -- [FROM sources]
  opt_from_ends : Nested text n inside inner twin → Ends (sort_of text) Sources inside.sources sources_tokens sources_end_in_joined inner.sources
      → Ends (sort_of text) (Option (After Sources)) (λ x. IfSome x (IsAfter text K.From inside.sources)) (maybe (after_tokens sources_tokens))
      from_ends_in_joined (read_opt_from (sort_of text) inner)
  unfolding read_opt_from
  opt_from_ends nested ends =
      ruled_ends
      (opt_ends (after_reads K.From nested.sources) refl refl refl refl
      (formed_ends (seq_ends (leaf_reads {bound = n} (word_fits text K.From)) (λ y rest covers on. refl) ends) (λ v. refl) (λ v. refl)
      (λ x h. ((x.word, x.part), refl, h))))
      from_joined (λ x h. h)

  -- SELECT [DISTINCT|ALL] items [FROM sources] [WHERE expr] [GROUP BY exprs] [HAVING expr] [WINDOW named-windows]
  select_arm_ends : Nested text n inside inner twin → Ends (sort_of text) Sources inside.sources sources_tokens sources_end_in_joined inner.sources
      → Ends (sort_of text) SelectArm (λ x. IsSelectArm text inside (out-SelectArm x)) select_arm_tokens select_arm_joined
      (read_select_arm (sort_of text) inner)
  unfolding read_select_arm
  select_arm_ends nested ends =
      let items = seq_reads (begun_reads (word_fits text K.Select) (opt_leaf_reads text (words_fit text (K.Distinct ∷ K.All ∷ []))))
      (result_items_reads nested) refl in
      let from = seq_reads items (opt_from_reads nested) refl in
      let filter = seq_reads from (opt_after_reads nested K.Where) refl in
      let group = seq_reads filter (opt_by_reads nested K.Group) refl in
      let having = seq_reads group (opt_after_reads nested K.Having) refl in
      formed_ends
      (seq_opt_ends having (opt_windows_reads nested) refl refl
      (seq_opt_ends group (opt_after_reads nested K.Having) refl refl
      (seq_opt_ends filter (opt_by_reads nested K.Group) refl refl
      (seq_opt_ends from (opt_after_reads nested K.Where) refl refl
      (behind_ends items (opt_from_reads nested) refl refl refl refl (opt_from_ends nested ends))))))
      (λ v. made_select_arm (open_select_arm v.0.0.0.0.0.0.0 v.0.0.0.0.0.0.1 v.0.0.0.0.0.1 v.0.0.0.0.1 v.0.0.0.1 v.0.0.1 v.0.1 v.1))
      (λ v. ap
      (λ o. from_ends_in_joined o.from && is_none o.filter && is_none o.group && is_none o.having && is_none o.windows)
      (out-roll-SelectArm (open_select_arm v.0.0.0.0.0.0.0 v.0.0.0.0.0.0.1 v.0.0.0.0.0.1 v.0.0.0.0.1 v.0.0.0.1 v.0.0.1 v.0.1 v.1)))
      (λ x h.
      let y = out-SelectArm x in (
        (((((((y.select, y.quantifier), y.items), y.from), y.filter), y.group), y.having), y.windows),
        sym (roll-out-SelectArm x),
        (((((((h.0, h.1), h.2), h.3), h.4), h.5), h.6), h.7),
      ))

  -- SELECT .. | VALUES rows
  arm_ends : Nested text n inside inner twin → Ends (sort_of text) Sources inside.sources sources_tokens sources_end_in_joined inner.sources
      → Ends (sort_of text) Arm (λ x. IsArm text inside (out-Arm x)) arm_tokens arm_joined (read_arm (sort_of text) inner)
  unfolding read_arm
  arm_ends nested ends =
      let values = begun_reads (word_fits text K.Values) (values_rows_reads nested) in
      let starts : Look = (word K.Select ∷ []) ∷ [] in
      let others : Look = (word K.Values ∷ []) ∷ [] in
      ruled_ends
      (choice_ends starts
      (formed_ends (select_arm_ends nested ends) (λ v. arm_tokens-Select v)
      (λ v. ap arm_ends_in_joined (arm_out (Arm'.Select v) (Arm-F.Select v) (Arm'.rolls-Select v))) (λ y h. h))
      (formed_ends (plain_ends values refl) (λ v. arm_tokens-Values v.0 v.1)
      (λ v. ap arm_ends_in_joined (arm_out (Arm'.Values v.0 v.1) (Arm-F.Values v.0 v.1) (Arm'.rolls-Values v.0 v.1))) (λ y h. h))
      (λ x rest h. starts_anyway {P = λ (v : Arm). Unit {0}} {f = arm_tokens} (variant_reads (select_arm_reads nested) (λ v. arm_tokens-Select v) (λ v m. tt)) refl refl refl x rest h)
      (λ x rest h. clear-apart (sort_of text) starts others (arm_tokens x ++ rest) refl
      (starts_anyway {P = λ (v : Arm). Unit {0}} {f = arm_tokens} (variant_reads values (λ v. arm_tokens-Values v.0 v.1) (λ v m. tt)) refl refl refl x rest h)))
      (λ x. refl)
      (λ x h. arm_covers text inside x (out-Arm x) refl h)

  -- compound arm
  compound_arm_ends : Nested text n inside inner twin → Ends (sort_of text) Sources inside.sources sources_tokens sources_end_in_joined inner.sources
      → Ends (sort_of text) CompoundArm (IsCompoundArm text inside) compound_arm_tokens compound_arm_joined (read_compound_arm (sort_of text) inner)
  unfolding read_compound_arm
  compound_arm_ends nested ends =
      formed_ends
      (behind_ends (compound_reads text {n = n}) (arm_reads nested) refl refl refl refl (arm_ends nested ends))
      (λ v. made_compound_arm (record { compound = v.0; arm = v.1 }))
      (λ v. ap (λ o. arm_joined o.arm) (out-roll-CompoundArm (record { compound = v.0; arm = v.1 })))
      (λ x h. (((out-CompoundArm x).compound, (out-CompoundArm x).arm), sym (roll-out-CompoundArm x), h))

  -- [WITH [RECURSIVE] ctes] arm {compound arm} [ORDER BY terms] [LIMIT expr [(OFFSET | ",") expr]]
  pub select_level_ends : Nested text n inside inner twin → Ends (sort_of text) Sources inside.sources sources_tokens sources_end_in_joined inner.sources
      → Ends (sort_of text) Select (IsSelect text inside) select_tokens ends_in_joined (read_select_level (sort_of text) inner)
  unfolding read_select_level read_compound_arms
  select_level_ends nested ends =
      let first = seq_reads (opt_with_reads nested) (arm_reads nested) refl in
      let arms = seq_reads first (compound_arms_reads nested) refl in
      let order = seq_reads arms (opt_order_reads nested) refl in
      formed_ends
      (seq_opt_ends order (opt_limit_reads nested) refl refl
      (seq_opt_ends arms (opt_order_reads nested) refl refl
      (seq_many_ends first (behind_ends (opt_with_reads nested) (arm_reads nested) refl refl refl refl (arm_ends nested ends)) refl
      (compound_arm_reads nested) refl refl refl refl refl (compound_arm_ends nested ends))))
      (λ v. made_select (open_select v.0.0.0.0 v.0.0.0.1 v.0.0.1 v.0.1 v.1))
      (λ v. ap
      (λ o. last_arm_ends_in_joined o.arm o.compounds && is_none o.order && is_none o.limit)
      (out-roll-Select (open_select v.0.0.0.0 v.0.0.0.1 v.0.0.1 v.0.1 v.1))
      ∙ ap (λ t. t && is_none v.0.1 && is_none v.1) (last_arm v.0.0.0.1 v.0.0.1))
      (λ x h.
      let y = out-Select x in (
        ((((y.with_clause, y.arm), y.compounds), y.order), y.limit),
        sym (roll-out-Select x),
        ((((h.0, h.1), h.2), h.3), h.4),
      ))

module _ (text : List ℕ) where
  -- how what the readings of each level read ends
  sources_end_at : (n : ℕ) → Ends (sort_of text) Sources (UsualAt text n).sources sources_tokens sources_end_in_joined (read_at (sort_of text) n).sources
  sources_end_at zero =
      record { stops = λ ts x rest e so. absurd (cc); holds = λ x rest covers other on. absurd covers }
  sources_end_at (suc n) = sources_level_ends (nested_at text n)

  pub selects_end_at : (n : ℕ) → Ends (sort_of text) Select (IsSelectAt text n) select_tokens ends_in_joined (read_at (sort_of text) n).select
  selects_end_at zero =
      record { stops = λ ts x rest e so. absurd (cc); holds = λ x rest covers other on. absurd covers }
  selects_end_at (suc n) = select_level_ends (nested_at text n) (sources_end_at n)
