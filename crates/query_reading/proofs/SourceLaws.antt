-- The laws of what is read behind FROM, and one level of it.
use Rattle.std.proofs.Common.{IfSome, List, Option, [], ap, inl, inr, refl, subst, sym, ℕ, ◌∙◌, ◌∷◌, ◌≡◌, ◌⊎◌}
use Rattle.std.specs.List.{AllByRecursion}
use Rattle.sql_token.specs.Fixed.{IsName}
use Rattle.sql_token.specs.Spelled.{flat, maybe}
use Rattle.sql_token.specs.declared.token.Token.{Token}
use Rattle.sql_expr.proofs.Opened.{made_joined_source, made_sources, table_source_tokens-Derived, table_source_tokens-Sources, table_source_tokens-Table, table_source_tokens-TableFunction}
use Rattle.sql_expr.specs.Leaf.{BeginsWithout}
use Rattle.sql_expr.specs.Levels.{OpenTableSource}
use Rattle.sql_expr.specs.Rules.{AreArguments, Inside, IsAlias, IsInParens, IsIndexing, IsJoin, IsJoinConstraint, IsJoinKind, IsJoinedSource, IsObject, IsSources, IsTableSource}
use Rattle.sql_expr.specs.Tokens.{in_parens_tokens, indexing_tokens, join_constraint_tokens, join_kind_tokens, join_tokens}
use Rattle.sql_expr.specs.Tree.{expr_tokens, joined_source_tokens, sources_tokens, table_source_tokens}
use Rattle.sql_expr.specs.declared.expr.Expr.{Expr}
use Rattle.sql_expr.specs.declared.expr.InSet.TheOpen.{TableSource-F}
use Rattle.sql_expr.specs.declared.lists.Commas.{Commas}
use Rattle.sql_expr.specs.declared.lists.InParens.{InParens}
use Rattle.sql_expr.specs.declared.names.Alias.{Alias}
use Rattle.sql_expr.specs.declared.names.Object.{Object}
use Rattle.sql_expr.specs.declared.select.Select.{Select}
use Rattle.sql_expr.specs.declared.source.Indexing.{Indexing}
use Rattle.sql_expr.specs.declared.source.Join.{Join}
use Rattle.sql_expr.specs.declared.source.JoinConstraint.{JoinConstraint}
use Rattle.sql_expr.specs.declared.source.JoinKind.{JoinKind}
use Rattle.sql_expr.specs.declared.source.JoinedSource.{JoinedSource, out-JoinedSource, out-roll-JoinedSource, roll-out-JoinedSource}
use Rattle.sql_expr.specs.declared.source.Sources.{Sources, out-Sources, out-roll-Sources, roll-out-Sources}
use Rattle.sql_expr.specs.declared.source.TableSource.{TableSource, out-TableSource, out-roll-TableSource, roll-TableSource, roll-out-TableSource}
use Rattle.sql_reader.proofs.Choices.{choice_reads, many_reads, opt_reads}
use Rattle.sql_reader.proofs.Forms.{begun_reads, formed_reads, lead_reads, ruled, variant_reads, widened_reads, without_reads}
use Rattle.sql_reader.proofs.Laws.{Reads, leaf_reads, seq_reads}
use Rattle.sql_reader.proofs.Leaves.{name_fits, no_words_fit, sign_fits, word_fits, words_fit}
use Rattle.sql_reader.proofs.SortTests.{no_word}
use Rattle.sql_reader.specs.Looks.{name, word, words}
use Rattle.sql_reader.specs.Sorts.{sort_of}
use Rattle.sql_reader.specs.declared.sort.Mark.TheVariants.{Comma}
use Rattle.query_reading.proofs.LeafLaws.{Nested}
use Rattle.query_reading.proofs.ListLaws.{after_reads, in_parens_reads, opt_leaf_reads}
use Rattle.query_reading.proofs.NameLaws.{names_reads, object_reads, opt_alias_reads}
use Rattle.query_reading.proofs.OperandLaws.{arguments_reads, query_reads}
use Rattle.query_reading.specs.Exprs.{Inner, select}
use Rattle.query_reading.specs.Names.{alias, object}
use Rattle.query_reading.specs.Opened.{OpenJoinedSource, OpenSources}
use Rattle.query_reading.specs.Operands.{arguments, parens_starts}
use Rattle.query_reading.specs.Sources.{indexing, join, join_constraint, join_kind, joined_source, joined_sources, opt_indexing, opt_join_constraint, opt_join_kind, read_derived, read_indexing, read_inner_sources, read_join, read_join_constraint, read_join_kind, read_joined_source, read_joined_sources, read_opt_indexing, read_opt_join_constraint, read_opt_join_kind, read_sources_level, read_sources_parens, read_table, read_table_function, read_table_source, sides, sources_level, sources_parens, table_source}
use Rattle.sql_expr.specs.declared.source.Indexing.TheVariants as Indexing'
use Rattle.sql_expr.specs.declared.source.Join.TheVariants as Join'
use Rattle.sql_expr.specs.declared.source.JoinConstraint.TheVariants as JoinConstraint'
use Rattle.sql_expr.specs.declared.source.JoinKind.TheVariants as JoinKind'
use Rattle.sql_token.specs.declared.keyword.Keyword.TheVariants as K
use Rattle.sql_expr.specs.declared.source.TableSource.TheVariants as TableSource'

-- what a rule covers of the trees that are made so
abbrev Covers : {A B : Type 0} → (A → B) → (A → Type 0) → B → Type 0
Covers {A} make C y = (x : A) × (y ≡ make x) × C x

abbrev IsDerived : List ℕ → Inside → InParens Select × Option Alias → Type 0
IsDerived text inside v = IsInParens text inside.select v.0 × IfSome v.1 (IsAlias text)

abbrev IsSourcesInside : List ℕ → Inside → Sources → Type 0
IsSourcesInside text inside x = inside.sources x × BeginsWithout text (K.With ∷ []) (sources_tokens x)

abbrev IsFunctionSource : List ℕ → Inside → (Token × InParens (Option (Commas Expr))) × Option Alias → Type 0
IsFunctionSource text inside v = (IsName text v.0.0 × AreArguments text inside v.0.1) × IfSome v.1 (IsAlias text)

abbrev IsTable : List ℕ → (Object × Option Alias) × Option Indexing → Type 0
IsTable text v = (IsObject text v.0.0 × IfSome v.0.1 (IsAlias text)) × IfSome v.1 (IsIndexing text)

table_source_is : (x : TableSource) (o : OpenTableSource) → out-TableSource x ≡ o → x ≡ roll-TableSource o
table_source_is x o e = sym (roll-out-TableSource x) ∙ ap roll-TableSource e

table_source_out : (x : TableSource) (o : OpenTableSource) → roll-TableSource o ≡ x → o ≡ out-TableSource x
table_source_out x o e = sym (out-roll-TableSource o) ∙ ap out-TableSource e

table_source_covers : (text : List ℕ) (inside : Inside) (x : TableSource) (o : OpenTableSource) → out-TableSource x ≡ o → IsTableSource text inside o
    → Covers (λ (v : InParens Select × Option Alias). TableSource'.Derived v.0 v.1) (IsDerived text inside) x
    ⊎ (Covers (λ v. TableSource'.Sources v) (IsInParens text (IsSourcesInside text inside)) x
    ⊎ (Covers (λ (v : (Token × InParens (Option (Commas Expr))) × Option Alias). TableSource'.TableFunction v.0.0 v.0.1 v.1) (IsFunctionSource text inside) x
    ⊎ Covers (λ (v : (Object × Option Alias) × Option Indexing). TableSource'.Table v.0.0 v.0.1 v.1) (IsTable text) x))
table_source_covers text inside x (TableSource-F.Derived select alias) e h =
    inl ((select, alias), table_source_is x (TableSource-F.Derived select alias) e ∙ TableSource'.rolls-Derived select alias, (h.0, h.1))
table_source_covers text inside x (TableSource-F.Sources v) e h =
    inr (inl (v, table_source_is x (TableSource-F.Sources v) e ∙ TableSource'.rolls-Sources v, h))
table_source_covers text inside x (TableSource-F.TableFunction name arguments alias) e h =
    inr (inr (inl (((name, arguments), alias), table_source_is x (TableSource-F.TableFunction name arguments alias) e ∙ TableSource'.rolls-TableFunction name arguments alias, ((h.0, h.1), h.2))))
table_source_covers text inside x (TableSource-F.Table object alias indexing) e h =
    inr (inr (inr (((object, alias), indexing), table_source_is x (TableSource-F.Table object alias indexing) e ∙ TableSource'.rolls-Table object alias indexing, ((h.0, h.1), h.2))))

abbrev IsOpenJoinedSource : List ℕ → Inside → OpenJoinedSource → Type 0
IsOpenJoinedSource text inside x =
    IsJoin text x.join × IsTableSource text inside (out-TableSource x.source) × IfSome x.constraint (IsJoinConstraint text inside)

abbrev IsOpenSources : List ℕ → Inside → OpenSources → Type 0
IsOpenSources text inside x =
    IsTableSource text inside (out-TableSource x.first) × AllByRecursion (IsJoinedSource text inside) x.more

module _ (text : List ℕ) {n : ℕ} where
  -- INDEXED BY name | NOT INDEXED
  pub indexing_reads : Reads (sort_of text) Indexing (IsIndexing text) (IsIndexing text) indexing_tokens n
      (indexing (sort_of text)) (read_indexing (sort_of text))
  unfolding read_indexing
  indexing_reads =
      ruled
      (choice_reads
      (variant_reads (begun_reads (word_fits text K.Indexed) (begun_reads (word_fits text K.By) (leaf_reads (name_fits text)))) (λ v. refl)
      (λ v h. (h.0, h.1.0, h.1.1)))
      (variant_reads (begun_reads (word_fits text K.Not) (leaf_reads (word_fits text K.Indexed))) (λ v. refl) (λ v h. h))
      refl refl refl)
      (λ x h. h)
      (elim [
        | Indexing'.By indexed by_word t ↦ λ h. inl ((indexed, (by_word, t)), refl, (h.0, (h.1, h.2)))
        | Indexing'.Not no_word indexed ↦ λ h. inr ((no_word, indexed), refl, h)
      ])

  -- [INDEXED BY name | NOT INDEXED]
  pub opt_indexing_reads : Reads (sort_of text) (Option Indexing) (λ x. IfSome x (IsIndexing text)) (λ x. IfSome x (IsIndexing text)) (maybe indexing_tokens) n
      (opt_indexing (sort_of text)) (read_opt_indexing (sort_of text))
  unfolding read_opt_indexing
  opt_indexing_reads = opt_reads indexing_reads refl

  -- (LEFT|RIGHT|FULL) [OUTER] | INNER | CROSS
  pub join_kind_reads : Reads (sort_of text) JoinKind (IsJoinKind text) (IsJoinKind text) join_kind_tokens n
      (join_kind (sort_of text)) (read_join_kind (sort_of text))
  unfolding read_join_kind
  join_kind_reads =
      ruled
      (choice_reads
      (variant_reads (begun_reads (words_fit text sides) (opt_leaf_reads text (word_fits text K.Outer))) (λ v. refl) (λ v h. h))
      (choice_reads (variant_reads (leaf_reads (word_fits text K.Inner)) (λ t. refl) (λ t h. h))
      (variant_reads (leaf_reads (word_fits text K.Cross)) (λ t. refl) (λ t h. h))
      refl refl refl) refl refl refl)
      (λ x h. h)
      (elim [
        | JoinKind'.Outer side outer ↦ λ h. inl ((side, outer), refl, h)
        | JoinKind'.Inner t ↦ λ h. inr (inl (t, refl, h))
        | JoinKind'.Cross t ↦ λ h. inr (inr (t, refl, h))
      ])

  -- [kind]
  pub opt_join_kind_reads : Reads (sort_of text) (Option JoinKind) (λ x. IfSome x (IsJoinKind text)) (λ x. IfSome x (IsJoinKind text)) (maybe join_kind_tokens) n
      (opt_join_kind (sort_of text)) (read_opt_join_kind (sort_of text))
  unfolding read_opt_join_kind
  opt_join_kind_reads = opt_reads join_kind_reads refl

  -- "," | [NATURAL] [kind] JOIN
  pub join_reads : Reads (sort_of text) Join (IsJoin text) (IsJoin text) join_tokens n
      (join (sort_of text)) (read_join (sort_of text))
  unfolding read_join
  join_reads =
      ruled
      (choice_reads (variant_reads (leaf_reads (sign_fits text Comma 44 refl refl)) (λ t. refl) (λ t h. h))
      (variant_reads
      (seq_reads (seq_reads (opt_leaf_reads text (word_fits text K.Natural)) opt_join_kind_reads refl) (leaf_reads (word_fits text K.Join)) refl)
      (λ v. refl) (λ v h. (h.0.0, h.0.1, h.1)))
      refl refl refl)
      (λ x h. h)
      (elim [
        | Join'.Comma t ↦ λ h. inl (t, refl, h)
        | Join'.Join natural kind word ↦ λ h. inr (((natural, kind), word), refl, ((h.0, h.1), h.2))
      ])

module _ {text : List ℕ} {n : ℕ} {inside : Inside} {inner twin : Inner} where
  -- ON expr | USING "(" names ")"
  pub join_constraint_reads : Nested text n inside inner twin → Reads (sort_of text) (JoinConstraint Expr) (IsJoinConstraint text inside) (IsJoinConstraint text inside) (join_constraint_tokens expr_tokens) n
      (join_constraint (sort_of text) inner) (read_join_constraint (sort_of text) twin)
  unfolding read_join_constraint
  join_constraint_reads nested =
      ruled
      (choice_reads (variant_reads (after_reads K.On nested.expr) (λ v. refl) (λ v h. h))
      (variant_reads (begun_reads (word_fits text K.Using) (names_reads text)) (λ v. refl) (λ v h. h))
      refl refl refl)
      (λ x h. h)
      (elim [
        | JoinConstraint'.On v ↦ λ h. inl (v, refl, h)
        | JoinConstraint'.Using using listed ↦ λ h. inr ((using, listed), refl, h)
      ])

  -- [ON expr | USING "(" names ")"]
  pub opt_join_constraint_reads : Nested text n inside inner twin → Reads (sort_of text) (Option (JoinConstraint Expr)) (λ x. IfSome x (IsJoinConstraint text inside)) (λ x. IfSome x (IsJoinConstraint text inside)) (maybe (join_constraint_tokens expr_tokens)) n
      (opt_join_constraint (sort_of text) inner) (read_opt_join_constraint (sort_of text) twin)
  unfolding read_opt_join_constraint
  opt_join_constraint_reads nested = opt_reads (join_constraint_reads nested) refl

  -- "(" sources ")", where a select would begin with WITH
  pub sources_parens_reads : Nested text n inside inner twin → Reads (sort_of text) (InParens Sources) (IsInParens text (IsSourcesInside text inside)) (IsInParens text (IsSourcesInside text inside)) (in_parens_tokens sources_tokens) n
      (sources_parens (sort_of text) inner) (read_sources_parens (sort_of text) twin)
  unfolding read_sources_parens read_inner_sources
  sources_parens_reads nested =
      in_parens_reads (without_reads (words (K.With ∷ [])) nested.sources (no_words_fit text (K.With ∷ [])) refl) refl

  -- "(" select ")" [[AS] alias] | "(" sources ")" | name "(" [exprs] ")" [[AS] alias] | object ..
  pub table_source_reads : Nested text n inside inner twin → Reads (sort_of text) TableSource (λ x. IsTableSource text inside (out-TableSource x)) (λ x. IsTableSource text inside (out-TableSource x)) table_source_tokens n
      (table_source (sort_of text) inner) (read_table_source (sort_of text) twin)
  unfolding read_table_source read_derived read_table_function read_table
  table_source_reads nested =
      ruled
      (choice_reads
      (variant_reads (seq_reads (query_reads nested) (opt_alias_reads text) refl) (λ v. table_source_tokens-Derived v.0 v.1)
      (λ v h. subst (IsTableSource text inside) (table_source_out (TableSource'.Derived v.0 v.1) (TableSource-F.Derived v.0 v.1) (TableSource'.rolls-Derived v.0 v.1)) (h.0, h.1)))
      (choice_reads
      (variant_reads (widened_reads {starts = parens_starts} {goes_on = []} (sources_parens_reads nested) refl refl) (λ v. table_source_tokens-Sources v)
      (λ v h. subst (IsTableSource text inside) (table_source_out (TableSource'.Sources v) (TableSource-F.Sources v) (TableSource'.rolls-Sources v)) h))
      (choice_reads
      (variant_reads (seq_reads (lead_reads (name_fits text) (arguments_reads nested)) (opt_alias_reads text) refl) (λ v. table_source_tokens-TableFunction v.0.0 v.0.1 v.1)
      (λ v h. subst (IsTableSource text inside) (table_source_out (TableSource'.TableFunction v.0.0 v.0.1 v.1) (TableSource-F.TableFunction v.0.0 v.0.1 v.1) (TableSource'.rolls-TableFunction v.0.0 v.0.1 v.1)) (h.0.0, h.0.1, h.1)))
      (variant_reads (seq_reads (seq_reads (object_reads text) (opt_alias_reads text) refl) (opt_indexing_reads text) refl) (λ v. table_source_tokens-Table v.0.0 v.0.1 v.1)
      (λ v h. subst (IsTableSource text inside) (table_source_out (TableSource'.Table v.0.0 v.0.1 v.1) (TableSource-F.Table v.0.0 v.0.1 v.1) (TableSource'.rolls-Table v.0.0 v.0.1 v.1)) (h.0.0, h.0.1, h.1)))
      refl refl refl) refl refl refl) refl refl refl)
      (λ x h. h)
      (λ x h. table_source_covers text inside x (out-TableSource x) refl h)

  -- join source [ON expr | USING "(" names ")"]
  pub joined_source_reads : Nested text n inside inner twin → Reads (sort_of text) JoinedSource (IsJoinedSource text inside) (IsJoinedSource text inside) joined_source_tokens n
      (joined_source (sort_of text) inner) (read_joined_source (sort_of text) twin)
  unfolding read_joined_source
  joined_source_reads nested =
      formed_reads (seq_reads (seq_reads (join_reads text) (table_source_reads nested) refl) (opt_join_constraint_reads nested) refl)
      (record {
        spelled = λ v. made_joined_source (record { join = v.0.0; source = v.0.1; constraint = v.1 });
        meets = λ v h. subst (IsOpenJoinedSource text inside) (sym (out-roll-JoinedSource (record { join = v.0.0; source = v.0.1; constraint = v.1 })))
            (h.0.0, h.0.1, h.1);
        covers = λ x h. (
          (((out-JoinedSource x).join, (out-JoinedSource x).source), (out-JoinedSource x).constraint),
          sym (roll-out-JoinedSource x),
          ((h.0, h.1), h.2),
        );
      })

  -- {join source [ON expr | USING "(" names ")"]}
  pub joined_sources_reads : Nested text n inside inner twin → Reads (sort_of text) (List JoinedSource) (AllByRecursion (IsJoinedSource text inside)) (AllByRecursion (IsJoinedSource text inside)) (flat joined_source_tokens) n
      (joined_sources (sort_of text) inner) (read_joined_sources (sort_of text) twin)
  unfolding read_joined_sources
  joined_sources_reads nested = many_reads (joined_source_reads nested) refl refl

  -- source {join source [ON expr | USING "(" names ")"]}
  pub sources_level_reads : Nested text n inside inner twin → Reads (sort_of text) Sources (IsSources text inside) (IsSources text inside) sources_tokens n
      (sources_level (sort_of text) inner) (read_sources_level (sort_of text) twin)
  unfolding read_sources_level
  sources_level_reads nested =
      widened_reads
      (formed_reads (seq_reads (table_source_reads nested) (joined_sources_reads nested) refl)
      (record {
        spelled = λ v. made_sources (record { first = v.0; more = v.1 });
        meets = λ v h. subst (IsOpenSources text inside) (sym (out-roll-Sources (record { first = v.0; more = v.1 }))) h;
        covers = λ x h. (((out-Sources x).first, (out-Sources x).more), sym (roll-out-Sources x), h);
      }))
      refl refl
