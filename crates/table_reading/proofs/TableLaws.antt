-- The laws of what is read as keys, constraints and options of tables, and as the texts of tables, indexes and views.
use Rattle.std.proofs.Common.{IfSome, List, None, Option, Some, [], ap, inl, inr, length, refl, ℕ, ◌++◌, ◌∙◌, ◌∷◌, ◌≡◌, ◌≤◌}
use Rattle.std.specs.Prelude.{codes}
use Rattle.sql_token.specs.Fixed.{IsSign}
use Rattle.sql_token.specs.Spelled.{maybe}
use Rattle.sql_token.specs.declared.token.Token.{Token}
use Rattle.sql_expr.specs.Rules.{AreCommas, IsExprAt, IsInParens}
use Rattle.sql_expr.specs.Tokens.{commas_tokens, in_parens_tokens, next_item_tokens}
use Rattle.sql_expr.specs.Tree.{expr_tokens}
use Rattle.sql_expr.specs.declared.expr.Expr.{Expr}
use Rattle.sql_expr.specs.declared.lists.Commas.{Commas}
use Rattle.sql_expr.specs.declared.lists.InParens.{InParens}
use Rattle.sql_expr.specs.declared.lists.NextItem.{NextItem}
use Rattle.sql_reader.proofs.Choices.{choice_reads, many_reads, opt_reads}
use Rattle.sql_reader.proofs.Forms.{begun_reads, formed_reads, lead_reads, leaf_before_reads, ruled, variant_reads, widened_reads}
use Rattle.sql_reader.proofs.Laws.{Reads, leaf_reads, seq_reads}
use Rattle.sql_reader.proofs.Leaves.{name_fits, sign_fits, word_fits, words_fit}
use Rattle.sql_reader.proofs.Turns.{TakesToken}
use Rattle.sql_reader.specs.Looks.{word}
use Rattle.sql_reader.specs.Reading.{formed, made_of}
use Rattle.sql_reader.specs.Sorts.{sort_of}
use Rattle.sql_reader.specs.declared.sort.Mark.TheVariants.{Closing, Comma, Opening}
use Rattle.sql_tree.proofs.Keys.{key_tokens}
use Rattle.sql_tree.specs.Keys.{as_key}
use Rattle.sql_tree.specs.Rules.{AreTableConstraints, IsCreateIndex, IsCreateTable, IsCreateView, IsIfNotExists, IsKey, IsKeyExpr, IsTableBody, IsTableCons, IsTableOption}
use Rattle.sql_tree.specs.Tokens.{create_index_tokens, create_table_tokens, create_view_tokens, if_not_exists_tokens, indexed_tokens, next_table_cons_tokens, table_body_tokens, table_cons_tokens, table_constraints_tokens, table_option_tokens}
use Rattle.sql_tree.specs.declared.index.CreateIndex.{CreateIndex}
use Rattle.sql_tree.specs.declared.index.CreateView.{CreateView}
use Rattle.sql_tree.specs.declared.table.CreateTable.{CreateTable}
use Rattle.sql_tree.specs.declared.table.IfNotExists.{IfNotExists}
use Rattle.sql_tree.specs.declared.table.Indexed.{Indexed}
use Rattle.sql_tree.specs.declared.table.NextTableCons.{NextTableCons}
use Rattle.sql_tree.specs.declared.table.TableBody.{TableBody}
use Rattle.sql_tree.specs.declared.table.TableCons.{TableCons}
use Rattle.sql_tree.specs.declared.table.TableConstraints.{TableConstraints}
use Rattle.sql_tree.specs.declared.table.TableOption.{TableOption}
use Rattle.query_reading.proofs.ListLaws.{in_parens_reads, next_item_reads, opt_leaf_reads}
use Rattle.query_reading.proofs.NameLaws.{names_reads, opt_names_reads}
use Rattle.query_reading.proofs.WindowLaws.{opt_after_reads}
use Rattle.query_reading.specs.Exprs.{Inner, expr}
use Rattle.table_reading.proofs.ColumnLaws.{Given, columns_reads, expr_parens_reads}
use Rattle.table_reading.proofs.ConflictLaws.{opt_conflict_reads, references_reads}
use Rattle.table_reading.proofs.WordLaws.{rowid_reads, spelled_takes, strict_reads}
use Rattle.table_reading.specs.Columns.{cons_goes_on}
use Rattle.table_reading.specs.Handed.{over}
use Rattle.table_reading.specs.Words.{rowid, strict}
use Rattle.table_reading.specs.Tables.{create_index, create_table, create_view, indexed, indexeds, key, key_parens, next_option, next_table_cons, opt_if_not_exists, opt_options, read_check_cons, read_create_index, read_create_table, read_create_view, read_foreign_cons, read_indexed, read_indexeds, read_key, read_key_parens, read_more_indexeds, read_more_options, read_more_table_cons, read_next_indexed, read_next_option, read_next_table_cons, read_opt_constraints, read_opt_if_not_exists, read_opt_options, read_primary_cons, read_table_body, read_table_cons, read_table_constraints, read_table_option, read_table_options, read_unique_cons, table_body, table_cons, table_cons_starts, table_constraints, table_option, table_options}
use Rattle.sql_token.specs.declared.keyword.Keyword.TheVariants as K
use Rattle.sql_tree.specs.declared.table.TableCons.TheVariants as TableCons'
use Rattle.sql_tree.specs.declared.table.TableOption.TheVariants as TableOption'

-- a further constraint of a table
abbrev pub IsNextCons : List ℕ → ℕ → NextTableCons → Type 0
IsNextCons text n x = IfSome x.comma (IsSign text (codes ",")) × IsTableCons text n x.constraint

module _ (text : List ℕ) {b : ℕ} where
  -- [IF NOT EXISTS]
  pub opt_if_not_exists_reads : Reads (sort_of text) (Option IfNotExists) (λ x. IfSome x (IsIfNotExists text)) (λ x. IfSome x (IsIfNotExists text)) (maybe if_not_exists_tokens) b
      (opt_if_not_exists (sort_of text)) (read_opt_if_not_exists (sort_of text))
  unfolding read_opt_if_not_exists
  opt_if_not_exists_reads =
      opt_reads
      (formed_reads (lead_reads (word_fits text K.If) (begun_reads (word_fits text K.Not) (leaf_reads (word_fits text K.Exists))))
      (record {
        spelled = λ v. refl;
        meets = λ v h. (h.0, h.1.0, h.1.1);
        covers = λ x h. ((x.if_word, (x.not, x.exists)), refl, (h.0, (h.1, h.2)));
      }))
      refl

  -- WITHOUT ROWID | STRICT
  pub table_option_reads : Reads (sort_of text) TableOption (IsTableOption text) (IsTableOption text) table_option_tokens b
      (table_option text (sort_of text)) (read_table_option text (sort_of text))
  unfolding read_table_option
  table_option_reads =
      ruled
      (choice_reads (variant_reads (begun_reads (word_fits text K.Without) (rowid_reads text)) (λ v. refl) (λ v h. h))
      (variant_reads (strict_reads text) (λ t. refl) (λ t h. h))
      refl refl refl)
      (λ x h. h)
      (elim [
        | TableOption'.WithoutRowid without rowid ↦ λ h. inl ((without, rowid), refl, h)
        | TableOption'.Strict t ↦ λ h. inr (t, refl, h)
      ])

  -- "," option
  pub next_option_reads : Reads (sort_of text) (NextItem TableOption) (λ x. IsSign text (codes ",") x.comma × IsTableOption text x.item) (λ x. IsSign text (codes ",") x.comma × IsTableOption text x.item) (next_item_tokens table_option_tokens) b
      (next_option text (sort_of text)) (read_next_option text (sort_of text))
  unfolding read_next_option
  next_option_reads = next_item_reads table_option_reads

  -- option {"," option}
  pub table_options_reads : Reads (sort_of text) (Commas TableOption) (AreCommas text (IsTableOption text)) (AreCommas text (IsTableOption text)) (commas_tokens table_option_tokens) b
      (table_options text (sort_of text)) (read_table_options text (sort_of text))
  unfolding read_table_options read_more_options
  table_options_reads =
      formed_reads (seq_reads table_option_reads (many_reads next_option_reads refl refl) refl)
      (record { spelled = λ v. refl; meets = λ v h. h; covers = λ x h. ((x.first, x.more), refl, h) })

  -- [options]
  pub opt_options_reads : Reads (sort_of text) (Option (Commas TableOption)) (λ x. IfSome x (AreCommas text (IsTableOption text))) (λ x. IfSome x (AreCommas text (IsTableOption text))) (maybe (commas_tokens table_option_tokens)) b
      (opt_options text (sort_of text)) (read_opt_options text (sort_of text))
  unfolding read_opt_options
  opt_options_reads = opt_reads table_options_reads refl

-- an option and a further option take tokens, whatever text the words are looked up in
option_takes : (text other : List ℕ) → Reads (sort_of other) TableOption (λ x. Unit {0}) (λ x. ⊥) table_option_tokens 0
    (table_option text (sort_of other)) (read_table_option text (sort_of other))
unfolding read_table_option
option_takes text other =
    ruled
    (choice_reads (variant_reads (begun_reads (word_fits other K.Without) (spelled_takes text rowid)) (λ v. refl) (λ v h. tt))
    (variant_reads (spelled_takes text strict) (λ t. refl) (λ t h. tt))
    refl refl refl)
    (λ x h. h)
    (λ x h. absurd h)

next_takes : (text other : List ℕ)
    → Reads (sort_of other) (NextItem TableOption) (λ x. IsSign other (codes ",") x.comma × Unit {0}) (λ x. IsSign other (codes ",") x.comma × ⊥)
    (next_item_tokens table_option_tokens) 0 (next_option text (sort_of other)) (read_next_option text (sort_of other))
unfolding read_next_option
next_takes text other = next_item_reads (option_takes text other)

pub next_option_takes : (text other : List ℕ) → TakesToken (read_next_option text (sort_of other))
next_option_takes text other = let laws = next_takes text other in laws.size refl

module _ {text : List ℕ} {b n m : ℕ} {inner twin : Inner} where
  -- what is read as an expression is the same key by the heights of both
  key_alike : Given text b n m inner twin → (ts : List Token) → length ts ≤ b
      → made_of (λ x. as_key n x) (inner.expr ts) ≡ made_of (λ x. as_key m x) (twin.expr ts)
  key_alike given ts most =
      let nested = given.nested in
      let laws = nested.expr in
      at (inner.expr ts) refl ∙ ap (λ o. made_of (λ x. as_key m x) o) (laws.alike ts most)
    where
      at : (o : Option (Expr × List Token)) → inner.expr ts ≡ o → made_of (λ x. as_key n x) o ≡ made_of (λ x. as_key m x) o
      at None e = refl
      at (Some p) e =
          let nested = given.nested in
          let laws = nested.expr in
          let so : IsExprAt text n p.0 × (ts ≡ expr_tokens p.0 ++ p.1) = laws.sound ts p.0 p.1 e in
          ap (λ (x : Expr). Some (x, p.1)) (given.keys p.0 so.0)

  key_form_reads : Given text b n m inner twin → Reads (sort_of text) Expr (IsKeyExpr text n) (IsKeyExpr text n) expr_tokens b
      (formed (λ x. as_key n x) (expr inner)) (λ ts. made_of (λ x. as_key n x) (twin.expr ts))
  key_form_reads given =
      let nested = given.nested in
      formed_reads nested.expr
      (record { spelled = λ x. key_tokens n x; meets = λ x h. (x, h, refl); covers = λ x h. (h.0, h.2, h.1) })

  -- expr as a key: its one Str, where it stands alone, is a column
  pub key_reads : Given text b n m inner twin → Reads (sort_of text) Expr (IsKeyExpr text n) (IsKeyExpr text n) expr_tokens b
      (key (sort_of text) n inner) (read_key (sort_of text) m twin)
  unfolding read_key
  key_reads given =
      let same = key_form_reads given in
      record {
        sound = same.sound;
        size = same.size;
        begins = same.begins;
        complete = same.complete;
        alike = λ ts most. key_alike given ts most;
      }

  -- key [ASC|DESC]
  pub indexed_reads : Given text b n m inner twin → Reads (sort_of text) Indexed (IsKey text n) (IsKey text n) indexed_tokens b
      (indexed (sort_of text) n inner) (read_indexed (sort_of text) m twin)
  unfolding read_indexed
  indexed_reads given =
      formed_reads (seq_reads (key_reads given) (opt_leaf_reads text (words_fit text (K.Asc ∷ K.Desc ∷ []))) refl)
      (record { spelled = λ v. refl; meets = λ v h. h; covers = λ x h. ((x.expr, x.direction), refl, h) })

  -- indexed {"," indexed}
  pub indexeds_reads : Given text b n m inner twin → Reads (sort_of text) (Commas Indexed) (AreCommas text (IsKey text n)) (AreCommas text (IsKey text n)) (commas_tokens indexed_tokens) b
      (indexeds (sort_of text) n inner) (read_indexeds (sort_of text) m twin)
  unfolding read_indexeds read_more_indexeds read_next_indexed
  indexeds_reads given =
      formed_reads (seq_reads (indexed_reads given) (many_reads (next_item_reads (indexed_reads given)) refl refl) refl)
      (record { spelled = λ v. refl; meets = λ v h. h; covers = λ x h. ((x.first, x.more), refl, h) })

  -- "(" indexeds ")"
  pub key_parens_reads : Given text b n m inner twin → Reads (sort_of text) (InParens (Commas Indexed)) (IsInParens text (AreCommas text (IsKey text n))) (IsInParens text (AreCommas text (IsKey text n))) (in_parens_tokens (commas_tokens indexed_tokens)) b
      (key_parens (sort_of text) n inner) (read_key_parens (sort_of text) m twin)
  unfolding read_key_parens
  key_parens_reads given = in_parens_reads (indexeds_reads given) refl

  -- CONSTRAINT name | PRIMARY KEY .. | UNIQUE "(" indexeds ")" [conflict] | CHECK "(" expr ")" [conflict] | FOREIGN KEY ..
  pub table_cons_reads : Given text b n m inner twin → Reads (sort_of text) TableCons (IsTableCons text n) (IsTableCons text n) table_cons_tokens b
      (table_cons (sort_of text) n inner) (read_table_cons (sort_of text) m twin)
  unfolding read_table_cons read_primary_cons read_unique_cons read_check_cons read_foreign_cons
  table_cons_reads given =
      widened_reads {starts = table_cons_starts} {goes_on = cons_goes_on}
      (ruled
      (choice_reads
      (variant_reads (begun_reads (word_fits text K.Constraint) (leaf_reads (name_fits text))) (λ v. refl) (λ v h. h))
      (choice_reads
      (variant_reads
      (seq_reads
      (seq_reads
      (seq_reads
      (seq_reads (begun_reads (word_fits text K.Primary) (begun_reads (word_fits text K.Key) (leaf_reads (sign_fits text Opening 40 refl refl))))
      (indexeds_reads given) refl)
      (opt_leaf_reads text (word_fits text K.AutoIncrement)) refl)
      (leaf_reads (sign_fits text Closing 41 refl refl)) refl)
      (opt_conflict_reads text) refl)
      (λ v. refl) (λ v h. (h.0.0.0.0.0, h.0.0.0.0.1.0, h.0.0.0.0.1.1, h.0.0.0.1, h.0.0.1, h.0.1, h.1)))
      (choice_reads
      (variant_reads (seq_reads (begun_reads (word_fits text K.Unique) (key_parens_reads given)) (opt_conflict_reads text) refl) (λ v. refl)
      (λ v h. (h.0.0, h.0.1, h.1)))
      (choice_reads
      (variant_reads (seq_reads (begun_reads (word_fits text K.Check) (expr_parens_reads given)) (opt_conflict_reads text) refl)
      (λ v. refl) (λ v h. (h.0.0, h.0.1, h.1)))
      (variant_reads
      (seq_reads (seq_reads (begun_reads (word_fits text K.Foreign) (leaf_reads (word_fits text K.Key))) (names_reads text) refl)
      (references_reads text) refl)
      (λ v. refl) (λ v h. (h.0.0.0, h.0.0.1, h.0.1, h.1)))
      refl refl refl) refl refl refl) refl refl refl) refl refl refl)
      (λ x h. h)
      (elim [
        | TableCons'.Constraint constraint name ↦ λ h. inl ((constraint, name), refl, h)
        | TableCons'.PrimaryKey primary key opening indexeds autoincrement closing conflict ↦ λ h.
            inr (inl (
              (((((primary, (key, opening)), indexeds), autoincrement), closing), conflict),
              refl,
              (((((h.0, (h.1, h.2)), h.3), h.4), h.5), h.6),
            ))
        | TableCons'.Unique unique indexeds conflict ↦ λ h. inr (inr (inl (((unique, indexeds), conflict), refl, ((h.0, h.1), h.2))))
        | TableCons'.Check check x conflict ↦ λ h. inr (inr (inr (inl (((check, x), conflict), refl, ((h.0, h.1), h.2)))))
        | TableCons'.ForeignKey foreign key names references ↦ λ h.
            inr (inr (inr (inr ((((foreign, key), names), references), refl, (((h.0, h.1), h.2), h.3)))))
      ]))
      refl refl

  -- [","] table-cons
  pub next_table_cons_reads : Given text b n m inner twin → Reads (sort_of text) NextTableCons (IsNextCons text n) (IsNextCons text n) next_table_cons_tokens b
      (next_table_cons (sort_of text) n inner) (read_next_table_cons (sort_of text) m twin)
  unfolding read_next_table_cons
  next_table_cons_reads given =
      formed_reads (seq_reads (opt_leaf_reads text (sign_fits text Comma 44 refl refl)) (table_cons_reads given) refl)
      (record { spelled = λ v. refl; meets = λ v h. h; covers = λ x h. ((x.comma, x.constraint), refl, h) })

  -- "," table-cons {[","] table-cons}
  pub table_constraints_reads : Given text b n m inner twin → Reads (sort_of text) TableConstraints (AreTableConstraints text n) (AreTableConstraints text n) table_constraints_tokens b
      (table_constraints (sort_of text) n inner) (read_table_constraints (sort_of text) m twin)
  unfolding read_table_constraints read_more_table_cons
  table_constraints_reads given =
      formed_reads
      (seq_reads (lead_reads (sign_fits text Comma 44 refl refl) (table_cons_reads given)) (many_reads (next_table_cons_reads given) refl refl) refl)
      (record {
        spelled = λ v. refl;
        meets = λ v h. (h.0.0, h.0.1, h.1);
        covers = λ x h. (((x.comma, x.first), x.more), refl, ((h.0, h.1), h.2));
      })

  -- columns ["," table-cons {[","] table-cons}]
  pub table_body_reads : Given text b n m inner twin → Reads (sort_of text) TableBody (IsTableBody text n) (IsTableBody text n) table_body_tokens b
      (table_body (sort_of text) (over text n inner)) (read_table_body (sort_of text) (over text m twin))
  unfolding read_table_body read_opt_constraints
  table_body_reads given =
      formed_reads (seq_reads (columns_reads given) (opt_reads (table_constraints_reads given) refl) refl)
      (record { spelled = λ v. refl; meets = λ v h. h; covers = λ x h. ((x.columns, x.constraints), refl, h) })

  -- CREATE TABLE [IF NOT EXISTS] name "(" body ")" [options]
  pub create_table_reads : Given text b n m inner twin → Reads (sort_of text) CreateTable (IsCreateTable text n) (IsCreateTable text n) create_table_tokens b
      (create_table (sort_of text) (over text n inner)) (read_create_table (sort_of text) (over text m twin))
  unfolding read_create_table
  create_table_reads given =
      formed_reads
      (seq_reads
      (seq_reads
      (seq_reads
      (seq_reads (begun_reads (word_fits text K.Create) (leaf_reads (word_fits text K.Table))) (opt_if_not_exists_reads text) refl)
      (leaf_before_reads {other = word K.Not} (name_fits text)) refl)
      (in_parens_reads (table_body_reads given) refl) refl)
      (opt_options_reads text) refl)
      (record {
        spelled = λ v. refl;
        meets = λ v h. (h.0.0.0.0.0, h.0.0.0.0.1, h.0.0.0.1, h.0.0.1, h.0.1, h.1);
        covers = λ x h. (
          (((((x.create, x.table), x.if_not_exists), x.name), x.body), x.options),
          refl,
          (((((h.0, h.1), h.2), h.3), h.4), h.5),
        );
      })

  -- CREATE [UNIQUE] INDEX [IF NOT EXISTS] name ON name "(" indexeds ")" [WHERE expr]
  pub create_index_reads : Given text b n m inner twin → Reads (sort_of text) CreateIndex (IsCreateIndex text n) (IsCreateIndex text n) create_index_tokens b
      (create_index (sort_of text) n inner) (read_create_index (sort_of text) m twin)
  unfolding read_create_index
  create_index_reads given =
      let nested = given.nested in
      formed_reads
      (seq_reads
      (seq_reads
      (seq_reads
      (seq_reads
      (seq_reads
      (seq_reads
      (seq_reads (begun_reads (word_fits text K.Create) (opt_leaf_reads text (word_fits text K.Unique))) (leaf_reads (word_fits text K.Index)) refl)
      (opt_if_not_exists_reads text) refl)
      (leaf_before_reads {other = word K.Not} (name_fits text)) refl)
      (leaf_reads (word_fits text K.On)) refl)
      (leaf_reads (name_fits text)) refl)
      (key_parens_reads given) refl)
      (opt_after_reads nested K.Where) refl)
      (record {
        spelled = λ v. refl;
        meets = λ v h. (h.0.0.0.0.0.0.0.0, h.0.0.0.0.0.0.0.1, h.0.0.0.0.0.0.1, h.0.0.0.0.0.1, h.0.0.0.0.1, h.0.0.0.1, h.0.0.1, h.0.1, h.1);
        covers = λ x h. (
          ((((((((x.create, x.unique), x.index), x.if_not_exists), x.name), x.on), x.table), x.indexeds), x.filter),
          refl,
          ((((((((h.0, h.1), h.2), h.3), h.4), h.5), h.6), h.7), h.8),
        );
      })

  -- CREATE VIEW [IF NOT EXISTS] name ["(" names ")"] AS select
  pub create_view_reads : Given text b n m inner twin → Reads (sort_of text) CreateView (IsCreateView text n) (IsCreateView text n) create_view_tokens b
      (create_view (sort_of text) inner) (read_create_view (sort_of text) twin)
  unfolding read_create_view
  create_view_reads given =
      let nested = given.nested in
      formed_reads
      (seq_reads
      (seq_reads
      (seq_reads
      (seq_reads
      (seq_reads (begun_reads (word_fits text K.Create) (leaf_reads (word_fits text K.View))) (opt_if_not_exists_reads text) refl)
      (leaf_before_reads {other = word K.Not} (name_fits text)) refl)
      (opt_names_reads text) refl)
      (leaf_reads (word_fits text K.As)) refl)
      nested.select refl)
      (record {
        spelled = λ v. refl;
        meets = λ v h. (h.0.0.0.0.0.0, h.0.0.0.0.0.1, h.0.0.0.0.1, h.0.0.0.1, h.0.0.1, h.0.1, h.1);
        covers = λ x h. (
          ((((((x.create, x.view), x.if_not_exists), x.name), x.columns), x.as_word), x.select),
          refl,
          ((((((h.0, h.1), h.2), h.3), h.4), h.5), h.6),
        );
      })
