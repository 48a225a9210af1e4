-- The laws of what is read as columns.
use Rattle.std.proofs.Common.{IfSome, List, Option, [], inl, inr, refl, ℕ, ◌∷◌, ◌≡◌, ◌⊎◌}
use Rattle.std.specs.List.{AllByRecursion}
use Rattle.std.specs.Prelude.{codes}
use Rattle.sql_token.specs.Fixed.{IsFixed, IsName, IsSign}
use Rattle.sql_token.specs.Spelled.{flat, maybe, one}
use Rattle.sql_token.specs.declared.token.Token.{Token}
use Rattle.sql_expr.specs.Leaf.{AreFixed, IsNoneOf, IsSpelledWord, current_words}
use Rattle.sql_expr.specs.Rules.{AreCommas, IsExprAt, IsInParens, UsualAt}
use Rattle.sql_expr.specs.Tokens.{commas_tokens, in_parens_tokens, next_item_tokens, token_pair_tokens}
use Rattle.sql_expr.specs.Tree.{expr_tokens}
use Rattle.sql_expr.specs.declared.expr.Expr.{Expr}
use Rattle.sql_expr.specs.declared.lists.Commas.{Commas}
use Rattle.sql_expr.specs.declared.lists.InParens.{InParens}
use Rattle.sql_expr.specs.declared.lists.NextItem.{NextItem}
use Rattle.sql_expr.specs.declared.lists.TokenPair.{TokenPair}
use Rattle.sql_reader.proofs.Choices.{choice_reads, many_reads, opt_reads}
use Rattle.sql_reader.proofs.Forms.{begun_reads, formed_reads, lead_reads, ruled, variant_reads, widened_reads}
use Rattle.sql_reader.proofs.Laws.{Fits, Reads, leaf_reads, seq_reads}
use Rattle.sql_reader.proofs.Leaves.{both_fits, either_fits, name_fits, no_words_fit, none_of_fits, same_fits, sign_fits, str_fits, word_fits, words_fit}
use Rattle.sql_reader.specs.Looks.{sign}
use Rattle.sql_reader.specs.Sorts.{sort_of}
use Rattle.sql_reader.specs.declared.sort.Mark.TheVariants.{Comma, Minus, Opening, Plus}
use Rattle.sql_tree.specs.Keys.{as_key}
use Rattle.sql_tree.specs.Rules.{IsColumn, IsColumnCons, IsDefaultValue}
use Rattle.sql_tree.specs.Tokens.{column_cons_tokens, column_tokens, default_value_tokens}
use Rattle.sql_tree.specs.declared.table.Column.{Column}
use Rattle.sql_tree.specs.declared.table.ColumnCons.{ColumnCons}
use Rattle.sql_tree.specs.declared.table.DefaultValue.{DefaultValue}
use Rattle.query_reading.proofs.LeafLaws.{Nested}
use Rattle.query_reading.proofs.ListLaws.{in_parens_reads, maybe_not_reads, opt_leaf_reads, pair_reads}
use Rattle.query_reading.proofs.OperatorLaws.{literal_reads}
use Rattle.query_reading.proofs.TypeLaws.{opt_type_reads}
use Rattle.query_reading.specs.Exprs.{Inner}
use Rattle.table_reading.proofs.ConflictLaws.{opt_conflict_reads, references_reads}
use Rattle.table_reading.proofs.WordLaws.{stored_reads}
use Rattle.table_reading.specs.Columns.{column, column_cons, column_constraints, columns, cons_goes_on, cons_starts, default_name, default_value, expr_parens, generated_cons, next_column, opt_generated, opt_storage, plain_cons, plain_default, read_column, read_column_cons, read_column_constraints, read_columns, read_default_value, read_expr_parens, read_generated_cons, read_more_columns, read_next_column, read_null_cons, read_opt_generated, read_opt_storage, read_plain_cons, read_plain_default, read_primary_key}
use Rattle.table_reading.specs.Handed.{over}
use Rattle.sql_token.specs.declared.keyword.Keyword.TheVariants as K
use Rattle.sql_token.specs.declared.token.TokenKind.TheVariants as Kind
use Rattle.sql_tree.specs.declared.table.ColumnCons.TheVariants as ColumnCons'
use Rattle.sql_tree.specs.declared.table.DefaultValue.TheVariants as DefaultValue'

-- What is known of what is handed in: what the inner readings read, and that a key is the same by the heights of both.
pub record Given (text : List ℕ) (b n m : ℕ) (inner twin : Inner) : Type 0 where
  pub nested : Nested text b (UsualAt text n) inner twin
  pub keys : (x : Expr) → IsExprAt text n x → as_key n x ≡ as_key m x

-- a name behind DEFAULT
abbrev IsDefaultName : List ℕ → Token → Type 0
IsDefaultName text t = IsName text t × (t.kind ≡ Kind.Str → ⊥) × IsNoneOf text current_words t

default_name_fits : (text : List ℕ) → Fits (sort_of text) (IsDefaultName text) default_name
default_name_fits text =
    same_fits
    (both_fits (name_fits text)
    (both_fits (none_of_fits (str_fits text)) (no_words_fit text (K.CurrentDate ∷ K.CurrentTime ∷ K.CurrentTimestamp ∷ []))))
    (λ t h. (h.0, h.1.0, h.1.1)) (λ t h. (h.0, (h.1, h.2)))

-- the word of a storage
abbrev pub IsStorage : List ℕ → Token → Type 0
IsStorage text t = IsSpelledWord text (codes "stored") t ⊎ IsFixed text K.Virtual t

-- a default without an expression
abbrev pub IsPlainDefault : List ℕ → DefaultValue → Type 0
IsPlainDefault text (DefaultValue'.Expr x) = ⊥
IsPlainDefault text x = IsDefaultValue text 0 x

-- a constraint without an expression
abbrev pub IsPlainCons : List ℕ → ColumnCons → Type 0
IsPlainCons text (ColumnCons'.Check check x) = ⊥
IsPlainCons text (ColumnCons'.Default default x) = ⊥
IsPlainCons text (ColumnCons'.Generated generated as_word x storage) = ⊥
IsPlainCons text x = IsColumnCons text 0 x

-- one with an expression, of the form that is generated
abbrev pub IsGeneratedCons : List ℕ → ℕ → ColumnCons → Type 0
IsGeneratedCons text n (ColumnCons'.Generated generated as_word x storage) =
    IsColumnCons text n (ColumnCons'.Generated generated as_word x storage)
IsGeneratedCons text n x = ⊥

-- what has no expression is so at any height
plain_default_any : (text : List ℕ) (n : ℕ) (x : DefaultValue) → IsPlainDefault text x → IsDefaultValue text n x
plain_default_any text n (DefaultValue'.Literal sign literal) h = h
plain_default_any text n (DefaultValue'.Name t) h = h
plain_default_any text n (DefaultValue'.Expr x) h = absurd h

plain_any : (text : List ℕ) (n : ℕ) (x : ColumnCons) → IsPlainCons text x → IsColumnCons text n x
plain_any text n (ColumnCons'.Constraint constraint name) h = h
plain_any text n (ColumnCons'.PrimaryKey primary key direction conflict autoincrement) h = h
plain_any text n (ColumnCons'.Null not null conflict) h = h
plain_any text n (ColumnCons'.Unique unique conflict) h = h
plain_any text n (ColumnCons'.Check check x) h = absurd h
plain_any text n (ColumnCons'.Default default x) h = absurd h
plain_any text n (ColumnCons'.Collate collate name) h = h
plain_any text n (ColumnCons'.References x) h = h
plain_any text n (ColumnCons'.Generated generated as_word x storage) h = absurd h

generated_any : (text : List ℕ) (n : ℕ) (x : ColumnCons) → IsGeneratedCons text n x → IsColumnCons text n x
generated_any text n (ColumnCons'.Constraint constraint name) h = absurd h
generated_any text n (ColumnCons'.PrimaryKey primary key direction conflict autoincrement) h = absurd h
generated_any text n (ColumnCons'.Null not null conflict) h = absurd h
generated_any text n (ColumnCons'.Unique unique conflict) h = absurd h
generated_any text n (ColumnCons'.Check check x) h = absurd h
generated_any text n (ColumnCons'.Default default x) h = absurd h
generated_any text n (ColumnCons'.Collate collate name) h = absurd h
generated_any text n (ColumnCons'.References x) h = absurd h
generated_any text n (ColumnCons'.Generated generated as_word x storage) h = h

module _ (text : List ℕ) {b : ℕ} where
  -- name | ["+"|"-"] literal
  pub plain_default_reads : Reads (sort_of text) DefaultValue (IsPlainDefault text) (IsPlainDefault text) default_value_tokens b
      (plain_default (sort_of text)) (read_plain_default (sort_of text))
  unfolding read_plain_default
  plain_default_reads =
      ruled
      (choice_reads (variant_reads (leaf_reads (default_name_fits text)) (λ t. refl) (λ t h. h))
      (variant_reads
      (seq_reads (opt_leaf_reads text (either_fits (sign_fits text Plus 43 refl refl) (sign_fits text Minus 45 refl refl))) (literal_reads text) refl)
      (λ v. refl) (λ v h. h))
      refl refl refl)
      (λ x h. h)
      (elim [
        | DefaultValue'.Literal sign literal ↦ λ h. inr ((sign, literal), refl, h)
        | DefaultValue'.Name t ↦ λ h. inl (t, refl, h)
        | DefaultValue'.Expr x ↦ λ h. absurd h
      ])

  -- CONSTRAINT name | PRIMARY KEY .. | UNIQUE [conflict] | COLLATE name | references | [NOT] NULL [conflict]
  pub plain_cons_reads : Reads (sort_of text) ColumnCons (IsPlainCons text) (IsPlainCons text) column_cons_tokens b
      (plain_cons (sort_of text)) (read_plain_cons (sort_of text))
  unfolding read_plain_cons read_primary_key read_null_cons
  plain_cons_reads =
      ruled
      (choice_reads
      (variant_reads (begun_reads (word_fits text K.Constraint) (leaf_reads (name_fits text))) (λ v. refl) (λ v h. h))
      (choice_reads
      (variant_reads
      (seq_reads
      (seq_reads
      (seq_reads (begun_reads (word_fits text K.Primary) (leaf_reads (word_fits text K.Key)))
      (opt_leaf_reads text (words_fit text (K.Asc ∷ K.Desc ∷ []))) refl)
      (opt_conflict_reads text) refl)
      (opt_leaf_reads text (word_fits text K.AutoIncrement)) refl)
      (λ v. refl) (λ v h. (h.0.0.0.0, h.0.0.0.1, h.0.0.1, h.0.1, h.1)))
      (choice_reads
      (variant_reads (begun_reads (word_fits text K.Unique) (opt_conflict_reads text)) (λ v. refl) (λ v h. h))
      (choice_reads
      (variant_reads (begun_reads (word_fits text K.Collate) (leaf_reads (name_fits text))) (λ v. refl) (λ v h. h))
      (choice_reads (variant_reads (references_reads text) (λ v. refl) (λ v h. h))
      (variant_reads (seq_reads (maybe_not_reads text (word_fits text K.Null) refl) (opt_conflict_reads text) refl) (λ v. refl)
      (λ v h. (h.0.0, h.0.1, h.1)))
      refl refl refl) refl refl refl) refl refl refl) refl refl refl) refl refl refl)
      (λ x h. h)
      (elim [
        | ColumnCons'.Constraint constraint name ↦ λ h. inl ((constraint, name), refl, h)
        | ColumnCons'.PrimaryKey primary key direction conflict autoincrement ↦ λ h.
            inr (inl (((((primary, key), direction), conflict), autoincrement), refl, ((((h.0, h.1), h.2), h.3), h.4)))
        | ColumnCons'.Null not null conflict ↦ λ h. inr (inr (inr (inr (inr (((not, null), conflict), refl, ((h.0, h.1), h.2))))))
        | ColumnCons'.Unique unique conflict ↦ λ h. inr (inr (inl ((unique, conflict), refl, h)))
        | ColumnCons'.Check check x ↦ λ h. absurd h
        | ColumnCons'.Default default x ↦ λ h. absurd h
        | ColumnCons'.Collate collate name ↦ λ h. inr (inr (inr (inl ((collate, name), refl, h))))
        | ColumnCons'.References x ↦ λ h. inr (inr (inr (inr (inl (x, refl, h)))))
        | ColumnCons'.Generated generated as_word x storage ↦ λ h. absurd h
      ])

  -- [GENERATED ALWAYS]
  pub opt_generated_reads : Reads (sort_of text) (Option TokenPair) (λ x. IfSome x (AreFixed text K.Generated K.Always)) (λ x. IfSome x (AreFixed text K.Generated K.Always)) (maybe token_pair_tokens) b
      (opt_generated (sort_of text)) (read_opt_generated (sort_of text))
  unfolding read_opt_generated
  opt_generated_reads =
      opt_reads (pair_reads (word_fits text K.Generated) (word_fits text K.Always)) refl

  -- [STORED|VIRTUAL]
  pub opt_storage_reads : Reads (sort_of text) (Option Token) (λ x. IfSome x (IsStorage text)) (λ x. IfSome x (IsStorage text)) (maybe one) b
      (opt_storage text (sort_of text)) (read_opt_storage text (sort_of text))
  unfolding read_opt_storage
  opt_storage_reads =
      opt_reads
      (choice_reads (ruled (stored_reads text) (λ t h. inl h) (λ t h. h)) (ruled (leaf_reads (word_fits text K.Virtual)) (λ t h. inr h) (λ t h. h))
      refl refl refl)
      refl

module _ {text : List ℕ} {b n m : ℕ} {inner twin : Inner} where
  -- "(" expr ")"
  pub expr_parens_reads : Given text b n m inner twin → Reads (sort_of text) (InParens Expr) (IsInParens text (IsExprAt text n)) (IsInParens text (IsExprAt text n)) (in_parens_tokens expr_tokens) b
      (expr_parens (sort_of text) inner) (read_expr_parens (sort_of text) twin)
  unfolding read_expr_parens
  expr_parens_reads given =
      let nested = given.nested in in_parens_reads nested.expr refl

  -- "(" expr ")" | name | ["+"|"-"] literal
  pub default_value_reads : Given text b n m inner twin → Reads (sort_of text) DefaultValue (IsDefaultValue text n) (IsDefaultValue text n) default_value_tokens b
      (default_value (sort_of text) inner) (read_default_value (sort_of text) twin)
  unfolding read_default_value
  default_value_reads given =
      ruled
      (choice_reads
      (widened_reads {starts = (sign Opening ∷ []) ∷ []} {goes_on = []}
      (variant_reads (expr_parens_reads given) (λ v. refl) (λ v h. h)) refl refl)
      (ruled (plain_default_reads text) (plain_default_any text n) (λ x h. h))
      refl refl refl)
      (λ x h. h)
      (elim [
        | DefaultValue'.Literal sign literal ↦ λ h. inr h
        | DefaultValue'.Name t ↦ λ h. inr h
        | DefaultValue'.Expr x ↦ λ h. inl (x, refl, h)
      ])

  -- [GENERATED ALWAYS] AS "(" expr ")" [STORED|VIRTUAL]
  pub generated_cons_reads : Given text b n m inner twin → Reads (sort_of text) ColumnCons (IsGeneratedCons text n) (IsGeneratedCons text n) column_cons_tokens b
      (generated_cons (sort_of text) (over text n inner)) (read_generated_cons (sort_of text) (over text m twin))
  unfolding read_generated_cons
  generated_cons_reads given =
      ruled
      (variant_reads
      (seq_reads
      (seq_reads (seq_reads (opt_generated_reads text) (leaf_reads (word_fits text K.As)) refl) (expr_parens_reads given) refl)
      (opt_storage_reads text) refl)
      (λ v. refl) (λ v h. (h.0.0.0, h.0.0.1, h.0.1, h.1)))
      (λ x h. h)
      (elim [
        | ColumnCons'.Constraint constraint name ↦ λ h. absurd h
        | ColumnCons'.PrimaryKey primary key direction conflict autoincrement ↦ λ h. absurd h
        | ColumnCons'.Null not null conflict ↦ λ h. absurd h
        | ColumnCons'.Unique unique conflict ↦ λ h. absurd h
        | ColumnCons'.Check check x ↦ λ h. absurd h
        | ColumnCons'.Default default x ↦ λ h. absurd h
        | ColumnCons'.Collate collate name ↦ λ h. absurd h
        | ColumnCons'.References x ↦ λ h. absurd h
        | ColumnCons'.Generated generated as_word x storage ↦ λ h. ((((generated, as_word), x), storage), refl, (((h.0, h.1), h.2), h.3))
      ])

  -- CHECK "(" expr ")" | DEFAULT default | [GENERATED ALWAYS] AS .. | a constraint without an expression
  pub column_cons_reads : Given text b n m inner twin → Reads (sort_of text) ColumnCons (IsColumnCons text n) (IsColumnCons text n) column_cons_tokens b
      (column_cons (sort_of text) (over text n inner)) (read_column_cons (sort_of text) (over text m twin))
  unfolding read_column_cons
  column_cons_reads given =
      widened_reads {starts = cons_starts} {goes_on = cons_goes_on}
      (ruled
      (choice_reads
      (variant_reads (begun_reads (word_fits text K.Check) (expr_parens_reads given)) (λ v. refl) (λ v h. h))
      (choice_reads
      (variant_reads (begun_reads (word_fits text K.Default) (default_value_reads given)) (λ v. refl) (λ v h. h))
      (choice_reads (ruled (generated_cons_reads given) (generated_any text n) (λ x h. h))
      (ruled (plain_cons_reads text) (plain_any text n) (λ x h. h))
      refl refl refl) refl refl refl) refl refl refl)
      (λ x h. h)
      (elim [
        | ColumnCons'.Constraint constraint name ↦ λ h. inr (inr (inr h))
        | ColumnCons'.PrimaryKey primary key direction conflict autoincrement ↦ λ h. inr (inr (inr h))
        | ColumnCons'.Null not null conflict ↦ λ h. inr (inr (inr h))
        | ColumnCons'.Unique unique conflict ↦ λ h. inr (inr (inr h))
        | ColumnCons'.Check check x ↦ λ h. inl ((check, x), refl, h)
        | ColumnCons'.Default default x ↦ λ h. inr (inl ((default, x), refl, h))
        | ColumnCons'.Collate collate name ↦ λ h. inr (inr (inr h))
        | ColumnCons'.References x ↦ λ h. inr (inr (inr h))
        | ColumnCons'.Generated generated as_word x storage ↦ λ h. inr (inr (inl h))
      ]))
      refl refl

  -- {column-cons}
  pub column_constraints_reads : Given text b n m inner twin → Reads (sort_of text) (List ColumnCons) (AllByRecursion (IsColumnCons text n)) (AllByRecursion (IsColumnCons text n)) (flat column_cons_tokens) b
      (column_constraints (sort_of text) (over text n inner)) (read_column_constraints (sort_of text) (over text m twin))
  unfolding read_column_constraints
  column_constraints_reads given =
      many_reads (column_cons_reads given) refl refl

  -- name [type] {column-cons}
  pub column_reads : Given text b n m inner twin → Reads (sort_of text) Column (IsColumn text n) (IsColumn text n) column_tokens b
      (column (sort_of text) (over text n inner)) (read_column (sort_of text) (over text m twin))
  unfolding read_column
  column_reads given =
      widened_reads
      (formed_reads
      (seq_reads (seq_reads (leaf_reads (name_fits text)) (opt_type_reads text) refl) (column_constraints_reads given) refl)
      (record {
        spelled = λ v. refl;
        meets = λ v h. (h.0.0, h.0.1, h.1);
        covers = λ x h. (((x.name, x.column_type), x.constraints), refl, ((h.0, h.1), h.2));
      }))
      refl refl

  -- "," column
  pub next_column_reads : Given text b n m inner twin → Reads (sort_of text) (NextItem Column) (λ x. IsSign text (codes ",") x.comma × IsColumn text n x.item) (λ x. IsSign text (codes ",") x.comma × IsColumn text n x.item) (next_item_tokens column_tokens) b
      (next_column (sort_of text) (over text n inner)) (read_next_column (sort_of text) (over text m twin))
  unfolding read_next_column
  next_column_reads given =
      formed_reads (lead_reads (sign_fits text Comma 44 refl refl) (column_reads given))
      (record { spelled = λ v. refl; meets = λ v h. h; covers = λ x h. ((x.comma, x.item), refl, h) })

  -- column {"," column}
  pub columns_reads : Given text b n m inner twin → Reads (sort_of text) (Commas Column) (AreCommas text (IsColumn text n)) (AreCommas text (IsColumn text n)) (commas_tokens column_tokens) b
      (columns (sort_of text) (over text n inner)) (read_columns (sort_of text) (over text m twin))
  unfolding read_columns read_more_columns
  columns_reads given =
      formed_reads (seq_reads (column_reads given) (many_reads (next_column_reads given) refl refl) refl)
      (record { spelled = λ v. refl; meets = λ v h. h; covers = λ x h. ((x.first, x.more), refl, h) })
