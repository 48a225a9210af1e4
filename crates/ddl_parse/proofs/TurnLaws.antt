-- What is read in a turn of a loop takes a token, whatever text the words are looked up in.
use Rattle.std.proofs.Common.{IfSome, List, Option, refl, suc, ℕ}
use Rattle.sql_token.specs.Spelled.{maybe, one}
use Rattle.sql_token.specs.declared.token.Token.{Token}
use Rattle.sql_reader.proofs.Choices.{choice_reads, many_reads, opt_reads}
use Rattle.sql_reader.proofs.Forms.{begun_reads, formed_reads, lead_reads, ruled, variant_reads, widened_reads}
use Rattle.sql_reader.proofs.Laws.{Reads, leaf_reads, seq_reads}
use Rattle.sql_reader.proofs.Leaves.{name_fits, sign_fits, word_fits}
use Rattle.sql_reader.proofs.Turns.{TakesToken}
use Rattle.sql_reader.specs.Sorts.{sort_of}
use Rattle.sql_reader.specs.declared.sort.Mark.TheVariants.{Comma}
use Rattle.sql_expr.specs.Tokens.{next_item_tokens}
use Rattle.sql_expr.specs.declared.lists.NextItem.{NextItem}
use Rattle.sql_tree.specs.Tokens.{column_cons_tokens, column_tokens}
use Rattle.sql_tree.specs.declared.table.Column.{Column}
use Rattle.sql_tree.specs.declared.table.ColumnCons.{ColumnCons}
use Rattle.query_reading.proofs.ListLaws.{next_item_reads}
use Rattle.query_reading.proofs.TypeLaws.{opt_type_reads}
use Rattle.query_reading.specs.Levels.{read_at}
use Rattle.table_reading.proofs.ColumnLaws.{default_value_reads, expr_parens_reads, opt_generated_reads, plain_cons_reads}
use Rattle.table_reading.proofs.KeyLaws.{given_at}
use Rattle.table_reading.proofs.TableLaws.{indexed_reads, next_table_cons_reads}
use Rattle.table_reading.proofs.WordLaws.{spelled_takes}
use Rattle.table_reading.specs.Columns.{column, column_cons, cons_goes_on, cons_starts, generated_cons, next_column, opt_storage, read_column, read_column_cons, read_column_constraints, read_generated_cons, read_next_column, read_opt_storage}
use Rattle.table_reading.specs.Handed.{over}
use Rattle.table_reading.specs.Tables.{read_next_indexed, read_next_table_cons}
use Rattle.table_reading.specs.Words.{stored}
use Rattle.sql_token.specs.declared.keyword.Keyword.TheVariants as K

module _ (n : ℕ) (other : List ℕ) where
  -- "," indexed
  pub next_indexed_takes : TakesToken (read_next_indexed (sort_of other) n (read_at (sort_of other) n))
  unfolding read_next_indexed
  next_indexed_takes = let laws = next_item_reads (indexed_reads (given_at other n)) in laws.size refl

  -- [","] table-cons
  pub next_table_cons_takes : TakesToken (read_next_table_cons (sort_of other) n (read_at (sort_of other) n))
  next_table_cons_takes = let laws = next_table_cons_reads (given_at other n) in laws.size refl

module _ (text other : List ℕ) where
  -- [STORED|VIRTUAL]
  storage_takes : {b : ℕ} → Reads (sort_of other) (Option Token) (λ x. IfSome x (λ t. Unit {0})) (λ x. IfSome x (λ t. ⊥)) (maybe one) b
      (opt_storage text (sort_of other)) (read_opt_storage text (sort_of other))
  unfolding read_opt_storage
  storage_takes =
      opt_reads
      (ruled
      (choice_reads (spelled_takes text stored) (ruled (leaf_reads (word_fits other K.Virtual)) (λ t h. tt) (λ t h. absurd h)) refl refl refl)
      (λ t h. h) (λ t h. absurd h))
      refl

module _ (n : ℕ) (text other : List ℕ) where
  -- [GENERATED ALWAYS] AS "(" expr ")" [STORED|VIRTUAL]
  generated_takes : Reads (sort_of other) ColumnCons (λ x. Unit {0}) (λ x. ⊥) column_cons_tokens n
      (generated_cons (sort_of other) (over text n (read_at (sort_of other) n)))
      (read_generated_cons (sort_of other) (over text n (read_at (sort_of other) (suc n))))
  unfolding read_generated_cons
  generated_takes =
      ruled
      (variant_reads
      (seq_reads
      (seq_reads (seq_reads (opt_generated_reads other) (leaf_reads (word_fits other K.As)) refl) (expr_parens_reads (given_at other n)) refl)
      (storage_takes text other) refl)
      (λ v. refl) (λ v h. tt))
      (λ x h. h) (λ x h. absurd h)

  -- CHECK "(" expr ")" | DEFAULT default | [GENERATED ALWAYS] AS .. | a constraint without an expression
  cons_takes : Reads (sort_of other) ColumnCons (λ x. Unit {0}) (λ x. ⊥) column_cons_tokens n
      (column_cons (sort_of other) (over text n (read_at (sort_of other) n)))
      (read_column_cons (sort_of other) (over text n (read_at (sort_of other) (suc n))))
  unfolding read_column_cons
  cons_takes =
      widened_reads {starts = cons_starts} {goes_on = cons_goes_on}
      (ruled
      (choice_reads
      (variant_reads (begun_reads (word_fits other K.Check) (expr_parens_reads (given_at other n))) (λ v. refl) (λ v h. tt))
      (choice_reads
      (variant_reads (begun_reads (word_fits other K.Default) (default_value_reads (given_at other n))) (λ v. refl) (λ v h. tt))
      (choice_reads generated_takes (ruled (plain_cons_reads other) (λ x h. tt) (λ x h. absurd h))
      refl refl refl) refl refl refl) refl refl refl)
      (λ x h. h) (λ x h. absurd h))
      refl refl

  -- name [type] {column-cons}
  column_takes : Reads (sort_of other) Column (λ x. Unit {0}) (λ x. ⊥) column_tokens n
      (column (sort_of other) (over text n (read_at (sort_of other) n)))
      (read_column (sort_of other) (over text n (read_at (sort_of other) (suc n))))
  unfolding read_column read_column_constraints
  column_takes =
      widened_reads
      (formed_reads
      (seq_reads (seq_reads (leaf_reads (name_fits other)) (opt_type_reads other) refl) (many_reads cons_takes refl refl) refl)
      (record { spelled = λ v. refl; meets = λ v h. tt; covers = λ x h. absurd h }))
      refl refl

  -- "," column
  further_takes : Reads (sort_of other) (NextItem Column) (λ x. Unit {0}) (λ x. ⊥) (next_item_tokens column_tokens) n
      (next_column (sort_of other) (over text n (read_at (sort_of other) n)))
      (read_next_column (sort_of other) (over text n (read_at (sort_of other) (suc n))))
  unfolding read_next_column
  further_takes =
      formed_reads (lead_reads (sign_fits other Comma 44 refl refl) column_takes)
      (record { spelled = λ v. refl; meets = λ v h. tt; covers = λ x h. absurd h })

  -- a constraint of a column, and a further column
  pub column_cons_takes : TakesToken (read_column_cons (sort_of other) (over text n (read_at (sort_of other) n)))
  column_cons_takes = let laws = cons_takes in laws.size refl

  pub next_column_takes : TakesToken (read_next_column (sort_of other) (over text n (read_at (sort_of other) n)))
  next_column_takes = let laws = further_takes in laws.size refl
