-- What is read as keys, constraints and options of tables, and as the texts of tables, indexes and views.
use Rattle.std.specs.Prelude.{List, Option, [], ◌∷◌, ℕ}
use Rattle.sql_token.specs.declared.token.Token.{Token}
use Rattle.sql_token.specs.declared.keyword.Keyword.{Keyword}
use Rattle.sql_expr.specs.declared.expr.Expr.{Expr}
use Rattle.sql_expr.specs.declared.lists.Commas.{Commas}
use Rattle.sql_expr.specs.declared.lists.InParens.{InParens}
use Rattle.sql_expr.specs.declared.lists.NextItem.{NextItem}
use Rattle.sql_tree.specs.Keys.{as_key}
use Rattle.sql_tree.specs.declared.index.CreateIndex.{CreateIndex}
use Rattle.sql_tree.specs.declared.index.CreateView.{CreateView}
use Rattle.sql_tree.specs.declared.table.CreateTable.{CreateTable}
use Rattle.sql_tree.specs.declared.table.IfNotExists.{IfNotExists}
use Rattle.sql_tree.specs.declared.table.Indexed.{Indexed}
use Rattle.sql_tree.specs.declared.table.NextTableCons.{NextTableCons}
use Rattle.sql_tree.specs.declared.table.TableBody.{TableBody}
use Rattle.sql_tree.specs.declared.table.TableCons.{TableCons}
use Rattle.sql_tree.specs.declared.table.TableConstraints.{TableConstraints}
use Rattle.sql_tree.specs.declared.table.TableOption.{TableOption}
use Rattle.sql_reader.specs.Looks.{Look, name, sign, word, words}
use Rattle.sql_reader.specs.Reading.{Read, Reading, begun, choice, formed, lead, leaf, leaf_before, many, opt, sealed, seq, widened}
use Rattle.sql_reader.specs.declared.sort.Mark.TheVariants.{Closing, Comma, Opening}
use Rattle.sql_reader.specs.declared.sort.Sort.{Sort}
use Rattle.query_reading.specs.Exprs.{Inner, expr, select}
use Rattle.query_reading.specs.Lists.{in_parens, next_item, opt_leaf}
use Rattle.query_reading.specs.Names.{names, opt_names}
use Rattle.query_reading.specs.Windows.{opt_after}
use Rattle.table_reading.specs.Columns.{columns, cons_goes_on, expr_parens}
use Rattle.table_reading.specs.Conflicts.{opt_conflict, references}
use Rattle.table_reading.specs.Handed.{Outer}
use Rattle.table_reading.specs.Words.{rowid, spelled, strict}
use Rattle.sql_token.specs.declared.keyword.Keyword.TheVariants as K
use Rattle.sql_tree.specs.declared.table.TableCons.TheVariants as TableCons'
use Rattle.sql_tree.specs.declared.table.TableOption.TheVariants as TableOption'

-- expr as a key: its one Str, where it stands alone, is a column
abbrev key_form : (sort : Token → Sort) → ℕ → Inner → Reading sort Expr
key_form sort height inner =
    formed (λ x. as_key height x) (expr inner)

unfoldable pub read_key : (Token → Sort) → ℕ → Inner → Read Expr
read_key sort height inner = (key_form sort height inner).read

abbrev pub key : (sort : Token → Sort) → ℕ → Inner → Reading sort Expr
key sort height inner = sealed (key_form sort height inner) (read_key sort height inner)

-- key [ASC|DESC]
abbrev indexed_form : (sort : Token → Sort) → ℕ → Inner → Reading sort Indexed
indexed_form sort height inner =
    formed (λ v. record { expr = v.0; direction = v.1 }) (seq (key sort height inner) (opt_leaf sort (words (K.Asc ∷ K.Desc ∷ []))))

unfoldable pub read_indexed : (Token → Sort) → ℕ → Inner → Read Indexed
read_indexed sort height inner = (indexed_form sort height inner).read

abbrev pub indexed : (sort : Token → Sort) → ℕ → Inner → Reading sort Indexed
indexed sort height inner = sealed (indexed_form sort height inner) (read_indexed sort height inner)

-- "," indexed
abbrev next_indexed_form : (sort : Token → Sort) → ℕ → Inner → Reading sort (NextItem Indexed)
next_indexed_form sort height inner = next_item (indexed sort height inner)

unfoldable pub read_next_indexed : (Token → Sort) → ℕ → Inner → Read (NextItem Indexed)
read_next_indexed sort height inner = (next_indexed_form sort height inner).read

abbrev pub next_indexed : (sort : Token → Sort) → ℕ → Inner → Reading sort (NextItem Indexed)
next_indexed sort height inner = sealed (next_indexed_form sort height inner) (read_next_indexed sort height inner)

-- {"," indexed}
abbrev more_indexeds_form : (sort : Token → Sort) → ℕ → Inner → Reading sort (List (NextItem Indexed))
more_indexeds_form sort height inner = many (next_indexed sort height inner)

unfoldable pub read_more_indexeds : (Token → Sort) → ℕ → Inner → Read (List (NextItem Indexed))
read_more_indexeds sort height inner = (more_indexeds_form sort height inner).read

abbrev pub more_indexeds : (sort : Token → Sort) → ℕ → Inner → Reading sort (List (NextItem Indexed))
more_indexeds sort height inner = sealed (more_indexeds_form sort height inner) (read_more_indexeds sort height inner)

-- indexed {"," indexed}
abbrev indexeds_form : (sort : Token → Sort) → ℕ → Inner → Reading sort (Commas Indexed)
indexeds_form sort height inner =
    formed (λ v. record { first = v.0; more = v.1 }) (seq (indexed sort height inner) (more_indexeds sort height inner))

unfoldable pub read_indexeds : (Token → Sort) → ℕ → Inner → Read (Commas Indexed)
read_indexeds sort height inner = (indexeds_form sort height inner).read

abbrev pub indexeds : (sort : Token → Sort) → ℕ → Inner → Reading sort (Commas Indexed)
indexeds sort height inner = sealed (indexeds_form sort height inner) (read_indexeds sort height inner)

-- "(" indexeds ")"
abbrev key_parens_form : (sort : Token → Sort) → ℕ → Inner → Reading sort (InParens (Commas Indexed))
key_parens_form sort height inner = in_parens (indexeds sort height inner)

unfoldable pub read_key_parens : (Token → Sort) → ℕ → Inner → Read (InParens (Commas Indexed))
read_key_parens sort height inner = (key_parens_form sort height inner).read

abbrev pub key_parens : (sort : Token → Sort) → ℕ → Inner → Reading sort (InParens (Commas Indexed))
key_parens sort height inner = sealed (key_parens_form sort height inner) (read_key_parens sort height inner)

-- PRIMARY KEY "(" indexeds [AUTOINCREMENT] ")" [conflict]
abbrev primary_cons_form : (sort : Token → Sort) → ℕ → Inner → Reading sort TableCons
primary_cons_form sort height inner =
    formed (λ v. TableCons'.PrimaryKey v.0.0.0.0.0 v.0.0.0.0.1.0 v.0.0.0.0.1.1 v.0.0.0.1 v.0.0.1 v.0.1 v.1)
    (seq
    (seq
    (seq (seq (begun (word K.Primary) (begun (word K.Key) (leaf (sign Opening)))) (indexeds sort height inner))
    (opt_leaf sort (word K.AutoIncrement)))
    (leaf (sign Closing)))
    (opt_conflict sort))

unfoldable pub read_primary_cons : (Token → Sort) → ℕ → Inner → Read TableCons
read_primary_cons sort height inner = (primary_cons_form sort height inner).read

abbrev pub primary_cons : (sort : Token → Sort) → ℕ → Inner → Reading sort TableCons
primary_cons sort height inner = sealed (primary_cons_form sort height inner) (read_primary_cons sort height inner)

-- UNIQUE "(" indexeds ")" [conflict]
abbrev unique_cons_form : (sort : Token → Sort) → ℕ → Inner → Reading sort TableCons
unique_cons_form sort height inner =
    formed (λ v. TableCons'.Unique v.0.0 v.0.1 v.1) (seq (begun (word K.Unique) (key_parens sort height inner)) (opt_conflict sort))

unfoldable pub read_unique_cons : (Token → Sort) → ℕ → Inner → Read TableCons
read_unique_cons sort height inner = (unique_cons_form sort height inner).read

abbrev pub unique_cons : (sort : Token → Sort) → ℕ → Inner → Reading sort TableCons
unique_cons sort height inner = sealed (unique_cons_form sort height inner) (read_unique_cons sort height inner)

-- CHECK "(" expr ")" [conflict]
abbrev check_cons_form : (sort : Token → Sort) → Inner → Reading sort TableCons
check_cons_form sort inner =
    formed (λ v. TableCons'.Check v.0.0 v.0.1 v.1) (seq (begun (word K.Check) (expr_parens sort inner)) (opt_conflict sort))

unfoldable pub read_check_cons : (Token → Sort) → Inner → Read TableCons
read_check_cons sort inner = (check_cons_form sort inner).read

abbrev pub check_cons : (sort : Token → Sort) → Inner → Reading sort TableCons
check_cons sort inner = sealed (check_cons_form sort inner) (read_check_cons sort inner)

-- FOREIGN KEY "(" names ")" references
abbrev foreign_cons_form : (sort : Token → Sort) → Reading sort TableCons
foreign_cons_form sort =
    formed (λ v. TableCons'.ForeignKey v.0.0.0 v.0.0.1 v.0.1 v.1)
    (seq (seq (begun (word K.Foreign) (leaf (word K.Key))) (names sort)) (references sort))

unfoldable pub read_foreign_cons : (Token → Sort) → Read TableCons
read_foreign_cons sort = (foreign_cons_form sort).read

abbrev pub foreign_cons : (sort : Token → Sort) → Reading sort TableCons
foreign_cons sort = sealed (foreign_cons_form sort) (read_foreign_cons sort)

-- how a constraint of a table begins
abbrev pub table_cons_words : List Keyword
table_cons_words = K.Constraint ∷ K.Primary ∷ K.Unique ∷ K.Check ∷ K.Foreign ∷ []

abbrev pub table_cons_starts : Look
table_cons_starts = (words table_cons_words ∷ []) ∷ []

-- how the constraints of a table begin
abbrev pub constraints_starts : Look
constraints_starts = (sign Comma ∷ words table_cons_words ∷ []) ∷ []

-- CONSTRAINT name | PRIMARY KEY .. | UNIQUE "(" indexeds ")" [conflict] | CHECK "(" expr ")" [conflict] | FOREIGN KEY ..
abbrev table_cons_form : (sort : Token → Sort) → ℕ → Inner → Reading sort TableCons
table_cons_form sort height inner =
    widened table_cons_starts cons_goes_on
    (choice (formed (λ v. TableCons'.Constraint v.0 v.1) (begun (word K.Constraint) (leaf name)))
    (choice (primary_cons sort height inner)
    (choice (unique_cons sort height inner)
    (choice (check_cons sort inner)
    (foreign_cons sort)))))

unfoldable pub read_table_cons : (Token → Sort) → ℕ → Inner → Read TableCons
read_table_cons sort height inner = (table_cons_form sort height inner).read

abbrev pub table_cons : (sort : Token → Sort) → ℕ → Inner → Reading sort TableCons
table_cons sort height inner = sealed (table_cons_form sort height inner) (read_table_cons sort height inner)

-- how a further constraint of a table begins
abbrev pub next_cons_starts : Look
next_cons_starts = (sign Comma ∷ []) ∷ (words table_cons_words ∷ []) ∷ []

-- [","] table-cons
abbrev next_table_cons_form : (sort : Token → Sort) → ℕ → Inner → Reading sort NextTableCons
next_table_cons_form sort height inner =
    formed (λ v. record { comma = v.0; constraint = v.1 }) (seq (opt_leaf sort (sign Comma)) (table_cons sort height inner))

unfoldable pub read_next_table_cons : (Token → Sort) → ℕ → Inner → Read NextTableCons
read_next_table_cons sort height inner = (next_table_cons_form sort height inner).read

abbrev pub next_table_cons : (sort : Token → Sort) → ℕ → Inner → Reading sort NextTableCons
next_table_cons sort height inner = sealed (next_table_cons_form sort height inner) (read_next_table_cons sort height inner)

-- {[","] table-cons}
abbrev more_table_cons_form : (sort : Token → Sort) → ℕ → Inner → Reading sort (List NextTableCons)
more_table_cons_form sort height inner = many (next_table_cons sort height inner)

unfoldable pub read_more_table_cons : (Token → Sort) → ℕ → Inner → Read (List NextTableCons)
read_more_table_cons sort height inner = (more_table_cons_form sort height inner).read

abbrev pub more_table_cons : (sort : Token → Sort) → ℕ → Inner → Reading sort (List NextTableCons)
more_table_cons sort height inner = sealed (more_table_cons_form sort height inner) (read_more_table_cons sort height inner)

-- "," table-cons {[","] table-cons}
abbrev table_constraints_form : (sort : Token → Sort) → ℕ → Inner → Reading sort TableConstraints
table_constraints_form sort height inner =
    formed (λ v. record { comma = v.0.0; first = v.0.1; more = v.1 })
    (seq (lead (sign Comma) (table_cons sort height inner)) (more_table_cons sort height inner))

unfoldable pub read_table_constraints : (Token → Sort) → ℕ → Inner → Read TableConstraints
read_table_constraints sort height inner = (table_constraints_form sort height inner).read

abbrev pub table_constraints : (sort : Token → Sort) → ℕ → Inner → Reading sort TableConstraints
table_constraints sort height inner = sealed (table_constraints_form sort height inner) (read_table_constraints sort height inner)

-- ["," table-cons {[","] table-cons}]
abbrev opt_constraints_form : (sort : Token → Sort) → ℕ → Inner → Reading sort (Option TableConstraints)
opt_constraints_form sort height inner = opt (table_constraints sort height inner)

unfoldable pub read_opt_constraints : (Token → Sort) → ℕ → Inner → Read (Option TableConstraints)
read_opt_constraints sort height inner = (opt_constraints_form sort height inner).read

abbrev pub opt_constraints : (sort : Token → Sort) → ℕ → Inner → Reading sort (Option TableConstraints)
opt_constraints sort height inner = sealed (opt_constraints_form sort height inner) (read_opt_constraints sort height inner)

-- columns ["," table-cons {[","] table-cons}]
abbrev table_body_form : (sort : Token → Sort) → Outer → Reading sort TableBody
table_body_form sort outer =
    formed (λ v. record { columns = v.0; constraints = v.1 }) (seq (columns sort outer) (opt_constraints sort outer.height outer.inner))

unfoldable pub read_table_body : (Token → Sort) → Outer → Read TableBody
read_table_body sort outer = (table_body_form sort outer).read

abbrev pub table_body : (sort : Token → Sort) → Outer → Reading sort TableBody
table_body sort outer = sealed (table_body_form sort outer) (read_table_body sort outer)

-- IF NOT EXISTS, where NOT tells that IF is no name
abbrev opt_if_not_exists_form : (sort : Token → Sort) → Reading sort (Option IfNotExists)
opt_if_not_exists_form sort =
    opt (formed (λ v. record { if_word = v.0; not = v.1.0; exists = v.1.1 }) (lead (word K.If) (begun (word K.Not) (leaf (word K.Exists)))))

unfoldable pub read_opt_if_not_exists : (Token → Sort) → Read (Option IfNotExists)
read_opt_if_not_exists sort = (opt_if_not_exists_form sort).read

abbrev pub opt_if_not_exists : (sort : Token → Sort) → Reading sort (Option IfNotExists)
opt_if_not_exists sort = sealed (opt_if_not_exists_form sort) (read_opt_if_not_exists sort)

-- WITHOUT ROWID | STRICT
abbrev table_option_form : List ℕ → (sort : Token → Sort) → Reading sort TableOption
table_option_form text sort =
    choice (formed (λ v. TableOption'.WithoutRowid v.0 v.1) (begun (word K.Without) (spelled text rowid)))
    (formed (λ t. TableOption'.Strict t) (spelled text strict))

unfoldable pub read_table_option : List ℕ → (Token → Sort) → Read TableOption
read_table_option text sort = (table_option_form text sort).read

abbrev pub table_option : List ℕ → (sort : Token → Sort) → Reading sort TableOption
table_option text sort = sealed (table_option_form text sort) (read_table_option text sort)

-- "," option
abbrev next_option_form : List ℕ → (sort : Token → Sort) → Reading sort (NextItem TableOption)
next_option_form text sort = next_item (table_option text sort)

unfoldable pub read_next_option : List ℕ → (Token → Sort) → Read (NextItem TableOption)
read_next_option text sort = (next_option_form text sort).read

abbrev pub next_option : List ℕ → (sort : Token → Sort) → Reading sort (NextItem TableOption)
next_option text sort = sealed (next_option_form text sort) (read_next_option text sort)

-- {"," option}
abbrev more_options_form : List ℕ → (sort : Token → Sort) → Reading sort (List (NextItem TableOption))
more_options_form text sort = many (next_option text sort)

unfoldable pub read_more_options : List ℕ → (Token → Sort) → Read (List (NextItem TableOption))
read_more_options text sort = (more_options_form text sort).read

abbrev pub more_options : List ℕ → (sort : Token → Sort) → Reading sort (List (NextItem TableOption))
more_options text sort = sealed (more_options_form text sort) (read_more_options text sort)

-- option {"," option}
abbrev table_options_form : List ℕ → (sort : Token → Sort) → Reading sort (Commas TableOption)
table_options_form text sort =
    formed (λ v. record { first = v.0; more = v.1 }) (seq (table_option text sort) (more_options text sort))

unfoldable pub read_table_options : List ℕ → (Token → Sort) → Read (Commas TableOption)
read_table_options text sort = (table_options_form text sort).read

abbrev pub table_options : List ℕ → (sort : Token → Sort) → Reading sort (Commas TableOption)
table_options text sort = sealed (table_options_form text sort) (read_table_options text sort)

-- [options]
abbrev opt_options_form : List ℕ → (sort : Token → Sort) → Reading sort (Option (Commas TableOption))
opt_options_form text sort = opt (table_options text sort)

unfoldable pub read_opt_options : List ℕ → (Token → Sort) → Read (Option (Commas TableOption))
read_opt_options text sort = (opt_options_form text sort).read

abbrev pub opt_options : List ℕ → (sort : Token → Sort) → Reading sort (Option (Commas TableOption))
opt_options text sort = sealed (opt_options_form text sort) (read_opt_options text sort)

-- CREATE TABLE [IF NOT EXISTS] name "(" body ")" [options]
abbrev create_table_form : (sort : Token → Sort) → Outer → Reading sort CreateTable
create_table_form sort outer =
    formed
    (λ v. record {
      create = v.0.0.0.0.0;
      table = v.0.0.0.0.1;
      if_not_exists = v.0.0.0.1;
      name = v.0.0.1;
      body = v.0.1;
      options = v.1;
    })
    (seq
    (seq
    (seq (seq (begun (word K.Create) (leaf (word K.Table))) (opt_if_not_exists sort)) (leaf_before name (word K.Not)))
    (in_parens (table_body sort outer)))
    (opt_options outer.text sort))

unfoldable pub read_create_table : (Token → Sort) → Outer → Read CreateTable
read_create_table sort outer = (create_table_form sort outer).read

abbrev pub create_table : (sort : Token → Sort) → Outer → Reading sort CreateTable
create_table sort outer = sealed (create_table_form sort outer) (read_create_table sort outer)

-- CREATE [UNIQUE] INDEX [IF NOT EXISTS] name ON name "(" indexeds ")" [WHERE expr]
abbrev create_index_form : (sort : Token → Sort) → ℕ → Inner → Reading sort CreateIndex
create_index_form sort height inner =
    formed
    (λ v. record {
      create = v.0.0.0.0.0.0.0.0;
      unique = v.0.0.0.0.0.0.0.1;
      index = v.0.0.0.0.0.0.1;
      if_not_exists = v.0.0.0.0.0.1;
      name = v.0.0.0.0.1;
      on = v.0.0.0.1;
      table = v.0.0.1;
      indexeds = v.0.1;
      filter = v.1;
    })
    (seq
    (seq
    (seq
    (seq
    (seq
    (seq (seq (begun (word K.Create) (opt_leaf sort (word K.Unique))) (leaf (word K.Index))) (opt_if_not_exists sort))
    (leaf_before name (word K.Not)))
    (leaf (word K.On)))
    (leaf name))
    (key_parens sort height inner))
    (opt_after sort inner K.Where))

unfoldable pub read_create_index : (Token → Sort) → ℕ → Inner → Read CreateIndex
read_create_index sort height inner = (create_index_form sort height inner).read

abbrev pub create_index : (sort : Token → Sort) → ℕ → Inner → Reading sort CreateIndex
create_index sort height inner = sealed (create_index_form sort height inner) (read_create_index sort height inner)

-- CREATE VIEW [IF NOT EXISTS] name ["(" names ")"] AS select
abbrev create_view_form : (sort : Token → Sort) → Inner → Reading sort CreateView
create_view_form sort inner =
    formed
    (λ v. record {
      create = v.0.0.0.0.0.0;
      view = v.0.0.0.0.0.1;
      if_not_exists = v.0.0.0.0.1;
      name = v.0.0.0.1;
      columns = v.0.0.1;
      as_word = v.0.1;
      select = v.1;
    })
    (seq
    (seq
    (seq
    (seq (seq (begun (word K.Create) (leaf (word K.View))) (opt_if_not_exists sort)) (leaf_before name (word K.Not)))
    (opt_names sort))
    (leaf (word K.As)))
    (select inner))

unfoldable pub read_create_view : (Token → Sort) → Inner → Read CreateView
read_create_view sort inner = (create_view_form sort inner).read

abbrev pub create_view : (sort : Token → Sort) → Inner → Reading sort CreateView
create_view sort inner = sealed (create_view_form sort inner) (read_create_view sort inner)
