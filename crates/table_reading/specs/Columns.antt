-- What is read as columns.
use Rattle.std.specs.Prelude.{List, Option, [], ◌∷◌, ℕ}
use Rattle.sql_token.specs.declared.token.Token.{Token}
use Rattle.sql_expr.specs.declared.expr.Expr.{Expr}
use Rattle.sql_expr.specs.declared.lists.Commas.{Commas}
use Rattle.sql_expr.specs.declared.lists.InParens.{InParens}
use Rattle.sql_expr.specs.declared.lists.NextItem.{NextItem}
use Rattle.sql_expr.specs.declared.lists.TokenPair.{TokenPair}
use Rattle.sql_tree.specs.declared.table.Column.{Column}
use Rattle.sql_tree.specs.declared.table.ColumnCons.{ColumnCons}
use Rattle.sql_tree.specs.declared.table.DefaultValue.{DefaultValue}
use Rattle.sql_reader.specs.Looks.{Look, Set, both, either, name, none_of, only, sign, word, words}
use Rattle.sql_reader.specs.Reading.{Read, Reading, begun, choice, formed, lead, leaf, many, opt, sealed, seq, widened}
use Rattle.sql_reader.specs.declared.sort.Mark.TheVariants.{Closing, Comma, Minus, Opening, Plus}
use Rattle.sql_reader.specs.declared.sort.Sort.{Sort}
use Rattle.sql_reader.specs.declared.sort.Sort.TheVariants.{End, Plain, Str}
use Rattle.query_reading.specs.Exprs.{Inner, dot_or_opening, expr}
use Rattle.query_reading.specs.Lists.{in_parens, maybe_not, opt_leaf, pair}
use Rattle.query_reading.specs.Operators.{literal}
use Rattle.query_reading.specs.Types.{opt_type}
use Rattle.table_reading.specs.Conflicts.{opt_conflict, references}
use Rattle.table_reading.specs.Handed.{Outer}
use Rattle.table_reading.specs.Words.{spelled, stored}
use Rattle.sql_token.specs.declared.keyword.Keyword.TheVariants as K
use Rattle.sql_tree.specs.declared.table.ColumnCons.TheVariants as ColumnCons'
use Rattle.sql_tree.specs.declared.table.DefaultValue.TheVariants as DefaultValue'

-- a name behind DEFAULT: no Str and no word that is a value
abbrev pub default_name : Set
default_name =
    both name (both (none_of (only Str)) (none_of (words (K.CurrentDate ∷ K.CurrentTime ∷ K.CurrentTimestamp ∷ []))))

-- name | ["+"|"-"] literal
abbrev plain_default_form : (sort : Token → Sort) → Reading sort DefaultValue
plain_default_form sort =
    choice (formed (λ t. DefaultValue'.Name t) (leaf default_name))
    (formed (λ v. DefaultValue'.Literal v.0 v.1) (seq (opt_leaf sort (either (sign Plus) (sign Minus))) (literal sort)))

unfoldable pub read_plain_default : (Token → Sort) → Read DefaultValue
read_plain_default sort = (plain_default_form sort).read

abbrev pub plain_default : (sort : Token → Sort) → Reading sort DefaultValue
plain_default sort = sealed (plain_default_form sort) (read_plain_default sort)

-- "(" expr ")"
abbrev expr_parens_form : (sort : Token → Sort) → Inner → Reading sort (InParens Expr)
expr_parens_form sort inner = in_parens (expr inner)

unfoldable pub read_expr_parens : (Token → Sort) → Inner → Read (InParens Expr)
read_expr_parens sort inner = (expr_parens_form sort inner).read

abbrev pub expr_parens : (sort : Token → Sort) → Inner → Reading sort (InParens Expr)
expr_parens sort inner = sealed (expr_parens_form sort inner) (read_expr_parens sort inner)

-- "(" expr ")" | name | ["+"|"-"] literal
abbrev default_value_form : (sort : Token → Sort) → Inner → Reading sort DefaultValue
default_value_form sort inner =
    choice (widened ((sign Opening ∷ []) ∷ []) [] (formed (λ v. DefaultValue'.Expr v) (expr_parens sort inner)))
    (plain_default sort)

unfoldable pub read_default_value : (Token → Sort) → Inner → Read DefaultValue
read_default_value sort inner = (default_value_form sort inner).read

abbrev pub default_value : (sort : Token → Sort) → Inner → Reading sort DefaultValue
default_value sort inner = sealed (default_value_form sort inner) (read_default_value sort inner)

-- PRIMARY KEY [ASC|DESC] [conflict] [AUTOINCREMENT]
abbrev primary_key_form : (sort : Token → Sort) → Reading sort ColumnCons
primary_key_form sort =
    formed (λ v. ColumnCons'.PrimaryKey v.0.0.0.0 v.0.0.0.1 v.0.0.1 v.0.1 v.1)
    (seq
    (seq (seq (begun (word K.Primary) (leaf (word K.Key))) (opt_leaf sort (words (K.Asc ∷ K.Desc ∷ [])))) (opt_conflict sort))
    (opt_leaf sort (word K.AutoIncrement)))

unfoldable pub read_primary_key : (Token → Sort) → Read ColumnCons
read_primary_key sort = (primary_key_form sort).read

abbrev pub primary_key : (sort : Token → Sort) → Reading sort ColumnCons
primary_key sort = sealed (primary_key_form sort) (read_primary_key sort)

-- [NOT] NULL [conflict]
abbrev null_cons_form : (sort : Token → Sort) → Reading sort ColumnCons
null_cons_form sort =
    formed (λ v. ColumnCons'.Null v.0.0 v.0.1 v.1) (seq (maybe_not sort (word K.Null)) (opt_conflict sort))

unfoldable pub read_null_cons : (Token → Sort) → Read ColumnCons
read_null_cons sort = (null_cons_form sort).read

abbrev pub null_cons : (sort : Token → Sort) → Reading sort ColumnCons
null_cons sort = sealed (null_cons_form sort) (read_null_cons sort)

-- CONSTRAINT name | PRIMARY KEY .. | UNIQUE [conflict] | COLLATE name | references | [NOT] NULL [conflict]
abbrev plain_cons_form : (sort : Token → Sort) → Reading sort ColumnCons
plain_cons_form sort =
    choice (formed (λ v. ColumnCons'.Constraint v.0 v.1) (begun (word K.Constraint) (leaf name)))
    (choice (primary_key sort)
    (choice (formed (λ v. ColumnCons'.Unique v.0 v.1) (begun (word K.Unique) (opt_conflict sort)))
    (choice (formed (λ v. ColumnCons'.Collate v.0 v.1) (begun (word K.Collate) (leaf name)))
    (choice (formed (λ v. ColumnCons'.References v) (references sort)) (null_cons sort)))))

unfoldable pub read_plain_cons : (Token → Sort) → Read ColumnCons
read_plain_cons sort = (plain_cons_form sort).read

abbrev pub plain_cons : (sort : Token → Sort) → Reading sort ColumnCons
plain_cons sort = sealed (plain_cons_form sort) (read_plain_cons sort)

-- [GENERATED ALWAYS]
abbrev opt_generated_form : (sort : Token → Sort) → Reading sort (Option TokenPair)
opt_generated_form sort = opt (pair (word K.Generated) (word K.Always))

unfoldable pub read_opt_generated : (Token → Sort) → Read (Option TokenPair)
read_opt_generated sort = (opt_generated_form sort).read

abbrev pub opt_generated : (sort : Token → Sort) → Reading sort (Option TokenPair)
opt_generated sort = sealed (opt_generated_form sort) (read_opt_generated sort)

-- [STORED|VIRTUAL]
abbrev opt_storage_form : List ℕ → (sort : Token → Sort) → Reading sort (Option Token)
opt_storage_form text sort = opt (choice (spelled text stored) (leaf (word K.Virtual)))

unfoldable pub read_opt_storage : List ℕ → (Token → Sort) → Read (Option Token)
read_opt_storage text sort = (opt_storage_form text sort).read

abbrev pub opt_storage : List ℕ → (sort : Token → Sort) → Reading sort (Option Token)
opt_storage text sort = sealed (opt_storage_form text sort) (read_opt_storage text sort)

-- [GENERATED ALWAYS] AS "(" expr ")" [STORED|VIRTUAL]
abbrev generated_cons_form : (sort : Token → Sort) → Outer → Reading sort ColumnCons
generated_cons_form sort outer =
    formed (λ v. ColumnCons'.Generated v.0.0.0 v.0.0.1 v.0.1 v.1)
    (seq (seq (seq (opt_generated sort) (leaf (word K.As))) (expr_parens sort outer.inner)) (opt_storage outer.text sort))

unfoldable pub read_generated_cons : (Token → Sort) → Outer → Read ColumnCons
read_generated_cons sort outer = (generated_cons_form sort outer).read

abbrev pub generated_cons : (sort : Token → Sort) → Outer → Reading sort ColumnCons
generated_cons sort outer = sealed (generated_cons_form sort outer) (read_generated_cons sort outer)

-- how a constraint of a column begins
abbrev pub cons_starts : Look
cons_starts =
    (words
    (K.Constraint ∷ K.Primary ∷ K.Null ∷ K.Unique ∷ K.Check ∷ K.Default ∷ K.Collate ∷ K.References ∷ K.As ∷ [])
    ∷ [])
    ∷ (word K.Not ∷ word K.Null ∷ []) ∷ (word K.Generated ∷ word K.Always ∷ []) ∷ []

-- what a constraint of a column or a table would go on with
abbrev pub cons_goes_on : Look
cons_goes_on =
    (either dot_or_opening
    (either (only Plain)
    (words (K.Asc ∷ K.Desc ∷ K.On ∷ K.AutoIncrement ∷ K.Match ∷ K.Deferrable ∷ K.Initially ∷ K.Virtual ∷ [])))
    ∷ [])
    ∷ (word K.Not ∷ word K.Deferrable ∷ []) ∷ []

-- CHECK "(" expr ")" | DEFAULT default | [GENERATED ALWAYS] AS .. | a constraint without an expression
abbrev column_cons_form : (sort : Token → Sort) → Outer → Reading sort ColumnCons
column_cons_form sort outer =
    widened cons_starts cons_goes_on
    (choice (formed (λ v. ColumnCons'.Check v.0 v.1) (begun (word K.Check) (expr_parens sort outer.inner)))
    (choice (formed (λ v. ColumnCons'.Default v.0 v.1) (begun (word K.Default) (default_value sort outer.inner)))
    (choice (generated_cons sort outer) (plain_cons sort))))

unfoldable pub read_column_cons : (Token → Sort) → Outer → Read ColumnCons
read_column_cons sort outer = (column_cons_form sort outer).read

abbrev pub column_cons : (sort : Token → Sort) → Outer → Reading sort ColumnCons
column_cons sort outer = sealed (column_cons_form sort outer) (read_column_cons sort outer)

-- {column-cons}
abbrev column_constraints_form : (sort : Token → Sort) → Outer → Reading sort (List ColumnCons)
column_constraints_form sort outer = many (column_cons sort outer)

unfoldable pub read_column_constraints : (Token → Sort) → Outer → Read (List ColumnCons)
read_column_constraints sort outer = (column_constraints_form sort outer).read

abbrev pub column_constraints : (sort : Token → Sort) → Outer → Reading sort (List ColumnCons)
column_constraints sort outer = sealed (column_constraints_form sort outer) (read_column_constraints sort outer)

-- what a column would go on with: anything but what ends it
abbrev pub column_goes_on : Look
column_goes_on = (none_of (either (sign Comma) (either (sign Closing) (only End))) ∷ []) ∷ []

-- name [type] {column-cons}
abbrev column_form : (sort : Token → Sort) → Outer → Reading sort Column
column_form sort outer =
    widened ((name ∷ []) ∷ []) column_goes_on
    (formed (λ v. record { name = v.0.0; column_type = v.0.1; constraints = v.1 })
    (seq (seq (leaf name) (opt_type sort)) (column_constraints sort outer)))

unfoldable pub read_column : (Token → Sort) → Outer → Read Column
read_column sort outer = (column_form sort outer).read

abbrev pub column : (sort : Token → Sort) → Outer → Reading sort Column
column sort outer = sealed (column_form sort outer) (read_column sort outer)

-- how a further column begins
abbrev pub next_column_starts : Look
next_column_starts = (sign Comma ∷ name ∷ []) ∷ []

-- "," column
abbrev next_column_form : (sort : Token → Sort) → Outer → Reading sort (NextItem Column)
next_column_form sort outer =
    formed (λ v. record { comma = v.0; item = v.1 }) (lead (sign Comma) (column sort outer))

unfoldable pub read_next_column : (Token → Sort) → Outer → Read (NextItem Column)
read_next_column sort outer = (next_column_form sort outer).read

abbrev pub next_column : (sort : Token → Sort) → Outer → Reading sort (NextItem Column)
next_column sort outer = sealed (next_column_form sort outer) (read_next_column sort outer)

-- {"," column}
abbrev more_columns_form : (sort : Token → Sort) → Outer → Reading sort (List (NextItem Column))
more_columns_form sort outer = many (next_column sort outer)

unfoldable pub read_more_columns : (Token → Sort) → Outer → Read (List (NextItem Column))
read_more_columns sort outer = (more_columns_form sort outer).read

abbrev pub more_columns : (sort : Token → Sort) → Outer → Reading sort (List (NextItem Column))
more_columns sort outer = sealed (more_columns_form sort outer) (read_more_columns sort outer)

-- column {"," column}
abbrev columns_form : (sort : Token → Sort) → Outer → Reading sort (Commas Column)
columns_form sort outer =
    formed (λ v. record { first = v.0; more = v.1 }) (seq (column sort outer) (more_columns sort outer))

unfoldable pub read_columns : (Token → Sort) → Outer → Read (Commas Column)
read_columns sort outer = (columns_form sort outer).read

abbrev pub columns : (sort : Token → Sort) → Outer → Reading sort (Commas Column)
columns sort outer = sealed (columns_form sort outer) (read_columns sort outer)
