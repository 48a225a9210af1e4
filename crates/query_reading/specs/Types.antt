-- What is read as the type of a column.
use Rattle.std.specs.Prelude.{List, Option, [], ◌∷◌}
use Rattle.sql_token.specs.declared.token.Token.{Token}
use Rattle.sql_expr.specs.declared.lists.InParens.{InParens}
use Rattle.sql_expr.specs.declared.lists.NextItem.{NextItem}
use Rattle.sql_expr.specs.declared.names.ColumnType.{ColumnType}
use Rattle.sql_expr.specs.declared.names.Signed.{Signed}
use Rattle.sql_expr.specs.declared.names.TypeSize.{TypeSize}
use Rattle.sql_reader.specs.Looks.{Look, Set, both, either, join_word, name, none_of, number, sign, word}
use Rattle.sql_reader.specs.Reading.{Read, Reading, choice, formed, leaf, leaf_before, many, opt, sealed, seq, widened}
use Rattle.sql_reader.specs.declared.sort.Mark.TheVariants.{Minus, Opening, Plus}
use Rattle.sql_reader.specs.declared.sort.Sort.{Sort}
use Rattle.query_reading.specs.Lists.{in_parens, next_item, opt_leaf}
use Rattle.sql_token.specs.declared.keyword.Keyword.TheVariants as K

-- a name in a type
abbrev pub type_name : Set
type_name = both name (none_of join_word)

-- a name in a type other than GENERATED
abbrev pub other_name : Set
other_name = both type_name (none_of (word K.Generated))

-- how a name in a type begins
abbrev pub type_name_starts : Look
type_name_starts = (other_name ∷ []) ∷ (word K.Generated ∷ none_of (word K.Always) ∷ []) ∷ []

-- a name in a type, but GENERATED only where ALWAYS does not follow
abbrev next_type_name_form : (sort : Token → Sort) → Reading sort Token
next_type_name_form sort = choice (leaf other_name) (leaf_before (word K.Generated) (word K.Always))

unfoldable pub read_next_type_name : (Token → Sort) → Read Token
read_next_type_name sort = (next_type_name_form sort).read

abbrev pub next_type_name : (sort : Token → Sort) → Reading sort Token
next_type_name sort = sealed (next_type_name_form sort) (read_next_type_name sort)

-- {type-name}
abbrev more_type_names_form : (sort : Token → Sort) → Reading sort (List Token)
more_type_names_form sort = many (next_type_name sort)

unfoldable pub read_more_type_names : (Token → Sort) → Read (List Token)
read_more_type_names sort = (more_type_names_form sort).read

abbrev pub more_type_names : (sort : Token → Sort) → Reading sort (List Token)
more_type_names sort = sealed (more_type_names_form sort) (read_more_type_names sort)

-- ["+"|"-"] number
abbrev signed_form : (sort : Token → Sort) → Reading sort Signed
signed_form sort = formed (λ v. record { sign = v.0; number = v.1 }) (seq (opt_leaf sort (either (sign Plus) (sign Minus))) (leaf number))

unfoldable pub read_signed : (Token → Sort) → Read Signed
read_signed sort = (signed_form sort).read

abbrev pub signed : (sort : Token → Sort) → Reading sort Signed
signed sort = sealed (signed_form sort) (read_signed sort)

-- ["," signed]
abbrev second_size_form : (sort : Token → Sort) → Reading sort (Option (NextItem Signed))
second_size_form sort = opt (next_item (signed sort))

unfoldable pub read_second_size : (Token → Sort) → Read (Option (NextItem Signed))
read_second_size sort = (second_size_form sort).read

abbrev pub second_size : (sort : Token → Sort) → Reading sort (Option (NextItem Signed))
second_size sort = sealed (second_size_form sort) (read_second_size sort)

-- signed ["," signed]
abbrev type_size_form : (sort : Token → Sort) → Reading sort TypeSize
type_size_form sort = formed (λ v. record { first = v.0; second = v.1 }) (seq (signed sort) (second_size sort))

unfoldable pub read_type_size : (Token → Sort) → Read TypeSize
read_type_size sort = (type_size_form sort).read

abbrev pub type_size : (sort : Token → Sort) → Reading sort TypeSize
type_size sort = sealed (type_size_form sort) (read_type_size sort)

-- ["(" signed ["," signed] ")"]
abbrev opt_size_form : (sort : Token → Sort) → Reading sort (Option (InParens TypeSize))
opt_size_form sort = opt (widened ((sign Opening ∷ []) ∷ []) [] (in_parens (type_size sort)))

unfoldable pub read_opt_size : (Token → Sort) → Read (Option (InParens TypeSize))
read_opt_size sort = (opt_size_form sort).read

abbrev pub opt_size : (sort : Token → Sort) → Reading sort (Option (InParens TypeSize))
opt_size sort = sealed (opt_size_form sort) (read_opt_size sort)

-- type-name {type-name} ["(" signed ["," signed] ")"]
abbrev column_type_form : (sort : Token → Sort) → Reading sort ColumnType
column_type_form sort =
    formed (λ v. record { first = v.0.0; more = v.0.1; size = v.1 })
    (seq (seq (next_type_name sort) (more_type_names sort)) (opt_size sort))

unfoldable pub read_column_type : (Token → Sort) → Read ColumnType
read_column_type sort = (column_type_form sort).read

abbrev pub column_type : (sort : Token → Sort) → Reading sort ColumnType
column_type sort = sealed (column_type_form sort) (read_column_type sort)

-- [type]
abbrev opt_type_form : (sort : Token → Sort) → Reading sort (Option ColumnType)
opt_type_form sort = opt (column_type sort)

unfoldable pub read_opt_type : (Token → Sort) → Read (Option ColumnType)
read_opt_type sort = (opt_type_form sort).read

abbrev pub opt_type : (sort : Token → Sort) → Reading sort (Option ColumnType)
opt_type sort = sealed (opt_type_form sort) (read_opt_type sort)
