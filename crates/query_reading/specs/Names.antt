-- What is read as names of objects and columns, aliases, and lists of names.
use Rattle.std.specs.Prelude.{List, None, Option, Some}
use Rattle.sql_token.specs.declared.token.Token.{Token}
use Rattle.sql_expr.specs.declared.lists.Commas.{Commas}
use Rattle.sql_expr.specs.declared.lists.InParens.{InParens}
use Rattle.sql_expr.specs.declared.lists.NextItem.{NextItem}
use Rattle.sql_expr.specs.declared.lists.TokenPair.{TokenPair}
use Rattle.sql_expr.specs.declared.names.Alias.{Alias}
use Rattle.sql_expr.specs.declared.names.ColumnUse.{ColumnUse}
use Rattle.sql_expr.specs.declared.names.Object.{Object}
use Rattle.sql_reader.specs.Looks.{name, sign, word}
use Rattle.sql_reader.specs.Reading.{Read, Reading, begun, choice, formed, lead, leaf, leaf_before, many, opt, sealed, seq}
use Rattle.sql_reader.specs.declared.sort.Mark.TheVariants.{Dot}
use Rattle.sql_reader.specs.declared.sort.Sort.{Sort}
use Rattle.query_reading.specs.Exprs.{bare_alias, column_name, dot_or_opening, operand_name}
use Rattle.query_reading.specs.Lists.{in_parens, next_item, pair}
use Rattle.sql_expr.specs.declared.names.ColumnUse.TheVariants as ColumnUse'
use Rattle.sql_token.specs.declared.keyword.Keyword.TheVariants as K

-- [name "."]
abbrev qualifier_form : (sort : Token → Sort) → Reading sort (Option TokenPair)
qualifier_form sort = opt (pair name (sign Dot))

unfoldable pub read_qualifier : (Token → Sort) → Read (Option TokenPair)
read_qualifier sort = (qualifier_form sort).read

abbrev pub qualifier : (sort : Token → Sort) → Reading sort (Option TokenPair)
qualifier sort = sealed (qualifier_form sort) (read_qualifier sort)

-- [name "."] name
abbrev object_form : (sort : Token → Sort) → Reading sort Object
object_form sort = formed (λ v. record { qualifier = v.0; name = v.1 }) (seq (qualifier sort) (leaf_before name dot_or_opening))

unfoldable pub read_object : (Token → Sort) → Read Object
read_object sort = (object_form sort).read

abbrev pub object : (sort : Token → Sort) → Reading sort Object
object sort = sealed (object_form sort) (read_object sort)

-- "," name
abbrev next_name_form : (sort : Token → Sort) → Reading sort (NextItem Token)
next_name_form sort = next_item (leaf name)

unfoldable pub read_next_name : (Token → Sort) → Read (NextItem Token)
read_next_name sort = (next_name_form sort).read

abbrev pub next_name : (sort : Token → Sort) → Reading sort (NextItem Token)
next_name sort = sealed (next_name_form sort) (read_next_name sort)

-- {"," name}
abbrev more_names_form : (sort : Token → Sort) → Reading sort (List (NextItem Token))
more_names_form sort = many (next_name sort)

unfoldable pub read_more_names : (Token → Sort) → Read (List (NextItem Token))
read_more_names sort = (more_names_form sort).read

abbrev pub more_names : (sort : Token → Sort) → Reading sort (List (NextItem Token))
more_names sort = sealed (more_names_form sort) (read_more_names sort)

-- name {"," name}
abbrev name_list_form : (sort : Token → Sort) → Reading sort (Commas Token)
name_list_form sort = formed (λ v. record { first = v.0; more = v.1 }) (seq (leaf name) (more_names sort))

unfoldable pub read_name_list : (Token → Sort) → Read (Commas Token)
read_name_list sort = (name_list_form sort).read

abbrev pub name_list : (sort : Token → Sort) → Reading sort (Commas Token)
name_list sort = sealed (name_list_form sort) (read_name_list sort)

-- "(" names ")"
abbrev names_form : (sort : Token → Sort) → Reading sort (InParens (Commas Token))
names_form sort = in_parens (name_list sort)

unfoldable pub read_names : (Token → Sort) → Read (InParens (Commas Token))
read_names sort = (names_form sort).read

abbrev pub names : (sort : Token → Sort) → Reading sort (InParens (Commas Token))
names sort = sealed (names_form sort) (read_names sort)

-- ["(" names ")"]
abbrev opt_names_form : (sort : Token → Sort) → Reading sort (Option (InParens (Commas Token)))
opt_names_form sort = opt (names sort)

unfoldable pub read_opt_names : (Token → Sort) → Read (Option (InParens (Commas Token)))
read_opt_names sort = (opt_names_form sort).read

abbrev pub opt_names : (sort : Token → Sort) → Reading sort (Option (InParens (Commas Token)))
opt_names sort = sealed (opt_names_form sort) (read_opt_names sort)

-- [AS] alias
abbrev alias_form : (sort : Token → Sort) → Reading sort Alias
alias_form sort =
    choice
    (formed (λ v. record { as_word = Some v.0; name = v.1 }) (begun (word K.As) (leaf name)))
    (formed (λ t. record { as_word = None; name = t }) (leaf bare_alias))

unfoldable pub read_alias : (Token → Sort) → Read Alias
read_alias sort = (alias_form sort).read

abbrev pub alias : (sort : Token → Sort) → Reading sort Alias
alias sort = sealed (alias_form sort) (read_alias sort)

-- [[AS] alias]
abbrev opt_alias_form : (sort : Token → Sort) → Reading sort (Option Alias)
opt_alias_form sort = opt (alias sort)

unfoldable pub read_opt_alias : (Token → Sort) → Read (Option Alias)
read_opt_alias sort = (opt_alias_form sort).read

abbrev pub opt_alias : (sort : Token → Sort) → Reading sort (Option Alias)
opt_alias sort = sealed (opt_alias_form sort) (read_opt_alias sort)

-- a use of a column with one name before it, or with two
abbrev pub qualified_use : Token → Token → Token → Option TokenPair → ColumnUse
qualified_use first dot second None = ColumnUse'.Two first dot second
qualified_use first dot second (Some more) = ColumnUse'.Three first dot second more.first more.second

-- ["." name]
abbrev third_name_form : (sort : Token → Sort) → Reading sort (Option TokenPair)
third_name_form sort = opt (pair (sign Dot) name)

unfoldable pub read_third_name : (Token → Sort) → Read (Option TokenPair)
read_third_name sort = (third_name_form sort).read

abbrev pub third_name : (sort : Token → Sort) → Reading sort (Option TokenPair)
third_name sort = sealed (third_name_form sort) (read_third_name sort)

-- name "." name | name "." name "." name
abbrev long_use_form : (sort : Token → Sort) → Reading sort ColumnUse
long_use_form sort =
    formed (λ v. qualified_use v.0.0 v.0.1.0 v.0.1.1 v.1)
    (seq (lead operand_name (lead (sign Dot) (leaf name))) (third_name sort))

unfoldable pub read_long_use : (Token → Sort) → Read ColumnUse
read_long_use sort = (long_use_form sort).read

abbrev pub long_use : (sort : Token → Sort) → Reading sort ColumnUse
long_use sort = sealed (long_use_form sort) (read_long_use sort)

-- name | name "." name | name "." name "." name
abbrev column_use_form : (sort : Token → Sort) → Reading sort ColumnUse
column_use_form sort = choice (formed (λ t. ColumnUse'.One t) (leaf_before column_name dot_or_opening)) (long_use sort)

unfoldable pub read_column_use : (Token → Sort) → Read ColumnUse
read_column_use sort = (column_use_form sort).read

abbrev pub column_use : (sort : Token → Sort) → Reading sort ColumnUse
column_use sort = sealed (column_use_form sort) (read_column_use sort)
