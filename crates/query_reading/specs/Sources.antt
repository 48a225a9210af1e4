-- What is read behind FROM, and one level of it.
use Rattle.std.specs.Prelude.{List, Option, [], ◌++◌, ◌∷◌}
use Rattle.sql_token.specs.declared.keyword.Keyword.{Keyword}
use Rattle.sql_token.specs.declared.token.Token.{Token}
use Rattle.sql_expr.specs.declared.expr.Expr.{Expr}
use Rattle.sql_expr.specs.declared.lists.InParens.{InParens}
use Rattle.sql_expr.specs.declared.source.Indexing.{Indexing}
use Rattle.sql_expr.specs.declared.source.Join.{Join}
use Rattle.sql_expr.specs.declared.source.JoinConstraint.{JoinConstraint}
use Rattle.sql_expr.specs.declared.source.JoinKind.{JoinKind}
use Rattle.sql_expr.specs.declared.source.JoinedSource.{JoinedSource, roll-JoinedSource}
use Rattle.sql_expr.specs.declared.source.Sources.{Sources, roll-Sources}
use Rattle.sql_expr.specs.declared.source.TableSource.{TableSource}
use Rattle.sql_reader.specs.Looks.{Look, name, sign, word, words}
use Rattle.sql_reader.specs.Reading.{Read, Reading, begun, choice, formed, lead, leaf, many, opt, sealed, seq, widened, without}
use Rattle.sql_reader.specs.declared.sort.Mark.TheVariants.{Comma}
use Rattle.sql_reader.specs.declared.sort.Sort.{Sort}
use Rattle.query_reading.specs.Exprs.{Inner, expr, sources, sources_goes_on, sources_starts}
use Rattle.query_reading.specs.Lists.{after, in_parens, opt_leaf}
use Rattle.query_reading.specs.Names.{names, object, opt_alias}
use Rattle.query_reading.specs.Operands.{arguments, parens_starts, query}
use Rattle.sql_expr.specs.declared.source.Indexing.TheVariants as Indexing'
use Rattle.sql_expr.specs.declared.source.Join.TheVariants as Join'
use Rattle.sql_expr.specs.declared.source.JoinConstraint.TheVariants as JoinConstraint'
use Rattle.sql_expr.specs.declared.source.JoinKind.TheVariants as JoinKind'
use Rattle.sql_token.specs.declared.keyword.Keyword.TheVariants as K
use Rattle.sql_expr.specs.declared.source.TableSource.TheVariants as TableSource'

-- INDEXED BY name | NOT INDEXED
abbrev indexing_form : (sort : Token → Sort) → Reading sort Indexing
indexing_form sort =
    choice (formed (λ v. Indexing'.By v.0 v.1.0 v.1.1) (begun (word K.Indexed) (begun (word K.By) (leaf name))))
    (formed (λ v. Indexing'.Not v.0 v.1) (begun (word K.Not) (leaf (word K.Indexed))))

unfoldable pub read_indexing : (Token → Sort) → Read Indexing
read_indexing sort = (indexing_form sort).read

abbrev pub indexing : (sort : Token → Sort) → Reading sort Indexing
indexing sort = sealed (indexing_form sort) (read_indexing sort)

-- [INDEXED BY name | NOT INDEXED]
abbrev opt_indexing_form : (sort : Token → Sort) → Reading sort (Option Indexing)
opt_indexing_form sort = opt (indexing sort)

unfoldable pub read_opt_indexing : (Token → Sort) → Read (Option Indexing)
read_opt_indexing sort = (opt_indexing_form sort).read

abbrev pub opt_indexing : (sort : Token → Sort) → Reading sort (Option Indexing)
opt_indexing sort = sealed (opt_indexing_form sort) (read_opt_indexing sort)

-- LEFT | RIGHT | FULL
abbrev pub sides : List Keyword
sides = K.Left ∷ K.Right ∷ K.Full ∷ []

-- (LEFT|RIGHT|FULL) [OUTER] | INNER | CROSS
abbrev join_kind_form : (sort : Token → Sort) → Reading sort JoinKind
join_kind_form sort =
    choice (formed (λ v. JoinKind'.Outer v.0 v.1) (begun (words sides) (opt_leaf sort (word K.Outer))))
    (choice (formed (λ t. JoinKind'.Inner t) (leaf (word K.Inner))) (formed (λ t. JoinKind'.Cross t) (leaf (word K.Cross))))

unfoldable pub read_join_kind : (Token → Sort) → Read JoinKind
read_join_kind sort = (join_kind_form sort).read

abbrev pub join_kind : (sort : Token → Sort) → Reading sort JoinKind
join_kind sort = sealed (join_kind_form sort) (read_join_kind sort)

-- how a kind of join begins, and a join
abbrev pub join_kind_starts : Look
join_kind_starts = (words sides ∷ []) ∷ (word K.Inner ∷ []) ∷ (word K.Cross ∷ []) ∷ []

abbrev pub join_starts : Look
join_starts = (sign Comma ∷ []) ∷ (word K.Natural ∷ []) ∷ (join_kind_starts ++ (word K.Join ∷ []) ∷ [])

-- [kind]
abbrev opt_join_kind_form : (sort : Token → Sort) → Reading sort (Option JoinKind)
opt_join_kind_form sort = opt (join_kind sort)

unfoldable pub read_opt_join_kind : (Token → Sort) → Read (Option JoinKind)
read_opt_join_kind sort = (opt_join_kind_form sort).read

abbrev pub opt_join_kind : (sort : Token → Sort) → Reading sort (Option JoinKind)
opt_join_kind sort = sealed (opt_join_kind_form sort) (read_opt_join_kind sort)

-- "," | [NATURAL] [kind] JOIN
abbrev join_form : (sort : Token → Sort) → Reading sort Join
join_form sort =
    choice (formed (λ t. Join'.Comma t) (leaf (sign Comma)))
    (formed (λ v. Join'.Join v.0.0 v.0.1 v.1)
    (seq (seq (opt_leaf sort (word K.Natural)) (opt_join_kind sort)) (leaf (word K.Join))))

unfoldable pub read_join : (Token → Sort) → Read Join
read_join sort = (join_form sort).read

abbrev pub join : (sort : Token → Sort) → Reading sort Join
join sort = sealed (join_form sort) (read_join sort)

-- ON expr | USING "(" names ")"
abbrev join_constraint_form : (sort : Token → Sort) → Inner → Reading sort (JoinConstraint Expr)
join_constraint_form sort inner =
    choice (formed (λ v. JoinConstraint'.On v) (after K.On (expr inner)))
    (formed (λ v. JoinConstraint'.Using v.0 v.1) (begun (word K.Using) (names sort)))

unfoldable pub read_join_constraint : (Token → Sort) → Inner → Read (JoinConstraint Expr)
read_join_constraint sort inner = (join_constraint_form sort inner).read

abbrev pub join_constraint : (sort : Token → Sort) → Inner → Reading sort (JoinConstraint Expr)
join_constraint sort inner = sealed (join_constraint_form sort inner) (read_join_constraint sort inner)

-- [ON expr | USING "(" names ")"]
abbrev opt_join_constraint_form : (sort : Token → Sort) → Inner → Reading sort (Option (JoinConstraint Expr))
opt_join_constraint_form sort inner = opt (join_constraint sort inner)

unfoldable pub read_opt_join_constraint : (Token → Sort) → Inner → Read (Option (JoinConstraint Expr))
read_opt_join_constraint sort inner = (opt_join_constraint_form sort inner).read

abbrev pub opt_join_constraint : (sort : Token → Sort) → Inner → Reading sort (Option (JoinConstraint Expr))
opt_join_constraint sort inner = sealed (opt_join_constraint_form sort inner) (read_opt_join_constraint sort inner)

-- sources, where a select would begin with WITH
abbrev inner_sources_form : (sort : Token → Sort) → Inner → Reading sort Sources
inner_sources_form sort inner = without (words (K.With ∷ [])) (sources inner)

unfoldable pub read_inner_sources : (Token → Sort) → Inner → Read Sources
read_inner_sources sort inner = (inner_sources_form sort inner).read

abbrev pub inner_sources : (sort : Token → Sort) → Inner → Reading sort Sources
inner_sources sort inner = sealed (inner_sources_form sort inner) (read_inner_sources sort inner)

-- "(" sources ")"
abbrev sources_parens_form : (sort : Token → Sort) → Inner → Reading sort (InParens Sources)
sources_parens_form sort inner = in_parens (inner_sources sort inner)

unfoldable pub read_sources_parens : (Token → Sort) → Inner → Read (InParens Sources)
read_sources_parens sort inner = (sources_parens_form sort inner).read

abbrev pub sources_parens : (sort : Token → Sort) → Inner → Reading sort (InParens Sources)
sources_parens sort inner = sealed (sources_parens_form sort inner) (read_sources_parens sort inner)

-- object [[AS] alias] [INDEXED BY name | NOT INDEXED]
abbrev table_form : (sort : Token → Sort) → Reading sort TableSource
table_form sort = formed (λ v. TableSource'.Table v.0.0 v.0.1 v.1) (seq (seq (object sort) (opt_alias sort)) (opt_indexing sort))

unfoldable pub read_table : (Token → Sort) → Read TableSource
read_table sort = (table_form sort).read

abbrev pub table : (sort : Token → Sort) → Reading sort TableSource
table sort = sealed (table_form sort) (read_table sort)

-- name "(" [exprs] ")" [[AS] alias]
abbrev table_function_form : (sort : Token → Sort) → Inner → Reading sort TableSource
table_function_form sort inner = formed (λ v. TableSource'.TableFunction v.0.0 v.0.1 v.1) (seq (lead name (arguments sort inner)) (opt_alias sort))

unfoldable pub read_table_function : (Token → Sort) → Inner → Read TableSource
read_table_function sort inner = (table_function_form sort inner).read

abbrev pub table_function : (sort : Token → Sort) → Inner → Reading sort TableSource
table_function sort inner = sealed (table_function_form sort inner) (read_table_function sort inner)

-- "(" select ")" [[AS] alias]
abbrev derived_form : (sort : Token → Sort) → Inner → Reading sort TableSource
derived_form sort inner = formed (λ v. TableSource'.Derived v.0 v.1) (seq (query sort inner) (opt_alias sort))

unfoldable pub read_derived : (Token → Sort) → Inner → Read TableSource
read_derived sort inner = (derived_form sort inner).read

abbrev pub derived : (sort : Token → Sort) → Inner → Reading sort TableSource
derived sort inner = sealed (derived_form sort inner) (read_derived sort inner)

-- "(" select ")" [[AS] alias] | "(" sources ")" | name "(" [exprs] ")" [[AS] alias]
-- | object [[AS] alias] [INDEXED BY name | NOT INDEXED]
abbrev table_source_form : (sort : Token → Sort) → Inner → Reading sort TableSource
table_source_form sort inner =
    choice (derived sort inner)
    (choice (formed (λ v. TableSource'.Sources v) (widened parens_starts [] (sources_parens sort inner)))
    (choice (table_function sort inner) (table sort)))

unfoldable pub read_table_source : (Token → Sort) → Inner → Read TableSource
read_table_source sort inner = (table_source_form sort inner).read

abbrev pub table_source : (sort : Token → Sort) → Inner → Reading sort TableSource
table_source sort inner = sealed (table_source_form sort inner) (read_table_source sort inner)

-- a level of a joined source
abbrev pub joined_source_of : Join → TableSource → Option (JoinConstraint Expr) → JoinedSource
joined_source_of join source constraint = roll-JoinedSource (record { join = join; source = source; constraint = constraint })

-- join source [ON expr | USING "(" names ")"]
abbrev joined_source_form : (sort : Token → Sort) → Inner → Reading sort JoinedSource
joined_source_form sort inner =
    formed (λ v. joined_source_of v.0.0 v.0.1 v.1)
    (seq (seq (join sort) (table_source sort inner)) (opt_join_constraint sort inner))

unfoldable pub read_joined_source : (Token → Sort) → Inner → Read JoinedSource
read_joined_source sort inner = (joined_source_form sort inner).read

abbrev pub joined_source : (sort : Token → Sort) → Inner → Reading sort JoinedSource
joined_source sort inner = sealed (joined_source_form sort inner) (read_joined_source sort inner)

-- {join source [ON expr | USING "(" names ")"]}
abbrev joined_sources_form : (sort : Token → Sort) → Inner → Reading sort (List JoinedSource)
joined_sources_form sort inner = many (joined_source sort inner)

unfoldable pub read_joined_sources : (Token → Sort) → Inner → Read (List JoinedSource)
read_joined_sources sort inner = (joined_sources_form sort inner).read

abbrev pub joined_sources : (sort : Token → Sort) → Inner → Reading sort (List JoinedSource)
joined_sources sort inner = sealed (joined_sources_form sort inner) (read_joined_sources sort inner)

-- a level of sources
abbrev pub sources_of : TableSource → List JoinedSource → Sources
sources_of first more = roll-Sources (record { first = first; more = more })

-- source {join source [ON expr | USING "(" names ")"]}
abbrev sources_level_form : (sort : Token → Sort) → Inner → Reading sort Sources
sources_level_form sort inner =
    widened sources_starts sources_goes_on
    (formed (λ v. sources_of v.0 v.1) (seq (table_source sort inner) (joined_sources sort inner)))

unfoldable pub read_sources_level : (Token → Sort) → Inner → Read Sources
read_sources_level sort inner = (sources_level_form sort inner).read

abbrev pub sources_level : (sort : Token → Sort) → Inner → Reading sort Sources
sources_level sort inner = sealed (sources_level_form sort inner) (read_sources_level sort inner)
