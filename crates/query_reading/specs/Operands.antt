-- What is read as operands, the parts of an expression, and one level of it.
use Rattle.std.specs.Prelude.{List, None, Option, [], ◌∷◌}
use Rattle.sql_token.specs.declared.token.Token.{Token}
use Rattle.sql_expr.specs.declared.expr.Expr.{Expr, roll-Expr}
use Rattle.sql_expr.specs.declared.expr.InSet.{InSet}
use Rattle.sql_expr.specs.declared.expr.InfixPart.{InfixPart, roll-InfixPart}
use Rattle.sql_expr.specs.declared.expr.Operand.{Operand}
use Rattle.sql_expr.specs.declared.expr.Part.{Part, roll-Part}
use Rattle.sql_expr.specs.declared.expr.Postfix.{Postfix}
use Rattle.sql_expr.specs.declared.lists.Commas.{Commas}
use Rattle.sql_expr.specs.declared.lists.InParens.{InParens}
use Rattle.sql_expr.specs.declared.operators.Infix.{Infix}
use Rattle.sql_expr.specs.declared.select.Select.{Select}
use Rattle.sql_reader.specs.Looks.{Look, Set, either, name, none_of, number, only, sign, word, words}
use Rattle.sql_reader.specs.Reading.{Read, Reading, begun, choice, formed, lead, leaf, leaf_before, many, opt, sealed, seq, widened, without}
use Rattle.sql_reader.specs.declared.sort.Mark.TheVariants.{Closing, Dot, Minus, Opening, Plus, Tilde}
use Rattle.sql_reader.specs.declared.sort.Sort.{Sort}
use Rattle.sql_reader.specs.declared.sort.Sort.TheVariants.{Blob, Str}
use Rattle.query_reading.specs.Calls.{call, case, cast, raise}
use Rattle.query_reading.specs.Exprs.{Inner, column_name, dot_or_opening, expr_goes_on, expr_starts, operand_name, select, select_words}
use Rattle.query_reading.specs.Lists.{in_parens, maybe_not, opt_leaf}
use Rattle.query_reading.specs.Names.{column_use, object}
use Rattle.query_reading.specs.Operators.{comparing_words, infix_sign, literal, operator}
use Rattle.query_reading.specs.Windows.{exprs}
use Rattle.sql_expr.specs.declared.expr.InSet.TheVariants as InSet'
use Rattle.sql_expr.specs.declared.operators.Infix.TheVariants as Infix'
use Rattle.sql_token.specs.declared.keyword.Keyword.TheVariants as K
use Rattle.sql_expr.specs.declared.expr.Operand.TheVariants as Operand'
use Rattle.sql_expr.specs.declared.expr.Postfix.TheVariants as Postfix'

-- exprs, where a select would begin with WITH
abbrev row_form : (sort : Token → Sort) → Inner → Reading sort (Commas Expr)
row_form sort inner = without (words (K.With ∷ [])) (exprs sort inner)

unfoldable pub read_row : (Token → Sort) → Inner → Read (Commas Expr)
read_row sort inner = (row_form sort inner).read

abbrev pub row : (sort : Token → Sort) → Inner → Reading sort (Commas Expr)
row sort inner = sealed (row_form sort inner) (read_row sort inner)

-- "(" exprs ")"
abbrev row_parens_form : (sort : Token → Sort) → Inner → Reading sort (InParens (Commas Expr))
row_parens_form sort inner =
    formed (λ v. record { opening = v.0; inner = v.1.0; closing = v.1.1 })
    (lead (sign Opening) (seq (row sort inner) (leaf (sign Closing))))

unfoldable pub read_row_parens : (Token → Sort) → Inner → Read (InParens (Commas Expr))
read_row_parens sort inner = (row_parens_form sort inner).read

abbrev pub row_parens : (sort : Token → Sort) → Inner → Reading sort (InParens (Commas Expr))
row_parens sort inner = sealed (row_parens_form sort inner) (read_row_parens sort inner)

-- [exprs]
abbrev opt_row_form : (sort : Token → Sort) → Inner → Reading sort (Option (Commas Expr))
opt_row_form sort inner = opt (row sort inner)

unfoldable pub read_opt_row : (Token → Sort) → Inner → Read (Option (Commas Expr))
read_opt_row sort inner = (opt_row_form sort inner).read

abbrev pub opt_row : (sort : Token → Sort) → Inner → Reading sort (Option (Commas Expr))
opt_row sort inner = sealed (opt_row_form sort inner) (read_opt_row sort inner)

-- "(" [exprs] ")" of a set
abbrev list_parens_form : (sort : Token → Sort) → Inner → Reading sort (InParens (Option (Commas Expr)))
list_parens_form sort inner =
    formed (λ v. record { opening = v.0; inner = v.1.0; closing = v.1.1 })
    (lead (sign Opening) (seq (opt_row sort inner) (leaf (sign Closing))))

unfoldable pub read_list_parens : (Token → Sort) → Inner → Read (InParens (Option (Commas Expr)))
read_list_parens sort inner = (list_parens_form sort inner).read

abbrev pub list_parens : (sort : Token → Sort) → Inner → Reading sort (InParens (Option (Commas Expr)))
list_parens sort inner = sealed (list_parens_form sort inner) (read_list_parens sort inner)

-- [exprs] of a function
abbrev opt_exprs_form : (sort : Token → Sort) → Inner → Reading sort (Option (Commas Expr))
opt_exprs_form sort inner = opt (exprs sort inner)

unfoldable pub read_opt_exprs : (Token → Sort) → Inner → Read (Option (Commas Expr))
read_opt_exprs sort inner = (opt_exprs_form sort inner).read

abbrev pub opt_exprs : (sort : Token → Sort) → Inner → Reading sort (Option (Commas Expr))
opt_exprs sort inner = sealed (opt_exprs_form sort inner) (read_opt_exprs sort inner)

-- "(" [exprs] ")" of a function
abbrev arguments_form : (sort : Token → Sort) → Inner → Reading sort (InParens (Option (Commas Expr)))
arguments_form sort inner = in_parens (opt_exprs sort inner)

unfoldable pub read_arguments : (Token → Sort) → Inner → Read (InParens (Option (Commas Expr)))
read_arguments sort inner = (arguments_form sort inner).read

abbrev pub arguments : (sort : Token → Sort) → Inner → Reading sort (InParens (Option (Commas Expr)))
arguments sort inner = sealed (arguments_form sort inner) (read_arguments sort inner)

-- "(" select ")"
abbrev query_form : (sort : Token → Sort) → Inner → Reading sort (InParens Select)
query_form sort inner = in_parens (select inner)

unfoldable pub read_query : (Token → Sort) → Inner → Read (InParens Select)
read_query sort inner = (query_form sort inner).read

abbrev pub query : (sort : Token → Sort) → Inner → Reading sort (InParens Select)
query sort inner = sealed (query_form sort inner) (read_query sort inner)

-- how parentheses begin in which no select stands
abbrev pub parens_starts : Look
parens_starts = (sign Opening ∷ none_of (words select_words) ∷ []) ∷ []

-- "(" select ")" | "(" [exprs] ")" | name "(" [exprs] ")" | object
abbrev in_set_form : (sort : Token → Sort) → Inner → Reading sort InSet
in_set_form sort inner =
    choice (formed (λ v. InSet'.Query v) (query sort inner))
    (choice (formed (λ v. InSet'.List v) (widened parens_starts [] (list_parens sort inner)))
    (choice (formed (λ v. InSet'.Function v.0 v.1) (lead name (arguments sort inner)))
    (formed (λ v. InSet'.Object v) (object sort))))

unfoldable pub read_in_set : (Token → Sort) → Inner → Read InSet
read_in_set sort inner = (in_set_form sort inner).read

abbrev pub in_set : (sort : Token → Sort) → Inner → Reading sort InSet
in_set sort inner = sealed (in_set_form sort inner) (read_in_set sort inner)

-- [EXISTS] "(" select ")"
abbrev subquery_form : (sort : Token → Sort) → Inner → Reading sort (Option Token × InParens Select)
subquery_form sort inner = seq (opt_leaf sort (word K.Exists)) (query sort inner)

unfoldable pub read_subquery : (Token → Sort) → Inner → Read (Option Token × InParens Select)
read_subquery sort inner = (subquery_form sort inner).read

abbrev pub subquery : (sort : Token → Sort) → Inner → Reading sort (Option Token × InParens Select)
subquery sort inner = sealed (subquery_form sort inner) (read_subquery sort inner)

-- "(" exprs ")" | CASE .. | CAST .. | RAISE ..
abbrev other_operand_form : (sort : Token → Sort) → Inner → Reading sort Operand
other_operand_form sort inner =
    choice (formed (λ v. Operand'.Exprs v) (widened parens_starts [] (row_parens sort inner)))
    (choice (formed (λ v. Operand'.Case v) (case sort inner))
    (choice (formed (λ v. Operand'.Cast v) (cast sort inner)) (formed (λ v. Operand'.Raise v) (raise sort inner))))

unfoldable pub read_other_operand : (Token → Sort) → Inner → Read Operand
read_other_operand sort inner = (other_operand_form sort inner).read

abbrev pub other_operand : (sort : Token → Sort) → Inner → Reading sort Operand
other_operand sort inner = sealed (other_operand_form sort inner) (read_other_operand sort inner)

-- how a subquery begins
abbrev pub subquery_starts : Look
subquery_starts = (word K.Exists ∷ []) ∷ (sign Opening ∷ words select_words ∷ []) ∷ []

-- how a literal begins
abbrev pub literal_starts : Look
literal_starts =
    (number ∷ []) ∷ (only Str ∷ none_of dot_or_opening ∷ []) ∷ (only Blob ∷ []) ∷ (word K.Null ∷ []) ∷ (word K.CurrentDate ∷ [])
    ∷ (word K.CurrentTime ∷ []) ∷ (word K.CurrentTimestamp ∷ []) ∷ []

-- how a use of a column begins
abbrev pub column_starts : Look
column_starts = (column_name ∷ none_of dot_or_opening ∷ []) ∷ (operand_name ∷ sign Dot ∷ name ∷ []) ∷ []

-- [EXISTS] "(" select ")" | call | literal | column-use | "(" exprs ")" | CASE .. | CAST .. | RAISE ..
abbrev operand_form : (sort : Token → Sort) → Inner → Reading sort Operand
operand_form sort inner =
    choice (formed (λ v. Operand'.Subquery v.0 v.1) (subquery sort inner))
    (choice (formed (λ v. Operand'.Call v) (call sort inner))
    (choice (formed (λ v. Operand'.Literal v) (literal sort))
    (choice (formed (λ v. Operand'.Column v) (column_use sort)) (other_operand sort inner))))

unfoldable pub read_operand : (Token → Sort) → Inner → Read Operand
read_operand sort inner = (operand_form sort inner).read

abbrev pub operand : (sort : Token → Sort) → Inner → Reading sort Operand
operand sort inner = sealed (operand_form sort inner) (read_operand sort inner)

-- COLLATE name | ISNULL | NOTNULL | NOT NULL | [NOT] IN set
abbrev postfix_form : (sort : Token → Sort) → Inner → Reading sort Postfix
postfix_form sort inner =
    choice (formed (λ v. Postfix'.Collate v.0 v.1) (begun (word K.Collate) (leaf name)))
    (choice (formed (λ t. Postfix'.IsNull t) (leaf (word K.IsNull)))
    (choice (formed (λ t. Postfix'.NotNull t) (leaf (word K.NotNull)))
    (choice (formed (λ v. Postfix'.NotNullWords v.0 v.1) (lead (word K.Not) (leaf (word K.Null))))
    (formed (λ v. Postfix'.In v.0.0 v.0.1 v.1) (seq (maybe_not sort (word K.In)) (in_set sort inner))))))

unfoldable pub read_postfix : (Token → Sort) → Inner → Read Postfix
read_postfix sort inner = (postfix_form sort inner).read

abbrev pub postfix : (sort : Token → Sort) → Inner → Reading sort Postfix
postfix sort inner = sealed (postfix_form sort inner) (read_postfix sort inner)

-- how a postfix begins
abbrev pub postfix_starts : Look
postfix_starts =
    (word K.Collate ∷ []) ∷ (word K.IsNull ∷ []) ∷ (word K.NotNull ∷ []) ∷ (word K.Not ∷ word K.Null ∷ [])
    ∷ (word K.Not ∷ word K.In ∷ []) ∷ (word K.In ∷ []) ∷ []

-- "-" | "+" | "~" | NOT
abbrev pub prefix : Set
prefix = either (sign Minus) (either (sign Plus) (either (sign Tilde) (word K.Not)))

-- {"-" | "+" | "~" | NOT}
abbrev prefixes_form : (sort : Token → Sort) → Reading sort (List Token)
prefixes_form sort = many (leaf prefix)

unfoldable pub read_prefixes : (Token → Sort) → Read (List Token)
read_prefixes sort = (prefixes_form sort).read

abbrev pub prefixes : (sort : Token → Sort) → Reading sort (List Token)
prefixes sort = sealed (prefixes_form sort) (read_prefixes sort)

-- {postfix}
abbrev postfixes_form : (sort : Token → Sort) → Inner → Reading sort (List Postfix)
postfixes_form sort inner = many (postfix sort inner)

unfoldable pub read_postfixes : (Token → Sort) → Inner → Read (List Postfix)
read_postfixes sort inner = (postfixes_form sort inner).read

abbrev pub postfixes : (sort : Token → Sort) → Inner → Reading sort (List Postfix)
postfixes sort inner = sealed (postfixes_form sort inner) (read_postfixes sort inner)

-- a level of a part
abbrev pub part_of : List Token → Operand → List Postfix → Part
part_of prefixes operand postfixes = roll-Part (record { prefixes = prefixes; operand = operand; postfixes = postfixes })

-- {"-" | "+" | "~" | NOT} operand {postfix}
abbrev part_form : (sort : Token → Sort) → Inner → Reading sort Part
part_form sort inner = formed (λ v. part_of v.0.0 v.0.1 v.1) (seq (seq (prefixes sort) (operand sort inner)) (postfixes sort inner))

unfoldable pub read_part : (Token → Sort) → Inner → Read Part
read_part sort inner = (part_form sort inner).read

abbrev pub part : (sort : Token → Sort) → Inner → Reading sort Part
part sort inner = sealed (part_form sort inner) (read_part sort inner)

-- a level of an infix and its part
abbrev pub infix_part_of : Infix → Part → InfixPart
infix_part_of operator part = roll-InfixPart (record { operator = operator; part = part })

-- NOT directly behind IS belongs to IS
abbrev pub bare_is : {sort : Token → Sort} → Reading sort Token
bare_is = leaf_before (word K.Is) (words (K.Not ∷ K.Distinct ∷ []))

-- a part that does not begin with NOT
abbrev free_part_form : (sort : Token → Sort) → Inner → Reading sort Part
free_part_form sort inner = without (words (K.Not ∷ [])) (part sort inner)

unfoldable pub read_free_part : (Token → Sort) → Inner → Read Part
read_free_part sort inner = (free_part_form sort inner).read

abbrev pub free_part : (sort : Token → Sort) → Inner → Reading sort Part
free_part sort inner = sealed (free_part_form sort inner) (read_free_part sort inner)

-- IS part, where the part does not begin with NOT
abbrev is_part_form : (sort : Token → Sort) → Inner → Reading sort (Token × Part)
is_part_form sort inner = seq bare_is (free_part sort inner)

unfoldable pub read_is_part : (Token → Sort) → Inner → Read (Token × Part)
read_is_part sort inner = (is_part_form sort inner).read

abbrev pub is_part : (sort : Token → Sort) → Inner → Reading sort (Token × Part)
is_part sort inner = sealed (is_part_form sort inner) (read_is_part sort inner)

-- what a part would go on with
abbrev pub follows_part : Look
follows_part =
    (either dot_or_opening (words (K.Collate ∷ K.IsNull ∷ K.NotNull ∷ K.In ∷ K.Filter ∷ K.Over ∷ [])) ∷ [])
    ∷ (word K.Not ∷ words (K.Null ∷ K.In ∷ []) ∷ []) ∷ []

-- how an infix begins
abbrev pub infix_starts : Look
infix_starts =
    (either infix_sign (words (K.And ∷ K.Or ∷ K.Is ∷ K.Escape ∷ comparing_words)) ∷ []) ∷ (word K.Not ∷ words comparing_words ∷ []) ∷ []

-- infix part
abbrev infix_part_form : (sort : Token → Sort) → Inner → Reading sort InfixPart
infix_part_form sort inner =
    widened infix_starts follows_part
    (choice (formed (λ v. infix_part_of (Infix'.Is v.0 None None) v.1) (is_part sort inner))
    (formed (λ v. infix_part_of v.0 v.1) (seq (operator sort) (part sort inner))))

unfoldable pub read_infix_part : (Token → Sort) → Inner → Read InfixPart
read_infix_part sort inner = (infix_part_form sort inner).read

abbrev pub infix_part : (sort : Token → Sort) → Inner → Reading sort InfixPart
infix_part sort inner = sealed (infix_part_form sort inner) (read_infix_part sort inner)

-- {infix part}
abbrev infix_parts_form : (sort : Token → Sort) → Inner → Reading sort (List InfixPart)
infix_parts_form sort inner = many (infix_part sort inner)

unfoldable pub read_infix_parts : (Token → Sort) → Inner → Read (List InfixPart)
read_infix_parts sort inner = (infix_parts_form sort inner).read

abbrev pub infix_parts : (sort : Token → Sort) → Inner → Reading sort (List InfixPart)
infix_parts sort inner = sealed (infix_parts_form sort inner) (read_infix_parts sort inner)

-- a level of an expression
abbrev pub expr_of : Part → List InfixPart → Expr
expr_of first more = roll-Expr (record { first = first; more = more })

-- part {infix part}
abbrev expr_level_form : (sort : Token → Sort) → Inner → Reading sort Expr
expr_level_form sort inner = widened expr_starts expr_goes_on (formed (λ v. expr_of v.0 v.1) (seq (part sort inner) (infix_parts sort inner)))

unfoldable pub read_expr_level : (Token → Sort) → Inner → Read Expr
read_expr_level sort inner = (expr_level_form sort inner).read

abbrev pub expr_level : (sort : Token → Sort) → Inner → Reading sort Expr
expr_level sort inner = sealed (expr_level_form sort inner) (read_expr_level sort inner)
