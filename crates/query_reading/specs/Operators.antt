-- What is read as literals, actions and operators between parts.
use Rattle.std.specs.Prelude.{List, None, Option, Some, [], ◌∷◌}
use Rattle.sql_token.specs.declared.keyword.Keyword.{Keyword}
use Rattle.sql_token.specs.declared.token.Token.{Token}
use Rattle.sql_expr.specs.declared.lists.TokenPair.{TokenPair}
use Rattle.sql_expr.specs.declared.operators.Action.{Action}
use Rattle.sql_expr.specs.declared.operators.Infix.{Infix}
use Rattle.sql_expr.specs.declared.operators.Literal.{Literal}
use Rattle.sql_reader.specs.Looks.{Set, both, none_of, number, only, sign, word, words}
use Rattle.sql_reader.specs.Reading.{Read, Reading, begun, choice, formed, lead, leaf, leaf_before, opt, sealed, widened}
use Rattle.sql_reader.specs.declared.sort.Mark.TheVariants.{Tilde}
use Rattle.sql_reader.specs.declared.sort.Sort.{Sort}
use Rattle.sql_reader.specs.declared.sort.Sort.TheVariants.{Blob, Str}
use Rattle.query_reading.specs.Exprs.{dot_or_opening, operator_sign}
use Rattle.query_reading.specs.Lists.{maybe_not, pair}
use Rattle.sql_expr.specs.declared.operators.Action.TheVariants as Action'
use Rattle.sql_expr.specs.declared.operators.Infix.TheVariants as Infix'
use Rattle.sql_token.specs.declared.keyword.Keyword.TheVariants as K
use Rattle.sql_expr.specs.declared.operators.Literal.TheVariants as Literal'

-- NULL | CURRENT_DATE | CURRENT_TIME | CURRENT_TIMESTAMP
abbrev word_literal_form : (sort : Token → Sort) → Reading sort Literal
word_literal_form sort =
    choice (formed (λ t. Literal'.Null t) (leaf (word K.Null)))
    (choice (formed (λ t. Literal'.CurrentDate t) (leaf (word K.CurrentDate)))
    (choice (formed (λ t. Literal'.CurrentTime t) (leaf (word K.CurrentTime)))
    (formed (λ t. Literal'.CurrentTimestamp t) (leaf (word K.CurrentTimestamp)))))

unfoldable pub read_word_literal : (Token → Sort) → Read Literal
read_word_literal sort = (word_literal_form sort).read

abbrev pub word_literal : (sort : Token → Sort) → Reading sort Literal
word_literal sort = sealed (word_literal_form sort) (read_word_literal sort)

-- number | string | blob | NULL | CURRENT_DATE | CURRENT_TIME | CURRENT_TIMESTAMP; a string that begins a use or a call is none
abbrev literal_form : (sort : Token → Sort) → Reading sort Literal
literal_form sort =
    choice (formed (λ t. Literal'.Number t) (leaf number))
    (choice (formed (λ t. Literal'.Str t) (leaf_before (only Str) dot_or_opening))
    (choice (formed (λ t. Literal'.Blob t) (leaf (only Blob))) (word_literal sort)))

unfoldable pub read_literal : (Token → Sort) → Read Literal
read_literal sort = (literal_form sort).read

abbrev pub literal : (sort : Token → Sort) → Reading sort Literal
literal sort = sealed (literal_form sort) (read_literal sort)

-- ROLLBACK | ABORT | FAIL
abbrev action_form : (sort : Token → Sort) → Reading sort Action
action_form sort =
    choice (formed (λ t. Action'.Rollback t) (leaf (word K.Rollback)))
    (choice (formed (λ t. Action'.Abort t) (leaf (word K.Abort)))
    (formed (λ t. Action'.Fail t) (leaf (word K.Fail))))

unfoldable pub read_action : (Token → Sort) → Read Action
read_action sort = (action_form sort).read

abbrev pub action : (sort : Token → Sort) → Reading sort Action
action sort = sealed (action_form sort) (read_action sort)

-- [DISTINCT FROM]
abbrev distinct_from_form : (sort : Token → Sort) → Reading sort (Option TokenPair)
distinct_from_form sort = opt (pair (word K.Distinct) (word K.From))

unfoldable pub read_distinct_from : (Token → Sort) → Read (Option TokenPair)
read_distinct_from sort = (distinct_from_form sort).read

abbrev pub distinct_from : (sort : Token → Sort) → Reading sort (Option TokenPair)
distinct_from sort = sealed (distinct_from_form sort) (read_distinct_from sort)

-- an operator sign other than ~
abbrev pub infix_sign : Set
infix_sign = both operator_sign (none_of (sign Tilde))

-- the words that compare
abbrev pub comparing_words : List Keyword
comparing_words = K.Between ∷ K.Like ∷ K.Glob ∷ K.Regexp ∷ K.Match ∷ []

-- IS NOT [DISTINCT FROM]
abbrev is_not_form : (sort : Token → Sort) → Reading sort Infix
is_not_form sort = formed (λ v. Infix'.Is v.0 (Some v.1.0) v.1.1) (lead (word K.Is) (begun (word K.Not) (distinct_from sort)))

unfoldable pub read_is_not : (Token → Sort) → Read Infix
read_is_not sort = (is_not_form sort).read

abbrev pub is_not : (sort : Token → Sort) → Reading sort Infix
is_not sort = sealed (is_not_form sort) (read_is_not sort)

-- IS DISTINCT FROM
abbrev is_distinct_form : (sort : Token → Sort) → Reading sort Infix
is_distinct_form sort = formed (λ v. Infix'.Is v.0 None (Some v.1)) (lead (word K.Is) (pair (word K.Distinct) (word K.From)))

unfoldable pub read_is_distinct : (Token → Sort) → Read Infix
read_is_distinct sort = (is_distinct_form sort).read

abbrev pub is_distinct : (sort : Token → Sort) → Reading sort Infix
is_distinct sort = sealed (is_distinct_form sort) (read_is_distinct sort)

-- an operator sign other than ~ | AND | OR | IS NOT [DISTINCT FROM] | IS DISTINCT FROM | ESCAPE
-- | [NOT] (BETWEEN | LIKE | GLOB | REGEXP | MATCH): any operator but a bare IS
abbrev operator_form : (sort : Token → Sort) → Reading sort Infix
operator_form sort =
    choice (is_not sort)
    (choice (widened ((word K.Is ∷ word K.Distinct ∷ []) ∷ []) [] (is_distinct sort))
    (choice (formed (λ t. Infix'.And t) (leaf (word K.And)))
    (choice (formed (λ t. Infix'.Or t) (leaf (word K.Or)))
    (choice (formed (λ t. Infix'.Escape t) (leaf (word K.Escape)))
    (choice (formed (λ t. Infix'.Sign t) (leaf infix_sign))
    (formed (λ v. Infix'.Compares v.0 v.1) (maybe_not sort (words comparing_words))))))))

unfoldable pub read_operator : (Token → Sort) → Read Infix
read_operator sort = (operator_form sort).read

abbrev pub operator : (sort : Token → Sort) → Reading sort Infix
operator sort = sealed (operator_form sort) (read_operator sort)
