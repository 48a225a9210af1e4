-- What is handed in: the readings of the trees that stand inside a tree, whose looks are known.
use Rattle.std.specs.Prelude.{List, [], false, true, ◌||◌, ◌∷◌}
use Rattle.sql_token.specs.declared.keyword.Keyword.{Keyword}
use Rattle.sql_token.specs.declared.token.Token.{Token}
use Rattle.sql_expr.specs.declared.expr.Expr.{Expr}
use Rattle.sql_expr.specs.declared.select.Select.{Select}
use Rattle.sql_expr.specs.declared.source.Sources.{Sources}
use Rattle.sql_reader.specs.Looks.{Look, Set, any_sign, both, either, join_word, name, none_of, number, only, sign, words}
use Rattle.sql_reader.specs.Reading.{Read, Reading, child}
use Rattle.sql_reader.specs.declared.sort.Mark.TheVariants.{Closing, Comma, Dot, Minus, Opening, Plus, Semicolon, Tilde}
use Rattle.sql_reader.specs.declared.sort.Sort.{Sort}
use Rattle.sql_reader.specs.declared.sort.Sort.TheVariants.{Blob, End, Sign, Str}
use Rattle.sql_token.specs.declared.keyword.Keyword.TheVariants as K

-- the readings that are handed in
pub record Inner : Type 0 where
  pub expr : Read Expr
  pub select : Read Select
  pub sources : Read Sources

-- a name that may begin an operand
abbrev pub operand_name : Set
operand_name =
    both name (none_of (words (K.Cast ∷ K.Raise ∷ K.CurrentDate ∷ K.CurrentTime ∷ K.CurrentTimestamp ∷ [])))

-- a column's name that stands alone
abbrev pub column_name : Set
column_name = both operand_name (none_of (only Str))

-- what makes a name before it the front of a longer use or of a call
abbrev pub dot_or_opening : Set
dot_or_opening = either (sign Dot) (sign Opening)

-- a token that begins an expression and is no name
abbrev pub begins_expr : Set
begins_expr (Sign Opening) = true
begins_expr (Sign Minus) = true
begins_expr (Sign Plus) = true
begins_expr (Sign Tilde) = true
begins_expr s =
    number s || only Blob s
    || words (K.Not ∷ K.Null ∷ K.Exists ∷ K.Case ∷ K.Cast ∷ K.Raise ∷ K.CurrentDate ∷ K.CurrentTime ∷ K.CurrentTimestamp ∷ []) s

-- an operator sign: a sign other than ( ) , ; .
abbrev pub operator_sign : Set
operator_sign =
    both any_sign (both (none_of (sign Opening)) (both (none_of (sign Closing)) (both (none_of (sign Comma))
    (both (none_of (sign Semicolon)) (both (none_of (sign Dot)) (λ _. true))))))

-- how an expression begins: with another token, with a name and no dot, or with a name, a dot and a name
abbrev pub expr_starts : Look
expr_starts =
    (begins_expr ∷ []) ∷ (operand_name ∷ none_of (sign Dot) ∷ []) ∷ (operand_name ∷ sign Dot ∷ name ∷ []) ∷ []

-- what an expression would go on with
abbrev pub follows_expr : Set
follows_expr (Sign Opening) = true
follows_expr (Sign Dot) = true
follows_expr (Sign Tilde) = false
follows_expr s =
    operator_sign s
    || words
    (K.Collate ∷ K.IsNull ∷ K.NotNull ∷ K.Not ∷ K.In ∷ K.And ∷ K.Or ∷ K.Is ∷ K.Escape ∷ K.Between ∷ K.Like ∷ K.Glob
    ∷ K.Regexp ∷ K.Match ∷ K.Filter ∷ K.Over ∷ []) s

abbrev pub expr_goes_on : Look
expr_goes_on = (follows_expr ∷ []) ∷ []

-- an alias without AS
abbrev pub bare_alias : Set
bare_alias =
    both name (both (none_of join_word)
    (none_of (words (K.Window ∷ K.Over ∷ K.Filter ∷ K.Like ∷ K.Glob ∷ K.Regexp ∷ K.Match ∷ []))))

-- how a select begins
abbrev pub select_words : List Keyword
select_words = K.With ∷ K.Select ∷ K.Values ∷ []

abbrev pub select_starts : Look
select_starts = (words select_words ∷ []) ∷ []

-- what a select would go on with: anything but what ends it
abbrev pub select_goes_on : Look
select_goes_on = (none_of (either (sign Closing) (either (sign Semicolon) (only End))) ∷ []) ∷ []

-- how sources begin
abbrev pub sources_starts : Look
sources_starts = (either name (sign Opening) ∷ []) ∷ []

-- what sources would go on with
abbrev pub follows_sources : Set
follows_sources s =
    follows_expr s || bare_alias s || join_word s || sign Comma s || words (K.As ∷ K.On ∷ K.Using ∷ K.Join ∷ []) s

abbrev pub sources_goes_on : Look
sources_goes_on = (follows_sources ∷ []) ∷ []

-- an expression that is handed in
abbrev pub expr : {sort : Token → Sort} → Inner → Reading sort Expr
expr inner = child expr_starts expr_goes_on inner.expr

-- a select that is handed in
abbrev pub select : {sort : Token → Sort} → Inner → Reading sort Select
select inner = child select_starts select_goes_on inner.select

-- sources that are handed in
abbrev pub sources : {sort : Token → Sort} → Inner → Reading sort Sources
sources inner = child sources_starts sources_goes_on inner.sources
