-- The texts of tables that are served so far: CREATE TABLE name ( column, column .. ), where a column is one or more
-- words, the first of them its name, and no word but CREATE and TABLE is one of SQL's.
use Rattle.std.specs.Prelude.{◌≡◌, ℕ, List, [], ◌∷◌, ◌++◌, Option, Result, codes}
use Rattle.std.specs.List.{AllByRecursion}
use Rattle.std.specs.Option.{IsSomeAnd}
use Rattle.std.specs.declared.alloc.AllocError.{AllocError}
use Rattle.common_laws.specs.Results.{AnyError, Yields}
use Rattle.sql_token.specs.declared.token.Token.{Token}
use Rattle.sql_token.specs.declared.keyword.Keyword.TheVariants.{Create, Table}
use Rattle.sql_token.specs.Token.{AreTokens}
use Rattle.sql_token.specs.Fixed.{IsFixed, IsSign}
use Rattle.plain_sql.specs.declared.table.TableText.{TableText}
use Rattle.plain_sql.specs.Words.{IsPlainName, IsPlain}

-- each of the tokens is a word and none of SQL's
abbrev pub ArePlain : List ℕ → List Token → Type 0
ArePlain text tokens = AllByRecursion (IsPlain text) tokens

-- a column of this name: its name, and the words of its type
pub record IsPlainColumn (text : List ℕ) (tokens : List Token) (name : List ℕ) : Type 0 where
  pub first : Token
  pub others : List Token
  pub whole : tokens ≡ first ∷ others
  pub named : IsPlainName text first name
  pub plain : ArePlain text others

-- columns of these names, one at least, with a comma between each two
abbrev pub AreColumns : List ℕ → List Token → List (List ℕ) → Type 0
AreColumns text tokens [] = ⊥
AreColumns text tokens (name ∷ []) = IsPlainColumn text tokens name
AreColumns text tokens (name ∷ next ∷ names) =
    (column : List Token) × (comma : Token) × (others : List Token) × (tokens ≡ column ++ comma ∷ others)
    × IsPlainColumn text column name × IsSign text (codes ",") comma × AreColumns text others (next ∷ names)

-- the place behind the last of the tokens
abbrev pub last_end : List Token → ℕ
last_end [] = 0
last_end (token ∷ []) = token.end
last_end (token ∷ next ∷ tokens) = last_end (next ∷ tokens)

-- the text makes a table of this name with these columns, the last of which ends at this place
pub record SpellsTable (text name : List ℕ) (columns : List (List ℕ)) (end : ℕ) : Type 0 where
  pub create_word : Token
  pub table_word : Token
  pub title : Token
  pub left : Token
  pub inside : List Token
  pub right : Token
  pub tokens : AreTokens text (create_word ∷ table_word ∷ title ∷ left ∷ inside ++ right ∷ [])
  pub creates : IsFixed text Create create_word
  pub table : IsFixed text Table table_word
  pub named : IsPlainName text title name
  pub opens : IsSign text (codes "(") left
  pub are_columns : AreColumns text inside columns
  pub closes : IsSign text (codes ")") right
  pub ends : end ≡ last_end inside

-- a table of this name with these columns and this place behind them was read, unless memory ran out
abbrev pub IsTableReadAs : List ℕ → List (List ℕ) → ℕ → Result (Option TableText) AllocError → Type 0
IsTableReadAs name columns end result =
    Yields AnyError (λ read. IsSomeAnd read (λ table. (table.name ≡ name) × (table.columns ≡ columns) × (table.columns_end ≡ end))) result

-- the four fixed tokens of a table's text
pub record IsTableFrame (text : List ℕ) (create_word table_word left right : Token) : Type 0 where
  pub creates : IsFixed text Create create_word
  pub table : IsFixed text Table table_word
  pub opens : IsSign text (codes "(") left
  pub closes : IsSign text (codes ")") right

-- nothing follows, or first a token that is no word or one of SQL's
abbrev pub IsBeyondWords : List ℕ → List Token → Type 0
IsBeyondWords text [] = Unit {0}
IsBeyondWords text (token ∷ tokens) = IsPlain text token → ⊥

-- the others are what stands behind all words in front that are none of SQL's
pub record IsBehindWords (text : List ℕ) (tokens others : List Token) : Type 0 where
  pub words : List Token
  pub whole : tokens ≡ words ++ others
  pub plain : ArePlain text words
  pub stop : IsBeyondWords text others

-- a column of this name is in front of the others
pub record BeginsColumn (text : List ℕ) (tokens : List Token) (name : List ℕ) (others : List Token) : Type 0 where
  pub column : List Token
  pub whole : tokens ≡ column ++ others
  pub is_column : IsPlainColumn text column name
  pub stop : IsBeyondWords text others
