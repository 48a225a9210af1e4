-- The scripts that are served so far: commands ALTER TABLE name ADD [COLUMN] name, ended by `;`, whose names are words
-- and none of SQL's. The last `;` may be absent, and an empty command is none.
use Rattle.std.specs.Prelude.{◌≡◌, ◌≤◌, ℕ, List, [], ◌∷◌, ◌++◌, length, codes, Option, Result, Vec}
use Rattle.std.specs.List.{AllByRecursion}
use Rattle.std.specs.Option.{IsSomeAnd}
use Rattle.std.specs.declared.alloc.AllocError.{AllocError}
use Rattle.std.specs.declared.alloc.Global.{Global}
use Rattle.common_laws.specs.Results.{AnyError, Yields}
use Rattle.sql_token.specs.declared.token.Token.{Token}
use Rattle.sql_token.specs.declared.keyword.Keyword.TheVariants.{Alter, Table, Add, Column}
use Rattle.sql_token.specs.Token.{AreTokens}
use Rattle.sql_token.specs.Fixed.{IsFixed, IsSign}
use Rattle.plain_sql.specs.declared.script.Command.{Command}
use Rattle.plain_sql.specs.Words.{IsPlainName, IsPlainWord}

-- the word COLUMN, or nothing
abbrev pub IsColumnWord : List ℕ → List Token → Type 0
IsColumnWord text [] = Unit {0}
IsColumnWord text (token ∷ []) = IsFixed text Column token
IsColumnWord text (token ∷ next ∷ tokens) = ⊥

-- the tokens are this command
pub record SpellsCommand (text : List ℕ) (tokens : List Token) (command : Command) : Type 0 where
  pub alter_word : Token
  pub table_word : Token
  pub table : Token
  pub add_word : Token
  pub column_word : List Token
  pub column : Token
  pub whole : tokens ≡ alter_word ∷ table_word ∷ table ∷ add_word ∷ column_word ++ column ∷ []
  pub alters : IsFixed text Alter alter_word
  pub table_fixed : IsFixed text Table table_word
  pub table_name : IsPlainName text table command.table
  pub adds : IsFixed text Add add_word
  pub column_fixed : IsColumnWord text column_word
  pub column_name : IsPlainName text column command.column

-- each of the tokens is a `;`
abbrev pub AreEnds : List ℕ → List Token → Type 0
AreEnds text tokens = AllByRecursion (IsSign text (codes ";")) tokens

-- nothing follows, or a `;` first
abbrev pub IsEnded : List ℕ → List Token → Type 0
IsEnded text [] = Unit {0}
IsEnded text (token ∷ tokens) = IsSign text (codes ";") token

-- the tokens are these commands
abbrev pub SpellsCommands : List ℕ → List Token → List Command → Type 0
SpellsCommands text tokens [] = AreEnds text tokens
SpellsCommands text tokens (command ∷ commands) =
    (before : List Token) × (piece : List Token) × (others : List Token) × (tokens ≡ before ++ piece ++ others)
    × AreEnds text before × SpellsCommand text piece command × IsEnded text others × SpellsCommands text others commands

-- the text has these commands
pub record IsCommandList (text : List ℕ) (commands : List Command) : Type 0 where
  pub list : List Token
  pub tokens : AreTokens text list
  pub spelled : SpellsCommands text list commands

-- the text is a script of these commands, at most 10,000
pub record IsScript (text : List ℕ) (commands : List Command) : Type 0 where
  pub listed : IsCommandList text commands
  pub few : length commands ≤ 10000

-- these commands were read, unless memory ran out
abbrev pub IsListReadAs : List Command → Result (Option (Vec Command Global)) AllocError → Type 0
IsListReadAs commands result = Yields AnyError (λ read. IsSomeAnd read (λ list. list.items ≡ commands)) result

-- both names of the command are words and none of SQL's
pub record IsPlainCommand (command : Command) : Type 0 where
  pub table : IsPlainWord command.table
  pub column : IsPlainWord command.column

-- both names of the command are no longer than the text
pub record IsWithin (text : List ℕ) (command : Command) : Type 0 where
  pub table : length command.table ≤ length text
  pub column : length command.column ≤ length text

-- the fixed words of a command
pub record IsAdd (text : List ℕ) (alter_word table_word add_word : Token) : Type 0 where
  pub alters : IsFixed text Alter alter_word
  pub table_fixed : IsFixed text Table table_word
  pub adds : IsFixed text Add add_word

-- the others are what stands behind the word COLUMN, or all
pub record IsBehindColumnWord (text : List ℕ) (tokens others : List Token) : Type 0 where
  pub word : List Token
  pub whole : tokens ≡ word ++ others
  pub fixed : IsColumnWord text word

-- a command of these names is in front of the others
pub record BeginsCommand (text : List ℕ) (tokens : List Token) (table column : List ℕ) (others : List Token) : Type 0 where
  pub piece : List Token
  pub whole : tokens ≡ piece ++ others
  pub spelled : SpellsCommand text piece (record { table = table; column = column })

-- nothing follows, or first another token than a `;`
abbrev pub IsBeyondEnds : List ℕ → List Token → Type 0
IsBeyondEnds text [] = Unit {0}
IsBeyondEnds text (token ∷ tokens) = IsSign text (codes ";") token → ⊥

-- the others are what stands behind each `;` in front
pub record IsBehindEnds (text : List ℕ) (tokens others : List Token) : Type 0 where
  pub ends : List Token
  pub whole : tokens ≡ ends ++ others
  pub are_ends : AreEnds text ends
  pub stop : IsBeyondEnds text others
