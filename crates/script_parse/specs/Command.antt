-- The commands of a script, each by the tokens between two `;`.
use Rattle.std.specs.Prelude.{◌≡◌, ℕ, Bool, true, false, ◌&&◌, ◌⊎◌, if◌then◌else◌, List, [], ◌∷◌, ◌++◌, None, codes, slice_range}
use Rattle.sql_token.specs.declared.token.Token.{Token}
use Rattle.sql_token.specs.declared.token.TokenKind.{TokenKind}
use Rattle.sql_token.specs.declared.token.TokenKind.TheVariants.{Word}
use Rattle.sql_token.specs.declared.keyword.Keyword.{Keyword}
use Rattle.sql_token.specs.declared.keyword.Keyword.TheVariants as K
use Rattle.sql_token.specs.Fixed.{IsFixed, IsSign, IsName}
use Rattle.sql_token.specs.Names.{SpellsName, folded}
use Rattle.sql_token.specs.Token.{AreTokens}
use Rattle.sql_reader.specs.Looks.{word, name}
use Rattle.sql_reader.specs.Sorts.{sort_of}
use Rattle.sql_tree.specs.Rules.{SpellsColumn, SpellsTable}
use Rattle.sql_tree.specs.declared.command.Command.{Command}
use Rattle.sql_tree.specs.declared.command.Command.TheVariants.{RenameTable, RenameColumn, Add, Drop, Rebuild}
use Rattle.sql_tree.specs.declared.table.Column.{Column as ColumnTree}
use Rattle.sql_tree.specs.declared.table.CreateTable.{CreateTable}

-- the token is a name that spells this
pub record Names (text : List ℕ) (token : Token) (spelled : List ℕ) : Type 0 where
  pub is_name : IsName text token
  pub spells : SpellsName text token spelled

-- the token is a name that spells `main`, in letters of either case
pub record IsMain (text : List ℕ) (token : Token) : Type 0 where
  pub spelled : List ℕ
  pub names : Names text token spelled
  pub main : folded spelled ≡ codes "main"

-- without the word in front, where a name stands behind it
abbrev pub without_word : List ℕ → Keyword → List Token → List Token
without_word text keyword (first ∷ second ∷ tokens) =
    if word keyword (sort_of text first) && name (sort_of text second) then second ∷ tokens else first ∷ second ∷ tokens
without_word text keyword tokens = tokens

-- the end of the last token, or this where there is none
abbrev pub end_of : ℕ → List Token → ℕ
end_of end [] = end
end_of end (token ∷ tokens) = end_of token.end tokens

-- the text's bytes from the first token to the last
abbrev pub bytes_of_all : List ℕ → List Token → List ℕ
bytes_of_all text [] = []
bytes_of_all text (first ∷ tokens) = slice_range text first.start (end_of first.end tokens)

-- the tokens of the text spell the column
pub record IsColumnText (text : List ℕ) (column : ColumnTree) : Type 0 where
  pub list : List Token
  pub tokens : AreTokens text list
  pub spelled : SpellsColumn text column list

-- the tokens of the text spell the table, without IF NOT EXISTS
pub record IsTableText (text : List ℕ) (table : CreateTable) : Type 0 where
  pub list : List Token
  pub tokens : AreTokens text list
  pub spelled : SpellsTable text table list
  pub always : table.if_not_exists ≡ None

-- the kind of a name without quotes
abbrev pub is_bare : TokenKind → Bool
is_bare Word = true
is_bare kind = false

-- behind ALTER TABLE name RENAME: TO name
abbrev pub IsTableRenamed : List ℕ → Token → List Token → Command → Type 0
IsTableRenamed text table (to_word ∷ new ∷ []) (RenameTable of to) =
    Names text table of × IsFixed text K.To to_word × Names text new to
IsTableRenamed text table tokens command = ⊥

-- the command renames the column of the table to the new name
abbrev pub IsColumnNamed : List ℕ → Token → Token → Token → Command → Type 0
IsColumnNamed text table column new (RenameColumn of old to bare) =
    Names text table of × Names text column old × Names text new to × (bare ≡ is_bare new.kind)
IsColumnNamed text table column new command = ⊥

-- behind ALTER TABLE name RENAME [COLUMN]: name TO name
abbrev pub IsColumnRenamed : List ℕ → Token → List Token → Command → Type 0
IsColumnRenamed text table (column ∷ to_word ∷ new ∷ []) command = IsFixed text K.To to_word × IsColumnNamed text table column new command
IsColumnRenamed text table tokens command = ⊥

-- behind ALTER TABLE name ADD [COLUMN]: a column's definition
abbrev pub IsAdded : List ℕ → Token → List Token → Command → Type 0
IsAdded text table tokens (Add of body column) =
    Names text table of × (body ≡ bytes_of_all text tokens) × IsColumnText body column
IsAdded text table tokens command = ⊥

-- behind ALTER TABLE name DROP [COLUMN]: name
abbrev pub IsDropped : List ℕ → Token → List Token → Command → Type 0
IsDropped text table (column ∷ []) (Drop of old) = Names text table of × Names text column old
IsDropped text table tokens command = ⊥

-- behind ALTER TABLE: name RENAME .., name ADD .. or name DROP ..
abbrev pub IsAltered : List ℕ → List Token → Command → Type 0
IsAltered text (table ∷ verb ∷ tokens) command =
    (IsFixed text K.Rename verb
    × (IsTableRenamed text table tokens command ⊎ IsColumnRenamed text table (without_word text K.Column tokens) command))
    ⊎ (IsFixed text K.Add verb × IsAdded text table (without_word text K.Column tokens) command)
    ⊎ (IsFixed text K.Drop verb × IsDropped text table (without_word text K.Column tokens) command)
IsAltered text tokens command = ⊥

-- the same behind `main` and a dot
abbrev pub IsQualified : List ℕ → List Token → Command → Type 0
IsQualified text (qualifier ∷ dot ∷ tokens) command =
    IsMain text qualifier × IsSign text (codes ".") dot × IsAltered text tokens command
IsQualified text tokens command = ⊥

-- behind ALTER: TABLE [main.]name RENAME .., ADD .. or DROP ..
abbrev pub IsAlter : List ℕ → List Token → Command → Type 0
IsAlter text (table_word ∷ tokens) command =
    IsFixed text K.Table table_word × (IsAltered text tokens command ⊎ IsQualified text tokens command)
IsAlter text tokens command = ⊥

-- the command rebuilds the table by a definition whose tokens from its name on are these
abbrev pub IsDefined : List ℕ → Token → List Token → Command → Type 0
IsDefined text table tokens (Rebuild of body definition) =
    Names text table of × (body ≡ codes "CREATE TABLE " ++ bytes_of_all text tokens) × IsTableText body definition
IsDefined text table tokens command = ⊥

-- behind REBUILD [TABLE]: name AS CREATE TABLE and a table's definition from its name on
abbrev pub IsRebuilt : List ℕ → List Token → Command → Type 0
IsRebuilt text (table ∷ as_word ∷ create ∷ table_word ∷ tokens) command =
    IsFixed text K.As as_word × IsFixed text K.Create create × IsFixed text K.Table table_word × IsDefined text table tokens command
IsRebuilt text tokens command = ⊥

-- the tokens between two `;` are this command
abbrev pub IsCommand : List ℕ → List Token → Command → Type 0
IsCommand text (first ∷ tokens) command =
    (IsFixed text K.Alter first × IsAlter text tokens command)
    ⊎ (IsFixed text K.Rebuild first × IsRebuilt text (without_word text K.Table tokens) command)
IsCommand text [] command = ⊥
