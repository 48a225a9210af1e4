-- What is told of the names of a text, and what that shows: columns and rowid names.
use Rattle.std.specs.Prelude.{ℕ, ◌==◌, cond, List, [], ◌∷◌, map, codes, Option, Some, None}
use Rattle.std.specs.Option.{option_map_or}
use Rattle.sql_token.specs.declared.token.Token.{Token}
use Rattle.sql_expr.specs.declared.names.ColumnUse.{ColumnUse}
use Rattle.sql_expr.specs.declared.names.ColumnUse.TheVariants as ColumnUse'
use Rattle.sql_expr.specs.declared.names.Object.{Object}
use Rattle.name_scope.specs.declared.identity.Identity.{Identity}
use Rattle.name_scope.specs.declared.identity.Identity.TheVariants as identity
use Rattle.name_rules.specs.Levels.{numbered}
use Rattle.name_rules.specs.World.{Joined, Label, Reply, Shown, Text, World}
use Rattle.name_rules.specs.World.Label.{FixedName, ObjectName}
use Rattle.name_rules.specs.World.Reply.{One, Pairs, Two}

-- the name tokens of a column-use
abbrev pub use_names : ColumnUse → List Token
use_names (ColumnUse'.One name) = name ∷ []
use_names (ColumnUse'.Two table dot column) = table ∷ column ∷ []
use_names (ColumnUse'.Three schema first_dot table second_dot column) = schema ∷ table ∷ column ∷ []

-- its first token
abbrev pub use_start : ColumnUse → Token
use_start (ColumnUse'.One name) = name
use_start (ColumnUse'.Two table dot column) = table
use_start (ColumnUse'.Three schema first_dot table second_dot column) = schema

-- its last token
abbrev pub use_end : ColumnUse → Token
use_end (ColumnUse'.One name) = name
use_end (ColumnUse'.Two table dot column) = column
use_end (ColumnUse'.Three schema first_dot table second_dot column) = column

-- the name tokens of an object
abbrev pub object_names : Object → List Token
object_names x = option_map_or (λ pair. pair.first ∷ x.name ∷ []) x.qualifier (x.name ∷ [])

-- its first token
abbrev pub object_start : Object → Token
object_start x = option_map_or (λ pair. pair.first) x.qualifier x.name

-- the names of the columns of the schema table, and of the two table functions
abbrev schema_columns : List (List ℕ)
schema_columns = codes "type" ∷ codes "name" ∷ codes "tbl_name" ∷ codes "rootpage" ∷ codes "sql" ∷ []

abbrev json_columns : List (List ℕ)
json_columns =
    codes "key" ∷ codes "value" ∷ codes "type" ∷ codes "atom" ∷ codes "id" ∷ codes "parent" ∷ codes "fullkey" ∷ codes "path" ∷ []

abbrev fixed_column : ℕ → ℕ → List ℕ → Shown
fixed_column number place name = record { name = Some (FixedName name); what = identity.Fixed number (Some place) }

-- the columns of a fixed object
abbrev pub fixed_columns : ℕ → List Shown
fixed_columns number = numbered (fixed_column number) 0 (cond (number == 0) schema_columns json_columns)

-- what the rowid names of a fixed object stand for: the schema table alone has them
abbrev pub fixed_rowid : ℕ → Option Identity
fixed_rowid number = cond (number == 0) (Some (identity.Fixed number (Some 5))) None

module _ (world : World) where
  -- the columns of what a source name stands for
  abbrev pub columns_of : Identity → List Shown
  columns_of (identity.Fixed number None) = fixed_columns number
  columns_of what = world.columns what

  -- what its rowid names stand for, if it has them
  abbrev pub rowid_of : Identity → Option Identity
  rowid_of (identity.Fixed number None) = fixed_rowid number
  rowid_of (identity.Object row) = world.rowid row
  rowid_of what = None

  -- the columns of a source of which this is told: none where its name denotes nothing
  abbrev pub columns_by : Reply → List Shown
  columns_by (One source what label) = columns_of what
  columns_by _ = []

  abbrev pub rowid_by : Reply → Option Identity
  rowid_by (One source what label) = rowid_of what
  rowid_by _ = None

-- the columns that a join joins away, of which this is told
abbrev pub away_by : Reply → List Joined
away_by (Two left right) = right ∷ []
away_by (Pairs pairs) = map (λ pair. pair.1) pairs
away_by _ = []

module _ (text : Text) (world : World) where
  -- what is told of the use that begins at the token
  abbrev pub told : Token → Reply
  told t = world.replies text.row (text.place t)

  -- the name of a source without alias: that of its object, or else as it is spelled there
  abbrev pub name_by : Reply → Token → Option Label
  name_by (One source (identity.Object row) label) t = Some (ObjectName row)
  name_by _ t = Some (FixedName (text.spelled t))

  -- the label of a result column that is a use of which this is told: a rowid's is the name as it is spelled there
  abbrev pub label_by : Reply → Token → Option Label
  label_by (One source (identity.Rowid row) label) t = Some (FixedName (text.spelled t))
  label_by (One source (identity.Fixed number (Some place)) label) t =
      cond (place == 5) (cond (number == 0) (Some (FixedName (text.spelled t))) label) label
  label_by (One source what label) t = label
  label_by _ t = None

  -- a source is known by the place of its first token
  abbrev pub source_at : Token → Identity
  source_at t = identity.Source text.row (text.place t ∷ [])
