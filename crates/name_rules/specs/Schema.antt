-- A schema as it is read, and what its world must be.
use Rattle.std.specs.Prelude.{◌≡◌, ◌≢◌, ◌⊎◌, ℕ, Bool, false, ◌&&◌, not, IsTrue, List, [], ◌∷◌, length, slice_get, Contains, Option, Some, None, is_none}
use Rattle.std.specs.Option.{option_map_or}
use Rattle.sql_token.specs.declared.token.Token.{Token}
use Rattle.sql_token.specs.Names.{SpellsName}
use Rattle.sql_token.specs.Token.{AreTokens, span}
use Rattle.sql_tree.specs.Nesting.{FirstTooDeep}
use Rattle.sql_tree.specs.Rules.{SpellsTree}
use Rattle.sql_tree.specs.declared.tree.Tree.{Tree}
use Rattle.sql_tree.specs.declared.tree.Tree.TheVariants as Tree'
use Rattle.name_scope.specs.declared.identity.Identity.TheVariants as identity
use Rattle.name_scope.specs.declared.row.Row.{Row}
use Rattle.name_scope.specs.declared.row.RowKind.TheVariants as kind
use Rattle.name_scope.specs.Sees.{is_index, is_virtual, row_of, same_names}
use Rattle.name_rules.specs.Answers.{IsRightOf}
use Rattle.name_rules.specs.Naming.{Naming}
use Rattle.name_rules.specs.Tables.{declared}
use Rattle.name_rules.specs.Texts.{demands_of}
use Rattle.name_rules.specs.Told.{told}
use Rattle.name_rules.specs.World.{Ask, Demand, Reply, Text, World}
use Rattle.name_rules.specs.World.Reply.{Nothing}
use Rattle.name_rules.specs.World.Demand.{Asks, Counts, HasKey, HasRowid, IsNew, Shows}

-- The rows of a schema, and of each row the tokens of its text, the text by them, and the tree that they spell, if there is one.
pub record Schema : Type 0 where
  pub rows : List Row
  pub tokens : ℕ → List Token
  pub texts : ℕ → Text
  pub trees : ℕ → Option Tree

-- the text is told of these bytes and their tokens
pub record IsTextOf (rowid : ℕ) (sql : List ℕ) (tokens : List Token) (text : Text) : Type 0 where
  pub row : text.row ≡ rowid
  pub size : text.size ≡ length tokens
  pub place : (n : ℕ) (t : Token) → slice_get tokens n ≡ Some t → text.place t ≡ n
  pub bytes : (t : Token) → text.bytes t ≡ span sql t
  pub spelled : (t : Token) (name : List ℕ) → SpellsName sql t name → text.spelled t ≡ name

-- nothing is read of virtual tables and of indexes without a text
abbrev pub is_read : Row → Bool
is_read r = not (is_virtual r) && not (is_index r.kind && is_none r.sql)

-- the tree is of the row's type, name and table
abbrev pub agrees : Text → Row → Tree → Type 0
agrees text r (Tree'.Table x) =
    (r.kind ≡ kind.Table) × IsTrue (same_names (text.spelled x.name) r.name) × IsTrue (same_names r.table r.name)
agrees text r (Tree'.Index x) =
    (r.kind ≡ kind.Index) × IsTrue (same_names (text.spelled x.name) r.name) × IsTrue (same_names (text.spelled x.table) r.table)
agrees text r (Tree'.View x) =
    (r.kind ≡ kind.View) × IsTrue (same_names (text.spelled x.name) r.name) × IsTrue (same_names r.table r.name)
agrees text r (Tree'.Trigger x) =
    (r.kind ≡ kind.Trigger) × IsTrue (same_names (text.spelled x.name) r.name)
    × IsTrue (same_names (text.spelled x.head.object.name) r.table)

-- The text of the row is read as this tree: it nests not too deep, and the tree spells it and agrees with the row.
pub record IsReadAs (r : Row) (bytes : List ℕ) (tokens : List Token) (text : Text) (tree : Tree) : Type 0 where
  pub stored : r.sql ≡ Some bytes
  pub cut : AreTokens bytes tokens
  pub told : IsTextOf r.rowid bytes tokens text
  pub shallow : (at : ℕ) → ¬ FirstTooDeep bytes tokens at
  pub spelled : SpellsTree bytes tree tokens
  pub agreed : agrees text r tree

-- the names that a schema gives: those of its rows, and of the columns that its tables declare
abbrev column_name : Text → Tree → ℕ → List ℕ
column_name text (Tree'.Table x) ordinal = option_map_or (λ c. text.spelled c.name) (slice_get (declared x) ordinal) []
column_name text _ ordinal = []

abbrev pub naming_of : Schema → Naming
naming_of schema = record {
  object = λ row. option_map_or (λ r. r.name) (row_of schema.rows row) [];
  column = λ row ordinal. option_map_or (λ tree. column_name (schema.texts row) tree ordinal) (schema.trees row) [];
}

module _ (schema : Schema) where
  -- what the schema has of the row is what can be read of it
  pub record IsKnown (r : Row) : Type 0 where
    pub bytes : List ℕ
    pub tree : Tree
    pub read : IsReadAs r bytes (schema.tokens r.rowid) (schema.texts r.rowid) tree
    pub known : schema.trees r.rowid ≡ Some tree

  -- each object of which something is read can be read
  abbrev pub IsReadable : Type 0
  IsReadable = (r : Row) → Contains schema.rows r → IsTrue (is_read r) → IsKnown r

  module _ (world : World) where
    -- what the text of a row demands
    abbrev pub demands_at : ℕ → List Demand
    demands_at row = option_map_or (demands_of (schema.texts row) world) (schema.trees row) []

    -- what is told of the use that an ask asks for: its first token's
    abbrev pub told_of : ℕ → Ask → Reply
    told_of row a = told_first a.tokens
      where
        told_first : List Token → Reply
        told_first [] = Nothing
        told_first (t ∷ more) = told (schema.texts row) world t

    -- the world is as the demand says
    abbrev pub IsMet : ℕ → Demand → Type 0
    IsMet row (Asks a) = IsRightOf schema.rows (naming_of schema) world (schema.texts row) a (told_of row a)
    IsMet row (Shows what columns) = world.columns what ≡ columns
    IsMet row (HasRowid object rowid) = world.rowid object ≡ rowid
    IsMet row (HasKey object key) = world.key object ≡ key
    IsMet row _ = Unit {0}

    -- nothing is shown by the object of the row
    pub record IsBlank (row : ℕ) : Type 0 where
      pub columns : world.columns (identity.Object row) ≡ []
      pub rowid : world.rowid row ≡ None
      pub key : world.key row ≡ []

    -- The world of a schema: what is told of each use is what it denotes, and each object shows what its text says. What is not
    -- read shows nothing.
    pub record IsWorld : Type 0 where
      pub met : (r : Row) → Contains schema.rows r → IsTrue (is_read r) → (d : Demand) → Contains (demands_at r.rowid) d → IsMet r.rowid d
      pub blank : (r : Row) → Contains schema.rows r → is_read r ≡ false → IsBlank r.rowid

    -- Some earlier column has the name.
    abbrev IsAgain : Text → Token → List Token → Type 0
    IsAgain text t [] = ⊥
    IsAgain text t (earlier ∷ more) = IsTrue (same_names (text.spelled t) (text.spelled earlier)) ⊎ IsAgain text t more

    abbrev IsFirst : List Token → Token → Type 0
    IsFirst [] t = ⊥
    IsFirst (first ∷ more) t = t ≡ first

    -- A fault of the text, at this token: a use denotes nothing, two numbers of columns differ, or a column's name stands again.
    abbrev pub IsFaultAt : ℕ → Demand → Token → Type 0
    IsFaultAt row (Asks a) t = (told_of row a ≡ Nothing) × IsFirst a.tokens t
    IsFaultAt row (Counts at m n) t = (t ≡ at) × (m ≢ n)
    IsFaultAt row (IsNew at earlier) t = (t ≡ at) × IsAgain (schema.texts row) at earlier
    IsFaultAt row _ t = ⊥

    -- the text of the row has a fault at the token
    pub record HasFault (row : ℕ) (t : Token) : Type 0 where
      pub demand : Demand
      pub demanded : Contains (demands_at row) demand
      pub fault : IsFaultAt row demand t
