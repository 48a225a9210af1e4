-- How a text is read: what its tokens spell, what stands at a place of it, and what is asked there. No name stands in it but
-- fixed ones: what stands at a level has a label, which says where its name comes from.
use Rattle.std.specs.Prelude.{ℕ, Bool, List, Option}
use Rattle.sql_token.specs.declared.token.Token.{Token}
use Rattle.name_scope.specs.declared.identity.Identity.{Identity}

-- where a name comes from: the declaration of a column of an object, that of an object, or it stands as it is
pub data Label : Type 0 where
  ColumnName : ℕ → ℕ → Label
  ObjectName : ℕ → Label
  FixedName : List ℕ → Label

-- a column that a source shows, with the label of its name, if it has one
pub record Shown : Type 0 where
  pub name : Option Label
  pub what : Identity

-- A source: its name, its columns in order, and what its rowid names stand for, if it has them.
pub record Origin : Type 0 where
  pub source : Identity
  pub name : Option Label
  pub columns : List Shown
  pub rowid : Option Identity

-- a column of a source, as USING and NATURAL join it
pub record Joined : Type 0 where
  pub source : Identity
  pub what : Identity

-- A binder as it stands at a level.
pub record Binding : Type 0 where
  pub class : ℕ
  pub place : ℕ
  pub qualifier : Option Label
  pub qualified_only : Bool
  pub source : Option Identity
  pub name : Option Label
  pub what : Identity

-- What is told of a use. One has the label of its name: an item that is this use inherits it.
pub data Reply : Type 0 where
  Nothing : Reply
  Literal : Reply
  Unbound : Reply
  One : Option Identity → Identity → Option Label → Reply
  Two : Joined → Joined → Reply
  Pairs : List (Joined × Joined) → Reply
  Keys : Identity → List Identity → Reply

-- What a use asks for, by its place in the grammar.
pub data Asking : Type 0 where
  -- a column-use
  ColumnUse : Asking
  -- a name that is set, or listed after INTO, UPDATE OF or FOREIGN KEY
  Listed : Asking
  -- a source, the object after IN, the target of a statement
  SourceName : Asking
  -- a name before parentheses in FROM or after IN
  Function : Asking
  -- the table of an index, the table or view of a trigger
  Owner : Asking
  -- the index after INDEXED BY, with what the source before it denotes
  IndexedBy : Reply → Asking
  -- the name before `.*`
  StarSource : Asking
  -- a name in USING
  Using : Asking
  -- the word NATURAL
  NaturalWord : Asking
  -- the table after REFERENCES, with a list or without one
  Parent : Bool → Asking
  -- a name in such a list, with what the parent denotes
  ParentColumn : Reply → Asking

-- a use as it is asked: its name tokens, and the levels where it stands, the nearest first
pub record Ask : Type 0 where
  pub asking : Asking
  pub tokens : List Token
  pub levels : List (List Binding)

-- What a text demands.
pub data Demand : Type 0 where
  -- a use is answered
  Asks : Ask → Demand
  -- two numbers of columns are equal; the token is the place of the fault
  Counts : Token → ℕ → ℕ → Demand
  -- the columns of a table, a view or a WITH name are these
  Shows : Identity → List Shown → Demand
  -- the rowid names of the object stand for this, or it has none
  HasRowid : ℕ → Option Identity → Demand
  -- the columns of the table's primary key are these
  HasKey : ℕ → List Identity → Demand
  -- no earlier column of the table, at its name token, has the name of this one
  IsNew : Token → List Token → Demand
  -- the body of the WITH name has these source names; its own name may stand for these sources
  HasBody : Identity → List Token → List Identity → Demand

-- The row of a text and the number of its tokens; of each token its place (its ordinal), its bytes, and the name that it spells.
pub record Text : Type 0 where
  pub row : ℕ
  pub size : ℕ
  pub place : Token → ℕ
  pub bytes : Token → List ℕ
  pub spelled : Token → List ℕ

-- What is told of each use by its row and place; the columns of each table, view and WITH name; what the rowid names of the object
-- of a row stand for, if it has them; and the columns of the primary key of the table of a row.
pub record World : Type 0 where
  pub replies : ℕ → ℕ → Reply
  pub columns : Identity → List Shown
  pub rowid : ℕ → Option Identity
  pub key : ℕ → List Identity

-- where an expression or a select stands: its levels for columns and those for source names, the nearest first
pub record Where : Type 0 where
  pub columns : List (List Binding)
  pub sources : List (List Binding)
