-- Which binders a renaming moves, and how each use of a schema meets it.
use Rattle.std.specs.Prelude.{◌≡◌, ◌↔◌, ℕ, ◌==◌, Bool, true, false, ◌&&◌, IsTrue, List, [], ◌∷◌, ◌++◌, map, flat_map, filter, Option, Some, None, nat_eq}
use Rattle.std.specs.Option.{option_map_or}
use Rattle.std.specs.Cmp.Lexicographic.{pointwise}
use Rattle.std.specs.List.{list_any}
use Rattle.sql_token.specs.declared.token.Token.{Token}
use Rattle.name_scope.specs.declared.identity.Identity.{Identity}
use Rattle.name_scope.specs.declared.row.Row.{Row}
use Rattle.name_scope.specs.Rank.{Seen}
use Rattle.name_rules.specs.Answers.{HasLiteralForm, left_side, right_side}
use Rattle.name_rules.specs.Asked.{Asked, IsFirstClash, IsRight, Met, Question, SchemaUse, Spot}
use Rattle.name_rules.specs.Asked.Question.{ForColumn, ForObject, ForOther, ForSource}
use Rattle.name_rules.specs.Asked.SchemaUse.{Natural, OneTarget, TwoTargets}
use Rattle.name_rules.specs.Identities.{numbers_of}
use Rattle.name_rules.specs.Naming.{Placed, binders_of, name_of, placed_in, seen_of, spelling_of}
use Rattle.name_rules.specs.Part.{Part}
use Rattle.name_rules.specs.Part.Part.{Name, Qualifier}
use Rattle.name_rules.specs.Renaming.{Renaming}
use Rattle.name_rules.specs.Schema.{Schema, demands_at, is_read, naming_of}
use Rattle.name_rules.specs.World.{Ask, Asking, Binding, Demand, Label, World}
use Rattle.name_rules.specs.World.Asking.{ColumnUse, Function, IndexedBy, Listed, NaturalWord, Owner, Parent, ParentColumn, SourceName, StarSource, Using}
use Rattle.name_rules.specs.World.Demand.{Asks}
use Rattle.name_rules.specs.World.Label.{ColumnName, ObjectName}

-- A renaming of a schema: of the table of a row, or of a column of it, to a new name.
pub data Command : Type 0 where
  RenamesTable : ℕ → List ℕ → Command
  RenamesColumn : ℕ → ℕ → List ℕ → Command

-- the label whose name changes, and the new name
abbrev pub label_of : Command → Label
label_of (RenamesTable row new) = ObjectName row
label_of (RenamesColumn row ordinal new) = ColumnName row ordinal

abbrev pub new_name : Command → List ℕ
new_name (RenamesTable row new) = new
new_name (RenamesColumn row ordinal new) = new

abbrev is_label : Label → Label → Bool
is_label (ColumnName row ordinal) (ColumnName other place) = row == other && ordinal == place
is_label (ObjectName row) (ObjectName other) = row == other
is_label _ _ = false

-- what a use asks for
abbrev pub question_of : Asking → Question
question_of ColumnUse = ForColumn
question_of Listed = ForColumn
question_of Using = ForColumn
question_of SourceName = ForObject
question_of Owner = ForObject
question_of StarSource = ForSource
question_of _ = ForOther

-- whether such a use can clash: no name after REFERENCES or INDEXED BY can, and no table function
abbrev pub may_clash : Asking → Bool
may_clash (Parent listed) = false
may_clash (ParentColumn parent) = false
may_clash (IndexedBy source) = false
may_clash Function = false
may_clash _ = true

-- The part of such a use that a renaming replaces, if it replaces one: of a table, the qualifier of a column and the name of an
-- object or a source; of a column, the name of a column.
abbrev pub part_of_question : Command → Question → Option Part
part_of_question (RenamesTable row new) ForColumn = Some Qualifier
part_of_question (RenamesTable row new) ForObject = Some Name
part_of_question (RenamesTable row new) ForSource = Some Name
part_of_question (RenamesColumn row ordinal new) ForColumn = Some Name
part_of_question _ _ = None

-- where the name of a binder comes from, or that of its source
abbrev pub label_in : Part → Binding → Option Label
label_in Name b = b.name
label_in Qualifier b = b.qualifier

-- the use of a part: the token that stands there
abbrev pub token_in : Part → List Token → Option Token
token_in Name (name ∷ []) = Some name
token_in Name (source ∷ name ∷ []) = Some name
token_in Name (database ∷ source ∷ name ∷ []) = Some name
token_in Qualifier (source ∷ name ∷ []) = Some source
token_in Qualifier (database ∷ source ∷ name ∷ []) = Some source
token_in _ _ = None

module _ (schema : Schema) (world : World) where
  abbrev asks_among : List Demand → List Ask
  asks_among [] = []
  asks_among (Asks a ∷ more) = a ∷ asks_among more
  asks_among (d ∷ more) = asks_among more

  -- the binders of all uses of the text of a row
  abbrev binders_at : Row → List Placed
  binders_at r = flat_map (binders_of schema.rows (schema.texts r.rowid)) (asks_among (demands_at schema world r.rowid))

  -- The binder moves: its name in the part comes from what is renamed.
  abbrev has_label : Command → Part → Binding → Bool
  has_label command part b = option_map_or (is_label (label_of command)) (label_in part b) false

  abbrev is_this : Option Identity → Identity → Binding → Bool
  is_this source what b = pointwise nat_eq (numbers_of b.source) (numbers_of source) && pointwise nat_eq (numbers_of (Some b.what)) (numbers_of (Some what))

  -- which binders move, by their sources and what they stand for, at any use of the schema
  abbrev pub moves_at : Command → Part → Option Identity → Identity → Bool
  moves_at command part source what =
      list_any (λ p. is_this source what p.1 && has_label command part p.1) (flat_map binders_at (filter is_read schema.rows))

  -- the renaming as each use meets it
  abbrev pub met_of : Command → Met
  met_of command question = met (part_of_question command question)
    where
      met : Option Part → Option Renaming
      met None = None
      met (Some part) = Some (record {
        part = part;
        old = name_of (naming_of schema) (label_of command);
        new = new_name command;
        moves = moves_at command part;
      })

  -- the binders of these levels as they are seen
  abbrev seen_at : List (List Binding) → List Seen
  seen_at levels = map (seen_of (naming_of schema)) (placed_in 0 levels)

  -- the use of these binders as it is asked
  pub record IsAskedOf (row : ℕ) (a : Ask) (standing : List Seen) (x : Asked) : Type 0 where
    pub question : x.question ≡ question_of a.asking
    pub spot : (part : Part) (t : Token) → token_in part a.tokens ≡ Some t → x.spot part ≡ record { row = row; at = t.start }
    pub spelling : x.spelling ≡ spelling_of (schema.texts row) a
    pub binders : x.binders ≡ standing
    pub literal : IsTrue x.may_be_literal ↔ HasLiteralForm schema.rows (naming_of schema) world (schema.texts row) a.tokens
    pub right : IsRight x

  -- The use of a schema that is asked so: a name in USING has a target on each side, NATURAL the columns of both.
  abbrev pub IsUseBy : Asking → ℕ → Ask → SchemaUse → Type 0
  IsUseBy Using row a (TwoTargets left right) =
      IsAskedOf row a (seen_at (left_side a.levels)) left × IsAskedOf row a (seen_at (right_side a.levels)) right
  IsUseBy Using row a _ = ⊥
  IsUseBy NaturalWord row a (Natural spot left right) =
      ((t : Token) → token_in Name a.tokens ≡ Some t → spot ≡ record { row = row; at = t.start })
      × (left ≡ seen_at (left_side a.levels)) × (right ≡ seen_at (right_side a.levels))
  IsUseBy NaturalWord row a _ = ⊥
  IsUseBy _ row a (OneTarget x) = IsAskedOf row a (map (seen_of (naming_of schema)) (binders_of schema.rows (schema.texts row) a)) x
  IsUseBy _ row a _ = ⊥

  -- these are the uses that the asks ask for
  abbrev pub AreUses : ℕ → List Ask → List SchemaUse → Type 0
  AreUses row [] [] = Unit {0}
  AreUses row (a ∷ more) (x ∷ uses) = IsUseBy a.asking row a x × AreUses row more uses
  AreUses row _ _ = ⊥

  -- the uses of all texts of these rows that can clash, in order
  abbrev pub AreUsesOf : List Row → List SchemaUse → Type 0
  AreUsesOf [] uses = uses ≡ []
  AreUsesOf (r ∷ more) uses =
      (own : List SchemaUse) × (others : List SchemaUse) × (uses ≡ own ++ others)
      × AreUses r.rowid (filter (λ a. may_clash a.asking) (asks_among (demands_at schema world r.rowid))) own × AreUsesOf more others

  -- The first clash of a renaming in a valid schema of this world.
  pub record IsFirstClashOf (command : Command) (spot : Spot) : Type 0 where
    pub uses : List SchemaUse
    pub of_schema : AreUsesOf (filter is_read schema.rows) uses
    pub first : IsFirstClash (met_of command) uses spot
