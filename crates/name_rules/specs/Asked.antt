-- The uses of a schema as they are asked, each with all binders where it stands, and the first clash among them.
use Rattle.std.specs.Prelude.{◌≡◌, ◌<◌, ℕ, Bool, IsTrue, ◌⊎◌, List, [], ◌∷◌, map, Option, Some, None, option_map}
use Rattle.name_scope.specs.Rank.{Seen}
use Rattle.name_rules.specs.Clash.{Clashes}
use Rattle.name_rules.specs.Joins.{IsSplit, PairsClash}
use Rattle.name_rules.specs.Meaning.{IsAnswer}
use Rattle.name_rules.specs.Part.{Part}
use Rattle.name_rules.specs.Renaming.{HasOldNames, Renaming, renamed, respelled}

-- What a use asks for. It decides which part of it a renaming concerns, and which binders move there.
pub data Question : Type 0 where
  -- a column, by a column-use, or by a name that is set or listed
  ForColumn : Question
  -- an object or a WITH name: a source, a target, the table of an index or a trigger
  ForObject : Question
  -- a source, by the name before `.*`
  ForSource : Question
  -- what no renaming concerns: a table function, an index
  ForOther : Question

-- where a name stands: the row of the text, and the offset in bytes of the token
pub record Spot : Type 0 where
  pub row : ℕ
  pub at : ℕ

abbrev pub IsBefore : Spot → Spot → Type 0
IsBefore a b = (a.row < b.row) ⊎ ((a.row ≡ b.row) × (a.at < b.at))

-- A use as it is asked: where each of its parts stands, its spelling, all binders there, and its answer. It may be a literal
-- where it is in double quotes, or TRUE or FALSE.
pub record Asked : Type 0 where
  pub question : Question
  pub spot : Part → Spot
  pub spelling : List (List ℕ)
  pub binders : List Seen
  pub may_be_literal : Bool
  pub answer : Option Seen

-- the answer is right: only what may be a literal has none
pub record IsRight (a : Asked) : Type 0 where
  pub meant : IsAnswer a.binders a.spelling a.answer
  pub literal : a.answer ≡ None → IsTrue a.may_be_literal

-- the renaming as each question meets it, if it concerns it
abbrev pub Met : Type 0
Met = Question → Option Renaming

-- behind the renaming: the same question of the binders, the spelling and the answer that are their counterparts
abbrev pub asked_behind : Option Renaming → Asked → Asked
asked_behind None a = a
asked_behind (Some r) a = record a {
  spelling = respelled r a.spelling a.answer;
  binders = map (renamed r) a.binders;
  answer = option_map (renamed r) a.answer;
}

-- each binder that moves has the old name
abbrev pub AreNamed : Option Renaming → Asked → Type 0
AreNamed None a = Unit {0}
AreNamed (Some r) a = HasOldNames r a.binders

-- the use clashes
abbrev pub AskedClashes : Option Renaming → Asked → Type 0
AskedClashes None a = ⊥
AskedClashes (Some r) a = Clashes r a.binders a.spelling a.answer

-- A use of a schema: of one target, a name in USING, or a NATURAL with the columns to its left and on its right.
pub data SchemaUse : Type 0 where
  OneTarget : Asked → SchemaUse
  TwoTargets : Asked → Asked → SchemaUse
  Natural : Spot → List Seen → List Seen → SchemaUse

-- the use clashes, at the token of the part that the renaming concerns
abbrev pub AskedClashesAt : Option Renaming → Asked → Spot → Type 0
AskedClashesAt None a spot = ⊥
AskedClashesAt (Some r) a spot = (spot ≡ a.spot r.part) × Clashes r a.binders a.spelling a.answer

abbrev pub AreSplit : Renaming → Option Seen → Option Seen → Type 0
AreSplit r (Some left) (Some right) = IsSplit r left right
AreSplit r _ _ = ⊥

abbrev pub SplitAt : Option Renaming → Asked → Asked → Spot → Type 0
SplitAt None left right spot = ⊥
SplitAt (Some r) left right spot = (spot ≡ left.spot r.part) × AreSplit r left.answer right.answer

abbrev pub NaturalClashes : Option Renaming → List Seen → List Seen → Type 0
NaturalClashes None left right = ⊥
NaturalClashes (Some r) left right = PairsClash r left right

-- The use clashes at the spot. A name in USING is asked on each side by itself, and is split where one target alone moves.
abbrev pub UseClashesAt : Met → SchemaUse → Spot → Type 0
UseClashesAt met (OneTarget a) spot = AskedClashesAt (met a.question) a spot
UseClashesAt met (TwoTargets left right) spot =
    AskedClashesAt (met left.question) left spot ⊎ AskedClashesAt (met right.question) right spot ⊎ SplitAt (met left.question) left right spot
UseClashesAt met (Natural at left right) spot = (spot ≡ at) × NaturalClashes (met ForColumn) left right

-- some use of these clashes at the spot
abbrev pub ClashesAt : Met → List SchemaUse → Spot → Type 0
ClashesAt met [] spot = ⊥
ClashesAt met (u ∷ more) spot = UseClashesAt met u spot ⊎ ClashesAt met more spot

-- The first clash of a renaming: none stands at an earlier row, or earlier in the same text.
pub record IsFirstClash (met : Met) (uses : List SchemaUse) (spot : Spot) : Type 0 where
  pub clashes : ClashesAt met uses spot
  pub first : (other : Spot) → ClashesAt met uses other → ¬ IsBefore other spot
