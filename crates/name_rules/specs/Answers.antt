-- What a use denotes: which reply to it is right.
use Rattle.std.specs.Prelude.{◌≡◌, ◌↔◌, ℕ, true, false, ◌⊎◌, List, [], ◌∷◌, map, Option, Some, None, Contains}
use Rattle.sql_token.specs.declared.token.Token.{Token}
use Rattle.name_scope.specs.declared.identity.Identity.{Identity}
use Rattle.name_scope.specs.declared.identity.Identity.TheVariants as identity
use Rattle.name_scope.specs.declared.row.Row.{Row}
use Rattle.name_scope.specs.Literal.{MayBeLiteral}
use Rattle.name_scope.specs.Rank.{Seen}
use Rattle.name_rules.specs.Joins.{IsPair}
use Rattle.name_rules.specs.Meaning.{IsAnswer, Means}
use Rattle.name_rules.specs.Naming.{Naming, Placed, binders_of, placed_in, seen_of, spelling_of}
use Rattle.name_rules.specs.World.{Ask, Asking, Binding, Joined, Label, Reply, Text, World}
use Rattle.name_rules.specs.World.Asking.{ColumnUse, NaturalWord, Parent, ParentColumn, Using}
use Rattle.name_rules.specs.World.Reply.{Keys, Literal, Nothing, One, Pairs, Two, Unbound}

-- the level of the right side of a join, and those of the sources to its left
abbrev pub right_side : List (List Binding) → List (List Binding)
right_side [] = []
right_side (right ∷ left) = right ∷ []

abbrev pub left_side : List (List Binding) → List (List Binding)
left_side [] = []
left_side (right ∷ left) = left

-- what is told where a use means this binder
abbrev pub one_of : Placed → Reply
one_of p = One p.1.source p.1.what p.1.name

-- the binder is this column of a source
abbrev pub IsColumnOf : Seen → Joined → Type 0
IsColumnOf s j = (s.1.source ≡ Some j.source) × (s.1.binder.what ≡ j.what)

module _ (rows : List Row) (naming : Naming) (world : World) (text : Text) where
  abbrev seen_in : List Placed → List Seen
  seen_in binders = map (seen_of naming) binders

  -- the use means one of the binders, and this is told of it
  pub record MeansOne (a : Ask) (r : Reply) : Type 0 where
    pub binder : Placed
    pub stands : Contains (binders_of rows text a) binder
    pub meant : Means (seen_in (binders_of rows text a)) (spelling_of text a) (seen_of naming binder)
    pub told : r ≡ one_of binder

  -- the use sees nothing
  abbrev pub SeesNone : Ask → Type 0
  SeesNone a = IsAnswer (seen_in (binders_of rows text a)) (spelling_of text a) None

  -- the use is one token that may be a literal
  abbrev pub HasLiteralForm : List Token → Type 0
  HasLiteralForm (t ∷ []) = MayBeLiteral (text.bytes t)
  HasLiteralForm _ = ⊥

  -- at these levels the name means a column, which is this one
  abbrev MeansColumn : List (List Binding) → List (List ℕ) → Joined → Type 0
  MeansColumn levels spelling j = (s : Seen) × Means (seen_in (placed_in 0 levels)) spelling s × IsColumnOf s j

  -- A name in USING denotes a column on each side.
  abbrev pub MeansTwo : Ask → Reply → Type 0
  MeansTwo a r =
      (left : Joined) × (right : Joined) × MeansColumn (left_side a.levels) (spelling_of text a) left
      × MeansColumn (right_side a.levels) (spelling_of text a) right × (r ≡ Two left right)

  -- the two columns are a pair of the NATURAL
  abbrev IsPairOf : Ask → Joined × Joined → Type 0
  IsPairOf a pair =
      (s : Seen) × (t : Seen) × IsPair (seen_in (placed_in 0 (left_side a.levels))) (seen_in (placed_in 0 (right_side a.levels))) s t
      × IsColumnOf s pair.0 × IsColumnOf t pair.1

  -- NATURAL denotes its pairs, in any order
  abbrev pub MeansPairs : Ask → Reply → Type 0
  MeansPairs a r = (pairs : List (Joined × Joined)) × ((pair : Joined × Joined) → Contains pairs pair ↔ IsPairOf a pair) × (r ≡ Pairs pairs)

  -- a name after REFERENCES, or in its list, that sees nothing is unbound
  abbrev pub IsUnbound : Ask → Reply → Type 0
  IsUnbound a r = SeesNone a × (r ≡ Unbound)

  -- the table after REFERENCES without a list means the columns of its primary key, too
  abbrev pub MeansKey : Ask → Reply → Type 0
  MeansKey a r =
      (row : ℕ) × (source : Option Identity) × (label : Option Label) × MeansOne a (One source (identity.Object row) label)
      × (r ≡ Keys (identity.Object row) (world.key row))

  abbrev pub AnswersBy : Asking → Ask → Reply → Type 0
  AnswersBy ColumnUse a r = MeansOne a r ⊎ (HasLiteralForm a.tokens × SeesNone a × (r ≡ Literal))
  AnswersBy Using a r = MeansTwo a r
  AnswersBy NaturalWord a r = MeansPairs a r
  AnswersBy (Parent true) a r = MeansOne a r ⊎ IsUnbound a r
  AnswersBy (Parent false) a r = MeansKey a r ⊎ IsUnbound a r
  AnswersBy (ParentColumn parent) a r = MeansOne a r ⊎ IsUnbound a r
  AnswersBy _ a r = MeansOne a r

  -- the use denotes what is told
  abbrev pub Answers : Ask → Reply → Type 0
  Answers a r = AnswersBy a.asking a r

  -- What is told of the use is right: it is what the use denotes, or Nothing where it denotes nothing.
  abbrev pub IsRightOf : Ask → Reply → Type 0
  IsRightOf a r = Answers a r ⊎ ((r ≡ Nothing) × ((other : Reply) → ¬ Answers a other))
