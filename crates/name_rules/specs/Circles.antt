-- What stands on itself.
use Rattle.std.specs.Prelude.{◌≡◌, ℕ, ◌⊎◌, IsTrue, List, [], ◌∷◌, Contains, Option}
use Rattle.sql_token.specs.declared.token.Token.{Token}
use Rattle.name_scope.specs.declared.identity.Identity.{Identity}
use Rattle.name_scope.specs.declared.identity.Identity.TheVariants as identity
use Rattle.name_scope.specs.declared.row.Row.{Row}
use Rattle.name_scope.specs.declared.row.RowKind.TheVariants as kind
use Rattle.name_rules.specs.Answers.{IsRightOf}
use Rattle.name_rules.specs.Schema.{Schema, demands_at, is_read, naming_of, told_of}
use Rattle.name_rules.specs.Selects.{source_names}
use Rattle.name_rules.specs.Told.{source_at, told}
use Rattle.name_rules.specs.World.{Ask, Label, World}
use Rattle.name_rules.specs.World.Asking.{SourceName}
use Rattle.name_rules.specs.World.Demand.{Asks, HasBody}
use Rattle.name_rules.specs.World.Reply.{One}

-- from the first one leads to the last in one step or more, by way of these between them
abbrev pub Leads : {A : Type 0} → (A → A → Type 0) → A → List A → A → Type 0
Leads step a [] b = step a b
Leads step a (next ∷ more) b = step a next × Leads step next more b

-- it leads back to itself
abbrev pub IsOnCircle : {A : Type 0} → (A → A → Type 0) → A → Type 0
IsOnCircle {A} step a = (way : List A) × Leads step a way a

module _ (schema : Schema) (world : World) where
  -- this is told of the source name: what it denotes
  abbrev DenotesAt : ℕ → Token → Identity → Type 0
  DenotesAt row t what = (source : Option Identity) × (label : Option Label) × (told (schema.texts row) world t ≡ One source what label)

  abbrev IsView : ℕ → Type 0
  IsView row = (r : Row) × Contains schema.rows r × (r.rowid ≡ row) × (r.kind ≡ kind.View)

  -- a view stands on each view that a source name in its text denotes
  abbrev pub ViewStandsOn : ℕ → ℕ → Type 0
  ViewStandsOn a b =
      IsView a × IsView b
      × (t : Token) × Contains (source_names (demands_at schema world a)) t × DenotesAt a t (identity.Object b)

  -- In the text of the row a WITH name stands on each WITH name that a source name in its body denotes; but not on itself by a
  -- source in the FROM of an arm after the first of its body.
  pub record CteStandsOn (row : ℕ) (a b : Identity) : Type 0 where
    pub names : List Token
    pub later : List Identity
    pub body : Contains (demands_at schema world row) (HasBody a names later)
    pub name : Token
    pub among : Contains names name
    pub path : List ℕ
    pub is_cte : b ≡ identity.Cte row path
    pub denotes : DenotesAt row name b
    pub not_itself : b ≡ a → ¬ Contains later (source_at (schema.texts row) world name)

  -- An object is circular: it is a view that stands on itself, or a WITH name in its text does.
  abbrev pub IsCircular : ℕ → Type 0
  IsCircular row = IsOnCircle ViewStandsOn row ⊎ ((a : Identity) × IsOnCircle (CteStandsOn row) a)

  -- What is told of source names alone is right, which no columns are asked for.
  abbrev pub TellsSources : Type 0
  TellsSources =
      (r : Row) → Contains schema.rows r → IsTrue (is_read r) → (a : Ask) → a.asking ≡ SourceName
      → Contains (demands_at schema world r.rowid) (Asks a)
      → IsRightOf schema.rows (naming_of schema) world (schema.texts r.rowid) a (told_of schema world r.rowid a)
