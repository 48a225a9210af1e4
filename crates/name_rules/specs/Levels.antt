-- What stands at a level: the columns and the rowid names of sources, and aliases.
use Rattle.std.specs.Prelude.{ℕ, suc, ◌+◌, Bool, true, false, ◌&&◌, List, [], ◌∷◌, ◌++◌, map, flat_map, filter, codes, not, Some, None}
use Rattle.std.specs.Option.{option_map_or}
use Rattle.std.specs.List.{list_any}
use Rattle.name_scope.specs.declared.identity.Identity.{Identity}
use Rattle.name_rules.specs.Identities.{is_same}
use Rattle.name_rules.specs.World.{Binding, Joined, Origin, Shown}
use Rattle.name_rules.specs.World.Label.{FixedName}

-- what a function of the number and the element makes of each, counted from here
abbrev pub numbered : {A B : Type 0} → (ℕ → A → B) → ℕ → List A → List B
numbered f n [] = []
numbered f n (x ∷ xs) = f n x ∷ numbered f (suc n) xs

-- the column of the source is joined away by one of these
abbrev pub is_away : List Joined → Identity → Shown → Bool
is_away away source c = list_any (λ j. is_same j.source source && is_same j.what c.what) away

-- a column of a source as it stands at a level: one that is joined away wants a qualifier
abbrev pub column_binding : ℕ → List Joined → Origin → ℕ → Shown → Binding
column_binding class away o place c = record {
  class = class;
  place = place;
  qualifier = o.name;
  qualified_only = is_away away o.source c;
  source = Some o.source;
  name = c.name;
  what = c.what;
}

abbrev pub rowid_binding : ℕ → Origin → Identity → ℕ → List ℕ → Binding
rowid_binding class o what place name = record {
  class = class;
  place = place;
  qualifier = o.name;
  qualified_only = false;
  source = Some o.source;
  name = Some (FixedName name);
  what = what;
}

-- the columns of a source, of class 1
abbrev pub column_bindings : ℕ → List Joined → Origin → List Binding
column_bindings arm away o = numbered (column_binding (arm + 1) away o) 0 o.columns

-- its rowid names, of class 2
abbrev pub rowid_bindings : ℕ → Origin → List Binding
rowid_bindings arm o =
    option_map_or (λ what. numbered (rowid_binding (arm + 2) o what) 0 (codes "rowid" ∷ codes "oid" ∷ codes "_rowid_" ∷ [])) o.rowid []

-- A source as it stands at a level. The classes of a further arm of a compound are higher: `arm` is four times its number.
abbrev pub origin_bindings : ℕ → List Joined → Origin → List Binding
origin_bindings arm away o = column_bindings arm away o ++ rowid_bindings arm o

-- a level of these sources
abbrev pub level_of : List Joined → List Origin → List Binding
level_of away origins = flat_map (origin_bindings 0 away) origins

-- a level of the columns of these sources alone
abbrev pub columns_level : List Joined → List Origin → List Binding
columns_level away origins = flat_map (column_bindings 0 away) origins

abbrev pub wanting_qualifier : Binding → Binding
wanting_qualifier b = record b { qualified_only = true }

-- the same, where only uses with a qualifier see them
abbrev pub qualified_level : List Origin → List Binding
qualified_level origins = map wanting_qualifier (level_of [] origins)

-- the columns that stand at the two sides of a join: those on the right, and then the sources to the left, a level each
abbrev pub join_levels : List Joined → List Origin → List Origin → List (List Binding)
join_levels away right left = columns_level away right ∷ map (λ o. columns_level [] (o ∷ [])) left

-- an alias of an arm, or a name of a WITH: of no source
abbrev pub fixed_binding : ℕ → ℕ → List ℕ → Identity → Binding
fixed_binding class place name what = record {
  class = class;
  place = place;
  qualifier = None;
  qualified_only = false;
  source = None;
  name = Some (FixedName name);
  what = what;
}

-- a source of an arm, for the name before `.*`
abbrev pub star_binding : Origin → Binding
star_binding o = record {
  class = 0;
  place = 0;
  qualifier = None;
  qualified_only = false;
  source = Some o.source;
  name = o.name;
  what = o.source;
}

abbrev pub star_level : List Origin → List Binding
star_level origins = map star_binding origins

-- the columns that a `*` covers of a source: all but those joined away
abbrev pub covered : List Joined → Origin → List Shown
covered away o = filter (λ c. not (is_away away o.source c)) o.columns
