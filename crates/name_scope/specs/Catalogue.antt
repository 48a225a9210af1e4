-- The catalogue: what is known of each object of a schema.
use Rattle.std.specs.Prelude.{◌≡◌, ℕ, ◌+◌, ◌-◌, ◌^◌, min, nat_eq, if◌then◌else◌, List, [], Option, Some, None, unwrap_or, IsSome}
use Rattle.std.specs.Option.{option_map_or}
use Rattle.indexmap.specs.IndexMap.{get}
use Rattle.name_scope.specs.declared.catalogue.Catalogue.{Catalogue}
use Rattle.name_scope.specs.declared.level.Binder.{Binder}
use Rattle.name_scope.specs.declared.level.Level.{Level}
use Rattle.name_scope.specs.declared.level.Resolved.{Resolved}
use Rattle.name_scope.specs.declared.row.Row.{Row}
use Rattle.name_scope.specs.declared.usage.Use.{Use}
use Rattle.name_scope.specs.Sees.{row_of}

-- one text more was parsed, as far as the count goes
abbrev pub one_more : ℕ → ℕ
one_more reads = min (reads + 1) (2 ^ 64 - 1)

module _ {T : Type 0} where
  abbrev pub rows_of : Catalogue T → List Row
  rows_of c = c.rows

  abbrev pub reads_of : Catalogue T → ℕ
  reads_of c = c.reads

  -- the tree of the object of this rowid, where it is known
  abbrev pub tree_of : Catalogue T → ℕ → Option T
  tree_of c row = get nat_eq c.trees row

  abbrev pub columns_of : Catalogue T → ℕ → List Binder
  columns_of c row = unwrap_or (get nat_eq c.columns row) []

  abbrev pub uses_of : Catalogue T → ℕ → List Use
  uses_of c row = option_map_or (λ f. f.uses) (get nat_eq c.found row) []

  abbrev pub levels_of : Catalogue T → ℕ → List Level
  levels_of c row = option_map_or (λ f. f.levels) (get nat_eq c.found row) []

  abbrev pub HasRow : Catalogue T → ℕ → Type 0
  HasRow c row = IsSome (row_of (rows_of c) row)

  -- the catalogue has these rows, nothing is known of their objects, and no text was parsed
  pub record IsBare (rows : List Row) (c : Catalogue T) : Type 0 where
    pub same_rows : rows_of c ≡ rows
    pub trees : (r : ℕ) → tree_of c r ≡ None
    pub columns : (r : ℕ) → columns_of c r ≡ []
    pub uses : (r : ℕ) → uses_of c r ≡ []
    pub levels : (r : ℕ) → levels_of c r ≡ []
    pub unread : reads_of c ≡ 0

  -- of each object the same is known, and as many texts were parsed
  pub record IsSame (old new : Catalogue T) : Type 0 where
    pub rows : rows_of new ≡ rows_of old
    pub trees : (r : ℕ) → tree_of new r ≡ tree_of old r
    pub columns : (r : ℕ) → columns_of new r ≡ columns_of old r
    pub uses : (r : ℕ) → uses_of new r ≡ uses_of old r
    pub levels : (r : ℕ) → levels_of new r ≡ levels_of old r
    pub reads : reads_of new ≡ reads_of old

  -- the object of the row has this tree, and nothing else is known anew
  pub record SetsTree (old new : Catalogue T) (row : ℕ) (tree : T) : Type 0 where
    pub rows : rows_of new ≡ rows_of old
    pub trees : (r : ℕ) → tree_of new r ≡ (if nat_eq row r then Some tree else tree_of old r)
    pub columns : (r : ℕ) → columns_of new r ≡ columns_of old r
    pub uses : (r : ℕ) → uses_of new r ≡ uses_of old r
    pub levels : (r : ℕ) → levels_of new r ≡ levels_of old r

  -- the object of the row has these columns, and nothing else is known anew
  pub record SetsColumns (old new : Catalogue T) (row : ℕ) (found : List Binder) : Type 0 where
    pub rows : rows_of new ≡ rows_of old
    pub trees : (r : ℕ) → tree_of new r ≡ tree_of old r
    pub columns : (r : ℕ) → columns_of new r ≡ (if nat_eq row r then found else columns_of old r)
    pub uses : (r : ℕ) → uses_of new r ≡ uses_of old r
    pub levels : (r : ℕ) → levels_of new r ≡ levels_of old r

  -- the text of the object has these uses and levels, and nothing else is known anew
  pub record SetsFound (old new : Catalogue T) (row : ℕ) (found : Resolved) : Type 0 where
    pub rows : rows_of new ≡ rows_of old
    pub trees : (r : ℕ) → tree_of new r ≡ tree_of old r
    pub columns : (r : ℕ) → columns_of new r ≡ columns_of old r
    pub uses : (r : ℕ) → uses_of new r ≡ (if nat_eq row r then found.uses else uses_of old r)
    pub levels : (r : ℕ) → levels_of new r ≡ (if nat_eq row r then found.levels else levels_of old r)
