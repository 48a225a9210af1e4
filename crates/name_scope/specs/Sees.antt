-- What a use sees under a spelling: every binder of every scope, with its number of scopes outward.
use Rattle.std.specs.Prelude.{ℕ, suc, zero, ◌+◌, ◌==◌, nat_eq, Bool, true, false, ◌&&◌, ◌||◌, not, if◌then◌else◌, List, [], ◌∷◌, ◌++◌, length, map, filter, slice_get, find, codes, Option, Some, None, is_some, option_and_then}
use Rattle.std.specs.Option.{option_map_or}
use Rattle.std.specs.Cmp.Lexicographic.{pointwise}
use Rattle.sql_token.specs.Names.{folded}
use Rattle.name_scope.specs.declared.identity.Identity.{Identity}
use Rattle.name_scope.specs.declared.identity.Identity.TheVariants.{Object, Fixed}
use Rattle.name_scope.specs.declared.level.Level.{Level}
use Rattle.name_scope.specs.declared.level.Sight.{Sight}
use Rattle.name_scope.specs.declared.row.Row.{Row}
use Rattle.name_scope.specs.declared.row.RowKind.{RowKind}
use Rattle.name_scope.specs.declared.row.RowKind.TheVariants as kind
use Rattle.name_scope.specs.declared.usage.Use.{Use}
use Rattle.name_scope.specs.declared.usage.UseKind.{UseKind}
use Rattle.name_scope.specs.declared.usage.UseKind.TheVariants.{Source, Function, Owner, Index, Parent}
use Rattle.name_scope.specs.Rank.{Seen}

-- two names are equal, where ASCII letters of either case are
abbrev pub same_names : List ℕ → List ℕ → Bool
same_names a b = pointwise nat_eq (folded a) (folded b)

-- there is a name, and it is this one
abbrev pub is_named : List ℕ → Option (List ℕ) → Bool
is_named name None = false
is_named name (Some own) = same_names own name

-- A name alone sees each binder of that name but those that want a qualifier; with a qualifier, the binders of the sources
-- of that name; with two, the first of which is `main`, the same ones.
abbrev pub is_seen : List (List ℕ) → Sight → Bool
is_seen (name ∷ []) s = not s.qualified_only && is_named name s.binder.name
is_seen (source ∷ name ∷ []) s = is_named source s.qualifier && is_named name s.binder.name
is_seen (database ∷ source ∷ name ∷ []) s = same_names database (codes "main") && (is_named source s.qualifier && is_named name s.binder.name)
is_seen _ s = false

-- of the binders, those that are seen, at this number of scopes outward
abbrev pub seen_at : List (List ℕ) → ℕ → List Sight → List Seen
seen_at spelling depth sights = map (λ s. (depth, s)) (filter (is_seen spelling) sights)

-- of the levels, the nearest first, the binders that are seen
abbrev pub seen_in : List (List ℕ) → ℕ → List Level → List Seen
seen_in spelling depth [] = []
seen_in spelling depth (level ∷ outer) = seen_at spelling depth level.sights ++ seen_in spelling (depth + 1) outer

-- the level of this number, the one around it, and so on, of which up to n are listed
abbrev pub outward : ℕ → List Level → Option ℕ → List Level
outward zero levels number = []
outward (suc n) levels number = option_map_or (λ level. level ∷ outward n levels level.outer) (option_and_then (slice_get levels) number) []

-- The levels in which a use at the level of this number stands, the nearest first. Each level's outer one has a lower number,
-- so there are no more than all of them.
abbrev pub chain : List Level → ℕ → List Level
chain levels number = outward (length levels) levels (Some number)

-- the row of this rowid
abbrev pub row_of : List Row → ℕ → Option Row
row_of rows rowid = find (λ r. r.rowid == rowid) rows

abbrev pub is_table : RowKind → Bool
is_table kind.Table = true
is_table _ = false

abbrev pub is_index : RowKind → Bool
is_index kind.Index = true
is_index _ = false

abbrev pub is_trigger : RowKind → Bool
is_trigger kind.Trigger = true
is_trigger _ = false

abbrev pub is_table_or_view : RowKind → Bool
is_table_or_view kind.Table = true
is_table_or_view kind.View = true
is_table_or_view _ = false

-- a virtual table is a row of type table whose root is 0 or NULL
abbrev pub is_virtual : Row → Bool
is_virtual r = is_table r.kind && option_map_or (λ root. root == 0) r.root true

-- A source or an owner may be of these: no use sees a virtual table but a parent's name.
abbrev pub may_own : Row → Bool
may_own r = is_table_or_view r.kind && not (is_virtual r)

-- a text of this type has sources that are objects: in those of tables and indexes only WITH names are seen
abbrev pub has_sources : RowKind → Bool
has_sources kind.View = true
has_sources kind.Trigger = true
has_sources _ = false

-- the row is an index with a text of the table of this name
abbrev pub is_index_of : Option Row → Row → Bool
is_index_of None r = false
is_index_of (Some table) r = is_index r.kind && (is_some r.sql && same_names r.table table.name)

-- The objects that a use of the kind in the text of an object of this type may denote.
abbrev pub sees_object : List Row → RowKind → UseKind → Row → Bool
sees_object rows own Source r = has_sources own && may_own r
sees_object rows own Owner r = may_own r && (is_trigger own || is_table r.kind)
sees_object rows own (Index table) r = is_index_of (row_of rows table) r
sees_object rows own Parent r = is_table r.kind
sees_object rows own _ r = false

-- an object as it stands behind all levels
abbrev pub object_sight : ℕ → List ℕ → Identity → Sight
object_sight row name what = record { class = 0; place = 0; qualifier = Some (codes "main"); qualified_only = false; source = None; binder = record { row = row; name = Some name; what = what } }

-- the objects without a row: the schema table, which has two names, and the two table functions
abbrev pub fixed_sights : RowKind → UseKind → List Sight
fixed_sights own Source = if has_sources own then object_sight 0 (codes "sqlite_schema") (Fixed 0 None) ∷ object_sight 0 (codes "sqlite_master") (Fixed 0 None) ∷ [] else []
fixed_sights own Function = if has_sources own then object_sight 0 (codes "json_each") (Fixed 1 None) ∷ object_sight 0 (codes "json_tree") (Fixed 2 None) ∷ [] else []
fixed_sights own _ = []

abbrev pub sight_of_row : Row → Sight
sight_of_row r = object_sight r.rowid r.name (Object r.rowid)

-- all objects that a use of the kind in the text of an object of this type may denote
abbrev pub objects : List Row → RowKind → UseKind → List Sight
objects rows own use_kind = fixed_sights own use_kind ++ map sight_of_row (filter (sees_object rows own use_kind) rows)

-- What a use sees that stands in these levels, the nearest first, behind which there are these objects.
abbrev pub seen_from : List (List ℕ) → List Level → List Sight → List Seen
seen_from spelling levels behind = seen_in spelling 0 levels ++ seen_at spelling (length levels) behind

-- the type of the object of this rowid
abbrev pub kind_of : List Row → ℕ → RowKind
kind_of rows rowid = option_map_or (λ r. r.kind) (row_of rows rowid) kind.Table

-- what a use of a text that has these levels sees under the spelling, among the rows of its schema
abbrev pub sees : List Row → List Level → Use → List (List ℕ) → List Seen
sees rows levels u spelling = seen_from spelling (chain levels u.level) (objects rows (kind_of rows u.row) u.kind)
