-- The names of a schema, and the binders of a use under them.
use Rattle.std.specs.Prelude.{ℕ, ◌+◌, false, if◌then◌else◌, List, [], ◌∷◌, ◌++◌, length, map, filter, codes, Some, None, option_map}
use Rattle.name_scope.specs.declared.identity.Identity.{Identity}
use Rattle.name_scope.specs.declared.identity.Identity.TheVariants as identity
use Rattle.name_scope.specs.declared.level.Sight.{Sight}
use Rattle.name_scope.specs.declared.row.Row.{Row}
use Rattle.name_scope.specs.declared.row.RowKind.{RowKind}
use Rattle.name_scope.specs.declared.usage.UseKind.{UseKind}
use Rattle.name_scope.specs.declared.usage.UseKind.TheVariants as kind
use Rattle.name_scope.specs.Rank.{Seen}
use Rattle.name_scope.specs.Sees.{has_sources, kind_of, sees_object}
use Rattle.name_rules.specs.World.{Ask, Asking, Binding, Label, Text}
use Rattle.name_rules.specs.World.Asking.{Function, IndexedBy, Owner, Parent, SourceName}
use Rattle.name_rules.specs.World.Label.{ColumnName, FixedName, ObjectName}
use Rattle.name_rules.specs.World.Reply.{One}

-- the names of a schema: of the object of a row, and of a column of it
pub record Naming : Type 0 where
  pub object : ℕ → List ℕ
  pub column : ℕ → ℕ → List ℕ

-- the name that a label stands for
abbrev pub name_of : Naming → Label → List ℕ
name_of naming (ColumnName row ordinal) = naming.column row ordinal
name_of naming (ObjectName row) = naming.object row
name_of naming (FixedName name) = name

-- the row in whose text an identity is declared; fixed objects have none
abbrev pub declaring_row : Identity → ℕ
declaring_row (identity.Object row) = row
declaring_row (identity.Column row ordinal) = row
declaring_row (identity.Rowid row) = row
declaring_row (identity.Source row path) = row
declaring_row (identity.Cte row path) = row
declaring_row (identity.Result row path item within) = row
declaring_row (identity.Fixed number place) = 0

-- a binder with its names
abbrev pub sight_of : Naming → Binding → Sight
sight_of naming b = record {
  class = b.class;
  place = b.place;
  qualifier = option_map (name_of naming) b.qualifier;
  qualified_only = b.qualified_only;
  source = b.source;
  binder = record { row = declaring_row b.what; name = option_map (name_of naming) b.name; what = b.what };
}

-- a binder and its number of scopes outward
abbrev pub Placed : Type 0
Placed = ℕ × Binding

abbrev pub seen_of : Naming → Placed → Seen
seen_of naming p = (p.0, sight_of naming p.1)

-- the binders of the levels, the nearest first, from this number of scopes outward
abbrev pub placed_in : ℕ → List (List Binding) → List Placed
placed_in depth [] = []
placed_in depth (level ∷ outer) = map (λ b. (depth, b)) level ++ placed_in (depth + 1) outer

-- the objects that stand behind all levels, by what the use asks for
abbrev pub kind_by : Asking → UseKind
kind_by SourceName = kind.Source
kind_by Function = kind.Function
kind_by Owner = kind.Owner
kind_by (IndexedBy (One source (identity.Object row) label)) = kind.Index row
kind_by (Parent listed) = kind.Parent
kind_by _ = kind.Sighted

-- an object as it stands there
abbrev object_binding : Label → Identity → Binding
object_binding name what = record {
  class = 0;
  place = 0;
  qualifier = Some (FixedName (codes "main"));
  qualified_only = false;
  source = None;
  name = Some name;
  what = what;
}

abbrev fixed_bindings : RowKind → UseKind → List Binding
fixed_bindings own kind.Source =
    if has_sources own
    then object_binding (FixedName (codes "sqlite_schema")) (identity.Fixed 0 None) ∷ object_binding (FixedName (codes "sqlite_master")) (identity.Fixed 0 None) ∷ []
    else []
fixed_bindings own kind.Function =
    if has_sources own
    then object_binding (FixedName (codes "json_each")) (identity.Fixed 1 None) ∷ object_binding (FixedName (codes "json_tree")) (identity.Fixed 2 None) ∷ []
    else []
fixed_bindings own _ = []

abbrev row_binding : Row → Binding
row_binding r = object_binding (ObjectName r.rowid) (identity.Object r.rowid)

-- all objects that a use of the kind in a text of this type may denote
abbrev pub object_bindings : List Row → RowKind → UseKind → List Binding
object_bindings rows own use_kind = fixed_bindings own use_kind ++ map row_binding (filter (sees_object rows own use_kind) rows)

-- all binders where a use of the text stands: those of its levels, and behind them the objects
abbrev pub binders_of : List Row → Text → Ask → List Placed
binders_of rows text a =
    placed_in 0 a.levels ++ map (λ b. (length a.levels, b)) (object_bindings rows (kind_of rows text.row) (kind_by a.asking))

-- a use as it is spelled
abbrev pub spelling_of : Text → Ask → List (List ℕ)
spelling_of text a = map text.spelled a.tokens
