-- What the text of a table shows and demands.
use Rattle.std.specs.Prelude.{ℕ, cond, Bool, true, false, List, [], ◌∷◌, ◌++◌, map, flat_map, filter_map, Option, Some, None, is_some}
use Rattle.std.specs.Option.{option_map_or}
use Rattle.std.specs.List.{list_any}
use Rattle.sql_token.specs.declared.token.Token.{Token}
use Rattle.sql_expr.specs.declared.lists.Commas.{Commas}
use Rattle.sql_expr.specs.declared.names.ColumnUse.{ColumnUse}
use Rattle.sql_tree.specs.declared.conflict.References.{References}
use Rattle.sql_tree.specs.declared.table.Column.{Column}
use Rattle.sql_tree.specs.declared.table.ColumnCons.{ColumnCons}
use Rattle.sql_tree.specs.declared.table.ColumnCons.TheVariants as ColumnCons'
use Rattle.sql_tree.specs.declared.table.CreateTable.{CreateTable}
use Rattle.sql_tree.specs.declared.table.DefaultValue.{DefaultValue}
use Rattle.sql_tree.specs.declared.table.DefaultValue.TheVariants as DefaultValue'
use Rattle.sql_tree.specs.declared.table.Indexed.{Indexed}
use Rattle.sql_tree.specs.declared.table.TableCons.{TableCons}
use Rattle.sql_tree.specs.declared.table.TableCons.TheVariants as TableCons'
use Rattle.sql_tree.specs.declared.table.TableOption.{TableOption}
use Rattle.sql_tree.specs.declared.table.TableOption.TheVariants as TableOption'
use Rattle.name_scope.specs.declared.identity.Identity.{Identity}
use Rattle.name_scope.specs.declared.identity.Identity.TheVariants as identity
use Rattle.name_rules.specs.Inner.{Inner, items_of, names_in, of_each}
use Rattle.name_rules.specs.Levels.{columns_level, level_of, numbered}
use Rattle.name_rules.specs.Told.{columns_by, source_at, told, use_start}
use Rattle.name_rules.specs.World.{Binding, Demand, Origin, Reply, Shown, Text, Where, World}
use Rattle.name_rules.specs.World.Asking.{Listed, Parent, ParentColumn}
use Rattle.name_rules.specs.World.Demand.{Asks, HasKey, HasRowid, IsNew, Shows}
use Rattle.name_rules.specs.World.Label.{ColumnName, ObjectName}
use Rattle.name_rules.specs.World.Reply.{One}

-- the columns that a table declares
abbrev pub declared : CreateTable → List Column
declared x = items_of x.body.inner.columns

-- the constraints of a table
abbrev pub constraints_of : CreateTable → List TableCons
constraints_of x = option_map_or (λ list. list.first ∷ map (λ next. next.constraint) list.more) x.body.inner.constraints []

-- a table is keyed where its text has the option WITHOUT ROWID
abbrev pub is_keyed : CreateTable → Bool
is_keyed x = option_map_or (λ options. list_any is_without_rowid (items_of options)) x.options false
  where
    is_without_rowid : TableOption → Bool
    is_without_rowid (TableOption'.WithoutRowid without rowid) = true
    is_without_rowid _ = false

-- what the rowid names of the table of the row stand for
abbrev pub table_rowid : ℕ → CreateTable → Option Identity
table_rowid row x = cond (is_keyed x) None (Some (identity.Rowid row))

abbrev table_column : ℕ → ℕ → Column → Shown
table_column row ordinal column = record { name = Some (ColumnName row ordinal); what = identity.Column row ordinal }

-- the columns of the table of the row, in order of its text
abbrev pub table_columns : ℕ → CreateTable → List Shown
table_columns row x = numbered (table_column row) 0 (declared x)

-- each column's name is new among those before it
abbrev pub are_new : List Token → List Column → List Demand
are_new earlier [] = []
are_new earlier (c ∷ more) = IsNew c.name earlier ∷ are_new (earlier ++ c.name ∷ []) more

module _ (text : Text) (world : World) (inner : Inner) where
  -- the column that a key is, parentheses and COLLATE aside
  abbrev column_by : Reply → Option Identity
  column_by (One source (identity.Column row ordinal) label) = Some (identity.Column row ordinal)
  column_by _ = None

  abbrev key_use : Option ColumnUse → Option Identity
  key_use None = None
  key_use (Some x) = column_by (told text world (use_start x))

  abbrev key_column : Indexed → Option Identity
  key_column key = key_use (inner.bare key.expr)

  -- the primary key that a column's own constraint makes, or a constraint of the table
  abbrev is_primary : ColumnCons → Bool
  is_primary (ColumnCons'.PrimaryKey primary key direction conflict autoincrement) = true
  is_primary _ = false

  abbrev own_key : ℕ → Column → List (List Identity)
  own_key ordinal column = cond (list_any is_primary column.constraints) ((identity.Column text.row ordinal ∷ []) ∷ []) []

  abbrev listed_key : TableCons → List (List Identity)
  listed_key (TableCons'.PrimaryKey primary key opening indexeds autoincrement closing conflict) =
      filter_map key_column (items_of indexeds) ∷ []
  listed_key _ = []

  abbrev first_key : List (List Identity) → List Identity
  first_key [] = []
  first_key (key ∷ more) = key

  -- the columns of the first PRIMARY KEY of the text; without one there are none
  abbrev pub primary_key : CreateTable → List Identity
  primary_key x =
      first_key (flat_map (λ keys. keys) (numbered own_key 0 (declared x)) ++ flat_map listed_key (constraints_of x))

  -- the table as the one source of its text
  abbrev pub table_origin : CreateTable → Origin
  table_origin x = record {
    source = source_at text world x.name;
    name = Some (ObjectName text.row);
    columns = table_columns text.row x;
    rowid = table_rowid text.row x;
  }

  abbrev alone : List Binding → Where
  alone level = record { columns = level ∷ []; sources = [] }

  -- the column level, and the check level, which has the rowid names, too
  abbrev pub column_where : Origin → Where
  column_where o = alone (columns_level [] (o ∷ []))

  abbrev pub check_where : Origin → Where
  check_where o = alone (level_of [] (o ∷ []))

  -- an empty level
  abbrev pub nowhere : Where
  nowhere = record { columns = []; sources = [] }

  -- what the parent of REFERENCES shows: its columns alone
  abbrev parent_level : Token → Reply → List Binding
  parent_level table reply =
      columns_level []
      (record { source = source_at text world table; name = None; columns = columns_by world reply; rowid = None } ∷ [])

  abbrev asks_parent_column : Token → Token → Demand
  asks_parent_column table name =
      Asks
      (record {
        asking = ParentColumn (told text world table);
        tokens = name ∷ [];
        levels = parent_level table (told text world table) ∷ [];
      })

  abbrev pub of_references : References → List Demand
  of_references x =
      Asks (record { asking = Parent (is_some x.columns); tokens = x.table ∷ []; levels = [] })
      ∷ map (asks_parent_column x.table) (names_in x.columns)

  abbrev of_default : DefaultValue → List Demand
  of_default (DefaultValue'.Expr x) = inner.expr nowhere x.inner
  of_default _ = []

  module _ (self : Origin) where
    abbrev pub of_column_cons : ColumnCons → List Demand
    of_column_cons (ColumnCons'.Check check expr) = inner.expr (check_where self) expr.inner
    of_column_cons (ColumnCons'.Default default value) = of_default value
    of_column_cons (ColumnCons'.References x) = of_references x
    of_column_cons (ColumnCons'.Generated generated as_word expr storage) = inner.expr (column_where self) expr.inner
    of_column_cons _ = []

    -- the keys of a table's constraint, or of an index, are expressions over the columns
    abbrev pub of_keys : Where → Commas Indexed → List Demand
    of_keys w keys = of_each (λ key. inner.expr w key.expr) keys

    -- a name after FOREIGN KEY sees the table's columns
    abbrev asks_own_column : Token → Demand
    asks_own_column name = Asks (record { asking = Listed; tokens = name ∷ []; levels = columns_level [] (self ∷ []) ∷ [] })

    abbrev pub of_table_cons : TableCons → List Demand
    of_table_cons (TableCons'.Constraint constraint name) = []
    of_table_cons (TableCons'.PrimaryKey primary key opening indexeds autoincrement closing conflict) =
        of_keys (column_where self) indexeds
    of_table_cons (TableCons'.Unique unique indexeds conflict) = of_keys (column_where self) indexeds.inner
    of_table_cons (TableCons'.Check check expr conflict) = inner.expr (check_where self) expr.inner
    of_table_cons (TableCons'.ForeignKey foreign key names references) =
        map asks_own_column (items_of names.inner) ++ of_references references

  -- what the text of a table demands
  abbrev pub of_table : CreateTable → List Demand
  of_table x =
      Shows (identity.Object text.row) (table_columns text.row x) ∷ HasRowid text.row (table_rowid text.row x)
      ∷ HasKey text.row (primary_key x)
      ∷ are_new [] (declared x) ++ flat_map (λ column. flat_map (of_column_cons (table_origin x)) column.constraints) (declared x)
      ++ flat_map (of_table_cons (table_origin x)) (constraints_of x)
