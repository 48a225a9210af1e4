-- The database files that are served so far.
use Rattle.std.specs.Prelude.{◌≡◌, ◌≢◌, ◌≤◌, ◌<◌, ℕ, ◌-◌, ◌*◌, List, [], ◌∷◌, length, map, take, codes, AllPairs, IsSomeAnd}
use Rattle.std.specs.List.{AllByRecursion, slice_get}
use Rattle.sql_token.specs.Names.{folded}
use Rattle.schema_rows.specs.declared.schema.SchemaRow.{SchemaRow}
use Rattle.plain_schema.specs.declared.table.Table.{Table}
use Rattle.plain_schema.specs.Image.{Image, Page}
use Rattle.pager_core.specs.Header.{page_size, usable_size}
use Rattle.plain_schema.specs.Header.{IsHeader}
use Rattle.plain_schema.specs.FirstPage.{HoldsRows, IsEmptyTable}
use Rattle.plain_sql.specs.TableText.{SpellsTable}

-- page 1
abbrev pub first_page : Image → Page
first_page [] = []
first_page (page ∷ others) = page

-- the file's header, on page 1
abbrev pub header_of : Image → List ℕ
header_of image = take 100 (first_page image)

-- the root of a row is a page of the image behind page 1, and an empty table
pub record HasRoot (image : Image) (row : SchemaRow) : Type 0 where
  pub behind : 2 ≤ row.root
  pub there : row.root ≤ length image
  pub empty : IsSomeAnd (slice_get image (row.root - 1)) (IsEmptyTable (usable_size (header_of image)))

-- the rows may stand in this order in one schema
pub record AreApart (a b : SchemaRow) : Type 0 where
  pub ascending : a.rowid < b.rowid
  pub named : folded a.name ≢ folded b.name
  pub rooted : a.root ≢ b.root

-- the image is that of a sound file that is served, with a schema of these rows, in order
pub record IsStored (image : Image) (rows : List SchemaRow) : Type 0 where
  pub header : IsHeader (header_of image) (length image * page_size (header_of image))
  pub held : HoldsRows (first_page image) (usable_size (header_of image)) rows
  pub apart : AllPairs AreApart rows
  pub rooted : AllByRecursion (HasRoot image) rows

-- the name of a text is the one of both fields of its row, and none that begins as those of SQLite's own tables
pub record HasItsName (name : List ℕ) (row : SchemaRow) : Type 0 where
  pub named : folded name ≡ folded row.name
  pub table_named : folded name ≡ folded row.table
  pub own : folded (take 7 name) ≢ codes "sqlite_"

-- the text of the row makes the table
pub record IsSpelled (table : Table) : Type 0 where
  pub name : List ℕ
  pub text : SpellsTable table.row.text name table.columns table.columns_end
  pub its_name : HasItsName name table.row
  pub columns_apart : AllPairs (λ a b. folded a ≢ folded b) table.columns

abbrev pub rows_of : List Table → List SchemaRow
rows_of tables = map (λ table. table.row) tables

-- the image holds these tables and nothing else
pub record IsFirstForm (image : Image) (tables : List Table) : Type 0 where
  pub stored : IsStored image (rows_of tables)
  pub spelled : AllByRecursion IsSpelled tables
