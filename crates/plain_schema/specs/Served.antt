-- A file that is served, as far as it is read.
use Rattle.std.specs.Prelude.{◌≡◌, ◌≤◌, ◌<◌, ℕ, ◌+◌, List, length, AllPairs}
use Rattle.std.specs.List.{AllByRecursion}
use Rattle.pager_core.specs.declared.file_shape.FileShape.{FileShape}
use Rattle.pager_core.specs.Header.{page_size, usable_size}
use Rattle.schema_rows.specs.declared.schema.SchemaRow.{SchemaRow}
use Rattle.plain_schema.specs.declared.form.Form.{Form}
use Rattle.plain_schema.specs.declared.table.Table.{Table}
use Rattle.plain_schema.specs.FirstForm.{AreApart, IsFirstForm, first_page, header_of, rows_of}
use Rattle.plain_schema.specs.Image.{Image}

-- the row is no longer than its page
abbrev pub IsShortRow : List ℕ → SchemaRow → Type 0
IsShortRow page row = length row.name + length row.table + length row.text ≤ length page

-- what holds of the sizes of every file that is served
pub record IsSoundShape (shape : FileShape) : Type 0 where
  pub least : 480 ≤ shape.usable
  pub usable : shape.usable ≤ shape.page
  pub header : 512 ≤ shape.page
  pub page : shape.page ≤ 65536
  pub some : 0 < shape.count
  pub few : shape.count ≤ 65536

-- the form is that of the image
pub record IsFormOf (image : Image) (form : Form) : Type 0 where
  pub first : IsFirstForm image form.tables.items
  pub size : form.shape.page ≡ page_size (header_of image)
  pub usable : form.shape.usable ≡ usable_size (header_of image)
  pub count : form.shape.count ≡ length image
  pub page : form.page ≡ first_page image

-- what holds of every table that is read, whatever the disk tells
pub record IsReadyTable (table : Table) : Type 0 where
  pub inside : table.columns_end ≤ length table.row.text
  pub root : table.row.root ≤ 65536
  pub name : length table.row.name ≤ 65536
  pub owner : length table.row.table ≤ 65536
  pub text : length table.row.text ≤ 65536

-- what holds of every form that is read, whatever the disk tells
pub record IsReady (form : Form) : Type 0 where
  pub sound : IsSoundShape form.shape
  pub page : length form.page ≡ form.shape.page
  pub tables : AllByRecursion IsReadyTable form.tables.items
  pub apart : AllPairs AreApart (rows_of form.tables.items)
