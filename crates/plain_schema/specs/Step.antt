-- What one command does to an image.
use Rattle.std.specs.Prelude.{◌≡◌, ℕ, ◌+◌, ◌-◌, Bool, true, ◌&&◌, nat_le, nat_eq, if◌then◌else◌, Option, Some, None, List, [], ◌∷◌, ◌++◌, length, map, take, drop, find, codes}
use Rattle.std.specs.List.{list_any, list_all}
use Rattle.std.specs.Cmp.Lexicographic.{pointwise}
use Rattle.page_cells.specs.declared.kind.Kind.TheVariants.{TableLeaf}
use Rattle.page_cells.specs.Layout.{pointer_place}
use Rattle.page_cells.specs.Write.{rooms, written_page}
use Rattle.sql_token.specs.Names.{folded}
use Rattle.schema_rows.specs.declared.schema.SchemaRow.{SchemaRow}
use Rattle.plain_schema.specs.declared.table.Table.{Table}
use Rattle.plain_sql.specs.declared.script.Command.{Command}
use Rattle.plain_schema.specs.declared.verdict.Refusal.{Refusal}
use Rattle.plain_schema.specs.declared.verdict.Refusal.TheVariants.{NoSuchTable, ColumnTaken, TooManyColumns, Unbuilt}
use Rattle.plain_schema.specs.declared.verdict.Verdict.{Verdict}
use Rattle.plain_schema.specs.declared.verdict.Verdict.TheVariants.{Done, Refused}
use Rattle.plain_schema.specs.Image.{Image}
use Rattle.pager_core.specs.Header.{usable_size}
use Rattle.plain_schema.specs.Header.{committed}
use Rattle.schema_rows.specs.Schema.{row_record, row_cell}
use Rattle.plain_schema.specs.FirstForm.{first_page, header_of, rows_of, IsFirstForm}

-- the names are equal, letters of ASCII folded
abbrev pub same_name : List ℕ → List ℕ → Bool
same_name a b = pointwise nat_eq (folded a) (folded b)

-- the command is about this table
abbrev pub is_named : Command → Table → Bool
is_named command table = same_name command.table table.row.name

-- the table has a column of the new name
abbrev pub has_column : Command → Table → Bool
has_column command table = list_any (same_name command.column) table.columns

-- the text with `, ` and the new name behind its last column
abbrev pub with_column : List ℕ → ℕ → List ℕ → List ℕ
with_column text end column = take end text ++ codes ", " ++ column ++ drop end text

-- the table with the column added: only its text is another, and the list of its columns
abbrev pub added : Command → Table → Table
added command table = record {
  row = record table.row { text = with_column table.row.text table.columns_end command.column };
  columns = table.columns ++ command.column ∷ [];
  columns_end = table.columns_end + 2 + length command.column;
}

-- the tables after the command
abbrev pub after : Command → List Table → List Table
after command tables = map (λ table. if is_named command table then added command table else table) tables

-- each row's payload is all local
abbrev pub are_local : ℕ → List SchemaRow → Bool
are_local usable rows = list_all (λ row. nat_le (length (row_record row)) (usable - 35)) rows

-- each row's payload is all local, and page 1 has room for the cells
abbrev pub is_built : ℕ → List SchemaRow → Bool
is_built usable rows = are_local usable rows && nat_le (pointer_place true TableLeaf (length rows) + rooms (map row_cell rows)) usable

-- the first restriction that the command breaks, by the table that it is about
abbrev pub refusal_at : ℕ → List Table → Command → Option Table → Option Refusal
refusal_at usable tables command None = Some NoSuchTable
refusal_at usable tables command (Some table) =
    if has_column command table then Some ColumnTaken
    else if nat_le 2000 (length table.columns) then Some TooManyColumns
    else if is_built usable (rows_of (after command tables)) then None
    else Some Unbuilt

-- the first restriction that the command breaks
abbrev pub refusal_of : ℕ → List Table → Command → Option Refusal
refusal_of usable tables command = refusal_at usable tables command (find (is_named command) tables)

-- the verdict on it
abbrev pub verdict_from : Option Refusal → Verdict
verdict_from None = Done
verdict_from (Some refusal) = Refused refusal

-- The new image of a command that is done. Every page but the first is the same. The first has the header of a
-- committed change and the cells of the rows, as SQLite writes them, and its bytes behind the usable ones are the same.
-- Read anew, the image holds the tables as the command leaves them.
pub record IsAdded (image : Image) (tables : List Table) (command : Command) (new : Image) : Type 0 where
  pub others : drop 1 new ≡ drop 1 image
  pub extent : length new ≡ length image
  pub header : header_of new ≡ committed (length image) 3 (header_of image)
  pub page : first_page new ≡ written_page (committed (length image) 3 (header_of image) ++ drop 100 (first_page image))
      true TableLeaf None (usable_size (header_of image)) (map row_cell (rows_of (after command tables)))
  pub form : IsFirstForm new (after command tables)

-- what a command with this verdict leaves
abbrev pub Leaves : Image → List Table → Command → Verdict → Image → Type 0
Leaves image tables command Done new = IsAdded image tables command new
Leaves image tables command (Refused refusal) new = new ≡ image

-- one command on an image: it gets this verdict, and leaves this image
pub record Step (image : Image) (command : Command) (verdict : Verdict) (new : Image) : Type 0 where
  pub tables : List Table
  pub form : IsFirstForm image tables
  pub decided : verdict ≡ verdict_from (refusal_of (usable_size (header_of image)) tables command)
  pub leaves : Leaves image tables command verdict new
