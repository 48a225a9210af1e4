-- What a command makes of a file, by its form.
use Rattle.std.specs.Prelude.{◌≡◌, ◌≤◌, ◌<◌, ℕ, ◌+◌, ◌^◌, true, false, Option, Some, None, List, ◌∷◌, ◌++◌, map, take, drop, length, All, Vec}
use Rattle.std.specs.List.{list_any}
use Rattle.std.specs.declared.alloc.Global.{Global}
use Rattle.page_cells.specs.declared.kind.Kind.TheVariants.{TableLeaf}
use Rattle.page_cells.specs.Write.{IsWholeCell, written_page}
use Rattle.alter_bytes.specs.declared.bytes.Bytes.{Bytes}
use Rattle.schema_rows.specs.declared.schema.SchemaRow.{SchemaRow}
use Rattle.schema_rows.specs.Schema.{row_cell}
use Rattle.plain_sql.specs.declared.script.Command.{Command}
use Rattle.plain_schema.specs.declared.form.Form.{Form}
use Rattle.plain_schema.specs.declared.table.Table.{Table}
use Rattle.plain_schema.specs.declared.plan.Change.{Change}
use Rattle.plain_schema.specs.declared.plan.Plan.{Plan}
use Rattle.plain_schema.specs.declared.plan.Plan.TheVariants.{Refused, Changed}
use Rattle.plain_schema.specs.declared.verdict.Verdict.{Verdict}
use Rattle.plain_schema.specs.declared.verdict.Verdict.TheVariants as verdicts
use Rattle.plain_schema.specs.Header.{committed}
use Rattle.plain_schema.specs.Image.{Image}
use Rattle.plain_schema.specs.FirstForm.{rows_of}
use Rattle.plain_schema.specs.Step.{are_local, after, refusal_of, verdict_from, is_built, is_named}

-- page 1 with the header of a committed change and these rows
abbrev pub page_of : Form → List SchemaRow → List ℕ
page_of form rows = written_page (committed form.shape.count 3 (take 100 form.page) ++ drop 100 form.page) true TableLeaf None form.shape.usable (map row_cell rows)

-- page 1 after the command, where it is done
abbrev pub new_page : Form → Command → List ℕ
new_page form command = page_of form (rows_of (after command form.tables.items))

-- the verdict on the command
abbrev pub verdict_on : Form → Command → Verdict
verdict_on form command = verdict_from (refusal_of form.shape.usable form.tables.items command)

-- the image after a command with this verdict
abbrev pub left_by : Form → Command → Verdict → Image → Image
left_by form command verdicts.Done image = new_page form command ∷ drop 1 image
left_by form command (verdicts.Refused refusal) image = image

-- the form after a command that is done
pub record IsAdvanced (form : Form) (command : Command) (new : Form) : Type 0 where
  pub shape : new.shape ≡ form.shape
  pub page : new.page ≡ new_page form command
  pub tables : new.tables.items ≡ after command form.tables.items

-- the form after a command with this verdict
abbrev pub Advances : Form → Command → Verdict → Form → Type 0
Advances form command verdicts.Done new = IsAdvanced form command new
Advances form command (verdicts.Refused refusal) new = new ≡ form

-- the table at this place is the one that the command is about
pub record IsPlaceOf (command : Command) (tables : List Table) (place : ℕ) (table : Table) : Type 0 where
  pub front : List Table
  pub behind : List Table
  pub whole : tables ≡ front ++ table ∷ behind
  pub at : place ≡ length front
  pub named : is_named command table ≡ true
  pub none_before : list_any (is_named command) front ≡ false

-- there is such a table at the place
abbrev pub HasPlace : Command → List Table → ℕ → Type 0
HasPlace command tables place = (table : Table) × IsPlaceOf command tables place table

-- the list with another value at this place
abbrev pub put_at : {A : Type 0} → ℕ → A → List A → List A
put_at place value list = take place list ++ value ∷ drop (place + 1) list

-- the verdict of a plan
abbrev pub verdict_of : Plan → Verdict
verdict_of (Refused refusal) = verdicts.Refused refusal
verdict_of (Changed change) = verdicts.Done

-- the command breaks this restriction first, or none, and then page 1 and the table at this place become these
abbrev pub Plans : Form → Command → Plan → Type 0
Plans form command (Refused refusal) = refusal_of form.shape.usable form.tables.items command ≡ Some refusal
Plans form command (Changed change) =
    (refusal_of form.shape.usable form.tables.items command ≡ None) × (change.place < length form.tables.items)
    × (put_at change.place change.table form.tables.items ≡ after command form.tables.items)
    × (change.page ≡ new_page form command)

-- the row's lengths and numbers are those of rows that are written
pub record IsSmallRow (row : SchemaRow) : Type 0 where
  pub root : row.root ≤ 65536
  pub name : length row.name < 2 ^ 40
  pub table : length row.table < 2 ^ 40
  pub text : length row.text < 2 ^ 40

-- the cells of these rows, each a whole one, exactly where their payloads are all local
abbrev pub AreCellsWith : ℕ → List SchemaRow → Option (Vec Bytes Global) → Type 0
AreCellsWith usable rows (Some cells) = (are_local usable rows ≡ true) × (cells.items ≡ map row_cell rows) × All (IsWholeCell TableLeaf usable) cells.items
AreCellsWith usable rows None = are_local usable rows ≡ false

-- page 1 with these rows, exactly where they have room there
abbrev pub IsPageWith : Form → List SchemaRow → Option Bytes → Type 0
IsPageWith form rows (Some page) = (is_built form.shape.usable rows ≡ true) × (page ≡ page_of form rows)
IsPageWith form rows None = is_built form.shape.usable rows ≡ false

-- a changed page 1 is as long as it was
abbrev pub KeepsExtent : Form → Plan → Type 0
KeepsExtent form (Refused refusal) = Unit {0}
KeepsExtent form (Changed change) = length change.page ≡ length form.page

-- the place of a change is one of the form's tables
abbrev pub HasRoomFor : Form → Plan → Type 0
HasRoomFor form (Refused refusal) = Unit {0}
HasRoomFor form (Changed change) = change.place < length form.tables.items

-- the form with a change put in
pub record IsPut (form : Form) (change : Change) (new : Form) : Type 0 where
  pub shape : new.shape ≡ form.shape
  pub page : new.page ≡ change.page
  pub tables : new.tables.items ≡ put_at change.place change.table form.tables.items

-- the form after it took over the plan
abbrev pub IsTaken : Form → Plan → Form → Type 0
IsTaken form (Refused refusal) new = new ≡ form
IsTaken form (Changed change) new = IsPut form change new
