-- The schema table of a file that is served so far, on page 1 alone (fileformat2.html, "Storage Of The SQL Database Schema").
use Rattle.std.specs.Prelude.{◌≡◌, ◌≤◌, ◌<◌, ℕ, ◌-◌, ◌^◌, pos, true, false, Some, None, List, [], ◌∷◌, take, drop, length}
use Rattle.page_cells.specs.declared.cell.Cell.{Cell}
use Rattle.page_cells.specs.declared.cell.PageCells.{PageCells}
use Rattle.page_cells.specs.declared.kind.Kind.TheVariants.{TableLeaf}
use Rattle.page_cells.specs.Cells.{HasCells}
use Rattle.schema_rows.specs.declared.schema.SchemaRow.{SchemaRow}
use Rattle.record_codec.specs.Record.{IsRecord}
use Rattle.schema_rows.specs.Schema.{row_values}

-- a rowid that schema rows may have
abbrev pub IsRowid : ℕ → Type 0
IsRowid rowid = (1 ≤ rowid) × (rowid < 2 ^ 32)

-- the cell has this rowid, one that schema rows may have, and this payload, all of it on the page
pub record IsLocal (page : List ℕ) (cell : Cell) (rowid : ℕ) (payload : List ℕ) : Type 0 where
  pub number : cell.rowid ≡ Some (pos rowid)
  pub numbered : IsRowid rowid
  pub local : cell.overflow ≡ None
  pub bytes : payload ≡ take (cell.end - cell.start) (drop cell.start page)

-- the local part of the cell's payload lies on the page
pub record IsOnPage (page : List ℕ) (cell : Cell) : Type 0 where
  pub start : cell.start ≤ cell.end
  pub end : cell.end ≤ length page

-- the cell holds the row, all of it on the page
pub record HoldsRow (page : List ℕ) (cell : Cell) (row : SchemaRow) : Type 0 where
  pub rowid : cell.rowid ≡ Some (pos row.rowid)
  pub numbered : IsRowid row.rowid
  pub local : cell.overflow ≡ None
  pub payload : IsRecord (take (cell.end - cell.start) (drop cell.start page)) (row_values row)

-- the cells hold the rows, one each, in order
abbrev pub HoldRows : List ℕ → List Cell → List SchemaRow → Type 0
HoldRows page [] [] = Unit {0}
HoldRows page (cell ∷ cells) (row ∷ rows) = HoldsRow page cell row × HoldRows page cells rows
HoldRows page [] (row ∷ rows) = ⊥
HoldRows page (cell ∷ cells) [] = ⊥

-- a leaf page of a table tree with these cells
abbrev pub leaf_of : List Cell → PageCells
leaf_of cells = record { kind = TableLeaf; right = None; cells = cells }

-- the page is page 1, and holds these rows in this order and nothing else
pub record HoldsRows (page : List ℕ) (usable : ℕ) (rows : List SchemaRow) : Type 0 where
  pub cells : List Cell
  pub leaf : HasCells page true TableLeaf usable (leaf_of cells)
  pub held : HoldRows page cells rows

-- a leaf page of a table tree without a cell
abbrev pub IsEmptyTable : ℕ → List ℕ → Type 0
IsEmptyTable usable page = HasCells page false TableLeaf usable (leaf_of [])
