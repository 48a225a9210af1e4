-- A page that was written with the cells of rows holds the rows.
use Rattle.std.proofs.Common.{◌≡◌, ◌≤◌, ℕ, suc, ◌+◌, ◌-◌, true, false, nat_le, nat_lt, Some, None, List, [], ◌∷◌, length, map, All, refl, sym, ◌∙◌, ap, subst, arith}
use Rattle.std.proofs.lemmas.Bool.{and_parts, cond-false, le-ltb, leb-true}
use Rattle.std.proofs.lemmas.Int.{to_z_pos}
use Rattle.std.proofs.lemmas.List.{length-map}
use Rattle.std.proofs.lemmas.List.Elements.{All-cons, All-nil}
use Rattle.std.proofs.lemmas.Option.{same_Some, slice_get-map}
use Rattle.std.specs.Int.{w64}
use Rattle.std.specs.List.{AllByRecursion, list_all, slice_get}
use Rattle.std.specs.Option.{option_map}
use Rattle.byteorder.specs.Endian.{big_number}
use Rattle.page_cells.specs.declared.kind.Kind.TheVariants.{TableLeaf}
use Rattle.page_cells.specs.Layout.{IsUsable, local_payload, pointer_place}
use Rattle.page_cells.specs.Write.{Fits, IsWholeCell, rooms, written_page}
use Rattle.page_cells.specs.declared.cell.Cell.{Cell}
use Rattle.page_cells.proofs.LayoutLemmas.{local_payload-whole}
use Rattle.page_cells.proofs.FoundLemmas.{found_page, has_cells-written_page, length-found_cells, reads_back}
use Rattle.page_cells.proofs.WriteLemmas.{content_start}
use Rattle.common_laws.proofs.Each.{at_index}
use Rattle.schema_rows.specs.declared.schema.SchemaRow.{SchemaRow}
use Rattle.record_codec.specs.Record.{IsRecord}
use Rattle.schema_rows.specs.Schema.{row_cell, row_record, row_values}
use Rattle.schema_rows.proofs.RowWritten.{IsSmall, row_record-ge, row_record-is}
use Rattle.plain_schema.specs.FirstPage.{HoldRows, HoldsRow, HoldsRows, IsRowid}
use Rattle.plain_schema.specs.Step.{are_local, is_built}
use Rattle.plain_schema.proofs.Written.{is_local, whole_row}

-- a row whose cell is written whole
pub record IsWritable (usable : ℕ) (row : SchemaRow) : Type 0 where
  pub numbered : IsRowid row.rowid
  pub small : IsSmall row
  pub local : length (row_record row) ≤ usable - 35

-- a row whose payload is local is small enough to be written
is_small : (usable : ℕ) (row : SchemaRow) → usable ≤ 65536 → row.root ≤ 65536 → length (row_record row) ≤ usable - 35 → IsSmall row
is_small usable row most root local =
    let len = row_record-ge row in
    record {
      root = omega arith;
      name = omega arith;
      table = omega arith;
      text = omega arith;
    }

-- rows whose payloads are local are written whole
pub writable : (usable : ℕ) (rows : List SchemaRow) → usable ≤ 65536 → AllByRecursion (λ row. IsRowid row.rowid) rows
    → AllByRecursion (λ row. row.root ≤ 65536) rows → are_local usable rows ≡ true → AllByRecursion (IsWritable usable) rows
writable usable [] most numbered roots local = tt
writable usable (row ∷ rows) most numbered roots local =
    let parts = and_parts (is_local usable row) (list_all (is_local usable) rows) local in
    let here = leb-true (length (row_record row)) (usable - 35) parts.0 in (
      record { numbered = numbered.0; small = is_small usable row most roots.0 here; local = here },
      writable usable rows most numbered.1 roots.1 parts.1,
    )

-- rows that have room on page 1
pub record HaveRoom (usable : ℕ) (rows : List SchemaRow) : Type 0 where
  pub local : are_local usable rows ≡ true
  pub fits : Fits true TableLeaf usable (map row_cell rows)

-- what is built has room
pub have_room : (usable : ℕ) (rows : List SchemaRow) → is_built usable rows ≡ true → HaveRoom usable rows
have_room usable rows built =
    let room = pointer_place true TableLeaf (length rows) + rooms (map row_cell rows) in
    let parts = and_parts (are_local usable rows) (nat_le room usable) built in
    let within = leb-true room usable parts.1 in
    record { local = parts.0; fits = omega (arith, length-map rows row_cell) }

-- the cell of a row that is written whole
abbrev cell_of : (usable : ℕ) (row : SchemaRow) → IsWritable usable row → IsWholeCell TableLeaf usable (row_cell row)
cell_of usable row is = whole_row usable row is.small (omega (arith, is.numbered)) is.local

-- the cells of rows that are written whole are whole
whole_cells : (usable : ℕ) (rows : List SchemaRow) → AllByRecursion (IsWritable usable) rows → All (IsWholeCell TableLeaf usable) (map row_cell rows)
whole_cells usable [] are = All-nil (IsWholeCell TableLeaf usable)
whole_cells usable (row ∷ rows) are =
    All-cons (IsWholeCell TableLeaf usable) (row_cell row) (map row_cell rows) (cell_of usable row are.0) (whole_cells usable rows are.1)

-- cells that hold the rows at the same indices
hold_rows : (page : List ℕ) (cells : List Cell) (rows : List SchemaRow) → length cells ≡ length rows
    → ((i : ℕ) (cell : Cell) (row : SchemaRow) → slice_get cells i ≡ Some cell → slice_get rows i ≡ Some row → HoldsRow page cell row)
    → HoldRows page cells rows
hold_rows page [] [] same at = tt
hold_rows page (cell ∷ cells) (row ∷ rows) same at =
    (at 0 cell row refl refl, hold_rows page cells rows (omega arith) (λ i c r of_cell of_row. at (suc i) c r of_cell of_row))
hold_rows page [] (row ∷ rows) same at = absurd (omega arith)
hold_rows page (cell ∷ cells) [] same at = absurd (omega arith)

-- the cell at each index holds the row
holds_row : (old : List ℕ) (usable : ℕ) (rows : List SchemaRow) → IsUsable usable (length old) → (are : AllByRecursion (IsWritable usable) rows)
    → Fits true TableLeaf usable (map row_cell rows) → (i : ℕ) (cell : Cell) (row : SchemaRow)
    → slice_get (found_page TableLeaf None usable (map row_cell rows) (whole_cells usable rows are)).cells i ≡ Some cell → slice_get rows i ≡ Some row
    → HoldsRow (written_page old true TableLeaf None usable (map row_cell rows)) cell row
holds_row old usable rows u are fits i cell row found is =
    let cells = map row_cell rows in
    let page = written_page old true TableLeaf None usable cells in
    let size = length (row_record row) in
    let one = at_index (IsWritable usable) rows i row are is in
    let w = cell_of usable row one in
    let given : slice_get cells i ≡ Some (row_cell row) = slice_get-map row_cell rows i ∙ ap (option_map row_cell) is in
    let (c, at, read) = reads_back old true TableLeaf None usable cells u fits (whole_cells usable rows are) i (row_cell row) given w in
    let same : c ≡ cell = same_Some c cell (sym at ∙ found) in
    let inside : nat_lt (local_payload TableLeaf usable size) size ≡ false =
    le-ltb (local_payload TableLeaf usable size) size (omega (arith, local_payload-whole TableLeaf usable size one.local)) in
    let numbered = one.numbered in
    let held : HoldsRow page c row = record {
      rowid = read.rowid ∙ ap Some (to_z_pos w64 row.rowid (omega arith));
      numbered = numbered;
      local = read.overflow ∙ cond-false (nat_lt (local_payload TableLeaf usable size) size) (Some (big_number 4 [])) None inside;
      payload = subst (λ (l : List ℕ). IsRecord l (row_values row)) (sym read.local_part) (row_record-is row one.small);
    } in
    subst (λ (d : Cell). HoldsRow page d row) same held

-- the page holds the rows that were written
pub holds_rows : (old : List ℕ) (usable : ℕ) (rows : List SchemaRow) → IsUsable usable (length old) → AllByRecursion (IsWritable usable) rows
    → Fits true TableLeaf usable (map row_cell rows) → HoldsRows (written_page old true TableLeaf None usable (map row_cell rows)) usable rows
holds_rows old usable rows u are fits =
    let cells = map row_cell rows in
    let whole = whole_cells usable rows are in
    let page = written_page old true TableLeaf None usable cells in
    let found = (found_page TableLeaf None usable cells whole).cells in
    let many : length found ≡ length rows = length-found_cells TableLeaf usable (content_start usable cells) cells whole ∙ length-map rows row_cell in
    record {
      cells = found;
      leaf = has_cells-written_page old true TableLeaf None usable cells u fits refl whole;
      held = hold_rows page found rows many (holds_row old usable rows u are fits);
    }
