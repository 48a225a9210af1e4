use Rattle.std.proofs.Common.{◌≡◌, ◌+◌, take}
use Rattle.alter_bytes.specs.Field.{overlaid}
use Rattle.page_cells.specs.Write.{cell_bytes, rooms}
use Rattle.page_cells.proofs.writer.write_cells.Given as goal

-- the cells so far are written
abbrev pub invariant-loop-cell : goal.invariant-loop-cell
invariant-loop-cell l = record {
  start : l.start ≡ l.content + rooms (take l.cell-index l.cells);
  page : l.page ≡ overlaid l.fn.page l.content (cell_bytes (take l.cell-index l.cells));
}
