use Rattle.std.proofs.Common.{◌≡◌, ◌+◌, ◌*◌, take}
use Rattle.alter_bytes.specs.Field.{overlaid}
use Rattle.page_cells.specs.Write.{pointer_bytes, rooms}
use Rattle.page_cells.proofs.writer.write_pointers.Given as goal

-- the pointers of the cells so far are written
abbrev pub invariant-loop-cell : goal.invariant-loop-cell
invariant-loop-cell l = record {
  place : l.place ≡ l.at + 2 * l.cell-index;
  start : l.start ≡ l.content + rooms (take l.cell-index l.cells);
  page : l.page ≡ overlaid l.fn.page l.at (pointer_bytes l.content (take l.cell-index l.cells));
}
