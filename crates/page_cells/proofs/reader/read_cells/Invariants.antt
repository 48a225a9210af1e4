use Rattle.std.proofs.Common.{◌≡◌, length}
use Rattle.page_cells.specs.Cells.{AreCells}
use Rattle.page_cells.proofs.CellsLemmas.{Marks}
use Rattle.page_cells.proofs.reader.read_cells.Given as goal

-- the cells so far are those at the first pointers, and the marks follow them
abbrev pub invariant-loop-i : goal.invariant-loop-i
invariant-loop-i l = record {
  count : length l.cells.items ≡ l.i;
  cells : AreCells l.page l.first l.kind l.usable l.cells.items;
  marks : Marks l.page l.first l.kind l.usable l.cells.items l.taken;
}
