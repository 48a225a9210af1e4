use Rattle.std.proofs.Common.{◌≡◌, ◌+◌, take}
use Rattle.page_cells.specs.Layout.{pointer_place}
use Rattle.page_cells.specs.Write.{rooms}
use Rattle.page_cells.proofs.writer.fits.Given as goal

-- what is free, and what the cells so far and their pointers take
abbrev pub invariant-loop-cell : goal.invariant-loop-cell
invariant-loop-cell l = pointer_place l.fn.first l.fn.kind l.cell-index + rooms (take l.cell-index l.cells) + l.free ≡ l.usable
