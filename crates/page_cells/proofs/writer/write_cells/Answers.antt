use Rattle.std.proofs.Common.{arith, ◌∙◌, ap, ◌++◌, replicate}
use Rattle.alter_bytes.specs.Field.{overlaid}
use Rattle.page_cells.proofs.WriteLemmas.{cells_more, rooms_more}
use Rattle.page_cells.proofs.writer.write_cells.Goals as goal

pub loop-cell-preserved : goal.loop-cell-preserved
loop-cell-preserved c =
    let before = c.loop-cell.invariant in
    let cell = c.cell-item.result in
    record {
      start = omega (arith, rooms_more c.args.cells.now c.loop-cell.cell-index cell (omega arith) c.cell-item.is);
      page =
          c.write_cell.ensures
          ∙ ap (λ n. overlaid c.loop-cell.page c.loop-cell.start (cell ++ replicate n 0)) (omega arith)
          ∙ cells_more c.args.page.now c.args.content c.args.cells.now c.loop-cell.cell-index c.loop-cell.start cell c.loop-cell.page
          (omega arith) c.cell-item.is c.requires before.start before.page;
    }
