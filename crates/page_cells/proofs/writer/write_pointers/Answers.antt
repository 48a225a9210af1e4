use Rattle.std.proofs.Common.{arith, ◌∙◌}
use Rattle.page_cells.proofs.WriteLemmas.{pointers_more, rooms_more}
use Rattle.page_cells.proofs.writer.write_pointers.Goals as goal

pub loop-cell-preserved : goal.loop-cell-preserved
loop-cell-preserved c =
    let before = c.loop-cell.invariant in
    record {
      place = omega arith;
      start = omega (arith, rooms_more c.args.cells.now c.loop-cell.cell-index c.cell-item.result (omega arith) c.cell-item.is);
      page =
          c.write_u16.ensures
          ∙ pointers_more c.args.page.now c.args.at c.args.content c.args.cells.now c.loop-cell.cell-index c.loop-cell.place c.loop-cell.start
          c.cell-item.result c.loop-cell.page (omega arith) c.requires.room before.place before.start before.page;
    }
