use Rattle.std.proofs.Common.{refl, arith, ◌∙◌, ap, ap₂, ◌+◌, ◌-◌, replicate, length}
use Rattle.alter_bytes.specs.Field.{overlaid}
use Rattle.alter_bytes.proofs.Fields.{overlaid-behind}
use Rattle.page_cells.proofs.writer.write_cell.Goals as goal

pub returns : goal.returns
returns c =
    let page = c.args.page.now in
    let cell = c.args.cell.now in
    let start = c.args.start in
    let end = c.args.end in
    c.clear.ensures
    ∙ ap₂ (λ p n. overlaid p (start + n) (replicate (end - (start + n)) 0))
    (c.write_bytes.ensures ∙ ap (overlaid page start) c.as_slice.ensures) c.len.ensures
    ∙ overlaid-behind page start cell (replicate (end - (start + length cell)) 0) (start + length cell) refl (omega arith)
