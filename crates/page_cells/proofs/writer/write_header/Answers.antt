use Rattle.std.proofs.Common.{ap, sym, arith, ◌+◌, ◌++◌, ◌∙◌}
use Rattle.byteorder.specs.Endian.{big_bytes}
use Rattle.alter_bytes.specs.Field.{overlaid}
use Rattle.alter_bytes.proofs.Fields.{overlaid-behind}
use Rattle.page_cells.specs.Write.{header_fields}
use Rattle.page_cells.proofs.WriteLemmas.{child_bytes-some}
use Rattle.page_cells.proofs.writer.write_header.Goals as goal

pub returns-in-Some : goal.returns-in-Some
returns-in-Some c =
    let page = c.args.page.now in
    let at = c.args.at in
    let child = c.in-Some.child in
    let fields = header_fields c.args.kind c.args.count c.args.content in
    c.write_u32.ensures
    ∙ ap (λ p. overlaid p (at + 8) (big_bytes 4 child)) c.write_fields.ensures
    ∙ overlaid-behind page at fields (big_bytes 4 child) (at + 8) (omega arith) (omega (arith, c.requires.room))
    ∙ ap (λ l. overlaid page at (fields ++ l)) (sym (child_bytes-some c.args.kind c.args.right child c.requires.right c.in-Some.is))
