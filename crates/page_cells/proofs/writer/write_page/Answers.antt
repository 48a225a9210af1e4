use Rattle.std.proofs.Common.{ap, subst, sym, ◌-◌}
use Rattle.page_cells.specs.Write.{HoldsCells}
use Rattle.page_cells.proofs.FoundLemmas.{holds-written_page}
use Rattle.page_cells.proofs.WriteLemmas.{page_written}
use Rattle.page_cells.proofs.writer.write_page.Goals as goal

pub returns-clause-written : goal.returns-clause-written
returns-clause-written c =
    page_written c.args.page.now c.write_header.new.page c.write_pointers.new.page c.clear.new.page c.write_cells.new.page c.args.first c.args.kind c.args.right
    c.args.usable c.header_at-header.result c.header_len.result (c.args.usable - c.total_room.result) c.args.cells.now c.requires.usable.within c.requires.fits
    c.header_at-header.ensures c.header_len.ensures (ap (λ n. c.args.usable - n) c.total_room.ensures) c.write_header.ensures c.write_pointers.ensures
    c.clear.ensures c.write_cells.ensures

pub returns-clause-cells : goal.returns-clause-cells
returns-clause-cells c =
    subst (λ p. HoldsCells p c.args.first c.args.kind c.args.right c.args.usable c.args.cells.now) (sym (returns-clause-written c))
    (holds-written_page c.args.page.now c.args.first c.args.kind c.args.right c.args.usable c.args.cells.now c.requires.usable c.requires.fits
    c.requires.right c.requires.whole)
