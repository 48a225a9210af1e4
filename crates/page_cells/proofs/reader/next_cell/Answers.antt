use Rattle.std.proofs.Common.{◌≡◌, true, false, sym, ap, subst, ◌∙◌}
use Rattle.std.specs.List.{AllWithin}
use Rattle.page_cells.specs.Cells.{cell_end}
use Rattle.page_cells.proofs.CellLemmas.{one_cell}
use Rattle.page_cells.proofs.reader.next_cell.Goals as goal

pub returns-then-not-take_places-clause-none : goal.returns-then-not-take_places-clause-none
returns-then-not-take_places-clause-none c = λ d free.
    let same = one_cell c.args.page.now c.args.kind c.args.usable c.args.at d c.in_ok-cell.cell free.stands c.in_ok-cell.ensures.found.0 in
    apart
    (c.if-not-take_places.ensures.free.1
    (subst (λ e. AllWithin (λ mark. mark ≡ false) c.args.taken.now c.args.at e) (ap (cell_end c.args.kind c.args.usable) same ∙ sym c.in_ok-cell.ensures.found.1)
    free.free))
  where
    apart : false ≡ true → ⊥
    apart e = cc
