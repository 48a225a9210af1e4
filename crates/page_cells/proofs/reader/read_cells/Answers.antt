use Rattle.std.proofs.Common.{◌≡◌, ◌+◌, ◌*◌, ◌++◌, ◌∷◌, [], length, length-append, drop, sym, ap, subst, ◌∙◌, inr, arith}
use Rattle.byteorder.specs.Endian.{big_number}
use Rattle.page_cells.specs.Layout.{pointer, pointer_place, pointers_end}
use Rattle.page_cells.specs.Cells.{AreCells, cell_end}
use Rattle.page_cells.specs.Taken.{IsFreeCell, marked}
use Rattle.page_cells.proofs.CellsLemmas.{AreCells-push, Marks, Marks-more, free_from_next, next_from_free}
use Rattle.page_cells.proofs.reader.read_cells.Goals as goal

pub returns-in-None-clause-fault : goal.returns-in-None-clause-fault
returns-in-None-clause-fault c =
    let low : c.header_at.result + c.header_len.result + 2 * c.args.count ≡ pointers_end c.args.page.now c.args.first c.args.kind =
    omega (arith, c.header_at.ensures, c.header_len.ensures, c.requires.count) in
    let place : c.header_at.result + c.header_len.result + 2 * c.loop-i.i ≡ pointer_place c.args.first c.args.kind (length c.loop-i.cells.items) =
    omega (arith, c.header_at.ensures, c.header_len.ensures, c.loop-i.invariant.count) in
    let at : c.number_at-at.result ≡ pointer c.args.page.now c.args.first c.args.kind (length c.loop-i.cells.items) =
    c.number_at-at.ensures.number ∙ ap (λ p. big_number 2 (drop p c.args.page.now)) place in
    record {
      byte = c.requires.byte;
      fault = inr (
        c.loop-i.cells.items,
        c.requires.room,
        omega (arith, c.loop-i.invariant.count, c.requires.count),
        place,
        c.loop-i.invariant.cells,
        λ d next.
            c.in-None.ensures.none d
            (subst (λ l. IsFreeCell c.args.page.now c.args.kind c.args.usable l c.number_at-at.result c.loop-i.taken d) (sym low)
            (subst (λ a. IsFreeCell c.args.page.now c.args.kind c.args.usable (pointers_end c.args.page.now c.args.first c.args.kind) a c.loop-i.taken d) (sym at)
            (free_from_next c.args.page.now c.args.first c.args.kind c.args.usable c.loop-i.cells.items c.loop-i.taken d c.loop-i.invariant.cells c.loop-i.invariant.marks
            next))),
      );
    }

pub loop-i-preserved : goal.loop-i-preserved
loop-i-preserved c =
    let low : c.header_at.result + c.header_len.result + 2 * c.args.count ≡ pointers_end c.args.page.now c.args.first c.args.kind =
    omega (arith, c.header_at.ensures, c.header_len.ensures, c.requires.count) in
    let place : c.header_at.result + c.header_len.result + 2 * c.loop-i.i ≡ pointer_place c.args.first c.args.kind (length c.loop-i.cells.items) =
    omega (arith, c.header_at.ensures, c.header_len.ensures, c.loop-i.invariant.count) in
    let at : c.number_at-at.result ≡ pointer c.args.page.now c.args.first c.args.kind (length c.loop-i.cells.items) =
    c.number_at-at.ensures.number ∙ ap (λ p. big_number 2 (drop p c.args.page.now)) place in
    let free = c.in-Some.ensures.found.0 in
    let next =
    next_from_free c.args.page.now c.args.first c.args.kind c.args.usable c.loop-i.cells.items c.loop-i.taken c.in-Some.cell c.loop-i.invariant.cells
    c.loop-i.invariant.marks
    (subst (λ a. IsFreeCell c.args.page.now c.args.kind c.args.usable (pointers_end c.args.page.now c.args.first c.args.kind) a c.loop-i.taken c.in-Some.cell) at
    (subst (λ l. IsFreeCell c.args.page.now c.args.kind c.args.usable l c.number_at-at.result c.loop-i.taken c.in-Some.cell) low free)) in
    let items : c.push.new.self.items ≡ c.loop-i.cells.items ++ c.in-Some.cell ∷ [] = c.in_ok-push-in-Some.ensures.items in
    let taken : c.next_cell.new.taken ≡ marked c.loop-i.taken (pointer c.args.page.now c.args.first c.args.kind (length c.loop-i.cells.items)) (cell_end c.args.kind c.args.usable c.in-Some.cell) =
    c.in-Some.ensures.found.1 ∙ ap (λ a. marked c.loop-i.taken a (cell_end c.args.kind c.args.usable c.in-Some.cell)) at in
    record {
      count = ap length items ∙ length-append c.loop-i.cells.items (c.in-Some.cell ∷ []) ∙ ap (λ n. n + 1) c.loop-i.invariant.count;
      cells = subst (AreCells c.args.page.now c.args.first c.args.kind c.args.usable) (sym items)
          (AreCells-push c.args.page.now c.args.first c.args.kind c.args.usable c.loop-i.cells.items c.in-Some.cell c.loop-i.invariant.cells next);
      marks = subst (λ l. Marks c.args.page.now c.args.first c.args.kind c.args.usable l c.next_cell.new.taken) (sym items)
          (subst (Marks c.args.page.now c.args.first c.args.kind c.args.usable (c.loop-i.cells.items ++ c.in-Some.cell ∷ [])) (sym taken)
          (Marks-more c.args.page.now c.args.first c.args.kind c.args.usable c.loop-i.cells.items c.loop-i.taken c.in-Some.cell c.loop-i.invariant.marks next));
    }
