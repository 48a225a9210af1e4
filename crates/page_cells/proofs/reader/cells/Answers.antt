use Rattle.std.proofs.Common.{◌≡◌, ◌+◌, ◌∙◌, drop, slice_index, sym, ap, subst, arith}
use Rattle.std.proofs.lemmas.Result.{err_from_is_err_and}
use Rattle.byteorder.specs.Endian.{big_number}
use Rattle.page_cells.specs.Layout.{cell_count, header_start, kind_byte}
use Rattle.page_cells.specs.Cells.{HasCells, HasChild}
use Rattle.page_cells.proofs.CellsLemmas.{fault_first, fault_of_kind, fault_only, has_of_kind, made_page, no_fault, one_page}
use Rattle.page_cells.proofs.reader.cells.Goals as goal

pub returns-in_err-cells-clause-only : goal.returns-in_err-cells-clause-only
returns-in_err-cells-clause-only c =
    let p = err_from_is_err_and c.from_residual.result c.from_residual.ensures.1 in
    let byte : slice_index c.args.page.now (header_start c.args.first) ≡ kind_byte c.in-Some.kind =
    ap (slice_index c.args.page.now) (sym c.header_at-header.ensures) ∙ c.in-Some.ensures.found in
    rw (p.1, p.2) (λ k d is.
    fault_only c.args.page.now c.args.first c.in-Some.kind c.args.usable _ c.in_err-cells.ensures.fault d
    (has_of_kind c.args.page.now c.args.first c.in-Some.kind c.args.usable byte k d is))

pub returns-in_err-cells-clause-first_fault : goal.returns-in_err-cells-clause-first_fault
returns-in_err-cells-clause-first_fault c =
    let p = err_from_is_err_and c.from_residual.result c.from_residual.ensures.1 in
    let byte : slice_index c.args.page.now (header_start c.args.first) ≡ kind_byte c.in-Some.kind =
    ap (slice_index c.args.page.now) (sym c.header_at-header.ensures) ∙ c.in-Some.ensures.found in
    rw (p.1, p.2) (λ k at is.
    fault_first c.args.page.now c.args.first c.in-Some.kind c.args.usable _ c.in_err-cells.ensures.fault at
    (fault_of_kind c.args.page.now c.args.first c.in-Some.kind c.args.usable byte k at is))

-- the byte of the page's kind
byte_of : (c : goal.After-new) → slice_index c.args.page.now (header_start c.args.first) ≡ kind_byte c.in-Some.kind
byte_of c = ap (slice_index c.args.page.now) (sym c.header_at-header.ensures) ∙ c.in-Some.ensures.found

-- the page of the cells that were read
has : (c : goal.After-new)
    → HasCells c.args.page.now c.args.first c.in-Some.kind c.args.usable (record { kind = c.in-Some.kind; right = c.child_at-right.result; cells = c.in_ok-cells.cells.items })
has c =
    let count : c.number_at-count.result ≡ cell_count c.args.page.now c.args.first =
    c.number_at-count.ensures.number ∙ ap (λ h. big_number 2 (drop (h + 3) c.args.page.now)) c.header_at-header.ensures in
    let right = subst (λ h. HasChild c.in-Some.kind c.args.page.now (h + 8) c.child_at-right.result) c.header_at-header.ensures c.child_at-right.ensures in
    made_page c.args.page.now c.args.first c.in-Some.kind c.child_at-right.result c.args.usable c.number_at-count.result c.in_ok-cells.cells.items (byte_of c) right count
    (omega (arith, c.if-usable-header.false, c.header_at-header.ensures, c.header_len.ensures)) c.in_ok-cells.ensures.found.0 c.in_ok-cells.ensures.found.1

pub returns-clause-found : goal.returns-clause-found
returns-clause-found c = rw c.new.ensures (has c)

pub returns-clause-only : goal.returns-clause-only
returns-clause-only c =
    rw c.new.ensures (λ k d is.
    one_page c.args.page.now c.args.first c.in-Some.kind c.args.usable _ d (has c)
    (has_of_kind c.args.page.now c.args.first c.in-Some.kind c.args.usable (byte_of c) k d is))

pub returns-clause-first_fault : goal.returns-clause-first_fault
returns-clause-first_fault c = λ k at is.
    no_fault c.args.page.now c.args.first c.in-Some.kind c.args.usable at _ (has c)
    (fault_of_kind c.args.page.now c.args.first c.in-Some.kind c.args.usable (byte_of c) k at is)
