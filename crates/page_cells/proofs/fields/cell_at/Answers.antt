use Rattle.std.proofs.Common.{refl, ◌∙◌, arith}
use Rattle.page_cells.proofs.FieldLemmas.{cell_end-read, no_rowid, read_cell}
use Rattle.page_cells.proofs.LayoutLemmas.{local_payload-le, most_local-le, overflow_size-is}
use Rattle.page_cells.proofs.fields.cell_at.Goals as goal

pub returns-in_err-rowid-clause-none : goal.returns-in_err-rowid-clause-none
returns-in_err-rowid-clause-none c =
    rw c.from_residual-in_err-rowid.ensures (λ d is _.
    no_rowid c.args.page.now c.args.kind c.args.usable c.args.at c.child_len.result c.in_ok-payload.length_size c.in_ok-payload.payload d
    c.child_len.ensures c.in_ok-payload.ensures.found c.in_err-rowid.ensures.none is)

pub overflow_add-end : goal.overflow_add-end
overflow_add-end c =
    let most = local_payload-le c.args.kind c.args.usable c.in_ok-payload.payload c.requires.usable.least in
    let usable = most_local-le c.args.kind c.args.usable in
    omega (arith, c.local_len-local.ensures, c.if-usable-fields.false, c.requires.usable.most, c.in_ok-payload.ensures.most, c.in_ok-rowid.ensures.most)

pub overflow_add-behind : goal.overflow_add-behind
overflow_add-behind c =
    let most = local_payload-le c.args.kind c.args.usable c.in_ok-payload.payload c.requires.usable.least in
    let usable = most_local-le c.args.kind c.args.usable in
    omega (arith, c.local_len-local.ensures, c.if-usable-fields.false, c.requires.usable.most, c.in_ok-payload.ensures.most, c.in_ok-rowid.ensures.most, c.overflow_len.ensures.most)

pub returns-then-usable-behind-clause-none : goal.returns-then-usable-behind-clause-none
returns-then-usable-behind-clause-none c = λ d is fits.
    let size = c.overflow_len.ensures.len ∙ overflow_size-is c.args.kind c.args.usable c.in_ok-payload.payload c.local_len-local.result c.local_len-local.ensures in
    let end = cell_end-read c.args.page.now c.args.kind c.args.usable c.args.at c.child_len.result c.in_ok-payload.length_size c.in_ok-payload.payload
    c.in_ok-rowid.rowid_size c.in_ok-rowid.rowid d c.child_len.ensures c.in_ok-payload.ensures.found c.in_ok-rowid.ensures.found is in
    omega (arith, end, size, c.local_len-local.ensures, c.if-usable-behind.true, fits)

pub returns-clause-found : goal.returns-clause-found
returns-clause-found c =
    let size = c.overflow_len.ensures.len ∙ overflow_size-is c.args.kind c.args.usable c.in_ok-payload.payload c.local_len-local.result c.local_len-local.ensures in (
      read_cell c.args.page.now c.args.kind c.args.usable c.args.at c.child_len.result c.in_ok-payload.length_size c.in_ok-rowid.rowid_size c.local_len-local.result _
          c.child_len.ensures c.child_at-left.ensures c.in_ok-payload.ensures.found c.in_ok-rowid.ensures.found refl refl c.local_len-local.ensures
          c.overflow_page.ensures,
      omega (arith, size, c.local_len-local.ensures),
      omega (arith, c.if-usable-behind.false),
    )
