use Rattle.std.proofs.Common.{sym}
use Rattle.page_cells.proofs.FieldLemmas.{no_number}
use Rattle.page_cells.proofs.fields.rowid_at.Goals as goal

pub returns-in_err-rowid-in-TableInner-clause-none : goal.returns-in_err-rowid-in-TableInner-clause-none
returns-in_err-rowid-in-TableInner-clause-none c =
    rw c.from_residual.ensures (λ n rowid is.
    no_number c.args.kind c.args.page.now c.args.at n rowid c.in-TableInner.is (sym c.in_err-rowid-in-TableInner.ensures.exact) is)
