use Rattle.plain_schema.proofs.Written.{not_local}
use Rattle.std.proofs.Common.{arith}
use Rattle.plain_schema.proofs.form.push_cells.Goals as goal

pub returns-then-not-branch-clause-local : goal.returns-then-not-branch-clause-local
returns-then-not-branch-clause-local c =
    not_local c.args.usable c.args.tables.now c.loop-table.table-index c.table-item.result c.in_ok-push_cell.field-0
    (omega arith) c.table-item.is c.in_ok-push_cell.ensures.local c.if-not-branch.true
