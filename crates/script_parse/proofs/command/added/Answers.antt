use Rattle.std.proofs.lemmas.Result.{err_from_is_err_and}
use Rattle.script_parse.proofs.Commands.{added_one, added_unread}
use Rattle.script_parse.proofs.command.added.Goals as goal

pub returns-in_err-column-clause-only : goal.returns-in_err-column-clause-only
returns-in_err-column-clause-only c =
    let p = err_from_is_err_and c.from_residual-in_err-column.result c.from_residual-in_err-column.ensures.1 in
    rw (p.1, p.2) (added_unread c.args.text.now c.args.table.now c.args.tokens.now c.bytes_of_all-body.result.now c.in_err-column.field-0.0
    c.bytes_of_all-body.ensures c.in_err-column.ensures.only)

pub returns-clause-only : goal.returns-clause-only
returns-clause-only c =
    added_one c.args.text.now c.args.table.now c.args.tokens.now c.in_ok-table.table c.bytes_of_all-body.result.now c.in_ok-copy.copy c.in_ok-column.column
    c.bytes_of_all-body.ensures c.in_ok-copy.ensures c.in_ok-table.ensures.only c.in_ok-column.ensures.only
