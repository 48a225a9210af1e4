use Rattle.std.proofs.Common.{◌++◌, codes, ap, ◌∙◌}
use Rattle.std.proofs.lemmas.Result.{err_from_is_err_and}
use Rattle.script_parse.proofs.Commands.{defined_one, defined_unread}
use Rattle.script_parse.proofs.command.defined.Goals as goal

pub returns-in_err-definition-clause-only : goal.returns-in_err-definition-clause-only
returns-in_err-definition-clause-only c =
    let p = err_from_is_err_and c.from_residual-in_err-definition.result c.from_residual-in_err-definition.ensures.1 in
    let same = c.as_slice.ensures ∙ (c.in_ok-body.ensures ∙ ap (λ bytes. codes "CREATE TABLE " ++ bytes) c.bytes_of_all.ensures) in
    rw (p.1, p.2) (defined_unread c.args.text.now c.args.table.now c.args.tokens.now c.as_slice.result.now c.in_err-definition.field-0.0
    same c.in_err-definition.ensures.only)

pub returns-clause-only : goal.returns-clause-only
returns-clause-only c =
    let same = c.in_ok-body.ensures ∙ ap (λ bytes. codes "CREATE TABLE " ++ bytes) c.bytes_of_all.ensures in
    defined_one c.args.text.now c.args.table.now c.args.tokens.now c.in_ok-table.table c.as_slice.result.now c.in_ok-body.body c.in_ok-definition.definition
    c.as_slice.ensures same c.in_ok-table.ensures.only c.in_ok-definition.ensures.only
