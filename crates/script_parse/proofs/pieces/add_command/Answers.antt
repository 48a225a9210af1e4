use Rattle.std.proofs.Common.{◌<◌, length, arith}
use Rattle.std.proofs.lemmas.Result.{err_from_is_err_and}
use Rattle.script_parse.proofs.Turns.{taken_fault, taken_one}
use Rattle.script_parse.proofs.pieces.add_command.Goals as goal

pub returns-in_err-command-clause-fault : goal.returns-in_err-command-clause-fault
returns-in_err-command-clause-fault c =
    let p = err_from_is_err_and c.from_residual.result c.from_residual.ensures.1 in
    let few : length c.args.commands.now.items < 10000 = omega arith in
    rw (p.1, p.2) (taken_fault c.args.text.now c.args.piece.now c.in-Some.first.now c.in-Some.field-0-1.now c.args.commands.now.items c.in_err-command.field-0.0
    c.in-Some.ensures.cases.0 few c.in_err-command.ensures.fault c.in_err-command.ensures.only)

pub returns-clause-ok : goal.returns-clause-ok
returns-clause-ok c =
    let few : length c.args.commands.now.items < 10000 = omega arith in
    taken_one c.args.text.now c.args.piece.now c.in-Some.first.now c.in-Some.field-0-1.now c.args.commands.now.items c.push.new.self.items c.in_ok-command.command
    c.in-Some.ensures.cases.0 few c.in_ok-command.ensures.found c.in_ok-command.ensures.only c.in_ok-push.ensures.items
