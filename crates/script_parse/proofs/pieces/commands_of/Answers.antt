use Rattle.std.proofs.Common.{length, arith, subst, sym, ap, ◌∙◌}
use Rattle.std.proofs.lemmas.Result.{err_from_is_err_and}
use Rattle.std.specs.List.{AllByRecursion}
use Rattle.common_laws.proofs.Lists.{some_left}
use Rattle.sql_token.specs.Token.{IsTokenAt}
use Rattle.script_parse.proofs.Cuts.{all_of_first}
use Rattle.script_parse.proofs.Turns.{Reads, behind_shorter, piece_refused, piece_unread, reads_first, reads_turn}
use Rattle.script_parse.proofs.pieces.commands_of.Goals as goal

pub loop-rest-init : goal.loop-rest-init
loop-rest-init c =
    subst (λ cs. Reads c.args.text.now c.args.tokens.now cs c.args.tokens.now) (sym c.new-commands.ensures.items)
    (reads_first c.args.text.now c.args.tokens.now c.requires.tokens)

pub loop-rest-smaller : goal.loop-rest-smaller
loop-rest-smaller c =
    let shorter = behind_shorter c.args.text.now c.loop-rest.rest.now (some_left _ (sym c.is_empty.ensures ∙ c.loop-rest-test.true)) in
    omega (arith, ap length c.behind_first-rest.ensures, shorter)

pub loop-rest-preserved : goal.loop-rest-preserved
loop-rest-preserved c =
    let text = c.args.text.now in
    subst (λ rest. Reads text c.args.tokens.now c.add_command.new.commands.items rest) (sym c.behind_first-rest.ensures)
    (reads_turn text c.args.tokens.now c.loop-rest.rest.now c.loop-rest.commands.items c.add_command.new.commands.items c.first_piece-piece.result.now
    c.loop-rest.invariant (sym c.first_piece-piece.ensures) c.in_ok-add_command.ensures.ok)

pub returns-in_err-add_command-clause-only : goal.returns-in_err-add_command-clause-only
returns-in_err-add_command-clause-only c = λ all spelled few.
    let p = err_from_is_err_and c.from_residual.result c.from_residual.ensures.1 in
    rw (p.1, p.2) (piece_unread c.args.text.now c.args.tokens.now c.loop-rest.rest.now c.loop-rest.commands.items all c.first_piece-piece.result.now
    c.in_err-add_command.field-0.0 c.loop-rest.invariant (sym c.first_piece-piece.ensures) c.in_err-add_command.ensures.fault spelled few)

pub returns-in_err-add_command-clause-fault : goal.returns-in_err-add_command-clause-fault
returns-in_err-add_command-clause-fault c =
    let p = err_from_is_err_and c.from_residual.result c.from_residual.ensures.1 in
    rw (p.1, p.2) (piece_refused c.args.text.now c.args.tokens.now c.loop-rest.rest.now c.loop-rest.commands.items c.first_piece-piece.result.now
    c.in_err-add_command.field-0.0 c.loop-rest.invariant (sym c.first_piece-piece.ensures) c.in_err-add_command.ensures.fault)

pub add_command-requires-clause-at : goal.add_command-requires-clause-at
add_command-requires-clause-at c =
    subst (AllByRecursion (IsTokenAt c.args.text.now)) (sym c.first_piece-piece.ensures)
    (all_of_first (IsTokenAt c.args.text.now) c.args.text.now c.loop-rest.rest.now c.loop-rest.invariant.stand)
