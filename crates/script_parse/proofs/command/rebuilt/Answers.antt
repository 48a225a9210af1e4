use Rattle.script_parse.proofs.Commands.{rebuilt_only}
use Rattle.script_parse.proofs.command.rebuilt.Goals as goal

pub returns-clause-only : goal.returns-clause-only
returns-clause-only c = rebuilt_only c.args.text.now c.args.tokens.now _ c.defined.result c.in-len4-up.len_at_least c.defined.ensures.only
