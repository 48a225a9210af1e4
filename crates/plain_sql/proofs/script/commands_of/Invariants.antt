use Rattle.std.proofs.Common.{length}
use Rattle.plain_sql.proofs.CommandsLemmas.{GoesOn}
use Rattle.plain_sql.proofs.script.commands_of.Given as goal

-- the commands are read, and the rest is left
abbrev pub invariant-loop-rest : goal.invariant-loop-rest
invariant-loop-rest l = GoesOn l.text l.tokens l.commands.items l.rest

abbrev pub decreases-loop-rest : goal.decreases-loop-rest
decreases-loop-rest l = length l.rest
