use Rattle.std.proofs.Common.{length}
use Rattle.script_parse.proofs.Turns.{Reads}
use Rattle.script_parse.proofs.pieces.commands_of.Given as goal

-- the commands of the pieces in front are read
abbrev pub invariant-loop-rest : goal.invariant-loop-rest
invariant-loop-rest l = Reads l.text l.tokens l.commands.items l.rest

abbrev pub decreases-loop-rest : goal.decreases-loop-rest
decreases-loop-rest l = length l.rest
