use Rattle.std.proofs.Common.{◌≡◌, length}
use Rattle.script_parse.specs.Script.{behind_first}
use Rattle.script_parse.proofs.pieces.behind_first.Given as goal

-- what is sought is behind the first `;` of the rest
abbrev pub invariant-loop-rest : goal.invariant-loop-rest
invariant-loop-rest l = behind_first l.text l.tokens ≡ behind_first l.text l.rest

abbrev pub decreases-loop-rest : goal.decreases-loop-rest
decreases-loop-rest l = length l.rest
