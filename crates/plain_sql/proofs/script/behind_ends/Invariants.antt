use Rattle.std.proofs.Common.{◌≡◌, List, ◌++◌, length}
use Rattle.sql_token.specs.declared.token.Token.{Token}
use Rattle.plain_sql.specs.Script.{AreEnds}
use Rattle.plain_sql.proofs.script.behind_ends.Given as goal

-- what is passed over is ends
abbrev pub invariant-loop-rest : goal.invariant-loop-rest
invariant-loop-rest l = (ends : List Token) × (l.tokens ≡ ends ++ l.rest) × AreEnds l.text ends

abbrev pub decreases-loop-rest : goal.decreases-loop-rest
decreases-loop-rest l = length l.rest
