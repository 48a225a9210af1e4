use Rattle.std.proofs.Common.{◌≡◌, ◌++◌, length}
use Rattle.sql_token.specs.Scan.{undoubled}
use Rattle.sql_token.proofs.name.undoubled.Given as goal

-- the name so far and what is left give the name
abbrev pub invariant-loop-rest : goal.invariant-loop-rest
invariant-loop-rest l = l.name.items ++ undoubled l.sign l.rest ≡ undoubled l.sign l.bytes

abbrev pub decreases-loop-rest : goal.decreases-loop-rest
decreases-loop-rest l = length l.rest
