use Rattle.std.proofs.Common.{◌≡◌, drop}
use Rattle.sql_token.specs.Names.{folded}
use Rattle.sql_token.specs.Scan.{first_spelled}
use Rattle.sql_token.proofs.keyword.first_spelled.Given as goal

-- what is left of the keywords decides
abbrev pub invariant-loop-keyword : goal.invariant-loop-keyword
invariant-loop-keyword l =
    first_spelled (folded l.word) (drop l.keyword-index l.keywords) ≡ first_spelled (folded l.word) l.keywords
