use Rattle.std.proofs.Common.{◌≡◌, List, ◌++◌, length}
use Rattle.sql_token.specs.declared.token.Token.{Token}
use Rattle.plain_sql.specs.TableText.{ArePlain}
use Rattle.plain_sql.proofs.table.behind_words.Given as goal

-- what is passed over are words
abbrev pub invariant-loop-rest : goal.invariant-loop-rest
invariant-loop-rest l = (words : List Token) × (l.tokens ≡ words ++ l.rest) × ArePlain l.text words

abbrev pub decreases-loop-rest : goal.decreases-loop-rest
decreases-loop-rest l = length l.rest
