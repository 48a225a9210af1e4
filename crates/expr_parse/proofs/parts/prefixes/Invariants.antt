use Rattle.std.proofs.Common.{[], ◌∷◌, length}
use Rattle.sql_token.specs.declared.token.Token.{Token}
use Rattle.sql_reader.proofs.Loops.{Goes}
use Rattle.sql_reader.specs.Reading.{read_leaf}
use Rattle.query_reading.specs.Operands.{prefix}
use Rattle.expr_parse.proofs.parts.prefixes.Given as goal

-- what is read, before what is left, is the whole
abbrev pub invariant-loop-cursor : goal.invariant-loop-cursor
invariant-loop-cursor l = Goes Token ((prefix ∷ []) ∷ []) (λ sort. read_leaf sort prefix) l.initial.cursor l.prefixes l.cursor

abbrev pub decreases-loop-cursor : goal.decreases-loop-cursor
decreases-loop-cursor l = length l.cursor.left
