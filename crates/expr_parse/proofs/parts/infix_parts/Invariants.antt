use Rattle.std.proofs.Common.{length}
use Rattle.sql_expr.specs.declared.expr.InfixPart.{InfixPart}
use Rattle.query_reading.specs.Operands.{infix_starts, read_infix_part}
use Rattle.query_reading.specs.Levels.{read_at}
use Rattle.sql_reader.proofs.Loops.{Goes}
use Rattle.expr_parse.proofs.parts.infix_parts.Given as goal

-- what is read, before what is left, is the whole
abbrev pub invariant-loop-alloc : goal.invariant-loop-alloc
invariant-loop-alloc g l =
    Goes InfixPart infix_starts (λ sort. read_infix_part sort (read_at sort (g.T.Trees.left l.trees))) l.initial.cursor l.more l.cursor

abbrev pub decreases-loop-alloc : goal.decreases-loop-alloc
decreases-loop-alloc g l = length l.cursor.left
