use Rattle.std.proofs.Common.{length}
use Rattle.sql_expr.specs.declared.expr.Postfix.{Postfix}
use Rattle.query_reading.specs.Operands.{postfix_starts, read_postfix}
use Rattle.query_reading.specs.Levels.{read_at}
use Rattle.sql_reader.proofs.Loops.{Goes}
use Rattle.expr_parse.proofs.parts.postfixes.Given as goal

-- what is read, before what is left, is the whole
abbrev pub invariant-loop-alloc : goal.invariant-loop-alloc
invariant-loop-alloc g l =
    Goes Postfix postfix_starts (λ sort. read_postfix sort (read_at sort (g.T.Trees.left l.trees))) l.initial.cursor l.postfixes l.cursor

abbrev pub decreases-loop-alloc : goal.decreases-loop-alloc
decreases-loop-alloc g l = length l.cursor.left
