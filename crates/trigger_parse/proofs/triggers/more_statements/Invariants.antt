use Rattle.std.proofs.Common.{length}
use Rattle.sql_reader.proofs.Loops.{Goes}
use Rattle.sql_tree.specs.declared.trigger.EndedStatement.{EndedStatement}
use Rattle.query_reading.specs.Levels.{read_at}
use Rattle.trigger_reading.specs.Statements.{statement_starts}
use Rattle.trigger_reading.specs.Triggers.{read_ended_statement}
use Rattle.trigger_parse.proofs.triggers.more_statements.Given as goal

-- what is read, before what is left, is the whole
abbrev pub invariant-loop-alloc : goal.invariant-loop-alloc
invariant-loop-alloc l =
    Goes EndedStatement statement_starts (λ sort. read_ended_statement sort (read_at sort l.levels)) l.initial.cursor l.more l.cursor

abbrev pub decreases-loop-alloc : goal.decreases-loop-alloc
decreases-loop-alloc l = length l.cursor.left
