use Rattle.std.proofs.Common.{length}
use Rattle.sql_reader.proofs.Loops.{Goes}
use Rattle.sql_tree.specs.declared.statement.Upsert.{Upsert}
use Rattle.query_reading.specs.Levels.{read_at}
use Rattle.trigger_reading.specs.Statements.{read_upsert, upsert_starts}
use Rattle.trigger_parse.proofs.upserts.upserts.Given as goal

-- what is read, before what is left, is the whole
abbrev pub invariant-loop-alloc : goal.invariant-loop-alloc
invariant-loop-alloc l = Goes Upsert upsert_starts (λ sort. read_upsert sort (read_at sort l.levels)) l.initial.cursor l.upserts l.cursor

abbrev pub decreases-loop-alloc : goal.decreases-loop-alloc
decreases-loop-alloc l = length l.cursor.left
