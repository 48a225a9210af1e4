use Rattle.std.proofs.Common.{length}
use Rattle.sql_reader.proofs.Loops.{Goes}
use Rattle.sql_tree.specs.declared.conflict.ReferenceClause.{ReferenceClause}
use Rattle.table_reading.specs.Conflicts.{clause_starts, read_reference_clause}
use Rattle.table_reading.proofs.conflicts.reference_clauses.Given as goal

-- the clauses that are read, before those that are left, are the whole
abbrev pub invariant-loop-cursor : goal.invariant-loop-cursor
invariant-loop-cursor l = Goes ReferenceClause clause_starts read_reference_clause l.initial.cursor l.clauses l.cursor

abbrev pub decreases-loop-cursor : goal.decreases-loop-cursor
decreases-loop-cursor l = length l.cursor.left
