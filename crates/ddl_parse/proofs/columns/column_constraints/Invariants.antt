use Rattle.std.proofs.Common.{length}
use Rattle.sql_reader.proofs.Loops.{Goes}
use Rattle.sql_tree.specs.declared.table.ColumnCons.{ColumnCons}
use Rattle.query_reading.specs.Levels.{read_at}
use Rattle.table_reading.specs.Columns.{cons_starts, read_column_cons}
use Rattle.table_reading.specs.Handed.{over}
use Rattle.ddl_parse.proofs.columns.column_constraints.Given as goal

-- what is read, before what is left, is the whole
abbrev pub invariant-loop-alloc : goal.invariant-loop-alloc
invariant-loop-alloc l =
    Goes ColumnCons cons_starts (λ sort. read_column_cons sort (over l.text l.levels (read_at sort l.levels))) l.initial.cursor l.constraints l.cursor

abbrev pub decreases-loop-alloc : goal.decreases-loop-alloc
decreases-loop-alloc l = length l.cursor.left
