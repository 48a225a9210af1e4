use Rattle.std.proofs.Common.{length}
use Rattle.sql_reader.proofs.Loops.{Goes}
use Rattle.sql_expr.specs.declared.lists.NextItem.{NextItem}
use Rattle.sql_tree.specs.declared.table.Column.{Column}
use Rattle.query_reading.specs.Levels.{read_at}
use Rattle.table_reading.specs.Columns.{next_column_starts, read_next_column}
use Rattle.table_reading.specs.Handed.{over}
use Rattle.ddl_parse.proofs.tables.more_columns.Given as goal

-- what is read, before what is left, is the whole
abbrev pub invariant-loop-alloc : goal.invariant-loop-alloc
invariant-loop-alloc l =
    Goes (NextItem Column) next_column_starts (λ sort. read_next_column sort (over l.text l.levels (read_at sort l.levels))) l.initial.cursor l.more l.cursor

abbrev pub decreases-loop-alloc : goal.decreases-loop-alloc
decreases-loop-alloc l = length l.cursor.left
