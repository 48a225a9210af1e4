use Rattle.std.proofs.Common.{length}
use Rattle.sql_reader.proofs.Loops.{Goes}
use Rattle.sql_tree.specs.declared.table.NextTableCons.{NextTableCons}
use Rattle.query_reading.specs.Levels.{read_at}
use Rattle.table_reading.specs.Tables.{next_cons_starts, read_next_table_cons}
use Rattle.ddl_parse.proofs.constraints.more_table_cons.Given as goal

-- what is read, before what is left, is the whole
abbrev pub invariant-loop-alloc : goal.invariant-loop-alloc
invariant-loop-alloc l =
    Goes NextTableCons next_cons_starts (λ sort. read_next_table_cons sort l.levels (read_at sort l.levels)) l.initial.cursor l.more l.cursor

abbrev pub decreases-loop-alloc : goal.decreases-loop-alloc
decreases-loop-alloc l = length l.cursor.left
