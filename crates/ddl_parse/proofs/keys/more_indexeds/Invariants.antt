use Rattle.std.proofs.Common.{[], length, ◌∷◌}
use Rattle.sql_expr.specs.declared.lists.NextItem.{NextItem}
use Rattle.sql_tree.specs.declared.table.Indexed.{Indexed}
use Rattle.sql_reader.specs.Looks.{sign}
use Rattle.sql_reader.specs.declared.sort.Mark.TheVariants.{Comma}
use Rattle.sql_reader.proofs.Loops.{Goes}
use Rattle.query_reading.specs.Levels.{read_at}
use Rattle.table_reading.specs.Tables.{read_next_indexed}
use Rattle.ddl_parse.proofs.keys.more_indexeds.Given as goal

-- what is read, before what is left, is the whole
abbrev pub invariant-loop-alloc : goal.invariant-loop-alloc
invariant-loop-alloc l =
    Goes (NextItem Indexed) ((sign Comma ∷ []) ∷ []) (λ sort. read_next_indexed sort l.levels (read_at sort l.levels)) l.initial.cursor l.more l.cursor

abbrev pub decreases-loop-alloc : goal.decreases-loop-alloc
decreases-loop-alloc l = length l.cursor.left
