use Rattle.std.proofs.Common.{[], ◌∷◌, length}
use Rattle.sql_expr.specs.declared.expr.Expr.{Expr}
use Rattle.sql_expr.specs.declared.lists.NextItem.{NextItem}
use Rattle.sql_expr.specs.declared.select.ValuesRow.{ValuesRow}
use Rattle.sql_reader.proofs.Loops.{Goes}
use Rattle.sql_reader.specs.Looks.{sign}
use Rattle.sql_reader.specs.declared.sort.Mark.TheVariants.{Comma}
use Rattle.query_reading.specs.Levels.{read_at}
use Rattle.query_reading.specs.Selects.{read_next_values_row}
use Rattle.select_parse.proofs.items.more_values_rows.Given as goal

-- what is read, before what is left, is the whole
abbrev pub invariant-loop-alloc : goal.invariant-loop-alloc
invariant-loop-alloc g l =
    Goes (NextItem (ValuesRow Expr)) ((sign Comma ∷ []) ∷ []) (λ sort. read_next_values_row sort (read_at sort (g.T.Trees.left l.trees))) l.initial.cursor l.more l.cursor

abbrev pub decreases-loop-alloc : goal.decreases-loop-alloc
decreases-loop-alloc g l = length l.cursor.left
