use Rattle.std.proofs.Common.{[], length, ◌∷◌}
use Rattle.sql_expr.specs.declared.lists.NextItem.{NextItem}
use Rattle.sql_reader.proofs.Loops.{Goes}
use Rattle.sql_reader.specs.Looks.{sign}
use Rattle.sql_reader.specs.declared.sort.Mark.TheVariants.{Comma}
use Rattle.sql_tree.specs.declared.table.TableOption.{TableOption}
use Rattle.table_reading.specs.Tables.{read_next_option}
use Rattle.table_reading.proofs.tables.more_options.Given as goal

-- the options that are read, before those that are left, are the whole
abbrev pub invariant-loop-cursor : goal.invariant-loop-cursor
invariant-loop-cursor l = Goes (NextItem TableOption) ((sign Comma ∷ []) ∷ []) (read_next_option l.text) l.initial.cursor l.more l.cursor

abbrev pub decreases-loop-cursor : goal.decreases-loop-cursor
decreases-loop-cursor l = length l.cursor.left
