use Rattle.std.proofs.Common.{[], ◌∷◌, length}
use Rattle.sql_token.specs.declared.token.Token.{Token}
use Rattle.sql_expr.specs.declared.lists.NextItem.{NextItem}
use Rattle.sql_reader.specs.Looks.{sign}
use Rattle.sql_reader.specs.declared.sort.Mark.TheVariants.{Comma}
use Rattle.query_reading.specs.Names.{read_next_name}
use Rattle.sql_reader.proofs.Loops.{Goes}
use Rattle.trigger_reading.proofs.heads.more_names.Given as goal

-- the names that are read, before those that are left, are the whole
abbrev pub invariant-loop-cursor : goal.invariant-loop-cursor
invariant-loop-cursor l = Goes (NextItem Token) ((sign Comma ∷ []) ∷ []) read_next_name l.initial.cursor l.more l.cursor

abbrev pub decreases-loop-cursor : goal.decreases-loop-cursor
decreases-loop-cursor l = length l.cursor.left
