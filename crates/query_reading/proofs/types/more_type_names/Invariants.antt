use Rattle.std.proofs.Common.{length}
use Rattle.sql_token.specs.declared.token.Token.{Token}
use Rattle.sql_reader.proofs.Loops.{Goes}
use Rattle.query_reading.specs.Types.{read_next_type_name, type_name_starts}
use Rattle.query_reading.proofs.types.more_type_names.Given as goal

-- the names that are read, before those that are left, are the whole
abbrev pub invariant-loop-cursor : goal.invariant-loop-cursor
invariant-loop-cursor l = Goes Token type_name_starts read_next_type_name l.initial.cursor l.more l.cursor

abbrev pub decreases-loop-cursor : goal.decreases-loop-cursor
decreases-loop-cursor l = length l.cursor.left
