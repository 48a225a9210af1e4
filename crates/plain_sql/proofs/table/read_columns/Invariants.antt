use Rattle.std.proofs.Common.{length}
use Rattle.plain_sql.proofs.ColumnsLemmas.{LeadsTo}
use Rattle.plain_sql.proofs.table.read_columns.Given as goal

-- the names are read, and the rest is left
abbrev pub invariant-loop-name : goal.invariant-loop-name
invariant-loop-name l = LeadsTo l.text l.tokens l.names l.rest

abbrev pub decreases-loop-name : goal.decreases-loop-name
decreases-loop-name l = length l.rest
