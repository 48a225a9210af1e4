use Rattle.std.proofs.Common.{length}
use Rattle.sql_expr.specs.declared.source.JoinedSource.{JoinedSource}
use Rattle.sql_reader.proofs.Loops.{Goes}
use Rattle.query_reading.specs.Levels.{read_at}
use Rattle.query_reading.specs.Sources.{join_starts, read_joined_source}
use Rattle.select_parse.proofs.sources.joined_sources.Given as goal

-- what is read, before what is left, is the whole
abbrev pub invariant-loop-alloc : goal.invariant-loop-alloc
invariant-loop-alloc g l =
    Goes JoinedSource join_starts (λ sort. read_joined_source sort (read_at sort (g.T.Trees.left l.trees))) l.initial.cursor l.more l.cursor

abbrev pub decreases-loop-alloc : goal.decreases-loop-alloc
decreases-loop-alloc g l = length l.cursor.left
