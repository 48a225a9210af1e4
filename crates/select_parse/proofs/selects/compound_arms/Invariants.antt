use Rattle.std.proofs.Common.{length}
use Rattle.sql_expr.specs.declared.select.CompoundArm.{CompoundArm}
use Rattle.sql_reader.proofs.Loops.{Goes}
use Rattle.query_reading.specs.Levels.{read_at}
use Rattle.query_reading.specs.Selects.{compound_starts, read_compound_arm}
use Rattle.select_parse.proofs.selects.compound_arms.Given as goal

-- what is read, before what is left, is the whole
abbrev pub invariant-loop-alloc : goal.invariant-loop-alloc
invariant-loop-alloc g l =
    Goes CompoundArm compound_starts (λ sort. read_compound_arm sort (read_at sort (g.T.Trees.left l.trees))) l.initial.cursor l.more l.cursor

abbrev pub decreases-loop-alloc : goal.decreases-loop-alloc
decreases-loop-alloc g l = length l.cursor.left
