use Rattle.std.proofs.Common.{[], ◌∷◌, length}
use Rattle.sql_expr.specs.declared.call.When.{When}
use Rattle.sql_expr.specs.declared.expr.Expr.{Expr}
use Rattle.sql_reader.specs.Looks.{word}
use Rattle.sql_token.specs.declared.keyword.Keyword.TheVariants as K
use Rattle.query_reading.specs.Calls.{read_when}
use Rattle.query_reading.specs.Levels.{read_at}
use Rattle.sql_reader.proofs.Loops.{Goes}
use Rattle.expr_parse.proofs.functions.more_whens.Given as goal

-- what is read, before what is left, is the whole
abbrev pub invariant-loop-alloc : goal.invariant-loop-alloc
invariant-loop-alloc g l =
    Goes (When Expr) ((word K.When ∷ []) ∷ []) (λ sort. read_when sort (read_at sort (g.T.Trees.left l.trees))) l.initial.cursor l.more l.cursor

abbrev pub decreases-loop-alloc : goal.decreases-loop-alloc
decreases-loop-alloc g l = length l.cursor.left
