use Rattle.std.proofs.Common.{◌∙◌, sym, subst}
use Rattle.sql_expr.specs.declared.expr.Postfix.{Postfix}
use Rattle.query_reading.specs.Operands.{postfix_starts, read_postfix}
use Rattle.query_reading.specs.Levels.{read_at}
use Rattle.sql_reader.proofs.Loops.{Goes, goes_on, goes_start}
use Rattle.expr_parse.proofs.TurnLaws.{postfix_takes}
use Rattle.expr_parse.proofs.parts.postfixes.Goals as goal

pub loop-alloc-init : goal.loop-alloc-init
loop-alloc-init g c =
    let n = g.T.Trees.left c.args.trees.now in
    let start = c.args.cursor.now in
    subst (λ done. Goes Postfix postfix_starts (λ sort. read_postfix sort (read_at sort n)) start done start) (sym c.new-postfixes.ensures)
    (goes_start Postfix postfix_starts (λ sort. read_postfix sort (read_at sort n)) (postfix_takes n) start)

pub loop-alloc-smaller : goal.loop-alloc-smaller
loop-alloc-smaller g c =
    postfix_takes (g.T.Trees.left c.args.trees.now) c.loop-alloc.cursor.text _ _ _ c.in_ok-next.ensures.0

pub loop-alloc-preserved : goal.loop-alloc-preserved
loop-alloc-preserved g c =
    let n = g.T.Trees.left c.args.trees.now in
    let now = c.loop-alloc.cursor in
    subst (λ done. Goes Postfix postfix_starts (λ sort. read_postfix sort (read_at sort n)) c.args.cursor.now done c.postfix.new.cursor) (sym c.in_ok-push.ensures.ok)
    (goes_on Postfix postfix_starts (λ sort. read_postfix sort (read_at sort n)) (postfix_takes n) c.args.cursor.now now c.postfix.new.cursor c.loop-alloc.postfixes _
    c.loop-alloc.invariant (sym c.starts_postfix.ensures ∙ c.loop-alloc-test.true) c.in_ok-next.ensures)
