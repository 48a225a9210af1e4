use Rattle.std.proofs.Common.{◌∙◌, sym, subst}
use Rattle.sql_expr.specs.declared.expr.InfixPart.{InfixPart}
use Rattle.query_reading.specs.Operands.{infix_starts, read_infix_part}
use Rattle.query_reading.specs.Levels.{read_at}
use Rattle.sql_reader.proofs.Loops.{Goes, goes_on, goes_start}
use Rattle.expr_parse.proofs.TurnLaws.{infix_part_takes}
use Rattle.expr_parse.proofs.parts.infix_parts.Goals as goal

pub loop-alloc-init : goal.loop-alloc-init
loop-alloc-init g c =
    let n = g.T.Trees.left c.args.trees.now in
    let start = c.args.cursor.now in
    subst (λ done. Goes InfixPart infix_starts (λ sort. read_infix_part sort (read_at sort n)) start done start) (sym c.new-more.ensures)
    (goes_start InfixPart infix_starts (λ sort. read_infix_part sort (read_at sort n)) (infix_part_takes n) start)

pub loop-alloc-smaller : goal.loop-alloc-smaller
loop-alloc-smaller g c =
    infix_part_takes (g.T.Trees.left c.args.trees.now) c.loop-alloc.cursor.text _ _ _ c.in_ok-next.ensures.0

pub loop-alloc-preserved : goal.loop-alloc-preserved
loop-alloc-preserved g c =
    let n = g.T.Trees.left c.args.trees.now in
    let now = c.loop-alloc.cursor in
    subst (λ done. Goes InfixPart infix_starts (λ sort. read_infix_part sort (read_at sort n)) c.args.cursor.now done c.infix_part.new.cursor) (sym c.in_ok-push.ensures.ok)
    (goes_on InfixPart infix_starts (λ sort. read_infix_part sort (read_at sort n)) (infix_part_takes n) c.args.cursor.now now c.infix_part.new.cursor c.loop-alloc.more _
    c.loop-alloc.invariant (sym c.starts_infix.ensures ∙ c.loop-alloc-test.true) c.in_ok-next.ensures)
