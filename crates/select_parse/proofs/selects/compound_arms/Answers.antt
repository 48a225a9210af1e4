use Rattle.std.proofs.Common.{◌∙◌, subst, sym}
use Rattle.sql_expr.specs.declared.select.CompoundArm.{CompoundArm}
use Rattle.sql_reader.proofs.Loops.{Goes, goes_on}
use Rattle.query_reading.specs.Levels.{read_at}
use Rattle.query_reading.specs.Selects.{compound_starts, read_compound_arm}
use Rattle.select_parse.proofs.Turns.{compound_arm_takes}
use Rattle.select_parse.proofs.selects.compound_arms.Goals as goal

pub loop-alloc-smaller : goal.loop-alloc-smaller
loop-alloc-smaller g c = compound_arm_takes (g.T.Trees.left c.args.trees.now) c.loop-alloc.cursor.text _ _ _ c.in_ok-next.ensures.0

pub loop-alloc-preserved : goal.loop-alloc-preserved
loop-alloc-preserved g c =
    let n = g.T.Trees.left c.args.trees.now in
    let now = c.loop-alloc.cursor in
    let here = sym c.starts_compound.ensures ∙ c.loop-alloc-test.true in
    subst (λ done. Goes CompoundArm compound_starts (λ sort. read_compound_arm sort (read_at sort n)) c.args.cursor.now done c.compound_arm.new.cursor) (sym c.in_ok-push.ensures.ok)
    (goes_on CompoundArm compound_starts (λ sort. read_compound_arm sort (read_at sort n)) (compound_arm_takes n) c.args.cursor.now now c.compound_arm.new.cursor c.loop-alloc.more _ c.loop-alloc.invariant
    here c.in_ok-next.ensures)
