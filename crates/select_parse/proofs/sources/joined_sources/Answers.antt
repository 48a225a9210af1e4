use Rattle.std.proofs.Common.{◌∙◌, subst, sym}
use Rattle.sql_expr.specs.declared.source.JoinedSource.{JoinedSource}
use Rattle.sql_reader.proofs.Loops.{Goes, goes_on}
use Rattle.query_reading.specs.Levels.{read_at}
use Rattle.query_reading.specs.Sources.{join_starts, read_joined_source}
use Rattle.select_parse.proofs.Turns.{joined_source_takes}
use Rattle.select_parse.proofs.sources.joined_sources.Goals as goal

pub loop-alloc-smaller : goal.loop-alloc-smaller
loop-alloc-smaller g c = joined_source_takes (g.T.Trees.left c.args.trees.now) c.loop-alloc.cursor.text _ _ _ c.in_ok-next.ensures.0

pub loop-alloc-preserved : goal.loop-alloc-preserved
loop-alloc-preserved g c =
    let n = g.T.Trees.left c.args.trees.now in
    let now = c.loop-alloc.cursor in
    let here = sym c.starts_join.ensures ∙ c.loop-alloc-test.true in
    subst (λ done. Goes JoinedSource join_starts (λ sort. read_joined_source sort (read_at sort n)) c.args.cursor.now done c.joined_source.new.cursor) (sym c.in_ok-push.ensures.ok)
    (goes_on JoinedSource join_starts (λ sort. read_joined_source sort (read_at sort n)) (joined_source_takes n) c.args.cursor.now now c.joined_source.new.cursor c.loop-alloc.more _ c.loop-alloc.invariant
    here c.in_ok-next.ensures)
