use Rattle.std.proofs.Common.{ap, subst, sym, ◌∙◌}
use Rattle.sql_reader.proofs.Loops.{Goes, goes_on, looks_one}
use Rattle.sql_reader.specs.Looks.{word}
use Rattle.sql_reader.specs.Sorts.{sort_of}
use Rattle.sql_token.specs.declared.keyword.Keyword.TheVariants.{On}
use Rattle.sql_tree.specs.declared.statement.Upsert.{Upsert}
use Rattle.query_reading.specs.Levels.{read_at}
use Rattle.trigger_reading.specs.Statements.{read_upsert, upsert_starts}
use Rattle.trigger_parse.proofs.TurnLaws.{upsert_takes}
use Rattle.trigger_parse.proofs.upserts.upserts.Goals as goal

pub loop-alloc-smaller : goal.loop-alloc-smaller
loop-alloc-smaller c = upsert_takes c.args.levels c.loop-alloc.cursor.text _ _ _ c.in_ok-next.ensures.0

pub loop-alloc-preserved : goal.loop-alloc-preserved
loop-alloc-preserved c =
    let n = c.args.levels in
    let now = c.loop-alloc.cursor in
    let here = ap (word On) (sym c.first.ensures) ∙ sym c.is_word.ensures ∙ c.loop-alloc-test.true in
    subst (λ done. Goes Upsert upsert_starts (λ sort. read_upsert sort (read_at sort n)) c.args.cursor.now done c.upsert.new.cursor) (sym c.in_ok-push.ensures.ok)
    (goes_on Upsert upsert_starts (λ sort. read_upsert sort (read_at sort n)) (upsert_takes n) c.args.cursor.now now c.upsert.new.cursor c.loop-alloc.upserts _
    c.loop-alloc.invariant (looks_one (sort_of now.text) (word On) now.left here) c.in_ok-next.ensures)
