use Rattle.std.proofs.Common.{subst, sym, ◌∙◌}
use Rattle.sql_reader.proofs.Loops.{Goes, goes_on, goes_start}
use Rattle.sql_tree.specs.declared.trigger.EndedStatement.{EndedStatement}
use Rattle.query_reading.specs.Levels.{read_at}
use Rattle.trigger_reading.specs.Statements.{statement_starts}
use Rattle.trigger_reading.specs.Triggers.{read_ended_statement}
use Rattle.trigger_parse.proofs.TurnLaws.{ended_statement_takes}
use Rattle.trigger_parse.proofs.triggers.more_statements.Goals as goal

pub loop-alloc-init : goal.loop-alloc-init
loop-alloc-init c =
    let n = c.args.levels in
    let start = c.args.cursor.now in
    subst (λ done. Goes EndedStatement statement_starts (λ sort. read_ended_statement sort (read_at sort n)) start done start) (sym c.new-more.ensures)
    (goes_start EndedStatement statement_starts (λ sort. read_ended_statement sort (read_at sort n)) (ended_statement_takes n) start)

pub loop-alloc-smaller : goal.loop-alloc-smaller
loop-alloc-smaller c = ended_statement_takes c.args.levels c.loop-alloc.cursor.text _ _ _ c.in_ok-next.ensures.0

pub loop-alloc-preserved : goal.loop-alloc-preserved
loop-alloc-preserved c =
    let n = c.args.levels in
    let now = c.loop-alloc.cursor in
    subst (λ done. Goes EndedStatement statement_starts (λ sort. read_ended_statement sort (read_at sort n)) c.args.cursor.now done c.ended_statement.new.cursor) (sym c.in_ok-push.ensures.ok)
    (goes_on EndedStatement statement_starts (λ sort. read_ended_statement sort (read_at sort n)) (ended_statement_takes n) c.args.cursor.now now c.ended_statement.new.cursor c.loop-alloc.more _
    c.loop-alloc.invariant (sym c.starts_statement.ensures ∙ c.loop-alloc-test.true) c.in_ok-next.ensures)
