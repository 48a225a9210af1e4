use Rattle.std.proofs.Common.{◌∙◌, sym, subst}
use Rattle.sql_reader.proofs.Loops.{Goes, goes_on, goes_start}
use Rattle.sql_tree.specs.declared.table.NextTableCons.{NextTableCons}
use Rattle.query_reading.specs.Levels.{read_at}
use Rattle.table_reading.specs.Tables.{next_cons_starts, read_next_table_cons}
use Rattle.ddl_parse.proofs.TurnLaws.{next_table_cons_takes}
use Rattle.ddl_parse.proofs.constraints.more_table_cons.Goals as goal

pub loop-alloc-init : goal.loop-alloc-init
loop-alloc-init c =
    let n = c.args.levels in
    let start = c.args.cursor.now in
    subst (λ done. Goes NextTableCons next_cons_starts (λ sort. read_next_table_cons sort n (read_at sort n)) start done start) (sym c.new-more.ensures)
    (goes_start NextTableCons next_cons_starts (λ sort. read_next_table_cons sort n (read_at sort n)) (next_table_cons_takes n) start)

pub loop-alloc-smaller : goal.loop-alloc-smaller
loop-alloc-smaller c = next_table_cons_takes c.args.levels c.loop-alloc.cursor.text _ _ _ c.in_ok-next.ensures.0

pub loop-alloc-preserved : goal.loop-alloc-preserved
loop-alloc-preserved c =
    let n = c.args.levels in
    let now = c.loop-alloc.cursor in
    subst (λ done. Goes NextTableCons next_cons_starts (λ sort. read_next_table_cons sort n (read_at sort n)) c.args.cursor.now done c.next_table_cons.new.cursor) (sym c.in_ok-push.ensures.ok)
    (goes_on NextTableCons next_cons_starts (λ sort. read_next_table_cons sort n (read_at sort n)) (next_table_cons_takes n) c.args.cursor.now now c.next_table_cons.new.cursor c.loop-alloc.more _
    c.loop-alloc.invariant (sym c.starts_next_cons.ensures ∙ c.loop-alloc-test.true) c.in_ok-next.ensures)
