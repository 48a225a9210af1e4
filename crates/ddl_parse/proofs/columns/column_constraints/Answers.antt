use Rattle.std.proofs.Common.{◌∙◌, sym, subst}
use Rattle.sql_reader.proofs.Loops.{Goes, goes_on, goes_start}
use Rattle.sql_tree.specs.declared.table.ColumnCons.{ColumnCons}
use Rattle.query_reading.specs.Levels.{read_at}
use Rattle.table_reading.specs.Columns.{cons_starts, read_column_cons}
use Rattle.table_reading.specs.Handed.{over}
use Rattle.ddl_parse.proofs.TurnLaws.{column_cons_takes}
use Rattle.ddl_parse.proofs.columns.column_constraints.Goals as goal

pub loop-alloc-init : goal.loop-alloc-init
loop-alloc-init c =
    let n = c.args.levels in
    let text = c.args.text.now in
    let start = c.args.cursor.now in
    subst (λ done. Goes ColumnCons cons_starts (λ sort. read_column_cons sort (over text n (read_at sort n))) start done start) (sym c.new-constraints.ensures)
    (goes_start ColumnCons cons_starts (λ sort. read_column_cons sort (over text n (read_at sort n))) (column_cons_takes n text) start)

pub loop-alloc-smaller : goal.loop-alloc-smaller
loop-alloc-smaller c = column_cons_takes c.args.levels c.args.text.now c.loop-alloc.cursor.text _ _ _ c.in_ok-next.ensures.0

pub loop-alloc-preserved : goal.loop-alloc-preserved
loop-alloc-preserved c =
    let n = c.args.levels in
    let text = c.args.text.now in
    let now = c.loop-alloc.cursor in
    subst (λ done. Goes ColumnCons cons_starts (λ sort. read_column_cons sort (over text n (read_at sort n))) c.args.cursor.now done c.column_cons.new.cursor) (sym c.in_ok-push.ensures.ok)
    (goes_on ColumnCons cons_starts (λ sort. read_column_cons sort (over text n (read_at sort n))) (column_cons_takes n text) c.args.cursor.now now c.column_cons.new.cursor c.loop-alloc.constraints _
    c.loop-alloc.invariant (sym c.starts_column_cons.ensures ∙ c.loop-alloc-test.true) c.in_ok-next.ensures)
