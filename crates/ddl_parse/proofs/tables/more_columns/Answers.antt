use Rattle.std.proofs.Common.{◌∙◌, sym, subst}
use Rattle.sql_reader.proofs.Loops.{Goes, goes_on, goes_start}
use Rattle.sql_expr.specs.declared.lists.NextItem.{NextItem}
use Rattle.sql_tree.specs.declared.table.Column.{Column}
use Rattle.query_reading.specs.Levels.{read_at}
use Rattle.table_reading.specs.Columns.{next_column_starts, read_next_column}
use Rattle.table_reading.specs.Handed.{over}
use Rattle.ddl_parse.proofs.TurnLaws.{next_column_takes}
use Rattle.ddl_parse.proofs.tables.more_columns.Goals as goal

pub loop-alloc-init : goal.loop-alloc-init
loop-alloc-init c =
    let n = c.args.levels in
    let text = c.args.text.now in
    let start = c.args.cursor.now in
    subst (λ done. Goes (NextItem Column) next_column_starts (λ sort. read_next_column sort (over text n (read_at sort n))) start done start) (sym c.new-more.ensures)
    (goes_start (NextItem Column) next_column_starts (λ sort. read_next_column sort (over text n (read_at sort n))) (next_column_takes n text) start)

pub loop-alloc-smaller : goal.loop-alloc-smaller
loop-alloc-smaller c = next_column_takes c.args.levels c.args.text.now c.loop-alloc.cursor.text _ _ _ c.in_ok-next.ensures.0

pub loop-alloc-preserved : goal.loop-alloc-preserved
loop-alloc-preserved c =
    let n = c.args.levels in
    let text = c.args.text.now in
    let now = c.loop-alloc.cursor in
    subst (λ done. Goes (NextItem Column) next_column_starts (λ sort. read_next_column sort (over text n (read_at sort n))) c.args.cursor.now done c.next_column.new.cursor) (sym c.in_ok-push.ensures.ok)
    (goes_on (NextItem Column) next_column_starts (λ sort. read_next_column sort (over text n (read_at sort n))) (next_column_takes n text) c.args.cursor.now now c.next_column.new.cursor c.loop-alloc.more _
    c.loop-alloc.invariant (sym c.starts_next_column.ensures ∙ c.loop-alloc-test.true) c.in_ok-next.ensures)
