use Rattle.std.proofs.Common.{[], ap, subst, sym, ◌∙◌, ◌∷◌}
use Rattle.sql_expr.specs.declared.lists.NextItem.{NextItem}
use Rattle.sql_tree.specs.declared.table.Indexed.{Indexed}
use Rattle.sql_reader.proofs.Loops.{Goes, goes_on, looks_one}
use Rattle.sql_reader.specs.Looks.{sign}
use Rattle.sql_reader.specs.Sorts.{sort_of}
use Rattle.sql_reader.specs.declared.sort.Mark.TheVariants.{Comma}
use Rattle.query_reading.specs.Levels.{read_at}
use Rattle.table_reading.specs.Tables.{read_next_indexed}
use Rattle.ddl_parse.proofs.TurnLaws.{next_indexed_takes}
use Rattle.ddl_parse.proofs.keys.more_indexeds.Goals as goal

pub loop-alloc-smaller : goal.loop-alloc-smaller
loop-alloc-smaller c = next_indexed_takes c.args.levels c.loop-alloc.cursor.text _ _ _ c.in_ok-next.ensures.0

pub loop-alloc-preserved : goal.loop-alloc-preserved
loop-alloc-preserved c =
    let n = c.args.levels in
    let now = c.loop-alloc.cursor in
    let here = ap (sign Comma) (sym c.first.ensures) ∙ sym c.is_sign.ensures ∙ c.loop-alloc-test.true in
    subst (λ done. Goes (NextItem Indexed) ((sign Comma ∷ []) ∷ []) (λ sort. read_next_indexed sort n (read_at sort n)) c.args.cursor.now done c.next_indexed.new.cursor) (sym c.in_ok-push.ensures.ok)
    (goes_on (NextItem Indexed) ((sign Comma ∷ []) ∷ []) (λ sort. read_next_indexed sort n (read_at sort n)) (next_indexed_takes n) c.args.cursor.now now c.next_indexed.new.cursor c.loop-alloc.more _
    c.loop-alloc.invariant (looks_one (sort_of now.text) (sign Comma) now.left here) c.in_ok-next.ensures)
