use Rattle.std.proofs.Common.{[], ap, subst, sym, ◌∙◌, ◌∷◌}
use Rattle.sql_expr.specs.declared.expr.Expr.{Expr}
use Rattle.sql_expr.specs.declared.lists.NextItem.{NextItem}
use Rattle.sql_expr.specs.declared.window.NamedWindow.{NamedWindow}
use Rattle.sql_reader.proofs.Loops.{Goes, goes_on, looks_one}
use Rattle.sql_reader.specs.Looks.{sign}
use Rattle.sql_reader.specs.declared.sort.Mark.TheVariants.{Comma}
use Rattle.sql_reader.specs.Sorts.{sort_of}
use Rattle.query_reading.specs.Levels.{read_at}
use Rattle.query_reading.specs.Selects.{read_next_named_window}
use Rattle.select_parse.proofs.Turns.{next_named_window_takes}
use Rattle.select_parse.proofs.selects.more_named_windows.Goals as goal

pub loop-alloc-smaller : goal.loop-alloc-smaller
loop-alloc-smaller g c = next_named_window_takes (g.T.Trees.left c.args.trees.now) c.loop-alloc.cursor.text _ _ _ c.in_ok-next.ensures.0

pub loop-alloc-preserved : goal.loop-alloc-preserved
loop-alloc-preserved g c =
    let n = g.T.Trees.left c.args.trees.now in
    let now = c.loop-alloc.cursor in
    let here = ap (sign Comma) (sym c.first.ensures) ∙ sym c.is_sign.ensures ∙ c.loop-alloc-test.true in
    subst (λ done. Goes (NextItem (NamedWindow Expr)) ((sign Comma ∷ []) ∷ []) (λ sort. read_next_named_window sort (read_at sort n)) c.args.cursor.now done c.next_named_window.new.cursor) (sym c.in_ok-push.ensures.ok)
    (goes_on (NextItem (NamedWindow Expr)) ((sign Comma ∷ []) ∷ []) (λ sort. read_next_named_window sort (read_at sort n)) (next_named_window_takes n) c.args.cursor.now now c.next_named_window.new.cursor c.loop-alloc.more _ c.loop-alloc.invariant
    (looks_one (sort_of now.text) (sign Comma) now.left here) c.in_ok-next.ensures)
