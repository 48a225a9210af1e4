use Rattle.std.proofs.Common.{[], ap, subst, sym, ◌∙◌, ◌∷◌}
use Rattle.sql_expr.specs.declared.lists.NextItem.{NextItem}
use Rattle.sql_reader.proofs.Loops.{Goes, goes_on, looks_one}
use Rattle.sql_reader.specs.Looks.{sign}
use Rattle.sql_reader.specs.Sorts.{sort_of}
use Rattle.sql_reader.specs.declared.sort.Mark.TheVariants.{Comma}
use Rattle.sql_tree.specs.declared.table.TableOption.{TableOption}
use Rattle.table_reading.proofs.TableLaws.{next_option_takes}
use Rattle.table_reading.specs.Tables.{read_next_option}
use Rattle.table_reading.proofs.tables.more_options.Goals as goal

pub loop-cursor-smaller : goal.loop-cursor-smaller
loop-cursor-smaller c = next_option_takes c.args.text.now c.loop-cursor.cursor.text _ _ _ c.in_ok-next.ensures.0

pub loop-cursor-preserved : goal.loop-cursor-preserved
loop-cursor-preserved c =
    let text = c.args.text.now in
    let now = c.loop-cursor.cursor in
    let here = ap (sign Comma) (sym c.first.ensures) ∙ sym c.is_sign.ensures ∙ c.loop-cursor-test.true in
    subst (λ done. Goes (NextItem TableOption) ((sign Comma ∷ []) ∷ []) (read_next_option text) c.args.cursor.now done c.next_option.new.cursor) (sym c.in_ok-push.ensures.ok)
    (goes_on (NextItem TableOption) ((sign Comma ∷ []) ∷ []) (read_next_option text) (next_option_takes text) c.args.cursor.now now c.next_option.new.cursor c.loop-cursor.more _
    c.loop-cursor.invariant (looks_one (sort_of now.text) (sign Comma) now.left here) c.in_ok-next.ensures)
