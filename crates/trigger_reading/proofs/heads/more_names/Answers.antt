use Rattle.std.proofs.Common.{[], ◌∷◌, ◌∙◌, sym, ap, subst}
use Rattle.sql_token.specs.declared.token.Token.{Token}
use Rattle.sql_expr.specs.declared.lists.NextItem.{NextItem}
use Rattle.sql_reader.specs.Sorts.{sort_of}
use Rattle.sql_reader.specs.Looks.{sign}
use Rattle.sql_reader.specs.declared.sort.Mark.TheVariants.{Comma}
use Rattle.query_reading.specs.Names.{read_next_name}
use Rattle.sql_reader.proofs.Loops.{Goes, goes_on, looks_one}
use Rattle.query_reading.proofs.NameLaws.{next_name_takes}
use Rattle.trigger_reading.proofs.heads.more_names.Goals as goal

pub loop-cursor-smaller : goal.loop-cursor-smaller
loop-cursor-smaller c = next_name_takes c.loop-cursor.cursor.text _ _ _ c.in_ok-next.ensures.0

pub loop-cursor-preserved : goal.loop-cursor-preserved
loop-cursor-preserved c =
    let now = c.loop-cursor.cursor in
    let here = ap (sign Comma) (sym c.first.ensures) ∙ sym c.is_sign.ensures ∙ c.loop-cursor-test.true in
    subst (λ done. Goes (NextItem Token) ((sign Comma ∷ []) ∷ []) read_next_name c.args.cursor.now done c.next_name.new.cursor) (sym c.in_ok-push.ensures.ok)
    (goes_on (NextItem Token) ((sign Comma ∷ []) ∷ []) read_next_name next_name_takes c.args.cursor.now now c.next_name.new.cursor c.loop-cursor.more _
    c.loop-cursor.invariant (looks_one (sort_of now.text) (sign Comma) now.left here) c.in_ok-next.ensures)
