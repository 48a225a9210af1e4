use Rattle.std.proofs.Common.{[], ◌∷◌, ◌∙◌, sym, ap, subst}
use Rattle.sql_token.specs.declared.token.Token.{Token}
use Rattle.sql_reader.proofs.Loops.{Goes, goes_on, looks_one}
use Rattle.sql_reader.specs.Reading.{read_leaf}
use Rattle.sql_reader.specs.Sorts.{sort_of}
use Rattle.query_reading.specs.Operands.{prefix}
use Rattle.expr_parse.proofs.TurnLaws.{prefix_takes}
use Rattle.expr_parse.proofs.parts.prefixes.Goals as goal

pub loop-cursor-smaller : goal.loop-cursor-smaller
loop-cursor-smaller c = prefix_takes c.loop-cursor.cursor.text _ _ _ c.in_ok-next.ensures.0

pub loop-cursor-preserved : goal.loop-cursor-preserved
loop-cursor-preserved c =
    let now = c.loop-cursor.cursor in
    let here = ap prefix (sym c.first.ensures) ∙ sym c.is_prefix.ensures ∙ c.loop-cursor-test.true in
    subst (λ done. Goes Token ((prefix ∷ []) ∷ []) (λ sort. read_leaf sort prefix) c.args.cursor.now done c.prefix.new.cursor) (sym c.in_ok-push.ensures.ok)
    (goes_on Token ((prefix ∷ []) ∷ []) (λ sort. read_leaf sort prefix) prefix_takes c.args.cursor.now now c.prefix.new.cursor c.loop-cursor.prefixes _
    c.loop-cursor.invariant (looks_one (sort_of now.text) prefix now.left here) c.in_ok-next.ensures)
