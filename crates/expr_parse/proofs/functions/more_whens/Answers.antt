use Rattle.std.proofs.Common.{[], ◌∷◌, ◌∙◌, sym, ap, subst}
use Rattle.sql_expr.specs.declared.call.When.{When}
use Rattle.sql_expr.specs.declared.expr.Expr.{Expr}
use Rattle.sql_reader.specs.Sorts.{sort_of}
use Rattle.sql_reader.specs.Looks.{word}
use Rattle.sql_token.specs.declared.keyword.Keyword.TheVariants as K
use Rattle.query_reading.specs.Calls.{read_when}
use Rattle.query_reading.specs.Levels.{read_at}
use Rattle.sql_reader.proofs.Loops.{Goes, goes_on, looks_one}
use Rattle.expr_parse.proofs.TurnLaws.{when_takes}
use Rattle.expr_parse.proofs.functions.more_whens.Goals as goal

pub loop-alloc-smaller : goal.loop-alloc-smaller
loop-alloc-smaller g c =
    when_takes (g.T.Trees.left c.args.trees.now) c.loop-alloc.cursor.text _ _ _ c.in_ok-next.ensures.0

pub loop-alloc-preserved : goal.loop-alloc-preserved
loop-alloc-preserved g c =
    let n = g.T.Trees.left c.args.trees.now in
    let now = c.loop-alloc.cursor in
    let here = ap (word K.When) (sym c.first.ensures) ∙ sym c.is_word.ensures ∙ c.loop-alloc-test.true in
    subst (λ done. Goes (When Expr) ((word K.When ∷ []) ∷ []) (λ sort. read_when sort (read_at sort n)) c.args.cursor.now done c.when.new.cursor) (sym c.in_ok-push.ensures.ok)
    (goes_on (When Expr) ((word K.When ∷ []) ∷ []) (λ sort. read_when sort (read_at sort n)) (when_takes n) c.args.cursor.now now c.when.new.cursor c.loop-alloc.more _
    c.loop-alloc.invariant (looks_one (sort_of now.text) (word K.When) now.left here) c.in_ok-next.ensures)
