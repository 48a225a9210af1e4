use Rattle.std.proofs.Common.{sym, ap, ◌∙◌}
use Rattle.std.proofs.lemmas.Bool.{both_ways}
use Rattle.std.proofs.lemmas.List.{at_drop_more}
use Rattle.sql_token.specs.Names.{folded}
use Rattle.sql_token.specs.Scan.{first_spelled}
use Rattle.sql_token.proofs.Keywords.{first_spelled-here, first_spelled-further}
use Rattle.sql_token.proofs.keyword.first_spelled.Goals as goal

pub returns-then-same_name : goal.returns-then-same_name
returns-then-same_name c =
    sym (first_spelled-here (folded c.args.word.now) _ _ (ap folded (sym c.spelling.ensures) ∙ c.same_name.ensures.0 c.if-same_name.true))
    ∙ sym (at_drop_more (first_spelled (folded c.args.word.now)) c.args.keywords.now c.loop-keyword.keyword-index _ c.loop-keyword-test.true)
    ∙ c.loop-keyword.invariant

pub loop-keyword-preserved : goal.loop-keyword-preserved
loop-keyword-preserved c =
    sym (first_spelled-further (folded c.args.word.now) _ _ (λ same. both_ways _ c.if-same_name.false (c.same_name.ensures.1 (ap folded c.spelling.ensures ∙ same))))
    ∙ sym (at_drop_more (first_spelled (folded c.args.word.now)) c.args.keywords.now c.loop-keyword.keyword-index _ c.loop-keyword-test.true)
    ∙ c.loop-keyword.invariant
