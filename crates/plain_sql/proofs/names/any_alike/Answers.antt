use Rattle.std.proofs.Common.{sym, ap, ◌∙◌}
use Rattle.std.proofs.lemmas.Bool.{both_ways}
use Rattle.std.proofs.lemmas.List.{at_drop_more}
use Rattle.std.specs.List.{list_any}
use Rattle.sql_token.specs.Names.{folded}
use Rattle.plain_sql.proofs.NamesLemmas.{is_alike, any_alike-here, any_alike-further}
use Rattle.plain_sql.proofs.names.any_alike.Goals as goal

pub returns-then-same_name : goal.returns-then-same_name
returns-then-same_name c =
    sym (any_alike-here c.args.name.now _ _ (c.same_name.ensures.0 c.if-same_name.true ∙ ap folded (c.as_slice.ensures ∙ c.other-item.is)))
    ∙ sym (at_drop_more (list_any (is_alike c.args.name.now)) c.args.names.now c.loop-other.other-index c.other-item.result c.loop-other-test.true)
    ∙ c.loop-other.invariant

pub loop-other-preserved : goal.loop-other-preserved
loop-other-preserved c =
    sym (any_alike-further c.args.name.now _ _
    (λ same. both_ways _ c.if-same_name.false (c.same_name.ensures.1 (same ∙ ap folded (sym (c.as_slice.ensures ∙ c.other-item.is))))))
    ∙ sym (at_drop_more (list_any (is_alike c.args.name.now)) c.args.names.now c.loop-other.other-index c.other-item.result c.loop-other-test.true)
    ∙ c.loop-other.invariant
