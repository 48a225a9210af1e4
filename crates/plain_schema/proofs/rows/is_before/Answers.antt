use Rattle.std.proofs.Common.{refl, All, List, subst}
use Rattle.std.proofs.lemmas.List.{take_all}
use Rattle.std.proofs.lemmas.List.Elements.{All-more}
use Rattle.schema_rows.specs.declared.schema.SchemaRow.{SchemaRow}
use Rattle.plain_schema.specs.FirstForm.{AreApart}
use Rattle.plain_schema.proofs.rows.is_before.Goals as goal

pub returns : goal.returns
returns c =
    let others = c.args.others.now in
    let all = take_all c.loop-other.other-index others c.loop-other-test.false in
    (λ yes. subst (λ (l : List SchemaRow). All (AreApart c.args.row.now) l) all c.loop-other.invariant, λ apart. refl)

pub loop-other-preserved : goal.loop-other-preserved
loop-other-preserved c =
    let row = c.args.row.now in
    All-more (AreApart row) c.args.others.now c.loop-other.other-index c.other-item.result c.loop-other-test.true c.loop-other.invariant
    (subst (AreApart row) c.other-item.is (c.is_apart.ensures.0 c.if-not-is_apart.false))
