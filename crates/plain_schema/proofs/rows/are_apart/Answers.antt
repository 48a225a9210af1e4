use Rattle.std.proofs.Common.{length, take, drop, ◌-◌, refl, arith}
use Rattle.common_laws.proofs.Lists.{first_and_rest}
use Rattle.common_laws.proofs.Pairs.{pairs_behind, pairs_first, pairs_in_front}
use Rattle.plain_schema.specs.FirstForm.{AreApart}
use Rattle.std.proofs.lemmas.Bool.{false≢true}
use Rattle.plain_schema.proofs.rows.are_apart.Goals as goal

pub returns-then-not-is_before : goal.returns-then-not-is_before
returns-then-not-is_before c =
    let rows = c.loop-rest.rest.now in
    let others = take (length rows - 1) (drop 1 rows) in
    let front = first_and_rest rows c.row-item.result c.in-len1-up.len_at_least c.row-item.is in (
      λ yes. absurd (false≢true yes),
      λ apart. c.if-not-is_before.ensures.1 (pairs_first AreApart rows others c.row-item.result front (c.loop-rest.invariant.1 apart)),
    )

pub loop-rest-preserved : goal.loop-rest-preserved
loop-rest-preserved c =
    let rows = c.loop-rest.rest.now in
    let others = take (length rows - 1) (drop 1 rows) in
    let front = first_and_rest rows c.row-item.result c.in-len1-up.len_at_least c.row-item.is in (
      λ apart. c.loop-rest.invariant.0 (pairs_in_front AreApart rows others c.row-item.result front (c.is_before.ensures.0 c.if-not-is_before.false) apart),
      λ apart. pairs_behind AreApart rows others c.row-item.result front (c.loop-rest.invariant.1 apart),
    )

pub returns : goal.returns
returns c = (λ yes. c.loop-rest.invariant.0 (λ i j d lower below. absurd (omega arith)), λ apart. refl)
