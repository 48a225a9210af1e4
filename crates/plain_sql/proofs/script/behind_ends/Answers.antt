use Rattle.plain_sql.proofs.CommandsLemmas.{ends_further}
use Rattle.common_laws.proofs.Lists.{first_or}
use Rattle.plain_sql.proofs.script.behind_ends.Goals as goal

pub loop-rest-preserved : goal.loop-rest-preserved
loop-rest-preserved c =
    let (ends, whole, are) = c.loop-rest.invariant in
    ends_further _ _ _ ends _ _ whole (first_or c.loop-rest.rest.now _ c.in-len1-up.len_at_least) are (c.is_sign.ensures.0 c.if-not-is_sign.false)
