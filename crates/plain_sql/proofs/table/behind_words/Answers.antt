use Rattle.std.proofs.Common.{not, ap, ◌∙◌}
use Rattle.plain_sql.proofs.ColumnsLemmas.{words_further}
use Rattle.common_laws.proofs.Options.{some_so}
use Rattle.common_laws.proofs.Lists.{first_or}
use Rattle.plain_sql.proofs.table.behind_words.Goals as goal

pub loop-rest-preserved : goal.loop-rest-preserved
loop-rest-preserved c =
    let (words, whole, plain) = c.loop-rest.invariant in
    let (name, named) = some_so _ _ (c.is_none.ensures ∙ ap not c.if-is_none.false) c.plain_name.ensures.found in
    words_further _ _ _ words _ _ whole (first_or c.loop-rest.rest.now _ c.in-len1-up.len_at_least) plain (name.now, named)
