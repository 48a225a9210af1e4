use Rattle.plain_sql.proofs.ColumnsLemmas.{column_begins}
use Rattle.common_laws.proofs.Lists.{first_or}
use Rattle.plain_sql.proofs.table.read_column.Goals as goal

pub returns-clause-found : goal.returns-clause-found
returns-clause-found c = column_begins _ _ _ _ _ _ (first_or c.args.tokens.now _ c.in-len1-up.len_at_least) c.in_ok-name.ensures.found c.behind_words.ensures
