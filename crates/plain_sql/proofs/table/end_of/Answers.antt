use Rattle.std.proofs.Common.{length, ◌-◌, arith}
use Rattle.plain_sql.proofs.ColumnsLemmas.{last_end-at}
use Rattle.plain_sql.proofs.table.end_of.Goals as goal

pub returns-in-len1-up : goal.returns-in-len1-up
returns-in-len1-up c = last_end-at c.args.tokens.now (length c.args.tokens.now - 1) _ (omega (arith, c.in-len1-up.len_at_least))
