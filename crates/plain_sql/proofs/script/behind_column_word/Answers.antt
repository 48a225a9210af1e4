use Rattle.plain_sql.proofs.CommandsLemmas.{behind_column, behind_column_only}
use Rattle.common_laws.proofs.Lists.{first_or}
use Rattle.plain_sql.proofs.script.behind_column_word.Goals as goal

pub returns-in-len1-up-clause-found : goal.returns-in-len1-up-clause-found
returns-in-len1-up-clause-found c =
    behind_column _ _ _ _ (first_or c.args.tokens.now _ c.in-len1-up.len_at_least) (c.is_fixed.ensures.0 c.if-is_fixed.true)

pub returns-in-len1-up-clause-only : goal.returns-in-len1-up-clause-only
returns-in-len1-up-clause-only c = λ word others column name.
    behind_column_only _ _ _ _ word others column name (first_or c.args.tokens.now _ c.in-len1-up.len_at_least) (c.is_fixed.ensures.0 c.if-is_fixed.true)
