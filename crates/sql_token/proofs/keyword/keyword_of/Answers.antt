use Rattle.sql_token.proofs.Keywords.{found_in_table, only_in_table}
use Rattle.sql_token.proofs.keyword.keyword_of.Goals as goal

pub returns-clause-found : goal.returns-clause-found
returns-clause-found c = found_in_table _ _ c.first_spelled.ensures

pub returns-clause-only : goal.returns-clause-only
returns-clause-only c = λ keyword. only_in_table _ _ keyword c.first_spelled.ensures
