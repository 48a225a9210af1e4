use Rattle.std.proofs.Common.{sym, ◌∙◌}
use denote.Enum.Bare.{same_true, true_same}
use Rattle.sql_token.specs.contracts.keyword.Keyword.{the_type}
use Rattle.sql_reader.proofs.sort.same_word.Goals as goal

pub returns : goal.returns
returns c = (λ yes_so. same_true the_type tt _ _ (sym c.eq.ensures ∙ yes_so), λ same. c.eq.ensures ∙ true_same the_type _ _ same)
