use Rattle.std.proofs.Common.{sym, ap, ◌∙◌}
use Rattle.sql_reader.specs.Looks.{word}
use Rattle.sql_reader.proofs.SortTests.{same_word_tells, no_word}
use Rattle.sql_reader.proofs.sort.Sort.is_word.Goals as goal

pub returns-in-Fixed : goal.returns-in-Fixed
returns-in-Fixed c = same_word_tells _ _ _ c.same_word.ensures ∙ ap (word c.args.keyword) (sym c.in-Fixed.is)

pub returns-in_default : goal.returns-in_default
returns-in_default c = no_word _ _ c.in_default.not-Fixed
