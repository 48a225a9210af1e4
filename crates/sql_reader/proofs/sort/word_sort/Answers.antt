use Rattle.std.proofs.Common.{sym, ap}
use Rattle.sql_reader.specs.Sorts.{sort_of_word}
use Rattle.sql_reader.proofs.Words.{word_of-spelled, word_of-none}
use Rattle.sql_reader.proofs.sort.word_sort.Goals as goal

pub returns-in-Some : goal.returns-in-Some
returns-in-Some c = sym (ap sort_of_word (word_of-spelled _ _ c.in-Some.ensures.found))

pub returns-in-None : goal.returns-in-None
returns-in-None c = sym (ap sort_of_word (word_of-none _ (λ word same. let never = c.in-None.ensures.only word same in cc)))
