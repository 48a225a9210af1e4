-- What a cursor stands for.
use Rattle.std.specs.Prelude.{ℕ, List}
use Rattle.sql_token.specs.declared.token.Token.{Token}
use Rattle.sql_reader.specs.Sorts.{sort_of}
use Rattle.sql_reader.specs.Looks.{next_sort, behind_next}
use Rattle.sql_reader.specs.declared.sort.Sort.{Sort}

-- the text, and its tokens that are left
pub record Input : Type 0 where
  pub text : List ℕ
  pub left : List Token

-- the sorts of the next three tokens
abbrev pub first_sort : Input → Sort
first_sort input = next_sort (sort_of input.text) input.left

abbrev pub second_sort : Input → Sort
second_sort input = next_sort (sort_of input.text) (behind_next input.left)

abbrev pub third_sort : Input → Sort
third_sort input = next_sort (sort_of input.text) (behind_next (behind_next input.left))
