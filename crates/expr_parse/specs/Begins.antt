-- How a list of expressions begins that is no select.
use Rattle.std.specs.Prelude.{[], map, ◌∷◌}
use Rattle.sql_reader.specs.Looks.{Look, none_of, words}
use Rattle.sql_reader.specs.Reading.{narrowed}
use Rattle.query_reading.specs.Exprs.{expr_starts}
use Rattle.sql_token.specs.declared.keyword.Keyword.TheVariants as K

-- as an expression, but not with WITH, as a select may
abbrev pub row_starts : Look
row_starts = map (narrowed (none_of (words (K.With ∷ [])))) expr_starts
