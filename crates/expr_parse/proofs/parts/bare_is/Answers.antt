use Rattle.std.proofs.Common.{[], ◌∷◌, not, ◌&&◌, ap, ◌∙◌}
use Rattle.sql_token.specs.declared.keyword.Keyword.TheVariants as K
use Rattle.sql_reader.specs.Input.{first_sort}
use Rattle.sql_reader.specs.Looks.{Set, word, words}
use Rattle.query_reading.proofs.BeforeLaws.{before_finds}
use Rattle.expr_parse.proofs.parts.bare_is.Goals as goal

-- what may not stand behind IS
abbrev belongs : Set
belongs = words (K.Not ∷ K.Distinct ∷ [])

pub returns : goal.returns
returns c =
    before_finds (word K.Is) belongs _ _ _ _
    (c.is_bare_is-fits.ensures ∙ ap (λ s. word K.Is s && not (belongs c.second.result)) c.first.ensures
    ∙ ap (λ s. word K.Is (first_sort c.args.cursor.now) && not (belongs s)) c.second.ensures)
    c.take_if.ensures.found
