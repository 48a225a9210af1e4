use Rattle.std.proofs.Common.{not, ◌&&◌, ap, ◌∙◌}
use Rattle.sql_reader.specs.Input.{first_sort}
use Rattle.query_reading.specs.Exprs.{column_name, dot_or_opening}
use Rattle.query_reading.proofs.BeforeLaws.{before_finds}
use Rattle.query_reading.proofs.leaves.column_name.Goals as goal

pub returns : goal.returns
returns c =
    before_finds column_name dot_or_opening _ _ _ _
    (c.is_lone_column-fits.ensures ∙ ap (λ s. column_name s && not (dot_or_opening c.second.result)) c.first.ensures
    ∙ ap (λ s. column_name (first_sort c.args.cursor.now) && not (dot_or_opening s)) c.second.ensures)
    c.take_if.ensures.found
