use Rattle.std.proofs.Common.{◌∙◌, ap}
use Rattle.sql_reader.specs.Looks.{next_sort}
use Rattle.sql_reader.specs.Sorts.{sort_of}
use Rattle.sql_reader.proofs.Behind.{drop_none, drop_next, drop_two}
use Rattle.sql_reader.proofs.cursor.Cursor.new.Goals as goal

pub invariant_of-result : goal.invariant_of-result
invariant_of-result c =
    let sort = next_sort (sort_of c.args.text.now) in (
      c.sort_at.ensures ∙ ap sort (drop_none c.args.tokens.now),
      c.sort_at-2.ensures ∙ ap sort (drop_next c.args.tokens.now),
      c.sort_at-3.ensures ∙ ap sort (drop_two c.args.tokens.now),
    )
