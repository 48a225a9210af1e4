use Rattle.std.proofs.Common.{arith, subst, suc, sym, ◌≡◌}
use Rattle.sql_reader.specs.Cursor.{Gives}
use Rattle.query_reading.specs.Levels.{read_at}
use Rattle.query_parse.proofs.nested.+nested.Goals as goal

pub nested_expr-returns : goal.nested_expr-returns
nested_expr-returns t c =
    let whole : c.args.left ≡ suc c.in-Some.left = omega (arith, c.in-Some.ensures) in
    subst (λ n. Gives (λ sort. (read_at sort n).expr) c.expr_level.result c.args.cursor.now c.expr_level.new.cursor) (sym whole) c.expr_level.ensures

pub nested_select-returns : goal.nested_select-returns
nested_select-returns t c =
    let whole : c.args.left ≡ suc c.in-Some.left = omega (arith, c.in-Some.ensures) in
    subst (λ n. Gives (λ sort. (read_at sort n).select) c.select_level.result c.args.cursor.now c.select_level.new.cursor) (sym whole) c.select_level.ensures

pub nested_sources-returns : goal.nested_sources-returns
nested_sources-returns t c =
    let whole : c.args.left ≡ suc c.in-Some.left = omega (arith, c.in-Some.ensures) in
    subst (λ n. Gives (λ sort. (read_at sort n).sources) c.sources_level.result c.args.cursor.now c.sources_level.new.cursor) (sym whole) c.sources_level.ensures
