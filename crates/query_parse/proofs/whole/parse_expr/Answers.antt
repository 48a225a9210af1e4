use Rattle.std.proofs.Common.{length}
use Rattle.std.proofs.lemmas.Result.{err_from_is_err_and}
use Rattle.sql_expr.specs.Rules.{SpellsExpr}
use Rattle.sql_expr.specs.declared.expr.Expr.{Expr}
use Rattle.sql_reader.specs.Sorts.{sort_of}
use Rattle.query_reading.proofs.LevelLaws.{expr_read, expr_spelled, one_expr}
use Rattle.query_reading.specs.Levels.{read_at}
use Rattle.query_parse.proofs.AnswerLaws.{unread}
use Rattle.query_parse.proofs.whole.parse_expr.Goals as goal

pub returns-in_err-whole_expr-clause-syntax : goal.returns-in_err-whole_expr-clause-syntax
returns-in_err-whole_expr-clause-syntax c =
    let text = c.args.text.now in
    let tokens = c.args.tokens.now in
    let p = err_from_is_err_and c.from_residual-in_err-whole_expr.result c.from_residual-in_err-whole_expr.ensures.1 in
    rw (p.1, p.2) (unread Expr (read_at (sort_of text) (length tokens)).expr tokens c.in_err-whole_expr.field-0.0 ((tree : Expr) → SpellsExpr text tree tokens → ⊥)
    (λ none tree spells. none tree (expr_read text tokens tree spells)) c.in_err-whole_expr.ensures)

pub returns-clause-found : goal.returns-clause-found
returns-clause-found c =
    expr_spelled c.args.text.now (length c.args.tokens.now) c.args.tokens.now c.in_ok-whole_expr.field-0 c.in_ok-whole_expr.ensures

pub returns-clause-only : goal.returns-clause-only
returns-clause-only c = λ other spells.
    one_expr c.args.text.now c.args.tokens.now other c.in_ok-whole_expr.field-0 spells
    (expr_spelled c.args.text.now (length c.args.tokens.now) c.args.tokens.now c.in_ok-whole_expr.field-0 c.in_ok-whole_expr.ensures)
