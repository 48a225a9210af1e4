use Rattle.std.proofs.Common.{length}
use Rattle.std.proofs.lemmas.Result.{err_from_is_err_and}
use Rattle.sql_expr.specs.Rules.{SpellsSelect}
use Rattle.sql_expr.specs.declared.select.Select.{Select}
use Rattle.sql_reader.specs.Sorts.{sort_of}
use Rattle.query_reading.proofs.LevelLaws.{select_read, select_spelled, one_select}
use Rattle.query_reading.specs.Levels.{read_at}
use Rattle.query_parse.proofs.AnswerLaws.{unread}
use Rattle.query_parse.proofs.whole.parse_select.Goals as goal

pub returns-in_err-whole_select-clause-syntax : goal.returns-in_err-whole_select-clause-syntax
returns-in_err-whole_select-clause-syntax c =
    let text = c.args.text.now in
    let tokens = c.args.tokens.now in
    let p = err_from_is_err_and c.from_residual-in_err-whole_select.result c.from_residual-in_err-whole_select.ensures.1 in
    rw (p.1, p.2) (unread Select (read_at (sort_of text) (length tokens)).select tokens c.in_err-whole_select.field-0.0 ((tree : Select) → SpellsSelect text tree tokens → ⊥)
    (λ none tree spells. none tree (select_read text tokens tree spells)) c.in_err-whole_select.ensures)

pub returns-clause-found : goal.returns-clause-found
returns-clause-found c =
    select_spelled c.args.text.now (length c.args.tokens.now) c.args.tokens.now c.in_ok-whole_select.field-0 c.in_ok-whole_select.ensures

pub returns-clause-only : goal.returns-clause-only
returns-clause-only c = λ other spells.
    one_select c.args.text.now c.args.tokens.now other c.in_ok-whole_select.field-0 spells
    (select_spelled c.args.text.now (length c.args.tokens.now) c.args.tokens.now c.in_ok-whole_select.field-0 c.in_ok-whole_select.ensures)
