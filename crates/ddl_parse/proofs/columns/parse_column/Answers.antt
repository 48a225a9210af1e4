use Rattle.std.proofs.Common.{length}
use Rattle.std.proofs.lemmas.Result.{err_from_is_err_and}
use Rattle.sql_reader.specs.Sorts.{sort_of}
use Rattle.sql_tree.specs.Rules.{SpellsColumn}
use Rattle.sql_tree.specs.declared.table.Column.{Column}
use Rattle.query_parse.proofs.AnswerLaws.{unread}
use Rattle.query_reading.specs.Levels.{read_at}
use Rattle.table_reading.proofs.WholeLaws.{one_column, column_read, column_spelled}
use Rattle.table_reading.specs.Columns.{read_column}
use Rattle.table_reading.specs.Handed.{over}
use Rattle.ddl_parse.proofs.columns.parse_column.Goals as goal

pub returns-in_err-whole_column-clause-syntax : goal.returns-in_err-whole_column-clause-syntax
returns-in_err-whole_column-clause-syntax c =
    let text = c.args.text.now in
    let tokens = c.args.tokens.now in
    let p = err_from_is_err_and c.from_residual-in_err-whole_column.result c.from_residual-in_err-whole_column.ensures.1 in
    rw (p.1, p.2) (unread Column (read_column (sort_of text) (over text (length tokens) (read_at (sort_of text) (length tokens)))) tokens c.in_err-whole_column.field-0.0 ((tree : Column) → SpellsColumn text tree tokens → ⊥)
    (λ none tree spells. none tree (column_read text tokens tree spells)) c.in_err-whole_column.ensures)

pub returns-clause-found : goal.returns-clause-found
returns-clause-found c =
    column_spelled c.args.text.now (length c.args.tokens.now) c.args.tokens.now c.in_ok-whole_column.field-0 c.in_ok-whole_column.ensures

pub returns-clause-only : goal.returns-clause-only
returns-clause-only c = λ other spells.
    one_column c.args.text.now c.args.tokens.now other c.in_ok-whole_column.field-0 spells
    (column_spelled c.args.text.now (length c.args.tokens.now) c.args.tokens.now c.in_ok-whole_column.field-0 c.in_ok-whole_column.ensures)
