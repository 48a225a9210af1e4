use Rattle.std.proofs.Common.{length}
use Rattle.std.proofs.lemmas.Result.{err_from_is_err_and}
use Rattle.sql_reader.specs.Sorts.{sort_of}
use Rattle.sql_tree.specs.Rules.{SpellsTable}
use Rattle.sql_tree.specs.declared.table.CreateTable.{CreateTable}
use Rattle.query_parse.proofs.AnswerLaws.{unread}
use Rattle.query_reading.specs.Levels.{read_at}
use Rattle.table_reading.proofs.WholeLaws.{one_table, table_read, table_spelled}
use Rattle.table_reading.specs.Tables.{read_create_table}
use Rattle.table_reading.specs.Handed.{over}
use Rattle.ddl_parse.proofs.tables.parse_table.Goals as goal

pub returns-in_err-whole_table-clause-syntax : goal.returns-in_err-whole_table-clause-syntax
returns-in_err-whole_table-clause-syntax c =
    let text = c.args.text.now in
    let tokens = c.args.tokens.now in
    let p = err_from_is_err_and c.from_residual-in_err-whole_table.result c.from_residual-in_err-whole_table.ensures.1 in
    rw (p.1, p.2) (unread CreateTable (read_create_table (sort_of text) (over text (length tokens) (read_at (sort_of text) (length tokens)))) tokens c.in_err-whole_table.field-0.0 ((tree : CreateTable) → SpellsTable text tree tokens → ⊥)
    (λ none tree spells. none tree (table_read text tokens tree spells)) c.in_err-whole_table.ensures)

pub returns-clause-found : goal.returns-clause-found
returns-clause-found c =
    table_spelled c.args.text.now (length c.args.tokens.now) c.args.tokens.now c.in_ok-whole_table.field-0 c.in_ok-whole_table.ensures

pub returns-clause-only : goal.returns-clause-only
returns-clause-only c = λ other spells.
    one_table c.args.text.now c.args.tokens.now other c.in_ok-whole_table.field-0 spells
    (table_spelled c.args.text.now (length c.args.tokens.now) c.args.tokens.now c.in_ok-whole_table.field-0 c.in_ok-whole_table.ensures)
