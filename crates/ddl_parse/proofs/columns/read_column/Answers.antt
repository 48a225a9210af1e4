use Rattle.std.proofs.Common.{length}
use Rattle.sql_reader.specs.Sorts.{sort_of}
use Rattle.sql_tree.specs.Rules.{SpellsColumn}
use Rattle.sql_tree.specs.declared.table.Column.{Column}
use Rattle.query_reading.specs.Levels.{read_at}
use Rattle.table_reading.proofs.WholeLaws.{one_column, column_read, column_spelled}
use Rattle.table_reading.specs.Columns.{read_column}
use Rattle.table_reading.specs.Handed.{over}
use Rattle.ddl_parse.proofs.ReadLaws.{read_holds, read_only}
use Rattle.ddl_parse.proofs.columns.read_column.Goals as goal

pub returns-clause-found : goal.returns-clause-found
returns-clause-found c =
    let text = c.args.text.now in
    let tokens = c.args.tokens.now in
    read_holds (read_column (sort_of text) (over text (length tokens) (read_at (sort_of text) (length tokens)))) tokens (λ tree. SpellsColumn text tree tokens) _
    (λ tree. column_spelled text (length tokens) tokens tree) c.whole_column.ensures

pub returns-clause-only : goal.returns-clause-only
returns-clause-only c = λ tree spells.
    let text = c.args.text.now in
    let tokens = c.args.tokens.now in
    read_only (read_column (sort_of text) (over text (length tokens) (read_at (sort_of text) (length tokens)))) tokens tree _
    (λ other read. one_column text tokens other tree (column_spelled text (length tokens) tokens other read) spells) (column_read text tokens tree spells) c.whole_column.ensures
