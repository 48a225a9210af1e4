use Rattle.std.proofs.Common.{length}
use Rattle.sql_reader.specs.Sorts.{sort_of}
use Rattle.sql_tree.specs.Rules.{SpellsTable}
use Rattle.sql_tree.specs.declared.table.CreateTable.{CreateTable}
use Rattle.query_reading.specs.Levels.{read_at}
use Rattle.table_reading.proofs.WholeLaws.{one_table, table_read, table_spelled}
use Rattle.table_reading.specs.Tables.{read_create_table}
use Rattle.table_reading.specs.Handed.{over}
use Rattle.ddl_parse.proofs.ReadLaws.{read_holds, read_only}
use Rattle.ddl_parse.proofs.tables.read_table.Goals as goal

pub returns-clause-found : goal.returns-clause-found
returns-clause-found c =
    let text = c.args.text.now in
    let tokens = c.args.tokens.now in
    read_holds (read_create_table (sort_of text) (over text (length tokens) (read_at (sort_of text) (length tokens)))) tokens (λ tree. SpellsTable text tree tokens) _
    (λ tree. table_spelled text (length tokens) tokens tree) c.whole_table.ensures

pub returns-clause-only : goal.returns-clause-only
returns-clause-only c = λ tree spells.
    let text = c.args.text.now in
    let tokens = c.args.tokens.now in
    read_only (read_create_table (sort_of text) (over text (length tokens) (read_at (sort_of text) (length tokens)))) tokens tree _
    (λ other read. one_table text tokens other tree (table_spelled text (length tokens) tokens other read) spells) (table_read text tokens tree spells) c.whole_table.ensures
