use Rattle.std.proofs.Common.{length}
use Rattle.std.proofs.lemmas.Result.{err_from_is_err_and}
use Rattle.sql_reader.specs.Sorts.{sort_of}
use Rattle.sql_tree.specs.Rules.{SpellsIndex}
use Rattle.sql_tree.specs.declared.index.CreateIndex.{CreateIndex}
use Rattle.query_parse.proofs.AnswerLaws.{unread}
use Rattle.query_reading.specs.Levels.{read_at}
use Rattle.table_reading.proofs.WholeLaws.{one_index, index_read, index_spelled}
use Rattle.table_reading.specs.Tables.{read_create_index}
use Rattle.ddl_parse.proofs.indexes.parse_index.Goals as goal

pub returns-in_err-whole_index-clause-syntax : goal.returns-in_err-whole_index-clause-syntax
returns-in_err-whole_index-clause-syntax c =
    let text = c.args.text.now in
    let tokens = c.args.tokens.now in
    let p = err_from_is_err_and c.from_residual-in_err-whole_index.result c.from_residual-in_err-whole_index.ensures.1 in
    rw (p.1, p.2) (unread CreateIndex (read_create_index (sort_of text) (length tokens) (read_at (sort_of text) (length tokens))) tokens c.in_err-whole_index.field-0.0 ((tree : CreateIndex) → SpellsIndex text tree tokens → ⊥)
    (λ none tree spells. none tree (index_read text tokens tree spells)) c.in_err-whole_index.ensures)

pub returns-clause-found : goal.returns-clause-found
returns-clause-found c =
    index_spelled c.args.text.now (length c.args.tokens.now) c.args.tokens.now c.in_ok-whole_index.field-0 c.in_ok-whole_index.ensures

pub returns-clause-only : goal.returns-clause-only
returns-clause-only c = λ other spells.
    one_index c.args.text.now c.args.tokens.now other c.in_ok-whole_index.field-0 spells
    (index_spelled c.args.text.now (length c.args.tokens.now) c.args.tokens.now c.in_ok-whole_index.field-0 c.in_ok-whole_index.ensures)
