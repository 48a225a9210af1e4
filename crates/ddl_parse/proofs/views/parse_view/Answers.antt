use Rattle.std.proofs.Common.{length}
use Rattle.std.proofs.lemmas.Result.{err_from_is_err_and}
use Rattle.sql_reader.specs.Sorts.{sort_of}
use Rattle.sql_tree.specs.Rules.{SpellsView}
use Rattle.sql_tree.specs.declared.index.CreateView.{CreateView}
use Rattle.query_parse.proofs.AnswerLaws.{unread}
use Rattle.query_reading.specs.Levels.{read_at}
use Rattle.table_reading.proofs.WholeLaws.{one_view, view_read, view_spelled}
use Rattle.table_reading.specs.Tables.{read_create_view}
use Rattle.ddl_parse.proofs.views.parse_view.Goals as goal

pub returns-in_err-whole_view-clause-syntax : goal.returns-in_err-whole_view-clause-syntax
returns-in_err-whole_view-clause-syntax c =
    let text = c.args.text.now in
    let tokens = c.args.tokens.now in
    let p = err_from_is_err_and c.from_residual-in_err-whole_view.result c.from_residual-in_err-whole_view.ensures.1 in
    rw (p.1, p.2) (unread CreateView (read_create_view (sort_of text) (read_at (sort_of text) (length tokens))) tokens c.in_err-whole_view.field-0.0 ((tree : CreateView) → SpellsView text tree tokens → ⊥)
    (λ none tree spells. none tree (view_read text tokens tree spells)) c.in_err-whole_view.ensures)

pub returns-clause-found : goal.returns-clause-found
returns-clause-found c =
    view_spelled c.args.text.now (length c.args.tokens.now) c.args.tokens.now c.in_ok-whole_view.field-0 c.in_ok-whole_view.ensures

pub returns-clause-only : goal.returns-clause-only
returns-clause-only c = λ other spells.
    one_view c.args.text.now c.args.tokens.now other c.in_ok-whole_view.field-0 spells
    (view_spelled c.args.text.now (length c.args.tokens.now) c.args.tokens.now c.in_ok-whole_view.field-0 c.in_ok-whole_view.ensures)
