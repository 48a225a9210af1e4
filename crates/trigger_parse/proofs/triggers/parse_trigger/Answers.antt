use Rattle.std.proofs.Common.{length}
use Rattle.std.proofs.lemmas.Result.{err_from_is_err_and}
use Rattle.sql_reader.specs.Sorts.{sort_of}
use Rattle.sql_tree.specs.Rules.{SpellsTrigger}
use Rattle.sql_tree.specs.declared.trigger.CreateTrigger.{CreateTrigger}
use Rattle.query_parse.proofs.AnswerLaws.{unread}
use Rattle.query_reading.specs.Levels.{read_at}
use Rattle.trigger_reading.proofs.WholeLaws.{one_trigger, trigger_read, trigger_spelled}
use Rattle.trigger_reading.specs.Triggers.{read_create_trigger}
use Rattle.trigger_parse.proofs.triggers.parse_trigger.Goals as goal

pub returns-in_err-whole_trigger-clause-syntax : goal.returns-in_err-whole_trigger-clause-syntax
returns-in_err-whole_trigger-clause-syntax c =
    let text = c.args.text.now in
    let tokens = c.args.tokens.now in
    let p = err_from_is_err_and c.from_residual-in_err-whole_trigger.result c.from_residual-in_err-whole_trigger.ensures.1 in
    rw (p.1, p.2) (unread CreateTrigger (read_create_trigger (sort_of text) (read_at (sort_of text) (length tokens))) tokens c.in_err-whole_trigger.field-0.0 ((tree : CreateTrigger) → SpellsTrigger text tree tokens → ⊥)
    (λ none tree spells. none tree (trigger_read text tokens tree spells)) c.in_err-whole_trigger.ensures)

pub returns-clause-found : goal.returns-clause-found
returns-clause-found c =
    trigger_spelled c.args.text.now (length c.args.tokens.now) c.args.tokens.now c.in_ok-whole_trigger.field-0 c.in_ok-whole_trigger.ensures

pub returns-clause-only : goal.returns-clause-only
returns-clause-only c = λ other spells.
    one_trigger c.args.text.now c.args.tokens.now other c.in_ok-whole_trigger.field-0 spells
    (trigger_spelled c.args.text.now (length c.args.tokens.now) c.args.tokens.now c.in_ok-whole_trigger.field-0 c.in_ok-whole_trigger.ensures)
