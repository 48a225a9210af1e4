use Rattle.std.proofs.Common.{sym, subst, List, ℕ, [], ◌∷◌, ◌++◌, ap₂, ◌∙◌}
use Rattle.std.proofs.lemmas.Bool.{both_ways}
use Rattle.plain_sql.specs.declared.script.Command.{Command}
use Rattle.plain_sql.proofs.CommandsLemmas.{GoesOn, goes_on_at_first, goes_on, goes_to_end, goes_to_end_only, goes_to_no_command, goes_to_no_end}
use Rattle.common_laws.proofs.Lists.{some_left, none_left}
use Rattle.plain_sql.proofs.script.commands_of.Goals as goal

pub loop-rest-init : goal.loop-rest-init
loop-rest-init c =
    let P : List Command → Type 0 = λ commands. GoesOn c.args.text.now c.args.tokens.now commands c.behind_ends-rest.result.now in
    subst P (sym c.new-commands.ensures.items) (goes_on_at_first _ _ _ c.behind_ends-rest.ensures)

pub returns-in_default-clause-only : goal.returns-in_default-clause-only
returns-in_default-clause-only c = λ all. goes_to_no_command _ _ _ _ all c.loop-rest.invariant (some_left _ (sym c.is_empty.ensures ∙ c.loop-rest-test.true)) c.in_default.ensures.none

pub returns-then-not-is_ended-clause-only : goal.returns-then-not-is_ended-clause-only
returns-then-not-is_ended-clause-only c = λ all.
    goes_to_no_end _ _ _ _ _ _ _ all c.loop-rest.invariant c.in-Some.ensures.found (λ ended. both_ways _ c.if-not-is_ended.true (c.is_ended.ensures.1 ended))

pub loop-rest-preserved : goal.loop-rest-preserved
loop-rest-preserved c =
    let P : List Command → Type 0 = λ commands. GoesOn c.args.text.now c.args.tokens.now commands c.behind_ends-rest-in-loop-rest.result.now in
    subst P (sym (c.in_ok-push.ensures.items ∙ ap₂ (λ (t k : List ℕ). c.loop-rest.commands.items ++ record { table = t; column = k } ∷ []) c.in_ok-table.ensures c.in_ok-column.ensures))
    (goes_on _ _ _ _ _ _ _ _ c.loop-rest.invariant c.in-Some.ensures.found (c.is_ended.ensures.0 c.if-not-is_ended.false) c.behind_ends-rest-in-loop-rest.ensures)

pub returns-clause-found : goal.returns-clause-found
returns-clause-found c = goes_to_end _ _ _ _ c.loop-rest.invariant (none_left _ (sym c.is_empty.ensures ∙ c.loop-rest-test.false))

pub returns-clause-only : goal.returns-clause-only
returns-clause-only c = λ all. goes_to_end_only _ _ _ _ all c.loop-rest.invariant (none_left _ (sym c.is_empty.ensures ∙ c.loop-rest-test.false))
