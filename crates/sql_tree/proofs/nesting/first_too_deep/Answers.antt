use Rattle.std.proofs.Common.{ap, subst, ◌∙◌, arith, Some}
use Rattle.std.proofs.lemmas.List.{take_all}
use Rattle.sql_tree.specs.Nesting.{turned}
use Rattle.sql_tree.proofs.Depths.{IsShallow, first_at, first_unique, none_in_shallow, behind_further, shallow-none}
use Rattle.sql_tree.proofs.nesting.first_too_deep.Goals as goal

pub loop-token-init : goal.loop-token-init
loop-token-init c = record { open_levels = c.new-levels.ensures; shallow = shallow-none c.args.text.now }

pub returns-then-depth-gt-MAX_DEPTH-clause-found : goal.returns-then-depth-gt-MAX_DEPTH-clause-found
returns-then-depth-gt-MAX_DEPTH-clause-found c =
    let turns = c.in_ok-turn.ensures ∙ ap (λ e. turned e c.loop-token.levels) c.effect_of.ensures in
    first_at _ _ c.loop-token.token-index _ c.loop-token.levels c.turn.new.self (omega arith) c.loop-token.invariant.shallow c.loop-token.invariant.open_levels turns (omega arith)

pub returns-then-depth-gt-MAX_DEPTH-clause-only : goal.returns-then-depth-gt-MAX_DEPTH-clause-only
returns-then-depth-gt-MAX_DEPTH-clause-only c = λ at first.
    let turns = c.in_ok-turn.ensures ∙ ap (λ e. turned e c.loop-token.levels) c.effect_of.ensures in
    let found = first_at c.args.text.now c.args.tokens.now c.loop-token.token-index _ c.loop-token.levels c.turn.new.self (omega arith) c.loop-token.invariant.shallow c.loop-token.invariant.open_levels turns (omega arith) in
    ap Some (first_unique _ _ _ at found first)

pub loop-token-preserved : goal.loop-token-preserved
loop-token-preserved c =
    let turns = c.in_ok-turn.ensures ∙ ap (λ e. turned e c.loop-token.levels) c.effect_of.ensures in
    behind_further _ _ c.loop-token.token-index _ c.loop-token.levels c.turn.new.self (omega arith) c.loop-token.invariant turns (omega arith)

pub returns-clause-only : goal.returns-clause-only
returns-clause-only c = λ at first.
    absurd (none_in_shallow _ _ at (subst (IsShallow c.args.text.now) (take_all c.loop-token.token-index c.args.tokens.now (omega arith)) c.loop-token.invariant.shallow) first)
