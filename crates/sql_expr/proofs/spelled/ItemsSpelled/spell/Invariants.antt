use Rattle.std.proofs.Common.{◌≡◌, ◌++◌, take}
use Rattle.sql_token.specs.Spelled.{flat}
use Rattle.sql_expr.proofs.spelled.ItemsSpelled.spell.Given as goal

-- what the items so far spell was added
abbrev pub invariant-loop-item : goal.invariant-loop-item
invariant-loop-item g l =
    l.tokens.items ≡ l.fn.tokens.items ++ flat g.T.Spelled.spelled (take l.item-index l.item-items)
