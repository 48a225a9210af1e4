use Rattle.std.proofs.Common.{take}
use Rattle.sql_tree.proofs.Depths.{IsBehind}
use Rattle.sql_tree.proofs.nesting.first_too_deep.Given as goal

-- the levels behind the tokens so far, none of which is too deep
abbrev pub invariant-loop-token : goal.invariant-loop-token
invariant-loop-token l = IsBehind l.text (take l.token-index l.tokens) l.levels
