use Rattle.std.proofs.Common.{ℕ, ◌<◌}
use Rattle.name_scope.specs.Rank.{IsBehind}
use Rattle.name_scope.proofs.rank.is_least.Given as goal

-- each other one in front is farther
abbrev pub invariant-loop-at : goal.invariant-loop-at
invariant-loop-at l = (j : ℕ) → j < l.at → IsBehind l.seen l.place j
