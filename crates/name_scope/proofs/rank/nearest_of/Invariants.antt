use Rattle.std.proofs.Common.{ℕ, ◌<◌}
use Rattle.name_scope.specs.Rank.{Denotes}
use Rattle.name_scope.proofs.rank.nearest_of.Given as goal

-- none in front is nearer than each other one
abbrev pub invariant-loop-place : goal.invariant-loop-place
invariant-loop-place l = (p : ℕ) → p < l.place → ¬ Denotes l.seen p
