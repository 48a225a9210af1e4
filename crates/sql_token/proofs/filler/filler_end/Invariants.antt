use Rattle.std.proofs.Common.{◌-◌, ◌≤◌, length}
use Rattle.sql_token.specs.Filler.{IsFiller}
use Rattle.sql_token.proofs.filler.filler_end.Given as goal

-- blanks and comments lead to the place
abbrev pub invariant-loop-end : goal.invariant-loop-end
invariant-loop-end l = record {
  filler : IsFiller l.text l.from l.at;
  forward : l.from ≤ l.at;
  within : l.at ≤ length l.text;
}

abbrev pub decreases-loop-end : goal.decreases-loop-end
decreases-loop-end l = length l.text - l.at
