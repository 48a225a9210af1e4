use Rattle.std.proofs.Common.{ℕ, ◌+◌, ◌-◌, ◌<◌, ◌≤◌, length}
use Rattle.sql_token.specs.Filler.{EndsBlock}
use Rattle.sql_token.proofs.filler.block_end.Given as goal

-- no `*/` begins before the place
abbrev pub invariant-loop-close : goal.invariant-loop-close
invariant-loop-close l = record {
  past_opening : l.at + 2 ≤ l.close;
  within : l.close ≤ length l.text;
  first : (k : ℕ) → l.at + 2 ≤ k → k < l.close → EndsBlock l.text k → ⊥;
}

abbrev pub decreases-loop-close : goal.decreases-loop-close
decreases-loop-close l = length l.text - l.close
