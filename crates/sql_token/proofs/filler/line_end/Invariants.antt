use Rattle.std.proofs.Common.{◌≡◌, ℕ, ◌+◌, ◌-◌, ◌<◌, ◌≤◌, length, get_or}
use Rattle.sql_token.proofs.filler.line_end.Given as goal

-- no line feed stands before the place
abbrev pub invariant-loop-end : goal.invariant-loop-end
invariant-loop-end l = record {
  past_opening : l.at + 2 ≤ l.end;
  within : l.end ≤ length l.text;
  one_line : (k : ℕ) → l.at + 2 ≤ k → k < l.end → get_or l.text k 0 ≡ 10 → ⊥;
}

abbrev pub decreases-loop-end : goal.decreases-loop-end
decreases-loop-end l = length l.text - l.end
