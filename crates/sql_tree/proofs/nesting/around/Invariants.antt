use Rattle.std.proofs.Common.{◌≡◌, ◌≤◌, length, take, reverse}
use Rattle.sql_tree.specs.Nesting.{around}
use Rattle.sql_tree.proofs.nesting.around.Given as goal

-- the levels that were looked at are CASEs
abbrev pub invariant-loop-count : goal.invariant-loop-count
invariant-loop-count l = record {
  bounded : l.count ≤ length l.openings;
  same : around (reverse l.openings) ≡ around (reverse (take l.count l.openings));
}

abbrev pub decreases-loop-count : goal.decreases-loop-count
decreases-loop-count l = l.count
