use Rattle.std.proofs.Common.{◌≡◌, ◌++◌, drop}
use Rattle.name_scope.proofs.catalogue.copy_of.Given as goal

-- the rows that are copied, and then the others, are all
abbrev pub invariant-loop-r : goal.invariant-loop-r
invariant-loop-r l = l.copy ++ drop l.r-index l.rows ≡ l.rows
