use Rattle.std.proofs.Common.{◌≡◌, drop}
use Rattle.name_scope.specs.Sees.{row_of}
use Rattle.name_scope.proofs.object.row_of.Given as goal

-- the row is not in front
abbrev pub invariant-loop-r : goal.invariant-loop-r
invariant-loop-r l = row_of l.rows l.rowid ≡ row_of (drop l.r-index l.rows) l.rowid
