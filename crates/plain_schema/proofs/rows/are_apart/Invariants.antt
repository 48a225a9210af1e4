use Rattle.std.proofs.Common.{◌↔◌, length, AllPairs}
use Rattle.plain_schema.specs.FirstForm.{AreApart}
use Rattle.plain_schema.proofs.rows.are_apart.Given as goal

-- the rows that are left decide
abbrev pub invariant-loop-rest : goal.invariant-loop-rest
invariant-loop-rest l = AllPairs AreApart l.rest ↔ AllPairs AreApart l.rows

abbrev pub decreases-loop-rest : goal.decreases-loop-rest
decreases-loop-rest l = length l.rest
