use Rattle.std.proofs.Common.{take, All}
use Rattle.plain_schema.specs.FirstForm.{AreApart}
use Rattle.plain_schema.proofs.rows.is_before.Given as goal

-- the others so far may stand behind the row
abbrev pub invariant-loop-other : goal.invariant-loop-other
invariant-loop-other l = All (AreApart l.row) (take l.other-index l.others)
