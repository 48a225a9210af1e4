use Rattle.std.proofs.Common.{◌≡◌, drop}
use Rattle.std.specs.Cmp.Lexicographic.{slice_cmp}
use Rattle.std.specs.Ordering.{nat_cmp}
use Rattle.sql_token.specs.Names.{folded}
use Rattle.value_order.proofs.collation.compare_folded.Given as goal

-- what is left is in the order of the whole
abbrev pub invariant-loop-i : goal.invariant-loop-i
invariant-loop-i l = slice_cmp nat_cmp (folded l.a) (folded l.b) ≡ slice_cmp nat_cmp (folded (drop l.i l.a)) (folded (drop l.i l.b))
