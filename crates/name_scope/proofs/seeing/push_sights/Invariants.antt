use Rattle.std.proofs.Common.{◌≡◌, ◌++◌, drop}
use Rattle.name_scope.specs.Sees.{seen_at}
use Rattle.name_scope.proofs.seeing.push_sights.Given as goal

-- what was added, and then what is seen of the rest, is all
abbrev pub invariant-loop-s : goal.invariant-loop-s
invariant-loop-s l = l.seen.items ++ seen_at l.spelling l.depth (drop l.s-index l.sights) ≡ l.fn.seen.items ++ seen_at l.spelling l.depth l.sights
