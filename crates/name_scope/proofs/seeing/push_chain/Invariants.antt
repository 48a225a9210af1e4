use Rattle.std.proofs.Common.{◌≡◌, ◌++◌, ◌+◌, length}
use Rattle.name_scope.specs.Sees.{chain, outward, seen_in}
use Rattle.name_scope.proofs.seeing.push_chain.Given as goal

-- what was added, and then what is seen in the levels that are left, is all
abbrev pub invariant-loop-left : goal.invariant-loop-left
invariant-loop-left l =
    (l.seen.items ++ seen_in l.spelling l.depth (outward l.left l.levels l.next) ≡ l.fn.seen.items ++ seen_in l.spelling 0 (chain l.levels l.number))
    × (l.depth + length (outward l.left l.levels l.next) ≡ length (chain l.levels l.number))

abbrev pub decreases-loop-left : goal.decreases-loop-left
decreases-loop-left l = l.left
