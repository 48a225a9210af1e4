use Rattle.std.proofs.Common.{◌≡◌, ◌++◌, drop, map, filter}
use Rattle.name_scope.specs.Sees.{objects, seen_at, sees_object, sight_of_row}
use Rattle.name_scope.proofs.object.push_objects.Given as goal

-- what was added, and then what is seen of the rows that are left, is all
abbrev pub invariant-loop-r : goal.invariant-loop-r
invariant-loop-r l =
    l.seen.items ++ seen_at l.spelling l.depth (map sight_of_row (filter (sees_object l.rows l.own l.kind) (drop l.r-index l.rows)))
    ≡ l.fn.seen.items ++ seen_at l.spelling l.depth (objects l.rows l.own l.kind)
