use Rattle.std.proofs.Common.{◌≡◌, ◌≤◌, ℕ, List, drop, length, nat_eq}
use Rattle.std.specs.List.{position_from}
use Rattle.std.specs.Cmp.Lexicographic.{pointwise}
use Rattle.indexmap.specs.IndexMap.{get}
use Rattle.name_scope.specs.Columns.{has_folded_name}
use Rattle.name_scope.proofs.columns.first_ordinals.Given as goal

-- the columns from this one on have their ordinals
abbrev pub invariant-loop-left : goal.invariant-loop-left
invariant-loop-left l =
    (l.left ≤ length l.binders)
    × ((name : List ℕ) → get (pointwise nat_eq) l.ordinals name ≡ position_from (has_folded_name name) l.left (drop l.left l.binders))

abbrev pub decreases-loop-left : goal.decreases-loop-left
decreases-loop-left l = l.left
