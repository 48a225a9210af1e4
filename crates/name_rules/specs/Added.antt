-- The clash of an added column: which uses would see one of its binders.
use Rattle.std.specs.Prelude.{ℕ, ◌⊎◌, List, Option}
use Rattle.name_scope.specs.Rank.{IsInReach, Seen}
use Rattle.name_rules.specs.Meaning.{IsAmong, Sees}

-- The binders behind it are those before it and the new ones, in any order; none is both.
pub record AreAdded (before new after : List Seen) : Type 0 where
  pub kept : (s : Seen) → IsAmong before s → IsAmong after s
  pub added : (s : Seen) → IsAmong new s → IsAmong after s
  pub only : (s : Seen) → IsAmong after s → IsAmong before s ⊎ IsAmong new s
  pub apart : (s : Seen) → IsAmong new s → ¬ IsAmong before s

-- A use is captured by a new binder: it would see one at the rank of its target or nearer; a literal at any rank.
pub record AddedCaptures (new : List Seen) (spelling : List (List ℕ)) (answer : Option Seen) : Type 0 where
  pub other : Seen
  pub added : IsAmong new other
  pub seen : Sees spelling other
  pub in_reach : IsInReach answer other
