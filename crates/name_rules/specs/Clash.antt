-- The clash of a renaming at one use, said of the binders before it.
use Rattle.std.specs.Prelude.{◌≡◌, ℕ, false, IsTrue, ◌⊎◌, List, Option, Some, None, IsSome}
use Rattle.name_scope.specs.Rank.{IsInReach, Seen}
use Rattle.name_scope.specs.Sees.{same_names}
use Rattle.name_rules.specs.Meaning.{IsAmong, Sees}
use Rattle.name_rules.specs.Part.{part_in, with_part}
use Rattle.name_rules.specs.Renaming.{Renaming, is_moved}

-- A moved use is captured: under the new name it sees a binder that does not move, at the rank of its target or nearer.
pub record MovedIsCaptured (r : Renaming) (binders : List Seen) (spelling : List (List ℕ)) (t : Seen) : Type 0 where
  pub moves : IsTrue (is_moved r t)
  pub has_part : IsSome (part_in r.part spelling)
  pub other : Seen
  pub stands : IsAmong binders other
  pub stays : is_moved r other ≡ false
  pub seen : Sees (with_part r.part r.new spelling) other
  pub in_reach : IsInReach (Some t) other

-- the answer does not move; a literal never does
abbrev pub Stays : Renaming → Option Seen → Type 0
Stays r (Some t) = is_moved r t ≡ false
Stays r None = Unit {0}

-- A use that stays is captured: it has the new name, and under the old one it sees a binder that moves, at the rank of its
-- target or nearer; a literal at any rank.
pub record StayingIsCaptured (r : Renaming) (binders : List Seen) (spelling : List (List ℕ)) (answer : Option Seen) : Type 0 where
  pub stays : Stays r answer
  pub name : List ℕ
  pub part : part_in r.part spelling ≡ Some name
  pub has_new_name : IsTrue (same_names name r.new)
  pub other : Seen
  pub stands : IsAmong binders other
  pub moves : IsTrue (is_moved r other)
  pub seen : Sees (with_part r.part r.old spelling) other
  pub in_reach : IsInReach answer other

-- the use is captured
abbrev pub Clashes : Renaming → List Seen → List (List ℕ) → Option Seen → Type 0
Clashes r binders spelling None = StayingIsCaptured r binders spelling None
Clashes r binders spelling (Some t) = MovedIsCaptured r binders spelling t ⊎ StayingIsCaptured r binders spelling (Some t)
