-- Names in USING, and NATURAL: two binders that are joined into one.
use Rattle.std.specs.Prelude.{◌≡◌, ◌≢◌, ◌<◌, ℕ, false, IsTrue, ◌⊎◌, List, [], ◌∷◌, map}
use Rattle.name_scope.specs.Rank.{Seen}
use Rattle.name_scope.specs.Sees.{is_named}
use Rattle.name_rules.specs.Meaning.{IsAmong, Means}
use Rattle.name_rules.specs.Renaming.{Renaming, is_moved, renamed}

-- the binder is the first of its name in its source
pub record IsFirstOfName (binders : List Seen) (name : List ℕ) (s : Seen) : Type 0 where
  pub stands : IsAmong binders s
  pub visible : s.1.qualified_only ≡ false
  pub named : IsTrue (is_named name s.1.binder.name)
  pub first : (other : Seen) → IsAmong binders other → other.1.source ≡ s.1.source → other.1.qualified_only ≡ false
      → IsTrue (is_named name other.1.binder.name) → ¬ (other.1.place < s.1.place)

-- A NATURAL joins these two columns: the right one is the first of a name in its source, and the name alone means the left one
-- among the columns to the left, of which those of a further source to the right are further outward.
pub record IsPair (left right : List Seen) (a b : Seen) : Type 0 where
  pub name : List ℕ
  pub on_the_right : IsFirstOfName right name b
  pub on_the_left : Means left (name ∷ []) a

-- A NATURAL has other pairs: between some two columns it has one before a change and none behind it, or none and then one. So
-- the pairs are compared as a set.
abbrev pub HasOtherPairs : (Seen → Seen) → List Seen → List Seen → List Seen → List Seen → Type 0
HasOtherPairs counterpart left right left_after right_after =
    ((a : Seen) × (b : Seen) × IsPair left right a b × ¬ IsPair left_after right_after (counterpart a) (counterpart b))
    ⊎ ((a : Seen) × (b : Seen) × IsPair left_after right_after a b
    × ((c d : Seen) → IsPair left right c d → a ≡ counterpart c → b ≡ counterpart d → ⊥))

-- a NATURAL clashes with a renaming: under the new names it has other pairs
abbrev pub PairsClash : Renaming → List Seen → List Seen → Type 0
PairsClash r left right = HasOtherPairs (renamed r) left right (map (renamed r) left) (map (renamed r) right)

-- a name in USING is split: exactly one of its two targets moves
abbrev pub IsSplit : Renaming → Seen → Seen → Type 0
IsSplit r left right = is_moved r left ≢ is_moved r right
