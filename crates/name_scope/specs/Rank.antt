-- Which of the binders that a use sees is nearer, and the one that the use denotes.
use Rattle.std.specs.Prelude.{◌≡◌, ◌≢◌, ℕ, ◌<◌, ◌⊎◌, List, length, slice_get, Option, Some, None}
use Rattle.name_scope.specs.declared.level.Sight.{Sight}

-- a binder that a use sees, with its number of scopes outward
abbrev pub Seen : Type 0
Seen = ℕ × Sight

-- In one scope a lower class is nearer; in one class, of two binders of one source, the one at the lower place. Binders of
-- different sources are in no order by their places. What is of no source, as aliases of an arm, is of one source.
abbrev pub StandsBefore : Sight → Sight → Type 0
StandsBefore s t = (s.class < t.class) ⊎ ((s.class ≡ t.class) × ((s.source ≡ t.source) × (s.place < t.place)))

-- the binder is fewer scopes outward, or stands before the other in the same scope
abbrev pub IsNearer : Seen → Seen → Type 0
IsNearer s t = (s.0 < t.0) ⊎ ((s.0 ≡ t.0) × StandsBefore s.1 t.1)

-- The binder is at the rank of the target or nearer: the target is not nearer. For a literal, which is no binder, each is.
abbrev pub IsInReach : Option Seen → Seen → Type 0
IsInReach None s = Unit {0}
IsInReach (Some target) s = ¬ IsNearer target s

-- what stands at the other place, if that is another one, is farther than what stands at this place
abbrev pub IsBehind : List Seen → ℕ → ℕ → Type 0
IsBehind seen place at = (target other : Seen) → at ≢ place → slice_get seen place ≡ Some target → slice_get seen at ≡ Some other → IsNearer target other

-- of the binders that are seen, the one at this place is nearer than each other one
pub record Denotes (seen : List Seen) (place : ℕ) : Type 0 where
  pub there : place < length seen
  pub nearest : (at : ℕ) → IsBehind seen place at
