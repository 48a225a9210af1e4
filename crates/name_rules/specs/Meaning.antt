-- What a use means among all the binders that stand where it stands, seen or not.
use Rattle.std.specs.Prelude.{◌≡◌, ℕ, ◌+◌, IsTrue, ◌⊎◌, List, [], ◌∷◌, ◌++◌, length, map, Option, Some, None}
use Rattle.name_scope.specs.declared.level.Level.{Level}
use Rattle.name_scope.specs.declared.level.Sight.{Sight}
use Rattle.name_scope.specs.declared.row.Row.{Row}
use Rattle.name_scope.specs.declared.usage.Use.{Use}
use Rattle.name_scope.specs.Rank.{IsNearer, Seen}
use Rattle.name_scope.specs.Sees.{chain, is_seen, kind_of, objects}

-- the binder is one of these
abbrev pub IsAmong : List Seen → Seen → Type 0
IsAmong [] s = ⊥
IsAmong (first ∷ more) s = (s ≡ first) ⊎ IsAmong more s

-- all binders of the levels, the nearest level first, each with its number of scopes outward
abbrev pub standing_in : ℕ → List Level → List Seen
standing_in depth [] = []
standing_in depth (level ∷ outer) = map (λ s. (depth, s)) level.sights ++ standing_in (depth + 1) outer

-- all binders where a use stands: those of its levels, and behind them the objects
abbrev pub standing_from : List Level → List Sight → List Seen
standing_from levels behind = standing_in 0 levels ++ map (λ s. (length levels, s)) behind

-- all binders where a use of a text that has these levels stands, among the rows of its schema
abbrev pub standing : List Row → List Level → Use → List Seen
standing rows levels u = standing_from (chain levels u.level) (objects rows (kind_of rows u.row) u.kind)

-- a use of the spelling sees the binder
abbrev pub Sees : List (List ℕ) → Seen → Type 0
Sees spelling s = IsTrue (is_seen spelling s.1)

-- The use means this binder: it stands there, the use sees it, and each other one that it sees is farther.
pub record Means (binders : List Seen) (spelling : List (List ℕ)) (t : Seen) : Type 0 where
  pub stands : IsAmong binders t
  pub seen : Sees spelling t
  pub nearest : (s : Seen) → IsAmong binders s → Sees spelling s → (s ≡ t) ⊎ IsNearer t s

-- The answer to a use: the binder that it means, or none where it sees none, as a literal does.
abbrev pub IsAnswer : List Seen → List (List ℕ) → Option Seen → Type 0
IsAnswer binders spelling (Some t) = Means binders spelling t
IsAnswer binders spelling None = (s : Seen) → IsAmong binders s → ¬ Sees spelling s
