-- The levels of one text, numbered in the order in which they are opened.
use Rattle.std.specs.Prelude.{ℕ, ◌<◌, List, [], ◌∷◌, ◌++◌, length, slice_get, slice_set, Option, Some, None}
use Rattle.std.specs.Option.{option_map_or}
use Rattle.name_scope.specs.declared.level.Level.{Level}
use Rattle.name_scope.specs.declared.level.Sight.{Sight}

-- the level has this number, if one is named
abbrev pub IsThere : List Level → Option ℕ → Type 0
IsThere levels None = Unit {0}
IsThere levels (Some number) = number < length levels

-- a level in which nothing stands
abbrev pub new_level : Option ℕ → Level
new_level outer = record { outer = outer; sights = [] }

-- the levels with one more binder at the end of the level of this number
abbrev pub with_sight : List Level → ℕ → Sight → List Level
with_sight levels number s = option_map_or (λ level. slice_set levels number (record level { sights = level.sights ++ s ∷ [] })) (slice_get levels number) levels
